-- A request takes at most 29 bytes. Assumes nothing.
use Rattle.std.specs.Prelude.{ℕ, suc, ◌+◌, ◌≤◌, ◌<◌, ◌≡◌, refl, Bool, true, false, not, ◌&&◌, cond, List, [], ◌∷◌, ◌⊎◌, eqb, leb, length, drop}
use Rattle.std.proofs.Common.{sym, true≢false, inl, inr, arith, length-drop, leb-true, eqb-true}
use Rattle.column.specs.laws.Cases.{truth, and_left, and_right}
use Rattle.text.specs.Text.{columns_key, delay_key, gap_key, newline, Reading, read, unread, all_digits, leading_zero, is_numeral, numeral, starts_with, after_key, refused_text}
use Rattle.text.specs.Pieces.{Cut, ended, unended, with_first, cut, numeral_in, keyed, third_line, second_line, first_line}
use Rattle.fastest_text.specs.Requests.{asked, request_in, request_of, request_text}
use Rattle.fastest_text.specs.laws.AnswerLaws.{answer_unread}

-- whether something is read, as a test
is_read : {A : Type 0} → Reading A → Bool
is_read (read a) = true
is_read unread = false

read_none : {A : Type 0} (r : Reading A) → is_read r ≡ false → r ≡ unread
unfolding is_read
read_none (read a) e = absurd (true≢false e)
read_none unread e = refl

-- ---- numerals and lines

numeral_short : (width : ℕ) (l : List ℕ) → is_read (numeral width l) ≡ true → length l ≤ width
unfolding numeral is_read
numeral_short width l e = go (truth (is_numeral width l))
  where
    sized : Bool
    sized = leb 1 (length l) && leb (length l) width

    go : (is_numeral width l ≡ true) ⊎ (is_numeral width l ≡ false) → length l ≤ width
    go (inl y) =
        leb-true (length l) width
        (and_right (leb 1 (length l)) (leb (length l) width)
        (and_left sized (all_digits l) (and_left (sized && all_digits l) (not (leading_zero l)) y)))
    go (inr n) = absurd (true≢false (sym (rw n at e)))

keyed_short : (key : List ℕ) (width : ℕ) (line : List ℕ) → is_read (keyed key width line) ≡ true → length line ≤ length key + width
unfolding numeral_in after_key is_read
keyed_short key width line e = go (truth (starts_with key line))
  where
    go : (starts_with key line ≡ true) ⊎ (starts_with key line ≡ false) → length line ≤ length key + width
    go (inl y) =
        let h : is_read (numeral width (drop (length key) line)) ≡ true = rw y at e in
        omega (arith, numeral_short width (drop (length key) line) h, length-drop (length key) line)
    go (inr n) = absurd (true≢false (sym (rw n at e)))

-- ---- cuts

-- a text and what its first line and the rest take
Sized : ℕ → Cut → Type 0
Sized n (ended line rest) = n ≡ length line + 1 + length rest
Sized n unended = Unit {0}

sized_first : (b n : ℕ) (c : Cut) → Sized n c → Sized (suc n) (with_first b c)
unfolding Sized with_first
sized_first b n (ended line rest) h = omega arith
sized_first b n unended h = tt

cut_sized : (s : List ℕ) → Sized (length s) (cut s)
unfolding Sized cut
cut_sized [] = tt
cut_sized (b ∷ l) = go (eqb b newline) (cut_sized l)
  where
    go : (c : Bool) → Sized (length l) (cut l) → Sized (suc (length l)) (cond c (ended [] l) (with_first b (cut l)))
    go true ih = omega arith
    go false ih = sized_first b (length l) (cut l) ih

-- ---- a request

asked_parts : (x y z : Reading ℕ) → is_read (asked x y z) ≡ true → (is_read x ≡ true) × (is_read y ≡ true) × (is_read z ≡ true)
unfolding asked is_read
asked_parts (read a) (read b) (read c) e = (refl, refl, refl)
asked_parts (read a) (read b) unread e = absurd (true≢false (sym e))
asked_parts (read a) unread z e = absurd (true≢false (sym e))
asked_parts unread y z e = absurd (true≢false (sym e))

third_short : (one two : List ℕ) (n : ℕ) (c : Cut) → Sized n c → is_read (request_in (third_line one two c)) ≡ true
    → length one + 1 + (length two + 1) + n ≤ 29
unfolding Sized third_line request_in is_read
third_short one two n unended s e = absurd (true≢false (sym e))
third_short one two n (ended three rest) s e = go (truth (eqb (length rest) 0))
  where
    go : (eqb (length rest) 0 ≡ true) ⊎ (eqb (length rest) 0 ≡ false) → length one + 1 + (length two + 1) + n ≤ 29
    go (inr y) = absurd (true≢false (sym (rw y at e)))
    go (inl y) =
        let h = asked_parts (keyed columns_key 2 one) (keyed delay_key 3 two) (keyed gap_key 3 three) (rw y at e) in
        omega
        (arith, s, eqb-true (length rest) 0 y, keyed_short columns_key 2 one h.0, keyed_short delay_key 3 two h.1, keyed_short gap_key 3 three h.2)

second_short : (one : List ℕ) (n : ℕ) (c : Cut) → Sized n c → is_read (request_in (second_line one c)) ≡ true → length one + 1 + n ≤ 29
unfolding Sized second_line request_in is_read
second_short one n unended s e = absurd (true≢false (sym e))
second_short one n (ended two rest) s e = omega (arith, s, third_short one two (length rest) (cut rest) (cut_sized rest) e)

first_short : (n : ℕ) (c : Cut) → Sized n c → is_read (request_in (first_line c)) ≡ true → n ≤ 29
unfolding Sized first_line request_in is_read
first_short n unended s e = absurd (true≢false (sym e))
first_short n (ended one rest) s e = omega (arith, s, second_short one (length rest) (cut rest) (cut_sized rest) e)

-- a longer input is refused with 1, whatever it says
pub long_refused : (input : List ℕ) → 29 < length input → request_text input ≡ refused_text 1
long_refused input h = answer_unread input (read_none (request_of input) (go (truth (is_read (request_of input)))))
  where
    go : (is_read (request_of input) ≡ true) ⊎ (is_read (request_of input) ≡ false) → is_read (request_of input) ≡ false
    go (inl y) = absurd (omega (arith, h, first_short (length input) (cut input) (cut_sized input) y))
    go (inr n) = n
