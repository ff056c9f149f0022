-- What the readers of a text answer, and the laws by which they go through it byte by byte.
use Rattle.std.specs.Prelude.{ℕ, suc, ◌+◌, ◌-◌, ◌*◌, ◌≤◌, ◌<◌, ◌≡◌, Bool, not, ◌&&◌, List, [], ◌∷◌, T, eqb, leb, ltb, length, get_or, take, drop}
use Rattle.std.proofs.Math.Path.{refl}
use Rattle.std.proofs.Common.{sym, ap, subst, arith, length-drop, drop_of_length-le, take_all}
use Rattle.std.proofs.Math.Bool.{true, false, cond}
use Rattle.std.proofs.Math.Numerals.{add-one}
use Rattle.std.proofs.Math.Seq.{drop-cons}
use borrow.Author.Tests.{eq-eqb, ne_eqb, le-leb, lt-leb, lt-ltb, le-ltb, ltb-true}
use Rattle.std.specs.Cmp.Lexicographic.{pointwise}
use Rattle.std.proofs.lemmas.Bool.Decides.{nat_tests}
use Rattle.text.specs.Text.{Reading, read, unread, all_digits, value_from, leading_zero, numeral, starts_with, after_key}
use Rattle.text.specs.inner.Texts.{digits}

-- ---- digits

module _ (l : List ℕ) (i high : ℕ) (h : i < length l) where
  pub digits_next : 48 ≤ get_or l i 0 → get_or l i 0 < 58 → digits high (drop i l) ≡ digits (high * 10 + (get_or l i 0 - 48)) (drop (i + 1) l)
  unfolding digits all_digits value_from
  digits_next a b = rw (drop-cons l i 0 h, le-leb 48 (get_or l i 0) a, lt-ltb (get_or l i 0) 58 b, add-one i)

  pub digits_below : get_or l i 0 < 48 → digits high (drop i l) ≡ unread
  unfolding digits all_digits
  digits_below a = rw (drop-cons l i 0 h, lt-leb 48 (get_or l i 0) a)

  pub digits_above : 48 ≤ get_or l i 0 → 58 ≤ get_or l i 0 → digits high (drop i l) ≡ unread
  unfolding digits all_digits
  digits_above a b = rw (drop-cons l i 0 h, le-leb 48 (get_or l i 0) a, le-ltb (get_or l i 0) 58 b)

pub digits_done : (l : List ℕ) (i high : ℕ) → length l ≤ i → digits high (drop i l) ≡ read high
unfolding digits all_digits value_from
digits_done l i high h = rw (drop_of_length-le l h)

-- ---- numerals

pub numeral_none : (width : ℕ) (l : List ℕ) → length l ≡ 0 → numeral width l ≡ unread
unfolding numeral
numeral_none width l e = rw (lt-leb 1 (length l) (omega arith))

pub numeral_long : (width : ℕ) (l : List ℕ) → width < length l → numeral width l ≡ unread
unfolding numeral
numeral_long width l h = go (leb 1 (length l))
  where
    go : (b : Bool) → cond (((b && leb (length l) width) && all_digits l) && not (leading_zero l)) (read (value_from 0 l)) unread ≡ unread
    go true = rw (lt-leb (length l) width h)
    go false = refl

-- two digits or more, the first of them 0
pub numeral_zero : (width : ℕ) (l : List ℕ) → (length l ≡ 1 → ⊥) → get_or l 0 0 ≡ 48 → numeral width l ≡ unread
unfolding numeral leading_zero
numeral_zero width [] h e = refl
numeral_zero width (b ∷ l) h e =
    go ((leb 1 (suc (length l)) && leb (suc (length l)) width) && all_digits (b ∷ l)) (ne_eqb (length l) 0 (λ z. h (omega arith)))
  where
    go : (c : Bool) → eqb (length l) 0 ≡ false
        → cond (c && not (eqb b 48 && not (eqb (length l) 0))) (read (value_from 0 (b ∷ l))) unread ≡ unread
    go true z = rw (z, eq-eqb b 48 e)
    go false z = refl

module _ (width : ℕ) (l : List ℕ) (some : 0 < length l) (few : length l ≤ width) where
  -- where no zero leads, a numeral is its digits
  pub numeral_digits : leading_zero l ≡ false → numeral width l ≡ digits 0 l
  unfolding numeral digits
  numeral_digits z = rw (le-leb 1 (length l) some, le-leb (length l) width few, z) (go (all_digits l))
    where
      go : (b : Bool) → cond (b && true) (read (value_from 0 l)) unread ≡ cond b (read (value_from 0 l)) unread
      go true = refl
      go false = refl

-- the value of what is read, 0 where nothing is
abbrev valued : Reading ℕ → ℕ
valued (read n) = n
valued unread = 0

-- digits of which no more than two are read have a value below 100
valued_two : (l : List ℕ) → valued (numeral 2 l) < 100
unfolding numeral all_digits value_from
valued_two [] = omega arith
valued_two (b ∷ []) = go (leb 48 b) (ltb b 58) (not (leading_zero (b ∷ []))) refl
  where
    go : (low high z : Bool) → ltb b 58 ≡ high → valued (cond (((low && high) && true) && z) (read (0 + (b - 48))) unread) < 100
    go true true true e = omega (arith, ltb-true b 58 e)
    go true true false e = omega arith
    go true false z e = omega arith
    go false high z e = omega arith
valued_two (b ∷ c ∷ []) = go (leb 48 b) (ltb b 58) (leb 48 c) (ltb c 58) (not (leading_zero (b ∷ c ∷ []))) refl refl
  where
    go : (low high low₂ high₂ z : Bool) → ltb b 58 ≡ high → ltb c 58 ≡ high₂
        → valued (cond (((low && high) && ((low₂ && high₂) && true)) && z) (read ((0 + (b - 48)) * 10 + (c - 48))) unread) < 100
    go true true true true true e f = omega (arith, ltb-true b 58 e, ltb-true c 58 f)
    go true true true true false e f = omega arith
    go true true true false z e f = omega arith
    go true true false high₂ z e f = omega arith
    go true false low₂ high₂ z e f = omega arith
    go false high low₂ high₂ z e f = omega arith
valued_two (b ∷ c ∷ d ∷ l) = rw (numeral_long 2 (b ∷ c ∷ d ∷ l) (omega arith)) (omega arith)

pub numeral_two : (l : List ℕ) (n : ℕ) → numeral 2 l ≡ read n → n < 100
numeral_two l n e = rw e at (valued_two l)

pub leading_one : (l : List ℕ) → length l ≡ 1 → leading_zero l ≡ false
unfolding leading_zero
leading_one [] e = refl
leading_one (b ∷ l) e = rw (eq-eqb (length l) 0 (omega arith)) (go (eqb b 48))
  where
    go : (c : Bool) → (c && false) ≡ false
    go true = refl
    go false = refl

pub leading_other : (l : List ℕ) → (get_or l 0 0 ≡ 48 → ⊥) → leading_zero l ≡ false
unfolding leading_zero
leading_other [] ne = refl
leading_other (b ∷ l) ne = rw (ne_eqb b 48 ne)

-- ---- keys

-- what std's test says of a text and a key
pub starts_is : (key l : List ℕ) → pointwise eqb key (take (length key) l) ≡ starts_with key l
unfolding starts_with
starts_is [] l = refl
starts_is (k ∷ key) [] = refl
starts_is (k ∷ key) (b ∷ l) = ap (λ t. eqb k b && t) (starts_is key l)

eqb_swap : (a b : ℕ) → eqb a b ≡ eqb b a
eqb_swap a b = grind (arith, nat_tests)

-- what std's cut says of them
pub cut_is : (key l : List ℕ) → pointwise eqb (take (length key) l) key ≡ starts_with key l
unfolding starts_with
cut_is [] l = refl
cut_is (k ∷ key) [] = refl
cut_is (k ∷ key) (b ∷ l) = rw (eqb_swap b k, cut_is key l)

-- one byte, at a place of both lists
module _ (key l : List ℕ) (i : ℕ) (hk : i < length key) (hl : i < length l) where
  pub starts_same : get_or key i 0 ≡ get_or l i 0 → starts_with (drop i key) (drop i l) ≡ starts_with (drop (i + 1) key) (drop (i + 1) l)
  unfolding starts_with
  starts_same e = rw (drop-cons key i 0 hk, drop-cons l i 0 hl, eq-eqb (get_or key i 0) (get_or l i 0) e, add-one i)

  pub starts_other : (get_or key i 0 ≡ get_or l i 0 → ⊥) → starts_with (drop i key) (drop i l) ≡ false
  unfolding starts_with
  starts_other ne = rw (drop-cons key i 0 hk, drop-cons l i 0 hl, ne_eqb (get_or key i 0) (get_or l i 0) ne)

pub starts_short : (key l : List ℕ) (i : ℕ) → i < length key → length l ≤ i → starts_with (drop i key) (drop i l) ≡ false
unfolding starts_with
starts_short key l i hk hl = rw (drop-cons key i 0 hk, drop_of_length-le l hl)

pub starts_done : (key l : List ℕ) (i : ℕ) → length key ≤ i → starts_with (drop i key) l ≡ true
unfolding starts_with
starts_done key l i h = rw (drop_of_length-le key h)

pub starts_length : (key l : List ℕ) → starts_with key l ≡ true → length key ≤ length l
unfolding starts_with
starts_length [] l e = omega arith
starts_length (k ∷ key) [] e = absurd (subst T (sym e) tt)
starts_length (k ∷ key) (b ∷ l) e = go (eqb k b) (λ p. starts_length key l p) e
  where
    go : (same : Bool) → (starts_with key l ≡ true → length key ≤ length l) → (same && starts_with key l) ≡ true
        → suc (length key) ≤ suc (length l)
    go true ih e = let h : length key ≤ length l = ih e in omega arith
    go false ih e = absurd (subst T (sym e) tt)

-- what `&l[from..]` lends
pub rest_of : (l : List ℕ) (from : ℕ) → take (length l - from) (drop from l) ≡ drop from l
rest_of l from = take_all (length l - from) (drop from l) (simp length-drop (omega arith))

pub after_other : (key l : List ℕ) → starts_with key l ≡ false → after_key key l ≡ unread
unfolding after_key
after_other key l e = rw e

pub after_key_is : (key l : List ℕ) → starts_with key l ≡ true → after_key key l ≡ read (drop (length key) l)
unfolding after_key
after_key_is key l e = rw e

pub after_rest : (key l : List ℕ) → starts_with key l ≡ true → after_key key l ≡ read (take (length l - length key) (drop (length key) l))
unfolding after_key
after_rest key l e = rw (e, rest_of l (length key))
