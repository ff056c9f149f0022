-- Laws of a journal's lines: a line of three numerals, and that the text of a journal reads back as its lines. Assumes nothing.
use Rattle.std.specs.Prelude.{ℕ, zero, suc, ◌+◌, ◌-◌, ◌*◌, ◌/◌, ◌%◌, ◌^◌, ◌≤◌, ◌<◌, ◌≡◌, refl, ◌≢◌, Bool, true, false, ◌||◌, cond, List, [], ◌∷◌, ◌++◌, eqb, leb, ltb, length, get_or}
use Rattle.std.proofs.Common.{sym, ap, ◌∙◌, ⊎_elim, append_assoc, arith, pow-suc, lt_of_lt_of_le, length-append, ne_eqb, lt-ltb, le-ltb, le-leb, ltb-true, ltb-false, leb-true}
use Rattle.std.proofs.Math.Nat.{pow-le-pow_right}
use Rattle.column.specs.laws.Cases.{truth, and_left, and_right}
use Rattle.column.specs.Refusals.{given}
use Rattle.column.specs.Columns.{numbers}
use Rattle.text.specs.Text.{column_key, newline, comma, decimal_in, decimal, read, is_digit, all_digits, value_from, leading_zero, numeral, starts_with, after_key}
use Rattle.text.specs.Pieces.{ended, with_first, cut, longer, pieces, numeral_in, keyed}
use Rattle.text.specs.inner.Texts.{digits}
use Rattle.text.specs.laws.ReadingLaws.{numeral_digits, leading_one, leading_other}
use Rattle.text.specs.laws.DecimalLaws.{decimal_length, decimal_some}
use Rattle.journals.specs.Journals.{sent_key, got_key, line, message_kind, acknowledgement_kind, kind_number, kind_of_number, good_line, line_judged, line_pieces, line_in, line_of, with_entry, cut_entries, entries_in, with_owner, owned, headed, journal_of, journal_limit, way_key, line_text, lines_text, journal_text, entries_of}
use Rattle.journals.specs.declared.line.Way.{Way}
use Rattle.journals.specs.declared.line.Way.TheVariants.{Sent, Got}
use Rattle.journals.specs.declared.line.Kind.{Kind}
use Rattle.journals.specs.declared.line.Kind.TheVariants.{Message, Acknowledgement}
use Rattle.journals.specs.declared.line.Line.{Line}

-- ---- digits of a number

digits_read : (l : List ℕ) (n : ℕ) → all_digits l ≡ true → value_from 0 l ≡ n → digits 0 l ≡ read n
unfolding digits
digits_read l n d e = rw (d, e)

value_append : (high : ℕ) (l : List ℕ) (b : ℕ) → value_from high (l ++ (b ∷ [])) ≡ value_from high l * 10 + (b - 48)
unfolding value_from
value_append high [] b = refl
value_append high (x ∷ l) b = value_append (high * 10 + (x - 48)) l b

digits_append : (l : List ℕ) (b : ℕ) → all_digits l ≡ true → is_digit b ≡ true → all_digits (l ++ (b ∷ [])) ≡ true
unfolding all_digits
digits_append [] b h d = rw d
digits_append (x ∷ l) b h d =
    rw (and_left (is_digit x) (all_digits l) h) (digits_append l b (and_right (is_digit x) (all_digits l) h) d)

is_digit_lem : (d : ℕ) → d < 10 → is_digit (48 + d) ≡ true
is_digit_lem d h = rw (le-leb 48 (48 + d) (omega arith), lt-ltb (48 + d) 58 (omega arith))

-- what the digits of n say, where there are enough of them
pub decimal_digits : (k n : ℕ) → all_digits (decimal_in k n) ≡ true
unfolding decimal_in all_digits
decimal_digits zero n = refl
decimal_digits (suc k) n = go (ltb n 10) refl (decimal_digits k (n / 10))
  where
    go : (b : Bool) → ltb n 10 ≡ b → all_digits (decimal_in k (n / 10)) ≡ true
        → all_digits (cond b ((48 + n) ∷ []) (decimal_in k (n / 10) ++ ((48 + n % 10) ∷ []))) ≡ true
    go true e h = rw (is_digit_lem n (ltb-true n 10 e))
    go false e h = digits_append (decimal_in k (n / 10)) (48 + n % 10) h (is_digit_lem (n % 10) (omega arith))

pub decimal_value : (k n : ℕ) → n < 10 ^ k → 1 ≤ k → value_from 0 (decimal_in k n) ≡ n
unfolding decimal_in value_from
decimal_value zero n h l = absurd (omega arith)
decimal_value (suc zero) n h l = rw (lt-ltb n 10 (omega arith)) (omega arith)
decimal_value (suc (suc k)) n h l =
    go (ltb n 10) (decimal_value (suc k) (n / 10) (omega (arith, h, pow-suc 10 (suc k))) (omega arith))
  where
    go : (b : Bool) → value_from 0 (decimal_in (suc k) (n / 10)) ≡ n / 10
        → value_from 0 (cond b ((48 + n) ∷ []) (decimal_in (suc k) (n / 10) ++ ((48 + n % 10) ∷ []))) ≡ n
    go true ih = omega arith
    go false ih = value_append 0 (decimal_in (suc k) (n / 10)) (48 + n % 10) ∙ omega (arith, ih)

first_append : (l r : List ℕ) → 1 ≤ length l → get_or (l ++ r) 0 0 ≡ get_or l 0 0
first_append [] r h = absurd (omega arith)
first_append (b ∷ l) r h = refl

decimal_any : (k n : ℕ) → 1 ≤ length (decimal_in (suc k) n)
unfolding decimal_in
decimal_any k n = go (ltb n 10)
  where
    go : (b : Bool) → 1 ≤ length (cond b ((48 + n) ∷ []) (decimal_in k (n / 10) ++ ((48 + n % 10) ∷ [])))
    go true = omega arith
    go false = simp length-append (omega arith)

-- no zero leads
decimal_first : (k n : ℕ) → 1 ≤ n → n < 10 ^ k → get_or (decimal_in k n) 0 0 ≢ 48
unfolding decimal_in
decimal_first zero n l h = absurd (omega arith)
decimal_first (suc zero) n l h = rw (lt-ltb n 10 (omega arith)) (λ e. omega (arith, e))
decimal_first (suc (suc k)) n l h =
    go (ltb n 10) refl (λ m. decimal_first (suc k) (n / 10) m (omega (arith, h, pow-suc 10 (suc k))))
  where
    go : (b : Bool) → ltb n 10 ≡ b → (1 ≤ n / 10 → get_or (decimal_in (suc k) (n / 10)) 0 0 ≢ 48)
        → get_or (cond b ((48 + n) ∷ []) (decimal_in (suc k) (n / 10) ++ ((48 + n % 10) ∷ []))) 0 0 ≢ 48
    go true e ih = λ z. omega (arith, z)
    go false e ih = λ z. ih (omega (arith, ltb-false n 10 e)) (sym (first_append (decimal_in (suc k) (n / 10)) ((48 + n % 10) ∷ []) (decimal_any k (n / 10))) ∙ z)

decimal_leads : (k n : ℕ) → n < 10 ^ suc k → leading_zero (decimal_in (suc k) n) ≡ false
decimal_leads k n h = ⊎_elim
    (λ e. leading_one (decimal_in (suc k) n) (one e))
    (λ e. leading_other (decimal_in (suc k) n) (decimal_first (suc k) n (omega (arith, ltb-false n 10 e)) h))
    (truth (ltb n 10))
  where
    one : ltb n 10 ≡ true → length (decimal_in (suc k) n) ≡ 1
    one e = omega (arith, decimal_length (suc k) 0 n (omega (arith, ltb-true n 10 e)), decimal_any k n)

-- a number reads back from its digits
pub numeral_decimal : (w n : ℕ) → 1 ≤ w → w ≤ 20 → n < 10 ^ w → numeral w (decimal n) ≡ read n
numeral_decimal zero n l m h = absurd (omega arith)
numeral_decimal (suc w) n l m h =
    let small : n < 10 ^ 20 = lt_of_lt_of_le h (pow-le-pow_right {n = 10} (omega arith) {i = suc w} {j = 20} m) in
    numeral_digits (suc w) (decimal n) (decimal_some n) (decimal_length 20 w n h) (decimal_leads 19 n small)
    ∙ value small
  where
    value : n < 10 ^ 20 → digits 0 (decimal n) ≡ read n
    value small = digits_read (decimal n) n (decimal_digits 20 n) (decimal_value 20 n small (omega arith))

-- ---- pieces

digit_other : (b : ℕ) → is_digit b ≡ true → (b ≢ comma) × (b ≢ newline)
digit_other b d =
    let low : 48 ≤ b = leb-true 48 b (and_left (leb 48 b) (ltb b 58) d) in
    ((λ e. omega (arith, low, e)), (λ e. omega (arith, low, e)))

pieces_comma : (l r : List ℕ) → all_digits l ≡ true → pieces (l ++ (comma ∷ r)) ≡ l ∷ pieces r
unfolding pieces longer all_digits
pieces_comma [] r d = refl
pieces_comma (b ∷ l) r d =
    rw (ne_eqb b comma (digit_other b (and_left (is_digit b) (all_digits l) d)).0, pieces_comma l r (and_right (is_digit b) (all_digits l) d))

pieces_last : (l : List ℕ) → all_digits l ≡ true → pieces l ≡ l ∷ []
unfolding pieces longer all_digits
pieces_last [] d = refl
pieces_last (b ∷ l) d =
    rw (ne_eqb b comma (digit_other b (and_left (is_digit b) (all_digits l) d)).0, pieces_last l (and_right (is_digit b) (all_digits l) d))

-- ---- lines

-- no byte 10
unfoldable pub Plain : List ℕ → Type 0
Plain [] = Unit {0}
Plain (b ∷ l) = (eqb b newline ≡ false) × Plain l

plain_append : (l r : List ℕ) → Plain l → Plain r → Plain (l ++ r)
unfolding Plain
plain_append [] r p q = q
plain_append (b ∷ l) r p q = (p.0, plain_append l r p.1 q)

plain_digits : (l : List ℕ) → all_digits l ≡ true → Plain l
unfolding Plain all_digits
plain_digits [] d = tt
plain_digits (b ∷ l) d =
    (ne_eqb b newline (digit_other b (and_left (is_digit b) (all_digits l) d)).1, plain_digits l (and_right (is_digit b) (all_digits l) d))

pub cut_plain : (l r : List ℕ) → Plain l → cut (l ++ (newline ∷ r)) ≡ ended l r
unfolding Plain cut with_first
cut_plain [] r p = refl
cut_plain (b ∷ l) r p = rw (p.0, cut_plain l r p.1)

abbrev three_digits : ℕ → ℕ → ℕ → List ℕ
three_digits kind other number = decimal kind ++ (comma ∷ (decimal other ++ (comma ∷ decimal number)))

three_pieces : (kind other number : ℕ) → pieces (three_digits kind other number) ≡ decimal kind ∷ decimal other ∷ decimal number ∷ []
three_pieces kind other number =
    pieces_comma (decimal kind) (decimal other ++ (comma ∷ decimal number)) (decimal_digits 20 kind)
    ∙ ap (λ (l : List (List ℕ)). decimal kind ∷ l) (pieces_comma (decimal other) (decimal number) (decimal_digits 20 other)
    ∙ ap (λ (l : List (List ℕ)). decimal other ∷ l) (pieces_last (decimal number) (decimal_digits 20 number)))

three_plain : (kind other number : ℕ) → Plain (three_digits kind other number)
unfolding Plain
three_plain kind other number =
    plain_append (decimal kind) _ (plain_digits (decimal kind) (decimal_digits 20 kind)) (
      refl,
      plain_append (decimal other) _ (plain_digits (decimal other) (decimal_digits 20 other)) (
        refl,
        plain_digits (decimal number) (decimal_digits 20 number),
      ),
    )

-- the parts of a good line
pub record Good (owner : ℕ) (x : Line) : Type 0 where
  pub other_below : x.other < 16
  pub other_apart : x.other ≢ owner
  pub number_below : x.number < numbers

-- a kind's number is that kind's
kind_back : (kind : Kind) → kind_of_number (kind_number kind) ≡ given kind
kind_back Message = refl
kind_back Acknowledgement = refl

module _ (owner : ℕ) (way : Way) (kind : Kind) (other number : ℕ) (g : Good owner (line way kind other number)) where
  pub is_good : good_line owner (kind_number kind) other number ≡ true
  is_good = rw (kind_good kind, lt-ltb other 16 g.other_below, ne_eqb other owner g.other_apart, lt-ltb number numbers g.number_below)
    where
      kind_good : (k : Kind) → (eqb (kind_number k) message_kind || eqb (kind_number k) acknowledgement_kind) ≡ true
      kind_good Message = refl
      kind_good Acknowledgement = refl

  judged_line : line_judged owner way (read (kind_number kind)) (read other) (read number) ≡ given (line way kind other number)
  unfolding line_judged
  judged_line = rw (is_good, kind_back kind)

  kind_small : kind_number kind < 10 ^ 1
  kind_small = go kind
    where
      go : (k : Kind) → kind_number k < 10 ^ 1
      go Message = omega arith
      go Acknowledgement = omega arith

  judged_good : line_pieces owner way (pieces (three_digits (kind_number kind) other number)) ≡ given (line way kind other number)
  unfolding line_pieces
  judged_good = rw (
    three_pieces (kind_number kind) other number,
    numeral_decimal 1 (kind_number kind) (omega arith) (omega arith) kind_small,
    numeral_decimal 2 other (omega arith) (omega arith) (omega (arith, g.other_below)),
    numeral_decimal 10 number (omega arith) (omega arith) (omega (arith, g.number_below)),
    judged_line,
  )

-- ---- a line reads back

sent_key_lem : (rest : List ℕ) → after_key sent_key (sent_key ++ rest) ≡ read rest
unfolding after_key starts_with
sent_key_lem rest = refl

got_key_lem : (rest : List ℕ) → after_key got_key (got_key ++ rest) ≡ read rest
unfolding after_key starts_with
got_key_lem rest = refl

pub line_reads : (owner : ℕ) (x : Line) → Good owner x → line_of owner (line_text x) ≡ given x
unfolding line_text line_of line_in starts_with
line_reads owner x g = go x.way x.kind x.other x.number g
  where
    go : (w : Way) (kind : Kind) (other number : ℕ) → Good owner (line w kind other number)
        → cond (starts_with sent_key (way_key w ++ three_digits (kind_number kind) other number))
        (line_in owner Sent (after_key sent_key (way_key w ++ three_digits (kind_number kind) other number)))
        (line_in owner Got (after_key got_key (way_key w ++ three_digits (kind_number kind) other number)))
        ≡ given (line w kind other number)
    go Sent kind other number g = rw (sent_key_lem (three_digits (kind_number kind) other number), judged_good owner Sent kind other number g)
    go Got kind other number g = rw (got_key_lem (three_digits (kind_number kind) other number), judged_good owner Got kind other number g)

line_plain : (x : Line) → Plain (line_text x)
unfolding line_text Plain
line_plain x = go x.way
  where
    go : (w : Way) → Plain (way_key w ++ three_digits (kind_number x.kind) x.other x.number)
    go Sent = (refl, (refl, (refl, (refl, (refl, three_plain (kind_number x.kind) x.other x.number)))))
    go Got = (refl, (refl, (refl, (refl, three_plain (kind_number x.kind) x.other x.number))))

line_some : (x : Line) → 1 ≤ length (line_text x)
unfolding line_text
line_some x = go x.way
  where
    go : (w : Way) → 1 ≤ length (way_key w ++ three_digits (kind_number x.kind) x.other x.number)
    go Sent = omega arith
    go Got = omega arith

-- ---- a journal reads back

unfoldable pub AllGood : ℕ → List Line → Type 0
AllGood owner [] = Unit {0}
AllGood owner (x ∷ l) = Good owner x × AllGood owner l

entries_cut : (most owner : ℕ) (l : List ℕ) → 1 ≤ length l → entries_in (suc most) owner l ≡ cut_entries (entries_in most owner) owner (cut l)
unfolding entries_in
entries_cut most owner [] h = absurd (omega arith)
entries_cut most owner (b ∷ l) h = refl

pub entries_read : (most owner : ℕ) (l : List Line) → AllGood owner l → length (lines_text l) ≤ most
    → entries_in most owner (lines_text l) ≡ given (entries_of l)
unfolding entries_in lines_text entries_of AllGood cut_entries with_entry
entries_read zero owner [] g h = refl
entries_read (suc most) owner [] g h = refl
entries_read zero owner (x ∷ l) g h = absurd (omega (arith, h, line_some x, length-append (line_text x) (newline ∷ lines_text l)))
entries_read (suc most) owner (x ∷ l) g h =
    let n = length-append (line_text x) (newline ∷ lines_text l) in
    entries_cut most owner (line_text x ++ (newline ∷ lines_text l)) (omega (arith, n, line_some x))
    ∙ rw (
      cut_plain (line_text x) (lines_text l) (line_plain x),
      line_reads owner x g.0,
      entries_read most owner l g.1 (omega (arith, n, h)),
    )

column_plain : (owner : ℕ) → Plain (column_key ++ decimal owner)
unfolding Plain
column_plain owner = (refl, (refl, (refl, (refl, (refl, (refl, (refl, plain_digits (decimal owner) (decimal_digits 20 owner))))))))

column_reads : (owner : ℕ) → owner < 16 → keyed column_key 2 (column_key ++ decimal owner) ≡ read owner
unfolding after_key starts_with numeral_in
column_reads owner h = numeral_decimal 2 owner (omega arith) (omega arith) (omega arith)

pub journal_reads : (owner : ℕ) (l : List Line) → owner < 16 → AllGood owner l → length (journal_text owner l) ≤ journal_limit
    → journal_of (journal_text owner l) ≡ given (record { owner = owner; entries = entries_of l })
unfolding journal_of headed owned with_owner
journal_reads owner l h g few =
    let whole : journal_text owner l ≡ (column_key ++ decimal owner) ++ (newline ∷ lines_text l) =
    sym (append_assoc column_key (decimal owner) (newline ∷ lines_text l)) in
    rw (
      le-ltb journal_limit (length (journal_text owner l)) few,
      ap cut whole ∙ cut_plain (column_key ++ decimal owner) (lines_text l) (column_plain owner),
      column_reads owner h,
      lt-ltb owner 16 h,
      entries_read (length (journal_text owner l)) owner l g
          (omega (arith, length-append column_key (decimal owner ++ (newline ∷ lines_text l)), length-append (decimal owner) (newline ∷ lines_text l))),
    )
