-- Laws of the lines of a script: which key the first bytes of a line allow, and a note as two numerals around its first comma.
-- Assumes nothing.
use Rattle.std.specs.Prelude.{ℕ, ◌+◌, ◌-◌, ◌≤◌, ◌<◌, ◌≡◌, refl, Bool, true, false, ◌||◌, cond, List, [], ◌∷◌, Option, Some, None, map, eqb, ltb, length, get_or, take, drop}
use Rattle.std.proofs.Common.{sym, ap, ◌∙◌, ⊎_elim, arith, take_all, ne_eqb, ltb-true, ltb-false, le-leb}
use Rattle.std.proofs.Math.Bool.{or-false, or_assoc}
use Rattle.column.specs.laws.Cases.{truth}
use Rattle.column.specs.Sets.{has, insert}
use Rattle.column.specs.laws.SetLaws.{has_none, has_insert}
use Rattle.text.specs.Text.{order_key, send_key, take_key, ack_key, all_key, note_key, halt_key, back_key, list_key, run_key, comma, Reading, read, unread, numeral, starts_with, after_key}
use Rattle.std.proofs.lemmas.List.Recursion.{is_position_or_len}
use Rattle.std.specs.List.{position_or_len}
use Rattle.text.specs.Pieces.{pieces, with_number, numerals, numeral_in, keyed}
use Rattle.text.specs.laws.ReadingLaws.{starts_length, rest_of}
use Rattle.text.specs.laws.Cutting.{Found, pieces_next, pieces_from, pieces_end, piece_from, comma_numeral}
use Rattle.bank.specs.Strips.{among}
use Rattle.bank.specs.declared.bank.Step.TheVariants.{Send, Take, Ack, All, Halt, Back}
use Rattle.text.specs.Search.{index_of, index_after, slice}
use Rattle.script.specs.Lines.{Command, perform, list, dispatch, asking, doors_in, note_of, note_of_pieces, note_in, member_of, with_members, halt_after, halt_in, or_else, command_of}

-- ---- keys

or_unread : (r : Reading Command) → or_else r unread ≡ r
unfolding or_else
or_unread (read c) = refl
or_unread unread = refl

starts_few : (key l : List ℕ) → length l < length key → starts_with key l ≡ false
starts_few key l h = ⊎_elim (λ t. absurd (omega (arith, starts_length key l t))) (λ f. f) (truth (starts_with key l))

starts_not : (k : ℕ) (key l : List ℕ) → (get_or l 0 0 ≡ k → ⊥) → starts_with (k ∷ key) l ≡ false
unfolding starts_with
starts_not k key [] ne = refl
starts_not k key (b ∷ l) ne = rw (ne_eqb k b (λ e. ne (sym e)))

module _ (l : List ℕ) where
  pub short_line : length l < 2 → command_of l ≡ unread
  unfolding command_of after_key asking doors_in note_in halt_in or_else numeral_in
  short_line h = rw (
    starts_few order_key l (omega arith),
    starts_few send_key l (omega arith),
    starts_few take_key l (omega arith),
    starts_few ack_key l (omega arith),
    starts_few all_key l (omega arith),
    starts_few note_key l (omega arith),
    starts_few halt_key l (omega arith),
    starts_few back_key l (omega arith),
    starts_few list_key l (omega arith),
    starts_few run_key l (omega arith),
  )

  pub other_line : (get_or l 0 0 ≡ 111 → ⊥) → (get_or l 0 0 ≡ 115 → ⊥) → (get_or l 0 0 ≡ 116 → ⊥) → (get_or l 0 0 ≡ 97 → ⊥)
      → (get_or l 0 0 ≡ 110 → ⊥) → (get_or l 0 0 ≡ 104 → ⊥) → (get_or l 0 0 ≡ 98 → ⊥) → (get_or l 0 0 ≡ 108 → ⊥) → (get_or l 0 0 ≡ 114 → ⊥)
      → command_of l ≡ unread
  unfolding command_of after_key asking doors_in note_in halt_in or_else numeral_in
  other_line o s t a n h b i r = rw (
    starts_not 111 (drop 1 order_key) l o,
    starts_not 115 (drop 1 send_key) l s,
    starts_not 116 (drop 1 take_key) l t,
    starts_not 97 (drop 1 ack_key) l a,
    starts_not 97 (drop 1 all_key) l a,
    starts_not 110 (drop 1 note_key) l n,
    starts_not 104 (drop 1 halt_key) l h,
    starts_not 98 (drop 1 back_key) l b,
    starts_not 108 (drop 1 list_key) l i,
    starts_not 114 (drop 1 run_key) l r,
  )

first_byte : (b : ℕ) (f : List ℕ → Reading Command) → 0 < b → ((l : List ℕ) → command_of (b ∷ l) ≡ f (b ∷ l))
    → (l : List ℕ) → get_or l 0 0 ≡ b → command_of l ≡ f l
first_byte b f p h [] e = absurd (omega (arith, p, e))
first_byte b f p h (x ∷ l) e = rw e (h l)

pub order_line : (l : List ℕ) → get_or l 0 0 ≡ 111 → command_of l ≡ doors_in (after_key order_key l)
unfolding command_of starts_with after_key asking doors_in note_in halt_in or_else numeral_in
order_line = first_byte 111 _ (omega arith) (λ l. or_unread _)

pub send_line : (l : List ℕ) → get_or l 0 0 ≡ 115 → command_of l ≡ asking (λ n. perform (Send n)) (keyed send_key 2 l)
unfolding command_of starts_with after_key asking doors_in note_in halt_in or_else numeral_in
send_line = first_byte 115 _ (omega arith) (λ l. or_unread _)

pub take_line : (l : List ℕ) → get_or l 0 0 ≡ 116 → command_of l ≡ asking (λ n. perform (Take n)) (keyed take_key 3 l)
unfolding command_of starts_with after_key asking doors_in note_in halt_in or_else numeral_in
take_line = first_byte 116 _ (omega arith) (λ l. or_unread _)

pub ack_line : (l : List ℕ) → get_or l 0 0 ≡ 97 → get_or l 1 0 ≡ 99 → command_of l ≡ asking (λ n. perform (Ack n)) (keyed ack_key 2 l)
unfolding command_of starts_with after_key asking doors_in note_in halt_in or_else numeral_in
ack_line [] e f = absurd (omega arith)
ack_line (a ∷ []) e f = absurd (omega arith)
ack_line (a ∷ b ∷ l) e f = rw (e, f) (or_unread _)

pub all_line : (l : List ℕ) → get_or l 0 0 ≡ 97 → (get_or l 1 0 ≡ 99 → ⊥) → command_of l ≡ asking (λ n. perform (All n)) (keyed all_key 2 l)
unfolding command_of starts_with after_key asking doors_in note_in halt_in or_else numeral_in
all_line [] e ne = absurd (omega arith)
all_line (a ∷ []) e ne = rw e
all_line (a ∷ b ∷ l) e ne = rw (e, ne_eqb 99 b (λ z. ne (sym z))) (or_unread _)

pub note_line : (l : List ℕ) → get_or l 0 0 ≡ 110 → command_of l ≡ note_in (after_key note_key l)
unfolding command_of starts_with after_key asking doors_in note_in halt_in or_else numeral_in
note_line = first_byte 110 _ (omega arith) (λ l. or_unread _)

pub halt_line : (l : List ℕ) → get_or l 0 0 ≡ 104 → command_of l ≡ halt_in (after_key halt_key l)
unfolding command_of starts_with after_key asking doors_in note_in halt_in or_else numeral_in
halt_line = first_byte 104 _ (omega arith) (λ l. or_unread _)

pub back_line : (l : List ℕ) → get_or l 0 0 ≡ 98 → command_of l ≡ asking (λ n. perform (Back n)) (keyed back_key 2 l)
unfolding command_of starts_with after_key asking doors_in note_in halt_in or_else numeral_in
back_line = first_byte 98 _ (omega arith) (λ l. or_unread _)

pub list_line : (l : List ℕ) → get_or l 0 0 ≡ 108 → command_of l ≡ asking list (keyed list_key 2 l)
unfolding command_of starts_with after_key asking doors_in note_in halt_in or_else numeral_in
list_line = first_byte 108 _ (omega arith) (λ l. or_unread _)

pub run_line : (l : List ℕ) → get_or l 0 0 ≡ 114 → command_of l ≡ asking dispatch (keyed run_key 4 l)
unfolding command_of starts_with after_key asking doors_in note_in halt_in or_else numeral_in
run_line = first_byte 114 _ (omega arith) (λ l. refl)

-- what a line asks for, by its first bytes
pub ruleset keyed_lines = (short_line, other_line, order_line, send_line, take_line, ack_line, all_line, note_line, halt_line, back_line, list_line, run_line)

-- ---- notes

note_unread : (r : Reading ℕ) → note_of r unread ≡ unread
unfolding note_of
note_unread (read i) = refl
note_unread unread = refl

two_pieces : (p l : List ℕ) → note_of_pieces (p ∷ pieces l) ≡ note_of (numeral 2 p) (numeral 2 l)
unfolding note_of_pieces
two_pieces p l = rw (pieces_next l) (go (ltb k (length l)) refl)
  where
    k : ℕ
    k = index_of comma l

    go : (t : Bool) → ltb k (length l) ≡ t → note_of_pieces (p ∷ take k l ∷ cond t (pieces (drop (k + 1) l)) []) ≡ note_of (numeral 2 p) (numeral 2 l)
    go true e = rw (pieces_next (drop (k + 1) l), comma_numeral 2 l (ltb-true k (length l) e)) (sym (note_unread (numeral 2 p)))
    go false e = rw (take_all k l (ltb-false k (length l) e))

module _ (l : List ℕ) (s : starts_with note_key l ≡ true) (r : ℕ) (h : r ≤ length l) (e : r ≡ 5 + index_of comma (slice 5 (length l) l)) where
  enough : 5 ≤ length l
  enough = starts_length note_key l s

  pieces_of : note_in (after_key note_key l) ≡ note_of_pieces (take (r - 5) (drop 5 l) ∷ pieces_from l (r + 1))
  unfolding note_in after_key pieces_from
  pieces_of = rw s (ap note_of_pieces (rw (le-leb 5 (length l) enough) at (piece_from l 5 r enough (e, h))))

  pub note_one : r ≡ length l → note_in (after_key note_key l) ≡ unread
  unfolding note_of_pieces
  note_one k = rw (pieces_of, pieces_end l (r + 1) (omega arith))

  pub note_two : (r ≡ length l → ⊥)
      → note_in (after_key note_key l) ≡ note_of (numeral 2 (take (r - 5) (drop 5 l))) (numeral 2 (take (length l - (r + 1)) (drop (r + 1) l)))
  unfolding pieces_from
  note_two k =
      pieces_of
      ∙ rw (le-leb (r + 1) (length l) (omega arith), rest_of l (r + 1)) (two_pieces (take (r - 5) (drop 5 l)) (drop (r + 1) l))

-- ---- notes by the place that std finds of the first comma

comma_is : (l : List ℕ) → position_or_len (λ b. eqb b comma) l ≡ index_of comma l
unfolding index_of index_after
comma_is l = sym (is_position_or_len (index_of comma) (λ b. eqb b comma) refl (λ x xs. step (index_of comma xs) (eqb x comma)) l)
  where
    step : (k : ℕ) (t : Bool) → index_after t k ≡ cond t 0 (1 + k)
    step k true = refl
    step k false = omega arith

abbrev pub first_comma : List ℕ → Option ℕ
first_comma l = cond (ltb (position_or_len (λ b. eqb b comma) l) (length l)) (Some (position_or_len (λ b. eqb b comma) l)) None

note_next : (l : List ℕ) → note_of_pieces (pieces l)
    ≡ cond (ltb (index_of comma l) (length l)) (note_of (numeral 2 (take (index_of comma l) l)) (numeral 2 (drop (index_of comma l + 1) l))) unread
unfolding note_of_pieces
note_next l = rw (pieces_next l) (go (ltb k (length l)))
  where
    k : ℕ
    k = index_of comma l

    go : (t : Bool) → note_of_pieces (take k l ∷ cond t (pieces (drop (k + 1) l)) [])
        ≡ cond t (note_of (numeral 2 (take k l)) (numeral 2 (drop (k + 1) l))) unread
    go true = two_pieces (take k l) (drop (k + 1) l)
    go false = refl

module _ (l : List ℕ) where
  pub note_without : None ≡ first_comma l → note_in (read l) ≡ unread
  unfolding note_in
  note_without e = note_next l ∙ go (ltb (index_of comma l) (length l)) (rw (comma_is l) at e)
    where
      go : (t : Bool) → None ≡ cond t (Some (index_of comma l)) None
          → cond t (note_of (numeral 2 (take (index_of comma l) l)) (numeral 2 (drop (index_of comma l + 1) l))) unread ≡ unread
      go true e = cc
      go false e = refl

  pub note_around : (at : ℕ) → Some at ≡ first_comma l
      → note_in (read l) ≡ note_of (numeral 2 (take at l)) (numeral 2 (take (length l - (at + 1)) (drop (at + 1) l)))
  unfolding note_in
  note_around at e = rw (rest_of l (at + 1)) (note_next l ∙ go (ltb (index_of comma l) (length l)) (rw (comma_is l) at e))
    where
      go : (t : Bool) → Some at ≡ cond t (Some (index_of comma l)) None
          → cond t (note_of (numeral 2 (take (index_of comma l) l)) (numeral 2 (drop (index_of comma l + 1) l))) unread
          ≡ note_of (numeral 2 (take at l)) (numeral 2 (drop (at + 1) l))
      go true e = let same : index_of comma l ≡ at = cc in rw same refl
      go false e = cc

-- ---- halts

halt_next : (m n : ℕ) (r : Reading (List ℕ)) → halt_after m (with_number (read n) r) ≡ halt_after (insert m (member_of n)) r
unfolding halt_after with_members with_number
halt_next m n (read l) = refl
halt_next m n unread = refl

-- the piece from `from` up to r is read next
module _ (m : ℕ) (s : List ℕ) (from r : ℕ) (h : from ≤ length s) (f : Found comma s from r) where
  pub member_read : (n : ℕ) → numeral 2 (take (r - from) (drop from s)) ≡ read n
      → halt_after m (numerals (pieces_from s from)) ≡ halt_after (insert m (member_of n)) (numerals (pieces_from s (r + 1)))
  unfolding numerals
  member_read n k = rw (piece_from s from r h f, k) (halt_next m n (numerals (pieces_from s (r + 1))))

  pub member_unread : numeral 2 (take (r - from) (drop from s)) ≡ unread → halt_after m (numerals (pieces_from s from)) ≡ unread
  unfolding numerals halt_after with_number
  member_unread k = rw (piece_from s from r h f, k)

pub members_read : (m : ℕ) (s : List ℕ) (from : ℕ) → length s < from → halt_after m (numerals (pieces_from s from)) ≡ read (perform (Halt m))
unfolding numerals halt_after with_members
members_read m s from h = rw (pieces_end s from h)

-- piece by piece
module _ (m : ℕ) (p : List ℕ) (ps : List (List ℕ)) where
  pub piece_read : (n : ℕ) → numeral 2 p ≡ read n → halt_after m (numerals (p ∷ ps)) ≡ halt_after (insert m (member_of n)) (numerals ps)
  unfolding numerals
  piece_read n k = rw k (halt_next m n (numerals ps))

  pub piece_unread : numeral 2 p ≡ unread → halt_after m (numerals (p ∷ ps)) ≡ unread
  unfolding numerals halt_after with_number
  piece_unread k = rw k

pub none_left : (m : ℕ) → halt_after m (numerals []) ≡ read (perform (Halt m))
unfolding numerals halt_after with_members
none_left m = refl

-- "A column named twice counts as once": the members are the numbers named
named : (l : List ℕ) (m j : ℕ) → has (with_members m l) j ≡ (has m j || among (map member_of l) j)
unfolding with_members
named [] m j = sym (or-false (has m j))
named (n ∷ l) m j =
    named l (insert m (member_of n)) j
    ∙ ap (λ (b : Bool). b || among (map member_of l) j) (has_insert m (member_of n) j)
    ∙ or_assoc (has m j) (eqb j (member_of n)) (among (map member_of l) j)

pub members_named : (l : List ℕ) (j : ℕ) → has (with_members 0 l) j ≡ among (map member_of l) j
members_named l j = named l 0 j ∙ ap (λ (b : Bool). b || among (map member_of l) j) (has_none j)
