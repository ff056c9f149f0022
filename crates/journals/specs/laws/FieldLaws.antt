-- How the fields of a journal's line are found in its text, and that a line has nine bytes at least. Assumes nothing.
use Prim.Native.Nat.{ℕ, ◌+◌, ◌-◌, ◌≤◌, ◌<◌, suc}
use Rattle.std.specs.Prelude.{◌≡◌, refl, ◌≢◌, Bool, true, false, cond, List, [], ◌∷◌, eqb, ltb, length, take, drop}
use Rattle.std.proofs.Common.{sym, ◌∙◌, arith, length-drop, take_all, le-leb, ltb-true, ltb-false}
use Rattle.std.proofs.Math.Path.{ap}
use Rattle.std.proofs.lemmas.Bool.Decides.{nat_tests}
use Rattle.column.specs.Refusals.{Given, given, refused}
use Rattle.column.specs.Columns.{numbers}
use Rattle.text.specs.Text.{comma, Reading, read, unread, numeral, starts_with, after_key}
use Rattle.text.specs.Pieces.{pieces, longer}
use Rattle.text.specs.laws.ReadingLaws.{rest_of, after_other, after_key_is, numeral_none}
use Rattle.text.specs.laws.Cutting.{pieces_next, pieces_from, pieces_all, pieces_end, piece_from, comma_numeral, Found, found}
use Rattle.text.specs.Search.{index_of, place_of}
use Rattle.journals.specs.Journals.{sent_key, got_key, line, message_kind, acknowledgement_kind, kind_of_number, good_line, line_judged, line_pieces, line_in, line_of}
use Rattle.journals.specs.declared.line.Way.{Way}
use Rattle.journals.specs.declared.line.Way.TheVariants.{Sent, Got}
use Rattle.journals.specs.declared.line.Kind.{Kind}
use Rattle.journals.specs.declared.line.Line.{Line}

-- ---- how a line is read

module _ (owner : ℕ) (way : Way) (kind other number : ℕ) where
  abbrev verdict : Given Line
  verdict = line_judged owner way (read kind) (read other) (read number)

  refuses : good_line owner kind other number ≡ false → verdict ≡ refused 19
  unfolding line_judged
  refuses e = rw e

  pub kind_below : kind < message_kind → verdict ≡ refused 19
  kind_below h = refuses (grind (arith, nat_tests))

  pub kind_above : acknowledgement_kind < kind → verdict ≡ refused 19
  kind_above h = refuses (grind (arith, nat_tests))

  pub other_above : 16 ≤ other → verdict ≡ refused 19
  other_above h = refuses (grind (arith, nat_tests))

  pub other_owner : other ≡ owner → verdict ≡ refused 19
  other_owner e = refuses (grind (arith, nat_tests))

  pub number_above : numbers ≤ number → verdict ≡ refused 19
  number_above h = refuses (grind (arith, nat_tests))

  pub line_good : (k : Kind) → kind_of_number kind ≡ given k → other < 16 → other ≢ owner → number < numbers → verdict ≡ given (line way k other number)
  unfolding line_judged
  line_good k e o a h = grind (arith, nat_tests)

-- ---- the fields of a line

judged_unread : (owner : ℕ) (way : Way) (a b : Reading ℕ) → line_judged owner way a b unread ≡ refused 19
unfolding line_judged
judged_unread owner way (read a) (read b) = refl
judged_unread owner way (read a) unread = refl
judged_unread owner way unread b = refl

module _ (owner : ℕ) (way : Way) where
  fields_of : (a b l : List ℕ) → line_pieces owner way (a ∷ b ∷ pieces l) ≡ line_judged owner way (numeral 1 a) (numeral 2 b) (numeral 10 l)
  unfolding line_pieces
  fields_of a b l = rw (pieces_next l) (go (ltb k (length l)) refl)
    where
      k : ℕ
      k = index_of comma l

      go : (t : Bool) → ltb k (length l) ≡ t → line_pieces owner way (a ∷ b ∷ take k l ∷ cond t (pieces (drop (k + 1) l)) [])
          ≡ line_judged owner way (numeral 1 a) (numeral 2 b) (numeral 10 l)
      go true e =
          rw (pieces_next (drop (k + 1) l), comma_numeral 10 l (ltb-true k (length l) e)) (sym (judged_unread owner way (numeral 1 a) (numeral 2 b)))
      go false e = rw (take_all k l (ltb-false k (length l) e))

  module _ (l : List ℕ) (r : ℕ) (p : r ≡ place_of comma 0 (length l) l) (h : r ≤ length l) where
    first_found : Found comma l 0 r
    first_found = found comma l 0 r (p, h) (omega arith)

    first_field : pieces l ≡ take r l ∷ pieces_from l (r + 1)
    first_field =
        let whole : r - 0 ≡ r = omega arith in
        sym (pieces_all l) ∙ piece_from l 0 r (omega arith) first_found ∙ ap (λ (i : ℕ). take i l ∷ pieces_from l (r + 1)) whole

    pub fields_one : r ≡ length l → line_pieces owner way (pieces l) ≡ refused 19
    unfolding line_pieces
    fields_one k = rw (first_field, pieces_end l (r + 1) (omega arith))

    module _ (n : r ≢ length l) (q : ℕ) (d : q ≡ place_of comma (r + 1) (length l) l) (g : q ≤ length l) where
      second_found : Found comma l (r + 1) q
      second_found = found comma l (r + 1) q (d, g) (omega (arith, n, h))

      second_field : pieces l ≡ take r l ∷ take (q - (r + 1)) (drop (r + 1) l) ∷ pieces_from l (q + 1)
      second_field =
          first_field ∙ ap (λ (x : List (List ℕ)). take r l ∷ x) (piece_from l (r + 1) q (omega (arith, n, h)) second_found)

      pub fields_two : q ≡ length l → line_pieces owner way (pieces l) ≡ refused 19
      unfolding line_pieces
      fields_two k = rw (second_field, pieces_end l (q + 1) (omega arith))

      pub fields_three : q ≢ length l → line_pieces owner way (pieces l)
          ≡ line_judged owner way (numeral 1 (take r l)) (numeral 2 (take (q - (r + 1)) (drop (r + 1) l)))
          (numeral 10 (take (length l - (q + 1)) (drop (q + 1) l)))
      unfolding pieces_from
      fields_three k =
          ap (line_pieces owner way) second_field
          ∙ rw (le-leb (q + 1) (length l) (omega (arith, k, g)), rest_of l (q + 1))
          (fields_of (take r l) (take (q - (r + 1)) (drop (r + 1) l)) (drop (q + 1) l))

-- ---- the key of a line

module _ (owner : ℕ) (l : List ℕ) where
  pub sent_line : starts_with sent_key l ≡ true → line_of owner l ≡ line_pieces owner Sent (pieces (drop (length sent_key) l))
  unfolding line_of line_in
  sent_line e = rw (e, after_key_is sent_key l e)

  pub got_line : starts_with sent_key l ≡ false → starts_with got_key l ≡ true → line_of owner l ≡ line_pieces owner Got (pieces (drop (length got_key) l))
  unfolding line_of line_in
  got_line n e = rw (n, after_key_is got_key l e)

  pub no_line : starts_with sent_key l ≡ false → starts_with got_key l ≡ false → line_of owner l ≡ refused 19
  unfolding line_of line_in
  no_line n m = rw (n, after_other got_key l m)

clash : {A : Type 0} {n : ℕ} {x : A} → refused n ≡ given x → ⊥
clash e = let z : ◌≡◌ {A = ℕ} 0 1 = cc in omega arith

unread_read : {A : Type 0} {x : A} → unread ≡ read x → ⊥
unread_read e = let z : ◌≡◌ {A = ℕ} 0 1 = cc in omega arith

numeral_some : (w : ℕ) (l : List ℕ) (n : ℕ) → numeral w l ≡ read n → 1 ≤ length l
numeral_some w [] n e = absurd (unread_read (sym (numeral_none w [] refl) ∙ e))
numeral_some w (b ∷ l) n e = omega arith

-- the bytes of pieces with those between them, and one more
unfoldable total : List (List ℕ) → ℕ
total [] = 0
total (p ∷ ps) = length p + 1 + total ps

pieces_total : (l : List ℕ) → total (pieces l) ≡ length l + 1
unfolding pieces longer total
pieces_total [] = refl
pieces_total (b ∷ l) = go (eqb b comma) (pieces l) (pieces_total l)
  where
    go : (x : Bool) (ps : List (List ℕ)) → total ps ≡ length l + 1 → total (cond x ([] ∷ ps) (longer b ps)) ≡ suc (length l) + 1
    go true ps e = omega (arith, e)
    go false [] e = absurd (omega (arith, e))
    go false (p ∷ ps) e = omega (arith, e)

three_some : (owner : ℕ) (way : Way) (a b c : List ℕ) (x : Line) (r s t : Reading ℕ) → numeral 1 a ≡ r → numeral 2 b ≡ s → numeral 10 c ≡ t
    → line_judged owner way r s t ≡ given x → 3 ≤ length a + length b + length c
unfolding line_judged
three_some owner way a b c x (read i) (read j) (read k) e f g h =
    omega (arith, numeral_some 1 a i e, numeral_some 2 b j f, numeral_some 10 c k g)
three_some owner way a b c x (read i) (read j) unread e f g h = absurd (clash h)
three_some owner way a b c x (read i) unread t e f g h = absurd (clash h)
three_some owner way a b c x unread s t e f g h = absurd (clash h)

pieces_long : (owner : ℕ) (way : Way) (l : List ℕ) (x : Line) → line_pieces owner way (pieces l) ≡ given x → 5 ≤ length l
unfolding line_pieces total
pieces_long owner way l x e = go (pieces l) (pieces_total l) e
  where
    go : (ps : List (List ℕ)) → total ps ≡ length l + 1 → line_pieces owner way ps ≡ given x → 5 ≤ length l
    go [] h e = absurd (clash e)
    go (a ∷ []) h e = absurd (clash e)
    go (a ∷ b ∷ []) h e = absurd (clash e)
    go (a ∷ b ∷ c ∷ []) h e = omega (arith, h, three_some owner way a b c x (numeral 1 a) (numeral 2 b) (numeral 10 c) refl refl refl e)
    go (a ∷ b ∷ c ∷ d ∷ m) h e = absurd (clash e)

pub line_long : (owner : ℕ) (l : List ℕ) (x : Line) → line_of owner l ≡ given x → 9 ≤ length l
unfolding line_of line_in after_key
line_long owner l x e = go (starts_with sent_key l) (starts_with got_key l) e
  where
    go : (s g : Bool) → cond s (line_in owner Sent (cond s (read (drop 5 l)) unread)) (line_in owner Got (cond g (read (drop 4 l)) unread)) ≡ given x → 9 ≤ length l
    go true g e = omega (arith, pieces_long owner Sent (drop 5 l) x e, length-drop 5 l)
    go false true e = omega (arith, pieces_long owner Got (drop 4 l) x e, length-drop 4 l)
    go false false e = absurd (clash e)
