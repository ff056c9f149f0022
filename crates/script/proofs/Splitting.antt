-- A loop over the pieces of a text, which std divides at its commas. Assumes nothing.
use Rattle.std.specs.Iterator.{Yields}
use Rattle.std.proofs.Common.{ℕ, suc, ◌+◌, ◌≡◌, eqb, List, [], ◌∷◌, Option, Some, None, drop, length, sym, ap, ◌∙◌, add-one, drop-cons, drop_of_length-le, arith}
use Rattle.std.proofs.lemmas.Iterator.{YieldsList}
use Rattle.std.proofs.lemmas.Iterator.Consumers.{YieldsList-at, YieldsList-turn, YieldsList-end}
use Rattle.std.specs.List.{slice_split}
use denote.Ref.{Bor}
use Rattle.text.specs.Text.{comma}
use Rattle.text.specs.Pieces.{pieces}
use Rattle.table.specs.laws.PieceLaws.{pieces_split}

abbrev parts : List ℕ → List (List ℕ)
parts l = slice_split (λ b. eqb b comma) l

module _ {S : Type 0} {steps : S → Option (Bor (List ℕ)) → S → Type 0} {whole s : S} {r : Option (Bor (List ℕ))} (t u : S) (l : List ℕ)
    (xs : List (Bor (List ℕ))) (so_far : Yields steps s xs t) (step : steps t r u) (same : s ≡ whole)
    (road : YieldsList steps (λ x. x.now) whole (parts l)) where
  -- the next piece is the first of those that are left
  pub next_piece : {p : Bor (List ℕ)} → r ≡ Some p → drop (length xs) (pieces l) ≡ p.now ∷ drop (length xs + 1) (pieces l)
  next_piece {p} is =
      let h = YieldsList-turn (YieldsList-at same road) xs t so_far r u p is step in
      rw (pieces_split l, add-one (length xs)) (drop-cons (parts l) (length xs) p.now h.0 ∙ ap (λ (q : List ℕ). q ∷ drop (suc (length xs)) (parts l)) (sym h.1))

  -- at the end none is left
  pub no_piece : r ≡ None → drop (length xs) (pieces l) ≡ []
  no_piece is =
      let h = YieldsList-end (YieldsList-at same road) xs t so_far r u is step in
      rw (pieces_split l) (drop_of_length-le (parts l) (omega (arith, h.1)))
