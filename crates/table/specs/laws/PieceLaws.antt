-- The pieces of a text are those of std's split.
use Rattle.std.specs.Prelude.{ℕ, suc, ◌+◌, ◌≤◌, ◌≡◌, refl, Bool, true, false, cond, List, [], ◌∷◌, eqb, length}
use Rattle.std.proofs.Common.{ap, ap₂, ◌∙◌, arith}
use Rattle.std.specs.List.{slice_split, onto_first}
use Rattle.text.specs.Text.{comma}
use Rattle.text.specs.Pieces.{longer, pieces}

onto : (b : ℕ) (ps : List (List ℕ)) → longer b ps ≡ onto_first b ps
unfolding longer
onto b [] = refl
onto b (p ∷ ps) = refl

pub pieces_split : (l : List ℕ) → pieces l ≡ slice_split (λ b. eqb b comma) l
unfolding pieces
pieces_split [] = refl
pieces_split (b ∷ l) = ap₂ (λ x y. cond (eqb b comma) x y) (ap (λ (ps : List (List ℕ)). [] ∷ ps) (pieces_split l)) (ap (longer b) (pieces_split l) ∙ onto b (slice_split (λ b. eqb b comma) l))

longer_length : (b : ℕ) (ps : List (List ℕ)) → length (longer b ps) ≤ length ps + 1
unfolding longer
longer_length b [] = omega arith
longer_length b (p ∷ ps) = omega arith

pub pieces_length : (l : List ℕ) → length (pieces l) ≤ length l + 1
unfolding pieces
pieces_length [] = omega arith
pieces_length (b ∷ l) = go (eqb b comma) (pieces_length l)
  where
    go : (c : Bool) → length (pieces l) ≤ length l + 1 → length (cond c ([] ∷ pieces l) (longer b (pieces l))) ≤ suc (length l) + 1
    go true h = omega arith
    go false h = omega (arith, h, longer_length b (pieces l))
