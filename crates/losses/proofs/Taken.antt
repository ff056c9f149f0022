-- A test of each column below a number is one of the first elements of a list. Assumes nothing.
use Rattle.std.specs.Prelude.{ℕ, zero, suc, ◌≤◌, ◌≡◌, refl, Bool, ◌&&◌, List, length, get_or, take}
use Rattle.std.specs.List.{list_all}
use Rattle.std.proofs.Common.{ap, ◌∙◌, arith, add-one}
use Rattle.std.proofs.lemmas.List.Folds.{list_all_more}
use Rattle.column.specs.Trees.{every}

pub every_taken : {A : Type 0} (test : A → Bool) (xs : List A) (d : A) (n : ℕ) → n ≤ length xs
    → list_all test (take n xs) ≡ every (λ i. test (get_or xs i d)) n
unfolding every
every_taken test xs d zero h = refl
every_taken test xs d (suc n) h =
    rw (← add-one n) (list_all_more test xs n d (omega arith))
    ∙ ap (λ (b : Bool). b && test (get_or xs n d)) (every_taken test xs d n (omega arith))
