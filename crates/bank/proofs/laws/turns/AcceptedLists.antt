-- The first accepted step of a list. Assumes nothing.
use Prim.Native.Nat.{ℕ, zero, suc, ◌<◌}
use Rattle.std.specs.Prelude.{◌≡◌, ◌⊎◌, Bool}
use Rattle.std.proofs.Math.Path.{refl, sym, ap}
use Rattle.std.proofs.Common.{◌∙◌, inl, inr}
use Rattle.std.proofs.Math.Bool.{true, false, cond}
use mathlib.Core.List.{List, [], ◌∷◌, ◌++◌}
use native.Mathlib.Omega.{arith}
use Rattle.column.specs.laws.Cases.{equal_cases}
use Rattle.bank.specs.Banks.{State, places}
use Rattle.bank.specs.Performs.{perform}
use Rattle.bank.specs.Rest.{is_refused}
use Rattle.bank.specs.Dispatch.{first_accepted}
use Rattle.bank.specs.declared.bank.Step.{Step}

module _ (s : State) where
  pub first_append : (xs ys : List Step) (other : Step) → first_accepted s (xs ++ ys) other ≡ first_accepted s xs (first_accepted s ys other)
  unfolding first_accepted
  first_append [] ys other = refl
  first_append (x ∷ xs) ys other = ap (λ (y : Step). cond (is_refused (perform s x)) y x) (first_append xs ys other)

  module _ (f : ℕ → Step) where
    pub first_none : (n : ℕ) (other : Step) → ((j : ℕ) → j < n → is_refused (perform s (f j)) ≡ true) → first_accepted s (places f n) other ≡ other
    unfolding places first_accepted
    first_none zero other h = refl
    first_none (suc n) other h =
        first_append (places f n) (f n ∷ []) other
        ∙ ap (λ (b : Bool). first_accepted s (places f n) (cond b other (f n))) (h n (omega arith))
        ∙ first_none n other (λ j l. h j (omega arith))

    pub first_at : (n : ℕ) (other : Step) (j : ℕ) → j < n → is_refused (perform s (f j)) ≡ false → ((k : ℕ) → k < j → is_refused (perform s (f k)) ≡ true)
        → first_accepted s (places f n) other ≡ f j
    unfolding places first_accepted
    first_at zero other j l a r = absurd (omega arith)
    first_at (suc n) other j l a r = first_append (places f n) (f n ∷ []) other ∙ go (equal_cases j n) (λ o k. first_at n o j k a r)
      where
        go : (j ≡ n) ⊎ (j ≡ n → ⊥) → ((o : Step) → j < n → first_accepted s (places f n) o ≡ f j)
            → first_accepted s (places f n) (cond (is_refused (perform s (f n))) other (f n)) ≡ f j
        go (inl e) ih =
            ap (λ (b : Bool). first_accepted s (places f n) (cond b other (f n))) (ap (λ (k : ℕ). is_refused (perform s (f k))) (sym e) ∙ a)
            ∙ first_none n (f n) (λ k h. r k (omega (arith, e, h))) ∙ ap f (sym e)
        go (inr e) ih = ih _ (omega (arith, e))
