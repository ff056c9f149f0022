use Rattle.std.specs.Prelude.{ℕ, ◌≡◌, ltb, min}
use Rattle.std.proofs.Common.{◌∙◌, ⊎_elim}
use native.Mathlib.Omega.{arith}
use borrow.Author.Tests.{ltb-true, ltb-false}
use Rattle.column.specs.laws.Cases.{truth}
use Rattle.bank.specs.inner.Surveys.{places_of}
use Rattle.bank.proofs.survey.places.Goals as goal

least : (n : ℕ) → min n 16 ≡ places_of n
unfolding places_of
least n =
    ⊎_elim (λ e. rw e (omega (arith, ltb-true 16 n e))) (λ e. rw e (omega (arith, ltb-false 16 n e)))
    (truth (ltb 16 n))

pub returns : goal.returns
returns c = c.min.ensures ∙ least c.args.columns
