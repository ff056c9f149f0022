-- In a valid bank the step found by sets is the first that is accepted. Assumes nothing.
use Prim.Native.Nat.{ℕ, zero, suc, ◌+◌, ◌≤◌, ◌<◌}
use Rattle.std.specs.Prelude.{◌≡◌, Bool}
use Rattle.std.proofs.Math.Path.{refl, sym, ap}
use Rattle.std.proofs.Common.{◌∙◌}
use Rattle.std.proofs.Math.Bool.{true, false, cond}
use mathlib.Core.List.{List, [], ◌++◌, append-nil, append_assoc}
use native.Mathlib.Omega.{arith}
use Rattle.bank.specs.Banks.{State, column_at, runs, halted_of}
use Rattle.bank.specs.laws.ValidityLaws.{Valid}
use Rattle.bank.specs.Dispatch.{offers, offered, first_accepted, turn}
use Rattle.bank.specs.inner.Turning.{step_of, step_from, is_full, quick_turn}
use Rattle.bank.specs.declared.bank.Step.{Step}
use Rattle.bank.specs.declared.bank.Step.TheVariants.{Take}
use Rattle.bank.proofs.laws.turns.AcceptedLists.{first_append}
use Rattle.bank.proofs.laws.turns.SetTests.{first_column}

module _ (s : State) (st : Valid s) where
  abbrev part : ℕ → List Step
  part i = cond (runs s.bank i) (offers s.bank.tree.columns i) []

  -- what is offered by k columns from i on
  unfoldable offered_from : ℕ → ℕ → List Step
  offered_from i zero = []
  offered_from i (suc k) = part i ++ offered_from (suc i) k

  offered_from_lem : (k i : ℕ) → offered s i ++ offered_from i k ≡ offered s (i + k)
  unfolding offered offered_from
  offered_from_lem zero i =
      let e : i ≡ i + 0 = omega arith in
      append-nil (offered s i) ∙ ap (offered s) e
  offered_from_lem (suc k) i =
      let e : suc i + k ≡ i + suc k = omega arith in
      sym (append_assoc (offered s i) (part i) (offered_from (suc i) k)) ∙ offered_from_lem k (suc i) ∙ ap (offered s) e

  first_part : (i : ℕ) → i < s.bank.tree.columns → (other : Step) → first_accepted s (part i) other ≡ step_of s.bank.tree (is_full s.bank) (halted_of s.bank) i (column_at s.bank i) other
  unfolding step_of first_accepted
  first_part i h other = go (runs s.bank i) refl
    where
      go : (x : Bool) → runs s.bank i ≡ x → first_accepted s (cond x (offers s.bank.tree.columns i) []) other ≡ step_of s.bank.tree (is_full s.bank) (halted_of s.bank) i (column_at s.bank i) other
      go true r = first_column s st i h r other
      go false r = sym (rw r refl)

  first_from : (k i : ℕ) → i + k ≤ s.bank.tree.columns → first_accepted s (offered_from i k) (Take 0) ≡ step_from s.bank (is_full s.bank) (halted_of s.bank) i k
  unfolding offered_from step_from first_accepted
  first_from zero i h = refl
  first_from (suc k) i h =
      first_append s (part i) (offered_from (suc i) k) (Take 0)
      ∙ first_part i (omega (arith, h)) _
      ∙ ap (step_of s.bank.tree (is_full s.bank) (halted_of s.bank) i (column_at s.bank i)) (first_from k (suc i) (omega (arith, h)))

  pub quick_turn_lem : turn s ≡ quick_turn s.bank
  unfolding turn offered
  quick_turn_lem =
      let n = s.bank.tree.columns in
      let e : 0 + n ≡ n = omega arith in
      ap (λ (xs : List Step). first_accepted s xs (Take 0)) (sym (offered_from_lem n 0 ∙ ap (offered s) e))
      ∙ first_from s.bank.tree.columns 0 (omega arith)
