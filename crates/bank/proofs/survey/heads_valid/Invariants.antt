-- The packets before place k have valid ends, and whether they are valid is whether their receivers, gathered, run.
use Prim.Native.Nat.{ℕ, ◌<◌, ◌≤◌, ◌^◌}
use mathlib.Core.Path.{◌≡◌}
use lib.Dec.{eqb}
use lib.ListN.{get_or}
use Rattle.column.specs.Sets.{join}
use Rattle.column.specs.Trees.{every}
use Rattle.bank.specs.inner.Surveys.{head_valid}
use Rattle.bank.proofs.survey.heads_valid.Given as goal

abbrev pub invariant-loop-head : goal.invariant-loop-head
invariant-loop-head l =
    (l.head-index ≤ l.count)
    × ((l.receivers < 2 ^ 16) × (eqb (join l.receivers l.running) l.running ≡ every (λ (j : ℕ). head_valid l.columns l.root l.watch l.running (get_or l.heads j 0)) l.head-index))
