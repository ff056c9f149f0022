-- The earliest of all places is the earliest of those from `at` on.
use Prim.Native.Nat.{◌-◌}
use mathlib.Core.Path.{◌≡◌}
use Rattle.column.specs.Trees.{earliest_from}
use Rattle.column.proofs.choice.choose.Given as goal

abbrev pub invariant-loop-at : goal.invariant-loop-at
invariant-loop-at l = earliest_from l.first l.set 0 l.n ≡ earliest_from l.first l.set l.at (l.n - l.at)
