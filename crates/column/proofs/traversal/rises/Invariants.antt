-- Whether every place so far is plainly good.
use Prim.Native.Nat.{◌-◌}
use mathlib.Core.Path.{◌≡◌}
use Rattle.column.specs.Trees.{every}
use Rattle.column.specs.inner.TreePasses.{plain_at}
use Rattle.column.proofs.traversal.rises.Given as goal

abbrev pub invariant-loop-k : goal.invariant-loop-k
invariant-loop-k l = (l.most ≡ l.k - 1) × (l.plain ≡ every (plain_at l.n l.up l.first) l.k)
