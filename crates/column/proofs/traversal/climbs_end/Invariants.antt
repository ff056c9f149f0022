-- Every climb so far ends at the root.
use mathlib.Core.Path.{◌≡◌}
use mathlib.Core.Bool.{true}
use Rattle.column.specs.Trees.{tree_of, every, climbs_in}
use Rattle.column.proofs.traversal.climbs_end.Given as goal

abbrev pub invariant-loop-j : goal.invariant-loop-j
invariant-loop-j l = every (climbs_in (tree_of l.n l.root l.up) l.n) l.j ≡ true
