-- Every parent and every listed column so far is below, and the set is that of the columns listed.
use mathlib.Core.Path.{◌≡◌}
use mathlib.Core.Bool.{true}
use Rattle.column.specs.Trees.{tree_in_sequence, every, is_parent_below, is_listed_below, listed_in}
use Rattle.column.proofs.traversal.lists_hold.Given as goal

abbrev pub invariant-loop-j : goal.invariant-loop-j
invariant-loop-j l =
    let t = tree_in_sequence l.n 0 l.up l.first in
    (every (is_parent_below t) l.j ≡ true) × (every (is_listed_below t) l.j ≡ true) × (l.listed ≡ listed_in l.first l.j)
