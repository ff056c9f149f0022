-- The set so far is that of the places below j that name c.
use mathlib.Core.Path.{◌≡◌}
use Rattle.column.specs.Sets.{selected}
use Rattle.column.specs.inner.TreePasses.{names}
use Rattle.column.proofs.traversal.named.Given as goal

abbrev pub invariant-loop-j : goal.invariant-loop-j
invariant-loop-j l = l.set ≡ selected (names l.up l.c) l.j
