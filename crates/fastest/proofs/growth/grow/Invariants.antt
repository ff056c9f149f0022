-- So far the tree is that of the columns before c.
use Rattle.std.proofs.Common.{◌-◌, ◌≡◌}
use Rattle.fastest.specs.Strategy.{grown}
use Rattle.fastest.proofs.growth.grow.Given as goal

abbrev pub invariant-loop-c : goal.invariant-loop-c
invariant-loop-c l = l.g ≡ grown l.r.delay l.r.gap (l.c - 1)
