-- The best so far is the first of those that send next.
use Rattle.std.proofs.Common.{◌<◌, ◌≡◌}
use Rattle.fastest.specs.Strategy.{soonest}
use Rattle.fastest.proofs.growth.soonest.Given as goal

abbrev pub invariant-loop-i : goal.invariant-loop-i
invariant-loop-i l = (l.best < 16) × (l.best ≡ soonest l.next l.i)
