-- The counts so far are those of the sets below this one.
use Rattle.std.proofs.Common.{◌≡◌}
use Rattle.bank.specs.Banks.{state}
use Rattle.losses.specs.Losses.{counted_to}
use Rattle.losses.proofs.count.count.Given as goal

abbrev pub invariant-loop-set : goal.invariant-loop-set
invariant-loop-set l = l.l ≡ counted_to (state l.b l.network.heads l.network.doors) l.set
