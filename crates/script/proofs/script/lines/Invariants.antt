-- The texts so far are carried on, and what is known of the bank is so.
use Rattle.std.proofs.Common.{◌-◌, length}
use Rattle.bank.specs.Banks.{state}
use Rattle.script.specs.inner.ScriptLines.{Carries, Knows}
use Rattle.script.proofs.script.lines.Given as goal

abbrev pub invariant-loop-at : goal.invariant-loop-at
invariant-loop-at l =
    Carries l.input (state l.initial.bank l.initial.network.heads l.initial.network.doors) l.initial.position l.initial.at l.initial.out
    (state l.bank l.network.heads l.network.doors) l.position l.at l.out
    × Knows l.known (state l.bank l.network.heads l.network.doors)

abbrev pub decreases-loop-at : goal.decreases-loop-at
decreases-loop-at l = length l.input - l.position
