-- The steps so far and those of a dispatch from here are those of the whole; the bank is valid, who runs stays, and the set is of all that are ready.
use Rattle.bank.specs.Banks.{state}
use Rattle.bank.proofs.laws.turns.TurnsTaken.{Standing}
use Rattle.bank.proofs.dispatch.take_turns.Given as goal

abbrev pub invariant-loop-steps : goal.invariant-loop-steps
invariant-loop-steps l =
    Standing l.limit l.steps (state l.initial.b l.initial.network.heads l.initial.network.doors) (state l.b l.network.heads l.network.doors) l.t l.running l.halted_columns l.ready
