use Prim.Native.Nat.{◌≤◌}
use mathlib.Core.Path.{◌≡◌}
use Rattle.column.specs.Sets.{has}
use Rattle.bank.specs.Steps.{with_stopped}
use Rattle.bank.specs.laws.strips.Rewriting.{upto}
use Rattle.bank.proofs.strip.stop.Given as goal

abbrev pub invariant-loop-j : goal.invariant-loop-j
invariant-loop-j l = (l.j ≤ 16) × (l.b ≡ with_stopped l.initial.b (upto (has l.m) l.j))
