-- The bank so far holds the columns of the places below i.
use Prim.Native.Nat.{◌≤◌}
use mathlib.Core.Path.{◌≡◌}
use Rattle.bank.specs.laws.ValidityLaws.{partly_fresh}
use Rattle.bank.proofs.bank.fresh.Given as goal

abbrev pub invariant-loop-i : goal.invariant-loop-i
invariant-loop-i l = (l.i ≤ l.n) × (l.b ≡ partly_fresh l.fn.t l.i)
