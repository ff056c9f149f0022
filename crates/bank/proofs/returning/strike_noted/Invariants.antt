-- The columns below i have j no longer noted.
use Prim.Native.Nat.{ℕ, ◌≤◌}
use mathlib.Core.Path.{◌≡◌}
use mathlib.Core.Bool.{true}
use Rattle.column.specs.Returns.{struck}
use Rattle.bank.specs.Steps.{with_rewritten}
use Rattle.bank.specs.laws.strips.Rewriting.{upto}
use Rattle.bank.specs.declared.bank.Bank.{Bank}
use Rattle.bank.proofs.returning.strike_noted.Given as goal

abbrev pub struck_below : Bank → ℕ → ℕ → Bank
struck_below b j = λ i. with_rewritten (λ c. struck c j) b (upto (λ k. true) i)

abbrev pub invariant-loop-i : goal.invariant-loop-i
invariant-loop-i l = (l.i ≤ l.n) × (l.b ≡ struck_below l.initial.b l.j l.i)
