-- The set so far is that of the columns below i that can do anything.
use Prim.Native.Nat.{ℕ, ◌≤◌}
use mathlib.Core.Bool.{Bool}
use mathlib.Core.Path.{◌≡◌}
use Rattle.column.specs.Sets.{selected}
use Rattle.bank.specs.Banks.{column_at}
use Rattle.bank.specs.inner.Turning.{is_full, is_ready}
use Rattle.bank.specs.declared.bank.Bank.{Bank}
use Rattle.bank.proofs.turn.ready_columns.Given as goal

-- the test of each column, where these are halted
abbrev pub tests : Bank → ℕ → ℕ → Bool
tests b halted = λ k. is_ready b.tree (is_full b) halted k (column_at b k)

abbrev pub invariant-loop-i : goal.invariant-loop-i
invariant-loop-i l = (l.i ≤ l.n) × (l.set ≡ selected (tests l.b l.halted) l.i)
