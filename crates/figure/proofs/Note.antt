-- The step note and the command `ackfrom ∩ FAILED ≠ Φ`.
-- Assumes nothing.
use Prim.Native.Nat.{ℕ}
use mathlib.Core.Path.{◌≡◌, refl, sym, ap, ◌∙◌}
use mathlib.Core.Bool.{Bool, true, false, not, cond}
use mathlib.Core.List.{[]}
use native.Mathlib.Omega.{arith}
use lib.Bits.{or_zero_l}
use lib.Dec.{eqb}
use lib.Pow.{pow_pos}
use borrow.Author.Tests.{ne_eqb}
use Rattle.column.specs.Sets.{has, single, join, insert, without}
use Rattle.column.specs.laws.SetLaws.{and_insert}
use Rattle.column.specs.Trees.{children}
use Rattle.column.specs.Steps.{note_refusal, note_effect}
use Rattle.column.specs.declared.tree.Tree.{Tree}
use Rattle.column.specs.declared.state.Column.{Column}
use Rattle.figure.specs.Figure.{meet, with_sets, failed_guard, failed_command}
use Rattle.figure.specs.Comparison.{variables_of, Ready, Makes, NoteCompares}
use Rattle.figure.proofs.Refusals.{valid, set_lt}
use Rattle.figure.proofs.Commands.{successors, makes_of, makes_goes}

module _ (t : Tree) (i : ℕ) (c : Column) (ready : Ready t i c) (j : ℕ) (apart : meet c.awaited c.noted ≡ 0) where
  -- of those awaited only j can be newly noted
  newly : meet c.awaited (insert c.noted j) ≡ cond (has c.awaited j) (single j) 0
  newly =
      let s = valid t i c ready.good in
      and_insert 16 c.awaited c.noted j (set_lt t c.awaited s.tree s.awaited)
      ∙ rw apart (ap (λ (x : ℕ). cond (has c.awaited j) x 0) (or_zero_l (single j)))

  guard_is : failed_guard (insert c.noted j) (variables_of t i c) ≡ has c.awaited j
  guard_is = rw newly (go (has c.awaited j))
    where
      go : (b : Bool) → not (eqb (cond b (single j) 0) 0) ≡ b
      go true = ap not (ne_eqb (single j) 0 (λ e. omega (arith, pow_pos j)))
      go false = refl

  command_is : has c.awaited j ≡ true
      → failed_command t (insert c.noted j) (variables_of t i c)
      ≡ record { variables = with_sets (variables_of t i c) (join c.send (children t j)) (without c.awaited j) c.owed; sent = [] }
  unfolding failed_command
  command_is e = simp (newly, e, successors t j)

  awaited_noted : has c.awaited j ≡ true
      → Makes t i (insert c.noted j) (note_effect t c j) (failed_command t (insert c.noted j) (variables_of t i c))
  unfolding note_effect
  awaited_noted e = rw (command_is e, e) (makes_of refl ready.runs)

  other_noted : has c.awaited j ≡ false
      → Makes t i (insert c.noted j) (note_effect t c j) (record { variables = variables_of t i c; sent = [] })
  unfolding note_effect
  other_noted e = rw e (makes_of refl ready.runs)

  pub note_compares : note_refusal t i c j ≡ 0 → NoteCompares t i c j
  note_compares e = record {
    does = λ g. makes_goes c e (awaited_noted (sym guard_is ∙ g));
    skips = λ g. makes_goes c e (other_noted (sym guard_is ∙ g));
  }
