-- The step send and the command `sendto ≠ Φ`.
-- Assumes nothing.
use Prim.Native.Nat.{ℕ}
use mathlib.Core.Path.{◌≡◌, refl, sym, ap}
use mathlib.Core.Bool.{cond}
use native.Mathlib.Omega.{arith}
use lib.Dec.{eqb}
use Rattle.column.specs.Sets.{has, join, without}
use Rattle.column.specs.Trees.{choose}
use Rattle.column.specs.Steps.{send_refusal, send_effect}
use Rattle.column.specs.declared.tree.Tree.{Tree}
use Rattle.column.specs.declared.state.Column.{Column}
use Rattle.figure.specs.Figure.{with_sets, send_guard, send_command}
use Rattle.figure.specs.Comparison.{variables_of, number_of, Ready, Makes, SendCompares}
use Rattle.figure.proofs.Commands.{cond_not, successors, makes_of, makes_either, makes_goes, guards_by}

module _ (t : Tree) (i : ℕ) (c : Column) (ready : Ready t i c) where
  send_refusal_lem : send_refusal t i c ≡ cond (send_guard (variables_of t i c)) 0 6
  unfolding send_refusal
  send_refusal_lem = simp (ready.good, ready.runs) (cond_not (eqb c.send 0) 6 0)

  send_effect_lem : Makes t i c.noted (send_effect t i c) (send_command t i c.noted (variables_of t i c))
  unfolding send_effect send_command
  send_effect_lem =
      let v = variables_of t i c in
      let k = choose t c.send in
      makes_either (eqb k i)
      (λ e. makes_of refl ready.runs)
      (λ e. makes_either (has c.noted k)
      (λ e. makes_of (ap (λ (s : ℕ). with_sets v (join (without c.send k) s) c.awaited c.owed) (sym (successors t k))) ready.runs)
      (λ e. makes_of refl ready.runs))

  pub send_compares : SendCompares t i c
  send_compares = record {
    guards = guards_by (send_guard (variables_of t i c)) c (send_effect t i c) send_refusal_lem (λ e. omega arith) (ap number_of send_effect_lem.is);
    does = λ g. makes_goes c (rw g at send_refusal_lem) send_effect_lem;
  }
