-- The step all and the command `failed(b) ∧ r ≠ b ∧ ackfrom = Φ ∧ sendto = Φ`, or, where senders are watched, `failed(m.sender)` in it.
-- Assumes nothing.
use Prim.Native.Nat.{ℕ}
use mathlib.Core.Path.{◌≡◌, refl}
use mathlib.Core.Bool.{Bool, true, false, not, ◌&&◌, cond}
use native.Mathlib.Omega.{arith}
use lib.Dec.{eqb}
use Rattle.column.specs.Sets.{has}
use Rattle.column.specs.Steps.{all_refusal, all_effect}
use Rattle.column.specs.declared.tree.Tree.{Tree}
use Rattle.column.specs.declared.state.Column.{Column}
use Rattle.figure.specs.Figure.{takeover_command}
use Rattle.figure.specs.Comparison.{variables_of, Ready, Makes, takeover_guard_of, TakeoverCompares}
use Rattle.figure.proofs.Commands.{cond_rests, goal_is, makes_of, makes_goes, guards_by}

tests : (root noted whole sent none : Bool)
    → ◌≡◌ {A = ℕ} (cond root 6 (cond (not noted) 6 (cond whole 6 (cond (not (sent && none)) 6 0))))
    (cond (not root && (noted && (not whole && (none && sent)))) 0 6)
tests true noted whole sent none = refl
tests false false whole sent none = refl
tests false true true sent none = refl
tests false true false sent none = cond_rests sent none 6 0

module _ (t : Tree) (i : ℕ) (c : Column) (ready : Ready t i c) where
  takeover_refusal : all_refusal t i c ≡ cond (takeover_guard_of t i c) 0 6
  unfolding all_refusal
  takeover_refusal = go t.watch refl
    where
      go : (w : Bool) → t.watch ≡ w → all_refusal t i c ≡ cond (takeover_guard_of t i c) 0 6
      go true e =
          simp (ready.good, ready.runs, e, goal_is t i c ready)
          (tests (eqb i t.root) (has c.noted c.sender) c.whole (eqb c.send 0) (eqb c.awaited 0))
      go false e =
          simp (ready.good, ready.runs, e, goal_is t i c ready)
          (tests (eqb i t.root) (has c.noted t.root) c.whole (eqb c.send 0) (eqb c.awaited 0))

  takeover_effect : Makes t i c.noted (all_effect t c) (takeover_command t (variables_of t i c))
  unfolding all_effect takeover_command
  takeover_effect = makes_of refl ready.runs

  pub takeover_compares : TakeoverCompares t i c
  unfolding all_effect
  takeover_compares = record {
    guards = guards_by (takeover_guard_of t i c) c (all_effect t c) takeover_refusal (λ e. omega arith) refl;
    does = λ g. makes_goes c (rw g at takeover_refusal) takeover_effect;
  }
