-- The step ack, repeated until nobody is owed, and the command `ackto ≠ Φ ∧ (r = b ∨ (sendto = Φ ∧ ackfrom = Φ))`, of which b has the
-- second alternative alone where senders are watched. Assumes nothing.
use Prim.Native.Nat.{ℕ, zero, suc}
use mathlib.Core.Path.{◌≡◌, refl, sym, ap, ◌∙◌}
use mathlib.Core.Bool.{Bool, true, false, not, ◌&&◌, cond, and-true, and-false, and-eq-true_iff}
use mathlib.Core.List.{[], ◌∷◌}
use native.Mathlib.Omega.{arith}
use lib.Dec.{eqb}
use Rattle.column.specs.Sets.{lowest}
use Rattle.column.specs.Columns.{may_acknowledge}
use Rattle.column.specs.Steps as steps
use Rattle.column.specs.Steps.{accepted, ack_refusal, ack_effect}
use Rattle.column.specs.declared.tree.Tree.{Tree}
use Rattle.column.specs.declared.state.Column.{Column}
use Rattle.column.specs.declared.packet.Packet.TheVariants.{Acknowledgement}
use Rattle.figure.specs.Figure.{with_sets, ack_command}
use Rattle.figure.specs.Comparison.{variables_of, Ready, repeat_ack, RepeatMakes, ack_guard_of, AckCompares}
use Rattle.figure.proofs.Refusals.{goes}
use Rattle.figure.proofs.Commands.{goal_is, guards_by}
use Rattle.figure.proofs.Owed.{struck, none_acknowledged, lowest_acknowledged, serve_all, served}

module _ (t : Tree) (i : ℕ) where
  abbrev Allowed : Column → Bool
  Allowed c = not (eqb c.owed 0) && may_acknowledge t i c

  -- the guard by the watch is document 01's condition
  guard_is : (c : Column) → Ready t i c → ack_guard_of t i c ≡ Allowed c
  guard_is c ready = go (t.watch && eqb i t.root) refl
    where
      go : (b : Bool) → (t.watch && eqb i t.root) ≡ b → ack_guard_of t i c ≡ Allowed c
      go true e = simp (e, and-false)
      go false e = simp (e, and-true, goal_is t i c ready)

  ack_refusal_lem : (c : Column) → Ready t i c → ack_refusal t i c ≡ cond (Allowed c) 0 6
  unfolding ack_refusal
  ack_refusal_lem c ready = simp (ready.good, ready.runs) (go (eqb c.owed 0) (may_acknowledge t i c))
    where
      go : (none free : Bool) → ◌≡◌ {A = ℕ} (cond none 6 (cond (not free) 6 0)) (cond (not none && free) 0 6)
      go true free = refl
      go false true = refl
      go false false = refl

  guarded : (c : Column) → Ready t i c → ack_refusal t i c ≡ cond (ack_guard_of t i c) 0 6
  guarded c ready = ack_refusal_lem c ready ∙ ap (λ (b : Bool). cond b 0 6) (sym (guard_is c ready))

  abbrev Served : ℕ → Column → Type 0
  Served n c = may_acknowledge t i c ≡ true → RepeatMakes t i c.noted (repeat_ack n t i c) (ack_command i (variables_of t i c))

  through : (n : ℕ) (c : Column) → c.owed ≡ 0 → repeat_ack n t i c ≡ record { column = c; put = []; through = true }
  unfolding repeat_ack
  through zero c none = rw none
  through (suc n) c none = rw none

  nobody_owed : (n : ℕ) (c : Column) → Ready t i c → c.owed ≡ 0 → Served n c
  unfolding ack_command
  nobody_owed n c ready none free = rw (through n c none) (record {
    through = refl;
    put = sym (none_acknowledged i (variables_of t i c) none);
    variables = ap (λ (o : ℕ). with_sets (variables_of t i c) c.send c.awaited o) none;
    keeps_noted = refl;
    keeps_running = ready.runs;
  })

  acknowledges : (c : Column) → Ready t i c → eqb c.owed 0 ≡ false → may_acknowledge t i c ≡ true
      → steps.ack t i c ≡ accepted (struck c) (Acknowledgement i (lowest c.owed) c.number ∷ []) false
  unfolding ack_effect
  acknowledges c ready some free = goes c (ack_effect i c) (rw (some, free) at (ack_refusal_lem c ready))

  one_owed : (n : ℕ) (c : Column) → Ready t i c → eqb c.owed 0 ≡ false → Served n (struck c) → Served (suc n) c
  unfolding repeat_ack ack_command
  one_owed n c ready some rest free =
      rw (some, acknowledges c ready some free) (served _ (rest free) refl (lowest_acknowledged t i c ready some))

  pub ack_compares : (c : Column) → Ready t i c → AckCompares t i c
  unfolding ack_effect
  ack_compares c ready = record {
    guards = guards_by (ack_guard_of t i c) c (ack_effect i c) (guarded c ready) (λ e. omega arith) refl;
    does = λ g. serve_all t i Served nobody_owed one_owed c ready (free (sym (guard_is c ready) ∙ g));
  }
    where
      free : Allowed c ≡ true → may_acknowledge t i c ≡ true
      free g = ((and-eq-true_iff (not (eqb c.owed 0)) (may_acknowledge t i c)).0 g).1
