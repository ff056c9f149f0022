-- The step order and the command of processor b, `ackfrom = Φ ∧ sendto = Φ`, to which `ackto = Φ` is added where senders are watched.
-- Assumes nothing.
use Prim.Native.Nat.{ℕ, ◌+◌}
use mathlib.Core.Path.{◌≡◌, refl, sym, ap, ◌∙◌}
use mathlib.Core.Bool.{Bool, true, false, not, ◌&&◌, cond}
use native.Mathlib.Omega.{arith}
use lib.Dec.{eqb}
use borrow.Author.Tests.{eq-eqb, ne_eqb}
use Rattle.column.specs.Sets.{single}
use Rattle.column.specs.Columns.{highest}
use Rattle.column.specs.Steps.{order_refusal, order_effect}
use Rattle.column.specs.declared.tree.Tree.{Tree}
use Rattle.column.specs.declared.state.Column.{Column}
use Rattle.figure.specs.Figure.{Variables, SUCC, broadcast_command}
use Rattle.figure.specs.Comparison.{variables_of, Ready, Makes, broadcast_guard_of, BroadcastCompares}
use Rattle.figure.proofs.Commands.{cond_rests, successors, makes_of, makes_goes, guards_by}

-- row 8: "order with the root at number 65,535", now at 4,294,967,295, which comes after row 7
abbrev last : Column → ℕ
last c = cond (eqb c.number highest) 8 0

last_other : (c : Column) → last c ≡ 7 → ⊥
last_other c = go (eqb c.number highest)
  where
    go : (b : Bool) → ◌≡◌ {A = ℕ} (cond b 8 0) 7 → ⊥
    go true e = omega arith
    go false e = omega arith

tests : (sent none clear : Bool) (n : ℕ) → cond (not (sent && none)) 7 (cond (not clear) 7 n) ≡ cond ((none && sent) && clear) n 7
tests true true true n = refl
tests true true false n = refl
tests true false clear n = refl
tests false true clear n = refl
tests false false clear n = refl

module _ (t : Tree) (i : ℕ) (c : Column) (ready : Ready t i c) (root : i ≡ t.root) where
  broadcast_refusal : order_refusal t i c ≡ cond (broadcast_guard_of t i c) (last c) 7
  unfolding order_refusal
  broadcast_refusal = go t.watch refl
    where
      go : (w : Bool) → t.watch ≡ w → order_refusal t i c ≡ cond (broadcast_guard_of t i c) (last c) 7
      go true e =
          simp (ready.good, ready.runs, e, eq-eqb i t.root root) (tests (eqb c.send 0) (eqb c.awaited 0) (eqb c.owed 0) (last c))
      go false e =
          simp (ready.good, ready.runs, e, eq-eqb i t.root root) (cond_rests (eqb c.send 0) (eqb c.awaited 0) 7 (last c))

  module _ (doors : ℕ) where
    broadcast_effect : Makes t i c.noted (order_effect t i c doors) (broadcast_command t doors (variables_of t i c))
    unfolding order_effect broadcast_command
    broadcast_effect = makes_of (ap sending (sym (successors t i) ∙ ap (λ (b : ℕ). SUCC t (single b)) root)) ready.runs
      where
        sending : ℕ → Variables
        sending s = record { seqno = c.number + 1; info = doors; sendto = s; ackfrom = c.awaited; ackto = c.owed; r = (variables_of t i c).r }

    pub broadcast_compares : BroadcastCompares t i c doors
    unfolding order_effect
    broadcast_compares = record {
      guards = guards_by (broadcast_guard_of t i c) c (order_effect t i c doors) broadcast_refusal (last_other c) refl;
      does = λ g h. makes_goes c (rw (g, ne_eqb c.number highest h) at broadcast_refusal) broadcast_effect;
    }
