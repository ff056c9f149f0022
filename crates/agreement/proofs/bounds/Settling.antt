-- Of the moves after a reached state, halts among them but neither an order nor a return, at most 9 N (N - 1) are no halts: each of those
-- lowers the potential.
-- Assumes nothing.
use Prim.Native.Nat.{ℕ, zero, suc, ◌≤◌, ◌<◌}
use native.Mathlib.Omega.{arith}
use mathlib.Core.Path.{◌≡◌, sym, subst}
use mathlib.Core.Bool.{Bool, true, false, true≢false}
use borrow.Author.Tests.{ne_eqb}
use Rattle.column.specs.Sets.{single, without}
use Rattle.column.specs.Trees.{IsTree, children}
use Rattle.column.specs.declared.tree.Tree.{Tree}
use Rattle.agreement.specs.Dispatching.{step_bound}
use Rattle.agreement.proofs.relation.Model.{In, State, Runs, Becomes}
use Rattle.agreement.proofs.relation.Move.{renewed, serving, Event, orders, sends, takes, acknowledges, widens, notes, halts, backs, Move, order, send_self, send_noted, send_message, take_acknowledgement, take_stale, take_equal, take_lower, take_left, take_higher, acknowledge, widen, note_awaited, note_other, halt, back}
use Rattle.agreement.proofs.invariant.Invariant.{Invariant}
use Rattle.agreement.proofs.invariant.Links.{receiver_other}
use Rattle.agreement.proofs.invariant.InvariantKept.{kept}
use Rattle.agreement.proofs.invariant.Validity.{Validity, validity_kept}
use Rattle.agreement.proofs.bounds.SpreadKept.{AllSpread}
use Rattle.agreement.proofs.bounds.Bounded.{Bounded}
use Rattle.agreement.proofs.bounds.BoundedKept.{bounded_kept}
use Rattle.agreement.proofs.bounds.Potential.{potential}
use Rattle.agreement.proofs.bounds.Falling.{fall_answer, fall_acknowledgement, fall_stale, fall_equal, fall_lower, fall_self, fall_noted, fall_message, fall_note_awaited, fall_note_other, fall_higher, fall_widen, rise_halt}
use Rattle.agreement.proofs.bounds.Ceiling.{ceiling}

-- a move that brings the bank nearer to rest
abbrev pub settling : Event → Bool
settling (orders d) = false
settling (sends a x) = true
settling (takes p o) = true
settling (acknowledges a r) = true
settling (widens a) = true
settling (notes a j) = true
settling (halts a) = false
settling (backs j l) = false

-- what holds of every reached state, whoever is watched
pub record Good (t : Tree) (s : State) : Type 0 where
  pub invariant : Invariant t s
  pub validity : Validity t s
  pub bounded : Bounded t s

module _ (t : Tree) (tree : IsTree t) {s s' : State} (inv : Invariant t s) (validity : Validity t s) (spreads : AllSpread t s) where
  pub fall : {e : Event} → Move t s s' e → settling e ≡ true → potential t s' < potential t s
  fall (order d r idle free b) e = absurd (true≢false (sym e))
  fall (send_self a x r z m b) e = fall_self t tree a inv r (spreads a r) (subst (In (s.columns a).send) z m)
      (subst (λ (y : ℕ). Becomes s s' a (serving (s.columns a) (without (s.columns a).send y) (s.columns a).awaited) s.network s.orders) z b)
  fall (send_noted a x r m k b) e = fall_noted t tree a inv r x (spreads a r)
      (λ z. (inv.coverages a r).noted_halted x k (subst (Runs s) (sym z) r)) m b
  fall (send_message a x r ne m k b) e = fall_message t tree a inv r x (spreads a r) ne m b
  fall (take_acknowledgement a q k r z taken b) e = fall_acknowledgement t tree a inv r q k taken b
  fall (take_stale a q k r z taken b) e = fall_stale t tree a inv r q k taken b
  fall (take_equal a q k d r z taken b) e = fall_equal t tree a inv r q k d taken b
  fall (take_lower a q k d r z taken b) e = fall_lower t tree a inv r q k d taken b
  fall (take_left a q k d x r z taken m b) e = fall_answer t tree a inv r x validity m b
  fall (take_higher a q k d {l} r z taken none b) e = fall_higher t tree a inv r q k d z taken
      (subst (λ (w : Bool). Becomes s s' a (renewed (s.columns a) k d (children t a) 0 (single q) w q) l s.orders)
      (ne_eqb a t.root (receiver_other t inv a r z taken)) b)
  fall (acknowledge a x r m z b) e = fall_answer t tree a inv r x validity m b
  fall (widen a r ne m w idle b) e = fall_widen t tree a inv r ne w b
  fall (note_awaited a j r l h m b) e = fall_note_awaited t tree a inv r j l h m b
  fall (note_other a j r l h m new b) e = fall_note_other t tree a inv r j l h new b
  fall (halt a r b) e = absurd (true≢false (sym e))
  fall (back j l noted rest h n nr r k b) e = absurd (true≢false (sym e))

  pub halt_stays : {a : ℕ} → Move t s s' (halts a) → potential t s' ≤ potential t s
  halt_stays (halt a r b) = rise_halt t tree a inv r b

-- ---- lists of moves

-- moves from s to s', none of which is an order or a return; n of them are no halts
pub data Moves (t : Tree) (s' : State) : State → ℕ → Type 0 where
  none : Moves t s' s' zero
  settles : {s m : State} {e : Event} {n : ℕ} → Move t s m e → settling e ≡ true → Moves t s' m n → Moves t s' s (suc n)
  stops : {s m : State} {a n : ℕ} → Move t s m (halts a) → Moves t s' m n → Moves t s' s n

module _ (t : Tree) (tree : IsTree t) where
  pub good : {s m : State} {e : Event} → Good t s → Move t s m e → Good t m
  good g k = record { invariant = kept tree g.invariant k; validity = validity_kept tree g.invariant g.validity k; bounded = bounded_kept tree g.invariant g.bounded k }

  pub few : {s' s : State} {n : ℕ} → Good t s → Moves t s' s n → n ≤ potential t s
  few g none = omega arith
  few g (settles k e l) = omega (arith, fall t tree g.invariant g.validity g.bounded.spreads k e, few (good g k) l)
  few g (stops k l) = omega (arith, halt_stays t tree g.invariant g.validity g.bounded.spreads k, few (good g k) l)

  -- "a bank of N columns rests within 9 times N squared less 5 times N steps", whichever steps are taken
  pub rests_within : {s' s : State} {n : ℕ} → Good t s → Moves t s' s n → n ≤ step_bound t.columns
  rests_within g l = omega (arith, few g l, ceiling t tree g.invariant g.validity g.bounded)
