-- Every move keeps the invariant. Assumes nothing.
use Prim.Native.Nat.{ℕ}
use mathlib.Core.Path.{subst}
use Rattle.column.specs.Sets.{without}
use Rattle.column.specs.Trees.{IsTree}
use Rattle.column.specs.declared.tree.Tree.{Tree}
use Rattle.column.specs.declared.packet.Packet.TheVariants.{Message, Acknowledgement}
use Rattle.agreement.proofs.relation.Model.{In, State, Taken, Becomes}
use Rattle.agreement.proofs.relation.Move.{serving, Event, Move, order, send_self, send_noted, send_message, take_acknowledgement, take_stale, take_equal, take_lower, take_left, take_higher, acknowledge, widen, note_awaited, note_other, halt, back}
use Rattle.agreement.proofs.invariant.Invariant.{Invariant}
use Rattle.agreement.proofs.invariant.Serving.{keep_send_self, keep_send_noted, keep_send_message, keep_note_awaited, keep_note_other}
use Rattle.agreement.proofs.invariant.Taking.{keep_take_acknowledgement, keep_take_stale, keep_take_equal, keep_take_lower, keep_take_left, keep_acknowledge, keep_widen}
use Rattle.agreement.proofs.invariant.RecordMoves.{keep_order, keep_take_higher, keep_halt}
use Rattle.agreement.proofs.invariant.BackKept.{back_invariant}

pub kept : {t : Tree} {s s' : State} {e : Event} → IsTree t → Invariant t s → Move t s s' e → Invariant t s'
kept {t} tree inv (order d r idle free b) = keep_order t tree d inv r idle free b
kept {t} {s} {s'} tree inv (send_self a x r e m b) = keep_send_self t tree a inv r (subst (In (s.columns a).send) e m)
    (subst (λ (y : ℕ). Becomes s s' a (serving (s.columns a) (without (s.columns a).send y) (s.columns a).awaited) s.network s.orders) e b)
kept {t} tree inv (send_noted a x r m n b) = keep_send_noted t tree a inv r x m n b
kept {t} tree inv (send_message a x r e m n b) = keep_send_message t tree a inv r x e m n b
kept {t} {s} tree inv (take_acknowledgement a q k {l} r e taken b) =
    keep_take_acknowledgement t tree a inv r q (subst (λ (y : ℕ). Taken s.network (Acknowledgement q a y) l) e taken) b
kept {t} tree inv (take_stale a q k r n taken b) = keep_take_stale t tree a inv r q k n taken b
kept {t} {s} tree inv (take_equal a q k d {l} r e taken b) =
    keep_take_equal t tree a inv r q d (subst (λ (y : ℕ). Taken s.network (Message q a y d) l) e taken) b
kept {t} tree inv (take_lower a q k d r lt taken b) = keep_take_lower t tree a inv r q k d lt taken b
kept {t} tree inv (take_left a q k d x r lt taken m b) = keep_take_left t tree a inv r q k d x lt taken m b
kept {t} tree inv (take_higher a q k d r lt taken e b) = keep_take_higher t tree a inv r q k d lt taken e b
kept {t} tree inv (acknowledge a x r m o b) = keep_acknowledge t tree a inv r x m o b
kept {t} tree inv (widen a r n m w idle b) = keep_widen t tree a inv r n m w idle b
kept {t} tree inv (note_awaited a j r _ n m b) = keep_note_awaited t tree a inv r j n m b
kept {t} tree inv (note_other a j r _ n m _ b) = keep_note_other t tree a inv r j n m b
kept {t} tree inv (halt a r b) = keep_halt t tree a inv r b
kept {t} tree inv (back j l noted rest h n nr r k b) = back_invariant t tree j l noted inv rest h n nr r k b
