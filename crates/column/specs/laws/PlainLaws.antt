-- No step of a column goes by its mask or by what is pending: with others it is refused by the same number, puts the same packets, and leaves
-- the same column but for these two. Assumes nothing.
use Rattle.std.specs.Prelude.{ℕ, ◌≡◌, Bool, true, false, cond, eqb, ltb}
use Rattle.std.proofs.Math.Path.{refl}
use Rattle.column.specs.Sets.{has}
use Rattle.column.specs.Trees.{choose}
use Rattle.column.specs.Columns.{state_refusal, plain}
use Rattle.column.specs.Steps.{Result, accepted, refused, unless, order_refusal, order_effect, order, send_refusal, send_effect, send, take_refusal, acknowledgement_effect, receive_effect, message_effect, take_effect, take, ack_refusal, ack_effect, ack, all_refusal, all_effect, all, note_refusal, note_effect}
use Rattle.column.specs.declared.tree.Tree.{Tree}
use Rattle.column.specs.declared.state.Column.{Column}
use Rattle.column.specs.declared.packet.Packet.{Packet}
use Rattle.column.specs.declared.packet.Packet.TheVariants.{Message, Acknowledgement}

-- a step's result without the mask and what is pending
abbrev pub plain_result : Result → Result
plain_result (accepted c packets left) = accepted (plain c) packets left
plain_result (refused n c) = refused n (plain c)

abbrev pub Same : Result → Result → Type 0
Same r q = plain_result r ≡ plain_result q

same_cond : (b : Bool) (r q r' q' : Result) → Same r r' → Same q q' → Same (cond b r q) (cond b r' q')
same_cond true r q r' q' h k = h
same_cond false r q r' q' h k = k

pub same_unless : (n : ℕ) (c : Column) (r r' : Result) → Same r r' → Same (unless n (plain c) r) (unless n c r')
same_unless n c r r' h = same_cond (eqb n 0) _ _ _ _ h refl

module _ (t : Tree) (i : ℕ) (c : Column) where
  pub order_plain : (doors : ℕ) → Same (order t i (plain c) doors) (order t i c doors)
  unfolding order_refusal order_effect state_refusal
  order_plain doors = same_unless (order_refusal t i c) c _ _ refl

  pub send_plain : Same (send t i (plain c)) (send t i c)
  unfolding send_refusal send_effect state_refusal
  send_plain = same_unless (send_refusal t i c) c _ _
      (same_cond (eqb (choose t c.send) i) _ _ _ _ refl (same_cond (has c.noted (choose t c.send)) _ _ _ _ refl refl))

  effect_plain : (p : Packet) → Same (take_effect t i (plain c) p) (take_effect t i c p)
  unfolding message_effect receive_effect acknowledgement_effect
  effect_plain (Message from to number doors) =
      same_cond (eqb number c.number) _ _ _ _ refl
      (same_cond (ltb number c.number) _ _ _ _ refl (same_cond (eqb c.owed 0) _ _ _ _ refl refl))
  effect_plain (Acknowledgement from to number) = same_cond (eqb number c.number) _ _ _ _ refl refl

  pub take_plain : (p : Packet) → Same (take t i (plain c) p) (take t i c p)
  unfolding take_refusal state_refusal
  take_plain p = same_unless (take_refusal t i c p) c _ _ (effect_plain p)

  pub ack_plain : Same (ack t i (plain c)) (ack t i c)
  unfolding ack_refusal ack_effect state_refusal
  ack_plain = same_unless (ack_refusal t i c) c _ _ refl

  pub all_plain : Same (all t i (plain c)) (all t i c)
  unfolding all_refusal all_effect state_refusal
  all_plain = same_unless (all_refusal t i c) c _ _ refl

  pub note_plain : (n j : ℕ) → Same (unless n (plain c) (note_effect t (plain c) j)) (unless n c (note_effect t c j))
  unfolding note_effect
  note_plain n j = same_unless n c _ _ refl

  pub note_refusal_plain : (j : ℕ) → note_refusal t i (plain c) j ≡ note_refusal t i c j
  unfolding note_refusal state_refusal
  note_refusal_plain j = refl
