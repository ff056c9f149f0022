-- The packet that a step puts is one that the writer gives and the reader reads; and the steps that are not lent its place put none. Assumes nothing.
use Rattle.std.specs.Prelude.{ℕ, zero, suc, ◌^◌, ◌<◌, ◌≡◌, Bool, cond, ltb}
use Rattle.std.proofs.Math.Path.{refl}
use Rattle.std.proofs.Common.{sym, ap, ◌∙◌, true≢false, arith}
use Rattle.std.proofs.Math.Bool.{true, false}
use mathlib.Core.List.{List, [], ◌∷◌}
use Rattle.std.proofs.Math.Dec.{eqb}
use borrow.Author.Tests.{eqb-true, eqb-false, not-false}
use Rattle.column.specs.laws.RefusalLaws.{passed, earlier_none}
use Rattle.column.specs.Refusals.{first, earlier}
use Rattle.column.specs.Sets.{has, lowest}
use Rattle.column.specs.laws.Digits.{lowest_member}
use Rattle.column.specs.Trees.{choose}
use Rattle.column.proofs.laws.ChoiceLaws.{choose_lt}
use Rattle.column.specs.Columns.{validity_refusal}
use Rattle.column.specs.Packets.{good_ends, bytes_of, wrote, write}
use Rattle.column.specs.laws.PacketLaws.{write_good, ends_good}
use Rattle.column.specs.laws.NumberLaws.{Bytes}
use Rattle.column.specs.laws.StateLaws.{Masks, acceptable, validity_refusal_tree, validity_refusal_sound, validity_refusal_sixteen, validity_refusal_column, validity_refusal_send}
use Rattle.column.specs.Pages.{write_refusal, written}
use Rattle.column.specs.Returns.{struck}
use Rattle.column.specs.Steps.{send_conditions, send_refusal, send_effect, ack_conditions, ack_refusal, ack_effect, acknowledge_lowest, packet_refusal, take_conditions, take_refusal, message_effect, receive_effect, acknowledgement_effect, order_effect, all_effect, note_effect, halt_effect}
use Rattle.column.specs.Steps as core
use Rattle.column.specs.declared.tree.Tree.{Tree}
use Rattle.column.specs.declared.state.Column.{Column}
use Rattle.column.specs.declared.packet.Packet.{Packet}
use Rattle.column.specs.declared.packet.Packet.TheVariants.{Message, Acknowledgement}
use Rattle.firmware.specs.declared.lone.QuietStep.{QuietStep}
use Rattle.firmware.specs.declared.lone.QuietStep.TheVariants.{Order, All, Note, Halt, Write, Rejoin, Strike}
use Rattle.firmware.specs.declared.lone.PuttingStep.{PuttingStep}
use Rattle.firmware.specs.declared.lone.PuttingStep.TheVariants.{Send, Take, Ack, Next}
use Rattle.firmware.specs.Blocks.{column_in}
use Rattle.firmware.proofs.laws.BlockLaws.{block_column_fits}
use Rattle.firmware.specs.LoneSteps.{or_else, next, rejoin_refusal, rejoin_effect, strike_refusal}
use Rattle.firmware.specs.inner.StepCalls.{quiet_of, putting_of}

-- what a step puts, if anything, has good ends
abbrev pub Writable : core.Result → Type 0
Writable (core.accepted c [] left) = Unit {0}
Writable (core.accepted c (p ∷ ps) left) = good_ends p ≡ true
Writable (core.refused n c) = Unit {0}

-- such a packet is what the writer gives
pub put_written : (c : Column) (p : Packet) (ps : List Packet) (left : Bool) → Writable (core.accepted c (p ∷ ps) left) → write p ≡ wrote (bytes_of p)
put_written c p ps left good = write_good p good

-- nothing is put, and no packet left in its place
abbrev pub Silent : core.Result → Type 0
Silent (core.accepted c [] left) = left ≡ false
Silent (core.accepted c (p ∷ ps) left) = ⊥
Silent (core.refused n c) = Unit {0}

-- every block means a column whose sets are masks of sixteen
pub block_masks : (s : List ℕ) → Bytes s → Masks (column_in s)
block_masks s h =
    let f = block_column_fits s h in
    record { send = f.send; awaited = f.awaited; owed = f.owed; noted = f.noted }

unless_writable : (n : ℕ) (c : Column) (effect : core.Result) → (n ≡ 0 → Writable effect) → Writable (core.unless n c effect)
unless_writable n c effect h = go (eqb n 0) refl
  where
    go : (b : Bool) → eqb n 0 ≡ b → Writable (cond b effect (core.refused n c))
    go true e = h (eqb-true n 0 e)
    go false e = tt

unless_silent : (n : ℕ) (c : Column) (effect : core.Result) → Silent effect → Silent (core.unless n c effect)
unless_silent n c effect h = go (eqb n 0)
  where
    go : (b : Bool) → Silent (cond b effect (core.refused n c))
    go true = h
    go false = tt

pub some_of : (n : ℕ) → eqb n 0 ≡ false → 0 < n
some_of zero e = absurd (eqb-false 0 0 e refl)
some_of (suc n) e = omega arith

module _ (t : Tree) (i : ℕ) (c : Column) where
  lowest_writable : validity_refusal t i c ≡ 0 → c.owed < 2 ^ 16 → 0 < c.owed → (left : Bool) → Writable (acknowledge_lowest i c left)
  lowest_writable good h some left =
      let s = validity_refusal_sound t i c good in
      let k = lowest c.owed in
      let m = lowest_member 16 c.owed h some in
      ends_good (Acknowledgement i k c.number) (validity_refusal_column t i c good) (omega (arith, s.owed_below k m, validity_refusal_sixteen t i c good))
      (λ e. true≢false (sym m ∙ ap (has c.owed) (sym e) ∙ s.owes_others))

  send_writable : Writable (core.send t i c)
  unfolding send_refusal send_effect
  send_writable = unless_writable (send_refusal t i c) c (send_effect t i c) (λ z. go (earlier_none (validity_refusal t i c) (first (send_conditions t i c)) z))
    where
      each : (k n d : ℕ) (x y z : Column) (a b : Bool) → i < 16 → k < 16 → eqb k i ≡ a
          → Writable (cond a (core.accepted x [] false) (cond b (core.accepted y [] false) (core.accepted z (Message i k n d ∷ []) false)))
      each k n d x y z true b h l e = tt
      each k n d x y z false true h l e = tt
      each k n d x y z false false h l e = ends_good (Message i k n d) h l (λ q. eqb-false k i e (sym q))

      go : (validity_refusal t i c ≡ 0) × (first (send_conditions t i c) ≡ 0) → Writable (send_effect t i c)
      go e =
          let some = some_of c.send (passed (send_conditions t i c) tt e.1).1.0 in
          let below = choose_lt t (validity_refusal_tree t i c e.0) c.send (validity_refusal_send t i c e.0) some in
          each (choose t c.send) c.number c.doors _ _ _ (eqb (choose t c.send) i) (has c.noted (choose t c.send))
          (validity_refusal_column t i c e.0) (omega (arith, below, validity_refusal_sixteen t i c e.0)) refl

  ack_writable : Masks c → Writable (core.ack t i c)
  unfolding ack_refusal ack_effect
  ack_writable m = unless_writable (ack_refusal t i c) c (ack_effect i c) (λ z. go (earlier_none (validity_refusal t i c) (first (ack_conditions t i c)) z))
    where
      go : (validity_refusal t i c ≡ 0) × (first (ack_conditions t i c) ≡ 0) → Writable (ack_effect i c)
      go e = lowest_writable e.0 m.owed (some_of c.owed (passed (ack_conditions t i c) tt e.1).1.0) false

  take_writable : Masks c → (p : Packet) → Writable (core.take t i c p)
  unfolding take_refusal message_effect receive_effect acknowledgement_effect
  take_writable m (Acknowledgement from to number) =
      unless_writable (take_refusal t i c (Acknowledgement from to number)) c (acknowledgement_effect c from number) (λ z. each _ _ (eqb number c.number))
    where
      each : (x y : Column) (a : Bool) → Writable (cond a (core.accepted x [] false) (core.accepted y [] false))
      each x y true = tt
      each x y false = tt
  take_writable m (Message from to number doors) =
      unless_writable (take_refusal t i c (Message from to number doors)) c (message_effect t i c from number doors) (λ z. go (earlier_none (validity_refusal t i c) _ z))
    where
      each : (x y : Column) (a b d : Bool) → validity_refusal t i c ≡ 0 → eqb c.owed 0 ≡ d → good_ends (Acknowledgement i from number) ≡ true
          → Writable (cond a (core.accepted x [] false) (cond b (core.accepted c (Acknowledgement i from number ∷ []) false) (cond d (core.accepted y [] false) (acknowledge_lowest i c true))))
      each x y true b d good e g = tt
      each x y false true d good e g = g
      each x y false false true good e g = tt
      each x y false false false good e g = lowest_writable good m.owed (some_of c.owed e) true

      go : (validity_refusal t i c ≡ 0) × (earlier (packet_refusal t (Message from to number doors)) (first (take_conditions t i c (Message from to number doors))) ≡ 0)
          → Writable (message_effect t i c from number doors)
      go e =
          let p = Message from to number doors in
          let rest = earlier_none (packet_refusal t p) (first (take_conditions t i c p)) e.1 in
          let a = acceptable t p rest.0 in
          let own : to ≡ i = eqb-true to i (not-false (eqb to i) (passed (take_conditions t i c p) tt rest.1).0) in
          each _ _ (eqb number c.number) (ltb number c.number) (eqb c.owed 0) e.0 refl
          (ends_good (Acknowledgement i from number) (validity_refusal_column t i c e.0) (omega (arith, a.sender_below, validity_refusal_sixteen t i c e.0)) (λ q. a.apart (sym q ∙ sym own)))

  next_writable : Masks c → Writable (next t i c)
  unfolding or_else all_effect
  next_writable m = first_of (core.send t i c) _ send_writable (first_of (core.ack t i c) (core.all t i c) (ack_writable m) all_writable)
    where
      first_of : (x y : core.Result) → Writable x → Writable y → Writable (or_else x y)
      first_of (core.accepted d ps left) y h k = h
      first_of (core.refused n d) y h k = k

      all_writable : Writable (core.all t i c)
      all_writable = unless_writable (core.all_refusal t i c) c (all_effect t c) (λ z. tt)

  -- every step that is lent a packet's place
  pub putting_writable : Masks c → (x : PuttingStep) → Writable (putting_of x t i c)
  putting_writable m Send = send_writable
  putting_writable m (Take p) = take_writable m p
  putting_writable m Ack = ack_writable m
  putting_writable m Next = next_writable m

  -- the others put nothing
  pub quiet_silent : (x : QuietStep) → Silent (quiet_of x t i c)
  unfolding order_effect all_effect note_effect halt_effect rejoin_effect
  quiet_silent (Order doors) = unless_silent (core.order_refusal t i c) c (order_effect t i c doors) refl
  quiet_silent All = unless_silent (core.all_refusal t i c) c (all_effect t c) refl
  quiet_silent (Note j) = unless_silent (core.note_refusal t i c j) c (note_effect t c j) refl
  quiet_silent Halt = unless_silent (core.halt_refusal t i c) c (halt_effect c) refl
  quiet_silent (Write offset value) = unless_silent (write_refusal t i c offset) c (core.accepted (written c offset value) [] false) refl
  quiet_silent (Rejoin back) = unless_silent (rejoin_refusal t i c back.copied back.halted) c (rejoin_effect t c back.copied back.number back.doors back.halted) refl
  quiet_silent (Strike back) = unless_silent (strike_refusal t i c back) c (core.accepted (struck c back) [] false) refl
