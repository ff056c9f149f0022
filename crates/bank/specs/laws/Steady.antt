-- What a step of the core leaves alone, and whom its packet is for: the column runs on as it did, and the addressee is a column of the bank.
-- Assumes nothing.
use Rattle.std.specs.Prelude.{ℕ, ◌<◌, ◌≡◌, refl, Bool, true, false, cond, eqb, ltb}
use Rattle.std.proofs.Common.{arith, lt_of_lt_of_le, pow_mono}
use borrow.Author.Tests.{eqb-true, eqb-false, not-false}
use Rattle.column.specs.Sets.{has, lowest, within}
use Rattle.column.specs.laws.SetLaws.{within_lt}
use Rattle.column.specs.laws.Digits.{lowest_member}
use Rattle.column.specs.Trees.{tree_refusal, choose}
use Rattle.column.proofs.laws.ChoiceLaws.{choose_lt}
use Rattle.column.specs.Refusals.{first}
use Rattle.column.specs.laws.RefusalLaws.{passed, earlier_none}
use Rattle.column.specs.Columns.{state_conditions, state_refusal, validity_refusal}
use Rattle.column.specs.laws.StateLaws.{acceptable, validity_refusal_tree, validity_refusal_sixteen, validity_refusal_send, validity_refusal_sound}
use Rattle.column.specs.Steps as core
use Rattle.column.specs.declared.tree.Tree.{Tree}
use Rattle.column.specs.declared.state.Column.{Column}
use Rattle.column.specs.declared.packet.Packet.{Packet}
use Rattle.column.specs.declared.packet.Packet.TheVariants.{Message, Acknowledgement}
use Rattle.bank.specs.inner.Changes.{Steady, Aimed}

-- ---- at most one packet, and the column runs on

pub steady_cond : (b : Bool) (c : Column) (r q : core.Result) → Steady c r → Steady c q → Steady c (cond b r q)
steady_cond true c r q h k = h
steady_cond false c r q h k = k

pub steady_send : (t : Tree) (i : ℕ) (c : Column) → Steady c (core.send_effect t i c)
unfolding core.send_effect
steady_send t i c =
    steady_cond (eqb (choose t c.send) i) c _ _ refl (steady_cond (has c.noted (choose t c.send)) c _ _ refl refl)

pub steady_take : (t : Tree) (i : ℕ) (c : Column) (p : Packet) → Steady c (core.take_effect t i c p)
unfolding core.message_effect core.receive_effect core.acknowledgement_effect
steady_take t i c (Message from to number doors) =
    steady_cond (eqb number c.number) c _ _ refl (steady_cond (ltb number c.number) c _ _ refl (steady_cond (eqb c.owed 0) c _ _ refl refl))
steady_take t i c (Acknowledgement from to number) = steady_cond (eqb number c.number) c _ _ refl refl

-- ---- the addressee

module _ (t : Tree) where
  aimed_cond : (b : Bool) (r q : core.Result) → (b ≡ true → Aimed t r) → (b ≡ false → Aimed t q) → Aimed t (cond b r q)
  aimed_cond true r q h k = h refl
  aimed_cond false r q h k = k refl

  pub aimed_unless : (n : ℕ) (c : Column) (r : core.Result) → (n ≡ 0 → Aimed t r) → Aimed t (core.unless n c r)
  aimed_unless n c r h = aimed_cond (eqb n 0) r (core.refused n c) (λ e. h (eqb-true n 0 e)) (λ e. tt)

  module _ (i : ℕ) (c : Column) (good : validity_refusal t i c ≡ 0) where
    lowest_below : (eqb c.owed 0 ≡ false) → lowest c.owed < t.columns
    unfolding state_refusal
    lowest_below e =
        let p = passed (state_conditions t i c) tt (earlier_none (tree_refusal t) (state_refusal t i c) good).1 in
        let few = within_lt c.owed t.columns (not-false (within c.owed t.columns) p.1.1.1.0) in
        let some : 0 < c.owed = omega (arith, eqb-false c.owed 0 e) in
        (validity_refusal_sound t i c good).owed_below (lowest c.owed) (lowest_member 16 c.owed (lt_of_lt_of_le few (pow_mono (validity_refusal_sixteen t i c good))) some)

    pub aimed_send : Aimed t (core.send t i c)
    unfolding core.send_refusal core.send_effect
    aimed_send =
        aimed_unless (core.send_refusal t i c) c (core.send_effect t i c)
        (λ z.
        let k = choose t c.send in
        let p = passed (core.send_conditions t i c) tt (earlier_none (validity_refusal t i c) (first (core.send_conditions t i c)) z).1 in
        let some : 0 < c.send = omega (arith, eqb-false c.send 0 p.1.0) in
        aimed_cond (eqb k i) _ _ (λ e. tt) (λ e. aimed_cond (has c.noted k) _ _ (λ e. tt) (λ e. choose_lt t (validity_refusal_tree t i c good) c.send (validity_refusal_send t i c good) some)))

    pub aimed_ack : Aimed t (core.ack t i c)
    unfolding core.ack_refusal core.ack_effect
    aimed_ack =
        aimed_unless (core.ack_refusal t i c) c (core.ack_effect i c)
        (λ z. lowest_below (passed (core.ack_conditions t i c) tt (earlier_none (validity_refusal t i c) (first (core.ack_conditions t i c)) z).1).1.0)

    aimed_effect : (p : Packet) → core.packet_refusal t p ≡ 0 → Aimed t (core.take_effect t i c p)
    unfolding core.message_effect core.receive_effect core.acknowledgement_effect
    aimed_effect (Message from to number doors) fit =
        aimed_cond (eqb number c.number) _ _ (λ e. tt)
        (λ e.
        aimed_cond (ltb number c.number) _ _ (λ e. (acceptable t (Message from to number doors) fit).sender_below)
        (λ e. aimed_cond (eqb c.owed 0) _ _ (λ e. tt) lowest_below))
    aimed_effect (Acknowledgement from to number) fit = aimed_cond (eqb number c.number) _ _ (λ e. tt) (λ e. tt)

    pub aimed_take : (p : Packet) → core.packet_refusal t p ≡ 0 → Aimed t (core.take t i c p)
    aimed_take p fit = aimed_unless (core.take_refusal t i c p) c (core.take_effect t i c p) (λ z. aimed_effect p fit)
