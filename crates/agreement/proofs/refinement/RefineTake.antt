-- Every accepted step of the bank that takes packets off, take and halt, is a move of the model. Assumes nothing.
use Prim.Native.Nat.{ℕ, zero, suc, ◌+◌, ◌<◌}
use mathlib.Core.Path.{◌≡◌, refl, sym, ap, subst, ◌∙◌}
use mathlib.Core.Logic.{◌≢◌}
use mathlib.Core.Bool.{Bool, true, false, cond, and-false}
use mathlib.Core.List.{List, [], ◌∷◌, ◌++◌}
use native.Mathlib.Omega.{arith}
use native.Mathlib.Numerals.{add-one}
use lib.Dec.{eqb, ltb, leb}
use lib.ListN.{length, get_or, take, drop}
use borrow.Author.Tests.{eqb-true, eqb-false, ltb-true, ltb-false, leb-false}
use Rattle.column.specs.Refusals as refusals
use Rattle.column.specs.laws.RefusalLaws.{passed, earlier_none}
use Rattle.column.specs.Sets.{single, insert, without, lowest}
use Rattle.column.specs.Trees.{children}
use Rattle.column.specs.Columns.{record_received, with_sets, with_pending, plain, numbers}
use Rattle.column.specs.Packets.{receiver, number_of}
use Rattle.column.specs.laws.StateLaws.{Acceptable, acceptable}
use Rattle.column.specs.Steps as core
use Rattle.column.specs.Steps.{take_refusal, message_effect, receive_effect, acknowledgement_effect, halt_refusal, halt_effect}
use Rattle.column.specs.declared.tree.Tree.{Tree}
use Rattle.column.specs.declared.state.Column.{Column}
use Rattle.column.specs.declared.packet.Packet.{Packet}
use Rattle.column.specs.declared.packet.Packet.TheVariants.{Message, Acknowledgement}
use Rattle.bank.specs.laws.WordLaws.{fits_of}
use Rattle.bank.specs.Banks.{State, column_at, runs, packet_at, bank_refusal, acting_refusal, Whole}
use Rattle.bank.specs.Networks.{removed, only, vanished}
use Rattle.bank.specs.laws.NetworkLaws.{packets_of, packets_length, packet_at_lem, removed_meant, removed_whole, vanished_meant, vanished_whole, others}
use Rattle.bank.specs.laws.ValidityLaws.{Valid, valid, acting}
use Rattle.bank.specs.Steps as bank
use Rattle.bank.specs.Steps.{settled, delivered}
use Rattle.bank.specs.Strips.{halt_one}
use Rattle.agreement.specs.Returning.{Formed}
use Rattle.agreement.proofs.relation.Model.{Runs, Taken, first, later, Becomes}
use Rattle.agreement.proofs.relation.Move as move
use Rattle.agreement.proofs.relation.Conditions.{empty, halt_in}
use Rattle.agreement.proofs.relation.View.{view, model_of}
use Rattle.agreement.proofs.refinement.RefineCommon.{Refines, refines_unless, refines_core, refines_quiet, refines_put}
use Rattle.agreement.proofs.refinement.RefineOwn.{model_runs, column_small, refines_acknowledgement}

pub taken_place : (l : List Packet) (place : ℕ) (d : Packet) → place < length l → Taken l (get_or l place d) (take place l ++ drop (suc place) l)
taken_place [] place d h = absurd (omega arith)
taken_place (p ∷ l) zero d h = first
taken_place (p ∷ l) (suc place) d h = later (taken_place l place d (omega arith))

module _ (s : State) (formed : Formed s) (orders : List ℕ) where
  abbrev t : Tree
  t = s.bank.tree

  -- ---- take

  -- what is known of the packet p at a place
  record Arrived (place : ℕ) (p : Packet) : Type 0 where
    bank_valid : Valid s
    sound : Acceptable t p
    runs_there : runs s.bank (receiver p) ≡ true
    taken : Taken (packets_of s) p (packets_of (removed s place))
    number_fits : number_of p < numbers

  module _ (place : ℕ) (gone_whole : Whole (removed s place)) where
    -- a message: equal, lower, higher and left, higher and received
    message : (q a k d : ℕ) → Arrived place (Message q a k d)
        → Refines s orders orders (move.takes (Message q a k d) (lowest (column_at s.bank a).owed)) (settled s (removed s place) a (message_effect t a (column_at s.bank a) q k d))
    unfolding message_effect receive_effect
    message q a k d z = go (eqb k c.number) (ltb k c.number) (eqb c.owed 0) refl refl refl
      where
        c : Column
        c = column_at s.bank a

        e : move.Event
        e = move.takes (Message q a k d) (lowest c.owed)

        st : Valid s
        st = z.bank_valid

        below : a < t.columns
        below = z.sound.receiver_below

        from_below : q < t.columns
        from_below = z.sound.sender_below

        runs_model : Runs (model_of s orders) a
        runs_model = model_runs s st a below orders z.runs_there

        higher : eqb k c.number ≡ false → ltb k c.number ≡ false → c.number < k
        higher x y = let n : k ≢ c.number = eqb-false k c.number x in omega (arith, ltb-false k c.number y)

        go : (equal lower free : Bool) → eqb k c.number ≡ equal → ltb k c.number ≡ lower → eqb c.owed 0 ≡ free
            → Refines s orders orders e (settled s (removed s place) a
            (cond equal (core.accepted (with_sets c c.send c.awaited (insert c.owed q)) [] false)
            (cond lower (core.accepted c (Acknowledgement a q k ∷ []) false)
            (cond free (core.accepted (with_pending (move.renewed c k d (children t a) 0 (single q) (eqb a t.root) q) record_received) [] false) (core.acknowledge_lowest a c true)))))
        go true lower free x y w =
            refines_quiet s formed st a below _ (formed.numbers_fit a) (removed s place) refl refl gone_whole orders orders e
            (λ s' b. move.take_equal a q k d runs_model (eqb-true k c.number x) z.taken b)
        go false true free x y w =
            refines_put s formed st a below c (formed.numbers_fit a) (removed s place) refl refl gone_whole orders orders e
            (Acknowledgement a q k)
            (record { sender_lt = column_small s st a below; receiver_lt = column_small s st q from_below; number_lt = z.number_fits })
            from_below z.sound.apart
            (λ s' b. move.take_lower a q k d runs_model (ltb-true k c.number y) z.taken b)
        go false false true x y w =
            refines_quiet s formed st a below _ z.number_fits (removed s place) refl refl gone_whole orders orders e
            (λ s' b. move.take_higher a q k d runs_model (higher x y) z.taken (empty (eqb-true c.owed 0 w)) b)
        go false false false x y w =
            refines_acknowledgement s formed orders a (removed s place) true refl st below (eqb-false c.owed 0 w) e
            (λ s' m b. move.take_left a q k d (lowest c.owed) runs_model (higher x y) z.taken m b)

    acknowledgement : (q a k : ℕ) → Arrived place (Acknowledgement q a k)
        → Refines s orders orders (move.takes (Acknowledgement q a k) (lowest (column_at s.bank a).owed)) (settled s (removed s place) a (acknowledgement_effect (column_at s.bank a) q k))
    unfolding acknowledgement_effect
    acknowledgement q a k z = go (eqb k c.number) refl
      where
        c : Column
        c = column_at s.bank a

        e : move.Event
        e = move.takes (Acknowledgement q a k) (lowest c.owed)

        below : a < t.columns
        below = z.sound.receiver_below

        runs_model : Runs (model_of s orders) a
        runs_model = model_runs s z.bank_valid a below orders z.runs_there

        go : (equal : Bool) → eqb k c.number ≡ equal → Refines s orders orders e (settled s (removed s place) a
            (cond equal (core.accepted (with_sets c c.send (without c.awaited q) c.owed) [] false) (core.accepted c [] false)))
        go true x =
            refines_quiet s formed z.bank_valid a below _ (formed.numbers_fit a) (removed s place) refl refl gone_whole orders orders e
            (λ s' b. move.take_acknowledgement a q k runs_model (eqb-true k c.number x) z.taken b)
        go false x =
            refines_quiet s formed z.bank_valid a below c (formed.numbers_fit a) (removed s place) refl refl gone_whole orders orders e
            (λ s' b. move.take_stale a q k runs_model (eqb-false k c.number x) z.taken b)

    arrives : (p : Packet) → Arrived place p → Refines s orders orders (move.takes p (lowest (column_at s.bank (receiver p)).owed)) (delivered s place p)
    unfolding delivered
    arrives (Message q a k d) z =
        refines_core s orders orders (move.takes (Message q a k d) (lowest (column_at s.bank a).owed)) (removed s place) a
        (take_refusal t a (column_at s.bank a) (Message q a k d)) (column_at s.bank a) _ (λ h. message q a k d z)
    arrives (Acknowledgement q a k) z =
        refines_core s orders orders (move.takes (Acknowledgement q a k) (lowest (column_at s.bank a).owed)) (removed s place) a
        (take_refusal t a (column_at s.bank a) (Acknowledgement q a k)) (column_at s.bank a) _ (λ h. acknowledgement q a k z)

  pub refines_take : (place : ℕ) → Refines s orders orders (move.takes (packet_at s place) (lowest (column_at s.bank (receiver (packet_at s place))).owed)) (bank.take s place)
  refines_take place =
      refines_unless s orders orders (move.takes (packet_at s place) (lowest (column_at s.bank (receiver (packet_at s place))).owed)) (bank.take_refusal s place) _ (λ ok.
      let q = earlier_none (bank_refusal s) (refusals.first ((10, leb s.bank.count place) ∷ [])) ok in
      let st = valid s q.0 in
      let held = leb-false s.bank.count place (passed ((10, leb s.bank.count place) ∷ []) tt q.1).0 in
      let w = formed.whole in
      arrives place (removed_whole s w place held st.room) (packet_at s place) (record {
        bank_valid = st;
        sound = acceptable t (packet_at s place) (st.packets place held);
        runs_there = st.receivers place held;
        taken = there place st held;
        number_fits = (fits_of (get_or s.heads place 0) (get_or s.doors place 0)).number_lt;
      }))
    where
      there : (place : ℕ) → Valid s → place < s.bank.count → Taken (packets_of s) (packet_at s place) (packets_of (removed s place))
      there place st held =
          let w = formed.whole in
          let p = packet_at s place in
          subst (λ (l : List Packet). Taken (packets_of s) p l) (sym (removed_meant s w place held st.room))
          (subst (λ (x : Packet). Taken (packets_of s) x (take place (packets_of s) ++ drop (place + 1) (packets_of s)))
          (packet_at_lem s w place p held st.room)
          (rw (add-one place) (taken_place (packets_of s) place p (omega (arith, held, packets_length s w st.room)))))

  -- ---- halt

  pub refines_halt : (i : ℕ) → Refines s orders orders (move.halts i) (halt_one s i)
  unfolding halt_effect vanished
  refines_halt i =
      refines_unless s orders orders (move.halts i) (acting_refusal s i) _ (λ ok.
      refines_core s orders orders (move.halts i) (vanished s (only i)) i (halt_refusal t i c) c (halt_effect c) (λ free.
      let st = (acting s i ok).0 in
      let below = (acting s i ok).1 in
      refines_quiet s formed st i below _ (formed.numbers_fit i) (vanished s (only i)) refl refl (vanished_whole s formed.whole (only i) st.room) orders orders (move.halts i)
      (λ s' z. move.halt i (model_runs s st i below orders (halt_in t i c free)) (stops s' z))))
    where
      c : Column
      c = column_at s.bank i

      stops : (s' : State) → Becomes (model_of s orders) (model_of s' orders) i (view t i (move.halted c)) (packets_of (vanished s (only i))) orders
          → Becomes (model_of s orders) (model_of s' orders) i (move.halted (view t i c)) (others i (packets_of s)) orders
      stops s' z = record {
        mine = z.mine ∙ ap (λ (r : Bool). move.with_running r (plain c)) (and-false (ltb i t.columns));
        same = z.same;
        packets = z.packets ∙ vanished_meant s formed.whole i;
        told = z.told;
      }
