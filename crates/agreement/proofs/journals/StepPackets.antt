-- The packets that a move gets and puts are those of the step. Assumes nothing.
use Prim.Native.Nat.{ℕ, ◌<◌}
use native.Mathlib.Omega.{arith}
use mathlib.Core.Path.{◌≡◌, refl, sym, ap, ◌∙◌}
use mathlib.Core.Logic.{◌≢◌}
use mathlib.Core.Bool.{Bool, true, false, ◌&&◌, cond}
use mathlib.Core.List.{List, [], ◌∷◌}
use lib.Dec.{eqb, ltb, leb}
use borrow.Author.Tests.{eq-eqb, eqb-true, eqb-false, lt-ltb, leb-false}
use Rattle.column.specs.Refusals.{first}
use Rattle.column.specs.laws.RefusalLaws.{passed, earlier_none}
use Rattle.column.specs.Sets.{has, join, insert, without, lowest}
use Rattle.column.specs.Trees.{children, choose}
use Rattle.column.proofs.laws.ChoiceLaws.{choose_member}
use Rattle.column.specs.Columns.{with_sets}
use Rattle.column.specs.Packets.{receiver}
use Rattle.column.specs.laws.StateLaws.{acceptable}
use Rattle.column.specs.Steps as core
use Rattle.column.specs.Steps.{send_refusal, send_effect, take_refusal, message_effect, receive_effect, acknowledgement_effect, ack_refusal, ack_effect}
use Rattle.column.specs.declared.tree.Tree.{Tree}
use Rattle.column.specs.declared.state.Column.{Column}
use Rattle.column.specs.declared.packet.Packet.{Packet}
use Rattle.column.specs.declared.packet.Packet.TheVariants.{Message, Acknowledgement}
use Rattle.bank.specs.Banks as bank
use Rattle.bank.specs.Banks.{column_at, runs, packet_at, bank_refusal, acting_refusal}
use Rattle.bank.specs.laws.ValidityLaws.{Valid, valid, acting}
use Rattle.bank.specs.Steps as steps
use Rattle.bank.specs.Steps.{Result, accepted, refused, unless, settled, acted, delivered}
use Rattle.bank.specs.Performs.{perform}
use Rattle.bank.specs.Networks.{removed}
use Rattle.bank.specs.declared.bank.Step.{Step}
use Rattle.bank.specs.declared.bank.Step.TheVariants.{Order, Send, Take, Ack, All, Note, Halt, Back, Write}
use Rattle.agreement.specs.History as history
use Rattle.agreement.specs.History.{left_by}
use Rattle.agreement.specs.Journals.{got_in, sent_in, answered_with, to_running}
use Rattle.agreement.proofs.relation.Model.{State}
use Rattle.agreement.proofs.relation.Move.{takes}
use Rattle.agreement.proofs.relation.Conditions.{widths, send_in, ack_in}
use Rattle.agreement.proofs.relation.View.{model_of, OneMove, event}
use Rattle.agreement.proofs.refinement.RefineOwn.{column_sound, lowest_in}
use Rattle.agreement.proofs.refinement.Told.{left_is}
use Rattle.agreement.proofs.journals.Dues.{posted, got_by, put_by}

-- ---- an accepted step was refused by nothing

not_refused : {A : Type 0} {n : ℕ} {x y : A} → refused n x ≡ accepted y → ⊥
not_refused e = let z : ◌≡◌ {A = ℕ} 0 1 = cc in omega arith

module _ (s s' : bank.State) where
  goes : (n : ℕ) (o : Result bank.State) → unless n s o ≡ accepted s' → (n ≡ 0) × (o ≡ accepted s')
  goes n o h = go (eqb n 0) refl h
    where
      go : (b : Bool) → eqb n 0 ≡ b → cond b o (refused n s) ≡ accepted s' → (n ≡ 0) × (o ≡ accepted s')
      go true z h = (eqb-true n 0 z, h)
      go false z h = absurd (not_refused h)

  settles : (gone : bank.State) (i n : ℕ) (c : Column) (r : core.Result) → settled s gone i (core.unless n c r) ≡ accepted s' → n ≡ 0
  settles gone i n c r h = go (eqb n 0) refl h
    where
      go : (b : Bool) → eqb n 0 ≡ b → settled s gone i (cond b r (core.refused n c)) ≡ accepted s' → n ≡ 0
      go true z h = eqb-true n 0 z
      go false z h = absurd (not_refused h)

-- the core's answer where it does not refuse
answers : (n : ℕ) (c : Column) (r : core.Result) → n ≡ 0 → core.unless n c r ≡ r
answers n c r e = ap (λ (b : Bool). cond b r (core.refused n c)) (eq-eqb n 0 e)

module _ (s : bank.State) (l : List ℕ) where
  abbrev m : State
  m = model_of s l

  abbrev t : Tree
  t = s.bank.tree

  -- one packet, to a column of the bank
  running_one : (p : Packet) → receiver p < t.columns → to_running s (p ∷ []) ≡ posted m p
  unfolding to_running
  running_one p h = ap (λ (b : Bool). cond (b && runs s.bank (receiver p)) (p ∷ []) []) (sym (lt-ltb (receiver p) t.columns h))

  -- ---- send

  send_told : (i : ℕ) (s' : bank.State) → steps.send s i ≡ accepted s' → sent_in s (Send i) ≡ put_by m (event s (Send i) tt)
  unfolding acted send_effect to_running
  send_told i s' e =
      let q = goes s s' (acting_refusal s i) _ e in
      let z = acting s i q.0 in
      let free = settles s s' s i (send_refusal t i c) c (send_effect t i c) q.1 in
      let x-in = choose_member t z.0.tree c.send (widths t i c (z.0.columns i z.1)).send (omega (arith, (send_in t i c free).1)) in
      ap (λ (r : core.Result). to_running s (answered_with r)) (answers (send_refusal t i c) c (send_effect t i c) free)
      ∙ go ((column_sound s z.0 i z.1).send_below x x-in) (eqb x i) (has c.noted x)
    where
      c : Column
      c = column_at s.bank i

      x : ℕ
      x = choose t c.send

      go : x < t.columns → (self noted : Bool) → to_running s (answered_with
          (cond self (core.accepted (with_sets c (without c.send x) c.awaited c.owed) [] false)
          (cond noted (core.accepted (with_sets c (join (without c.send x) (children t x)) c.awaited c.owed) [] false)
          (core.accepted (with_sets c (without c.send x) (insert c.awaited x) c.owed) (Message i x c.number c.doors ∷ []) false))))
          ≡ cond self [] (cond noted [] (posted m (Message i x c.number c.doors)))
      go h true noted = refl
      go h false true = refl
      go h false false = running_one (Message i x c.number c.doors) h

  -- ---- an acknowledgement of the lowest owed

  lowest_below : Valid s → (i : ℕ) → i < t.columns → (column_at s.bank i).owed ≢ 0 → lowest (column_at s.bank i).owed < t.columns
  lowest_below st i below some =
      let c = column_at s.bank i in
      (column_sound s st i below).owed_below (lowest c.owed) (lowest_in t st.tree c.owed (widths t i c (st.columns i below)).owed some).holds

  ack_told : (i : ℕ) (s' : bank.State) → steps.ack s i ≡ accepted s' → sent_in s (Ack i) ≡ put_by m (event s (Ack i) tt)
  unfolding acted ack_effect
  ack_told i s' e =
      let c = column_at s.bank i in
      let q = goes s s' (acting_refusal s i) _ e in
      let z = acting s i q.0 in
      let free = settles s s' s i (ack_refusal t i c) c (ack_effect i c) q.1 in
      ap (λ (r : core.Result). to_running s (answered_with r)) (answers (ack_refusal t i c) c (ack_effect i c) free)
      ∙ running_one (Acknowledgement i (lowest c.owed) c.number) (lowest_below z.0 i z.1 (ack_in t i c free).1)

  -- ---- take

  module _ (place : ℕ) (s' : bank.State) (st : Valid s) (held : place < s.bank.count) where
    abbrev served : Packet → ℕ
    served p = lowest (column_at s.bank (receiver p)).owed

    -- an acknowledgement that is taken puts no packet, and is not left in its place
    only_taken : (q a k : ℕ) → delivered s place (Acknowledgement q a k) ≡ accepted s'
        → (d : Column) × (core.take t a (column_at s.bank a) (Acknowledgement q a k) ≡ core.accepted d [] false)
    unfolding delivered acknowledgement_effect
    only_taken q a k e =
        let z = go (eqb k c.number) in (
          z.0,
          answers (take_refusal t a c p) c (acknowledgement_effect c q k)
              (settles s s' (removed s place) a (take_refusal t a c p) c (acknowledgement_effect c q k) e)
              ∙ z.1,
        )
      where
        c : Column
        c = column_at s.bank a

        p : Packet
        p = Acknowledgement q a k

        go : (equal : Bool) → (d : Column) × (cond equal (core.accepted (with_sets c c.send (without c.awaited q) c.owed) [] false) (core.accepted c [] false)
            ≡ core.accepted d [] false)
        go true = (with_sets c c.send (without c.awaited q) c.owed, refl)
        go false = (c, refl)

    arrived : (p : Packet) → packet_at s place ≡ p → delivered s place p ≡ accepted s'
        → to_running s (answered_with (core.take t (receiver p) (column_at s.bank (receiver p)) p)) ≡ put_by m (takes p (served p))
    unfolding delivered message_effect receive_effect to_running
    arrived (Message q a k d) at e =
        ap (λ (r : core.Result). to_running s (answered_with r)) (answers (take_refusal t a c p) c (message_effect t a c q k d)
        (settles s s' (removed s place) a (take_refusal t a c p) c (message_effect t a c q k d) e))
        ∙ go (eqb k c.number) (ltb k c.number) (eqb c.owed 0) refl
      where
        c : Column
        c = column_at s.bank a

        p : Packet
        p = Message q a k d

        sound : core.packet_refusal t (Message q a k d) ≡ 0
        sound = ap (core.packet_refusal t) (sym at) ∙ st.packets place held

        go : (equal lower free : Bool) → eqb c.owed 0 ≡ free → to_running s (answered_with
            (cond equal (core.accepted (with_sets c c.send c.awaited (insert c.owed q)) [] false)
            (cond lower (core.accepted c (Acknowledgement a q k ∷ []) false)
            (cond free (receive_effect t a c q k d) (core.acknowledge_lowest a c true)))))
            ≡ cond equal [] (cond lower (posted m (Acknowledgement a q k)) (cond free [] (posted m (Acknowledgement a (lowest c.owed) c.number))))
        go true lower free z = refl
        go false true free z = running_one (Acknowledgement a q k) (acceptable t p sound).sender_below
        go false false true z = refl
        go false false false z = running_one (Acknowledgement a (lowest c.owed) c.number)
            (lowest_below st a (acceptable t p sound).receiver_below (eqb-false c.owed 0 z))
    arrived (Acknowledgement q a k) at e = ap (λ (r : core.Result). to_running s (answered_with r)) (only_taken q a k e).1

    kept_or_got : (p : Packet) → packet_at s place ≡ p → delivered s place p ≡ accepted s' → cond (left_by s p) [] (p ∷ []) ≡ got_by m (takes p (served p))
    kept_or_got (Message q a k d) at e =
        ap (λ (b : Bool). cond b [] (Message q a k d ∷ [])) (left_is s st place q a k d held at)
    kept_or_got (Acknowledgement q a k) at e =
        ap (λ (r : core.Result). cond (history.leaves r) [] (Acknowledgement q a k ∷ [])) (only_taken q a k e).1

  take_in : (place : ℕ) (s' : bank.State) → steps.take s place ≡ accepted s'
      → Valid s × (place < s.bank.count) × (delivered s place (packet_at s place) ≡ accepted s')
  take_in place s' e =
      let q = goes s s' (steps.take_refusal s place) _ e in
      let z = earlier_none (bank_refusal s) (first ((10, leb s.bank.count place) ∷ [])) q.0 in
      (valid s z.0, leb-false s.bank.count place (passed ((10, leb s.bank.count place) ∷ []) tt z.1).0, q.1)

  -- ---- every step

  pub sent_told : (x : Step) (o : OneMove x) (s' : bank.State) → perform s x ≡ accepted s' → sent_in s x ≡ put_by m (event s x o)
  unfolding perform
  sent_told (Order d) o s' e = refl
  sent_told (Send i) o s' e = send_told i s' e
  sent_told (Take place) o s' e = let z = take_in place s' e in arrived place s' z.0 z.1 (packet_at s place) refl z.2
  sent_told (Ack i) o s' e = ack_told i s' e
  sent_told (All i) o s' e = refl
  sent_told (Note i j) o s' e = refl
  sent_told (Halt i) o s' e = absurd o
  sent_told (Back j) o s' e = refl
  sent_told (Write i offset value) o s' e = absurd o

  pub got_told : (x : Step) (o : OneMove x) (s' : bank.State) → perform s x ≡ accepted s' → got_in s x ≡ got_by m (event s x o)
  unfolding perform
  got_told (Order d) o s' e = refl
  got_told (Send i) o s' e = refl
  got_told (Take place) o s' e = let z = take_in place s' e in kept_or_got place s' z.0 z.1 (packet_at s place) refl z.2
  got_told (Ack i) o s' e = refl
  got_told (All i) o s' e = refl
  got_told (Note i j) o s' e = refl
  got_told (Halt i) o s' e = absurd o
  got_told (Back j) o s' e = refl
  got_told (Write i offset value) o s' e = absurd o
