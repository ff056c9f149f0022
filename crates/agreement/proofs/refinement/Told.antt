-- The history of an accepted step by document 01's words is its history by its move. Assumes nothing.
use Prim.Native.Nat.{ℕ, ◌<◌}
use mathlib.Core.Path.{◌≡◌, refl, sym, ap, ap₂, ◌∙◌, subst}
use mathlib.Core.Logic.{◌≢◌}
use mathlib.Core.Bool.{Bool, true, false, not, ◌&&◌, ◌||◌, cond}
use mathlib.Core.List.{[], ◌∷◌, List}
use native.Mathlib.Omega.{arith}
use lib.Dec.{eqb, ltb, leb}
use lib.ListN.{length-set}
use borrow.Author.Tests.{eq-eqb, eqb-true, eqb-false, ltb-true, ltb-false, lt-ltb, le-ltb, leb-false}
use Rattle.column.specs.Refusals.{first}
use Rattle.column.specs.laws.RefusalLaws.{passed, earlier_none}
use Rattle.column.specs.Sets.{has, insert}
use Rattle.column.specs.Trees.{choose, tree_refusal}
use Rattle.column.specs.Packets.{receiver}
use Rattle.column.specs.Columns.{state_refusal, with_sets, plain, numbers}
use Rattle.column.specs.Steps as core
use Rattle.column.specs.Steps.{packet_refusal, take_refusal, message_effect, receive_effect}
use Rattle.column.specs.laws.StateLaws.{acceptable}
use Rattle.column.specs.Pages.{written}
use Rattle.column.specs.laws.PageLaws.{plain_written}
use Rattle.column.specs.declared.tree.Tree.{Tree}
use Rattle.column.specs.declared.state.Column.{Column}
use Rattle.column.specs.declared.packet.Packet.{Packet}
use Rattle.column.specs.declared.packet.Packet.TheVariants.{Message, Acknowledgement}
use Rattle.bank.specs.Banks.{State, column_at, runs, packet_at, bank_refusal, no_column}
use Rattle.bank.specs.laws.ValidityLaws.{Valid, valid}
use Rattle.bank.specs.Steps as bank
use Rattle.bank.specs.Steps.{accepted, with_column}
use Rattle.bank.specs.Performs.{perform}
use Rattle.bank.specs.laws.ListLaws.{set_keeps}
use Rattle.bank.specs.laws.NetworkLaws.{packets_of}
use Rattle.bank.specs.Pages.{write_refusal}
use Rattle.bank.specs.declared.bank.Step.{Step}
use Rattle.bank.specs.declared.bank.Step.TheVariants.{Order, Send, Take, Ack, All, Note, Halt, Back, Write}
use Rattle.agreement.specs.History.{World, changed, root_of, leaves, left_by, heard, acknowledged, received_after, awaits_after}
use Rattle.agreement.specs.Returning.{Formed}
use Rattle.agreement.proofs.relation.Model as model
use Rattle.agreement.proofs.refinement.ReceivedByMoves as moves
use Rattle.agreement.proofs.relation.View.{model_of, OneMove, event}
use Rattle.agreement.proofs.refinement.RefineCommon.{accepted_goes}
use Rattle.agreement.proofs.relation.Move.{with_running}

-- ---- a message is left where its number is higher and someone is owed

left_cases : (t : Tree) (a : ℕ) (c : Column) (q k d : ℕ) → leaves (message_effect t a c q k d) ≡ (ltb c.number k && not (eqb c.owed 0))
unfolding message_effect receive_effect
left_cases t a c q k d = go (eqb k c.number) (ltb k c.number) (eqb c.owed 0) refl refl
  where
    higher : eqb k c.number ≡ false → ltb k c.number ≡ false → ltb c.number k ≡ true
    higher x y = let n : k ≢ c.number = eqb-false k c.number x in lt-ltb c.number k (omega (arith, ltb-false k c.number y))

    go : (equal lower free : Bool) → eqb k c.number ≡ equal → ltb k c.number ≡ lower
        → leaves (cond equal (core.accepted (with_sets c c.send c.awaited (insert c.owed q)) [] false)
        (cond lower (core.accepted c (Acknowledgement a q k ∷ []) false)
        (cond free (receive_effect t a c q k d) (core.acknowledge_lowest a c true))))
        ≡ (ltb c.number k && not free)
    go true lower free x y = sym (ap (λ (b : Bool). b && not free) (le-ltb c.number k (omega (arith, eqb-true k c.number x))))
    go false true free x y = sym (ap (λ (b : Bool). b && not free) (le-ltb c.number k (omega (arith, ltb-true k c.number y))))
    go false false true x y = sym (ap (λ (b : Bool). b && false) (higher x y))
    go false false false x y = sym (ap (λ (b : Bool). b && true) (higher x y))

-- a packet of a valid bank is not refused by the core
not_refused : (t : Tree) (c : Column) (p : Packet) → tree_refusal t ≡ 0 → state_refusal t (receiver p) c ≡ 0 → packet_refusal t p ≡ 0 → c.running ≡ true
    → take_refusal t (receiver p) c p ≡ 0
unfolding take_refusal
not_refused t c p h i j r = simp (h, i, j, r, eq-eqb (receiver p) (receiver p) refl)

pub left_is : (s : State) → Valid s → (place q a k d : ℕ) → place < s.bank.count → packet_at s place ≡ Message q a k d
    → left_by s (Message q a k d) ≡ moves.leaves (model_of s []) a k
left_is s st place q a k d held e =
    let t = s.bank.tree in
    let c = column_at s.bank a in
    let p = Message q a k d in
    let packet : packet_refusal t p ≡ 0 = ap (packet_refusal t) (sym e) ∙ st.packets place held in
    let there : c.running ≡ true = ap (λ (x : Packet). runs s.bank (receiver x)) (sym e) ∙ st.receivers place held in
    let n = not_refused t c p st.tree (st.columns a (acceptable t p packet).receiver_below) packet there in
    ap (λ (m : ℕ). leaves (core.unless m c (message_effect t a c q k d))) n ∙ left_cases t a c q k d

-- ---- functions with another value at one place

changed_at : {A : Type 0} (b : Bool) (f g : ℕ → A) (j : ℕ) → cond b f g j ≡ cond b (f j) (g j)
changed_at true f g j = refl
changed_at false f g j = refl

changed_true : (g x : Bool) → cond x true g ≡ (g || x)
changed_true true true = refl
changed_true true false = refl
changed_true false true = refl
changed_true false false = refl

changed_false : (g x : Bool) → cond x false g ≡ (g && not x)
changed_false true true = refl
changed_false true false = refl
changed_false false true = refl
changed_false false false = refl

module _ (w : World) where
  abbrev s : State
  s = w.state

  abbrev m : model.State
  m = model_of s w.orders

  heard_told : Valid s → (place : ℕ) → place < s.bank.count → (p : Packet) → packet_at s place ≡ p → (j : ℕ)
      → heard s p w.received j ≡ moves.heard m p w.received j
  heard_told st place held (Message q a k d) e j =
      changed_at (ltb (w.received a) k && not (left_by s (Message q a k d))) (changed w.received a k) w.received j
      ∙ ap (λ (b : Bool). cond (ltb (w.received a) k && not b) (changed w.received a k j) (w.received j)) (left_is s st place q a k d held e)
  heard_told st place held (Acknowledgement q a k) e j = refl

  acknowledged_told : (p : Packet) (q : ℕ) → acknowledged s p w.awaits q ≡ moves.answered s.bank.tree m p w.awaits q
  acknowledged_told (Message x a k d) q = refl
  acknowledged_told (Acknowledgement x a k) q =
      changed_at (eqb a (root_of s) && eqb k (column_at s.bank (root_of s)).number) (changed w.awaits x false) w.awaits q
      ∙ go (eqb a (root_of s)) refl
    where
      root_number : a ≡ root_of s → eqb k (column_at s.bank (root_of s)).number ≡ eqb k (column_at s.bank a).number
      root_number e = ap (λ (i : ℕ). eqb k (column_at s.bank i).number) (sym e)

      go : (b : Bool) → eqb a (root_of s) ≡ b
          → cond (b && eqb k (column_at s.bank (root_of s)).number) (changed w.awaits x false q) (w.awaits q)
          ≡ cond (b && eqb k (column_at s.bank a).number) (w.awaits q && not (eqb q x)) (w.awaits q)
      go true e = ap₂ (λ (b v : Bool). cond b v (w.awaits q)) (root_number (eqb-true a (root_of s) e)) (changed_false (w.awaits q) (eqb q x))
      go false e = refl

  pub received_told : (x : Step) (o : OneMove x) (s' : State) → perform s x ≡ accepted s' → (j : ℕ)
      → received_after w x j ≡ moves.received_after s.bank.tree m (event s x o) w.received j
  unfolding perform
  received_told (Order d) o s' e j = refl
  received_told (Send i) o s' e j = refl
  received_told (Take place) o s' e j =
      let q = earlier_none (bank_refusal s) (first ((10, leb s.bank.count place) ∷ [])) (accepted_goes s s' (bank.take_refusal s place) _ e).0 in
      let held = leb-false s.bank.count place (passed ((10, leb s.bank.count place) ∷ []) tt q.1).0 in
      heard_told (valid s q.0) place held (packet_at s place) refl j
  received_told (Ack i) o s' e j = refl
  received_told (All i) o s' e j = refl
  received_told (Note i x) o s' e j = refl
  received_told (Halt m) o s' e j = absurd o
  received_told (Back i) o s' e j = refl
  received_told (Write i offset value) o s' e j = absurd o

  pub awaits_told : (x : Step) (o : OneMove x) (q : ℕ) → awaits_after w x q ≡ moves.awaits_after s.bank.tree m (event s x o) w.awaits q
  awaits_told (Order d) o q = refl
  awaits_told (Send i) o q =
      let c = column_at s.bank i in
      let x = choose s.bank.tree c.send in
      let b = eqb i (root_of s) && not (has c.noted x) in
      changed_at b (changed w.awaits x true) w.awaits q
      ∙ ap (λ (v : Bool). cond b v (w.awaits q)) (changed_true (w.awaits q) (eqb q x))
  awaits_told (Take place) o q = acknowledged_told (packet_at s place) q
  awaits_told (Ack i) o q = refl
  awaits_told (All i) o q = refl
  awaits_told (Note i j) o q =
      changed_at (eqb i (root_of s)) (changed w.awaits j false) w.awaits q
      ∙ ap (λ (v : Bool). cond (eqb i (root_of s)) v (w.awaits q)) (changed_false (w.awaits q) (eqb q j))
  awaits_told (Halt m) o q = absurd o
  awaits_told (Back j) o q = refl
  awaits_told (Write i offset value) o q = absurd o

module _ (s : State) (i offset value : ℕ) where
  abbrev pub next_state : State
  next_state = with_column s i (written (column_at s.bank i) offset value)

  pub written_is : (s' : State) → perform s (Write i offset value) ≡ accepted s' → next_state ≡ s'
  unfolding perform
  written_is s' e = let goes = (accepted_goes s s' (write_refusal s i offset) (accepted next_state) e).1 in cc

  pub plain_at : (j : ℕ) → plain (column_at next_state.bank j) ≡ plain (column_at s.bank j)
  plain_at = set_keeps plain no_column s.bank.columns i (written (column_at s.bank i) offset value) (plain_written (column_at s.bank i) offset value)

  pub same_model : (orders : List ℕ) → model_of next_state orders ≡ model_of s orders
  same_model orders = λ k. record {
    columns = λ j. with_running (ltb j s.bank.tree.columns && (plain_at j k).running) (plain_at j k);
    network = packets_of s;
    orders = orders;
  }

  pub written_formed : Formed s → Formed next_state
  written_formed f = record {
    places = length-set s.bank.columns i (written (column_at s.bank i) offset value) ∙ f.places;
    whole = record { heads_length = f.whole.heads_length; doors_length = f.whole.doors_length };
    numbers_fit = λ j. subst (λ (c : Column). c.number < numbers) (sym (plain_at j)) (f.numbers_fit j);
  }
