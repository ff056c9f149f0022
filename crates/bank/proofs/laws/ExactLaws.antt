-- Every step of every bank is refused by the number that `refusal_of` says, and by no other, with the state as it was.
-- Assumes nothing.
use Rattle.std.specs.Prelude.{ℕ, zero, suc, ◌≤◌, ◌<◌, ◌≡◌, Bool, true, ◌&&◌, cond, eqb, ltb, get_or, set}
use Rattle.std.proofs.Math.Path.{refl, ap, subst}
use Rattle.std.proofs.Common.{sym, ◌∙◌, arith, eq-eqb, eqb-true}
use Rattle.std.proofs.Math.Bool.{false}
use mathlib.Core.List.{List, [], ◌∷◌}
use Rattle.std.proofs.Math.Dec.{leb}
use Rattle.std.proofs.lemmas.Bool.{eqb-false}
use Rattle.column.specs.Refusals.{first, earlier}
use Rattle.column.specs.laws.RefusalLaws.{earlier_none, earlier_assoc}
use Rattle.column.specs.Sets.{has}
use Rattle.column.specs.Trees.{choose, tree_refusal}
use Rattle.column.specs.Columns.{state_refusal, validity_refusal}
use Rattle.column.specs.Packets.{receiver}
use Rattle.column.specs.Steps as core
use Rattle.column.specs.Pages.{write_conditions}
use Rattle.column.specs.declared.tree.Tree.{Tree}
use Rattle.column.specs.declared.state.Column.{Column}
use Rattle.column.specs.declared.packet.Packet.{Packet}
use Rattle.column.specs.declared.packet.Packet.TheVariants.{Message, Acknowledgement}
use Rattle.bank.specs.Banks.{State, state, column_at, runs, packet_at, capacity, no_column, bank_refusal, acting_refusal}
use Rattle.bank.specs.Networks.{put, puts, removed}
use Rattle.bank.specs.laws.ValidityLaws.{Valid, valid, acting}
use Rattle.bank.specs.laws.StepLaws.{fits, put_halted, put_running, put_full, put_count, takes}
use Rattle.bank.specs.Steps.{Result, accepted, refused, after, unless, with_column, fitting, settled, acted, take_refusal, delivered, halted, halt_conditions, halt_refusal, halt}
use Rattle.bank.specs.Returns.{back_conditions, back_refusal, returned, back}
use Rattle.bank.specs.Pages.{write_refusal, write}
use Rattle.bank.specs.Performs.{perform}
use Rattle.bank.specs.Exact.{own_refusal, raises, overfull, refusal_of, Exact}
use Rattle.bank.specs.declared.bank.Step.TheVariants.{Order, Send, Take, Ack, All, Note, Halt, Back, Write}

-- ---- what the core does: at most one packet, and where it has one its column runs on as it did

abbrev Calm : Column → core.Result → Type 0
Calm c (core.accepted d [] left) = Unit {0}
Calm c (core.accepted d (p ∷ []) left) = d.running ≡ c.running
Calm c (core.accepted d (p ∷ (q ∷ l)) left) = ⊥
Calm c (core.refused n d) = ⊥

calm_cond : (b : Bool) (c : Column) (r q : core.Result) → Calm c r → Calm c q → Calm c (cond b r q)
calm_cond true c r q h k = h
calm_cond false c r q h k = k

calm_send : (t : Tree) (i : ℕ) (c : Column) → Calm c (core.send_effect t i c)
unfolding core.send_effect
calm_send t i c =
    calm_cond (eqb (choose t c.send) i) c _ _ tt (calm_cond (has c.noted (choose t c.send)) c _ _ tt refl)

calm_take : (t : Tree) (i : ℕ) (c : Column) (p : Packet) → Calm c (core.take_effect t i c p)
unfolding core.message_effect core.receive_effect core.acknowledgement_effect
calm_take t i c (Message from to number doors) =
    calm_cond (eqb number c.number) c _ _ tt (calm_cond (ltb number c.number) c _ _ refl (calm_cond (eqb c.owed 0) c _ _ tt refl))
calm_take t i c (Acknowledgement from to number) = calm_cond (eqb number c.number) c _ _ tt tt

-- a column rewritten that runs on as it did: everybody runs as before
running_kept : (l : List Column) (i : ℕ) (c : Column) → c.running ≡ (get_or l i no_column).running → (j : ℕ)
    → (get_or (set l i c) j no_column).running ≡ (get_or l j no_column).running
running_kept [] i c e j = refl
running_kept (x ∷ l) zero c e zero = e
running_kept (x ∷ l) zero c e (suc j) = refl
running_kept (x ∷ l) (suc i) c e zero = refl
running_kept (x ∷ l) (suc i) c e (suc j) = running_kept l i c e j

abbrev tree : State → Tree
tree s = s.bank.tree

abbrev at : State → ℕ → Column
at s i = column_at s.bank i

-- ---- one answer: refused by m with the state as it was, or accepted where m is 0

module _ (s : State) where
  abbrev Answered : ℕ → Result State → Type 0
  Answered m o = o ≡ unless m s (accepted (after o))

  answered_unless : (n m : ℕ) (o : Result State) → (n ≡ 0 → Answered m o) → Answered (earlier n m) (unless n s o)
  answered_unless n m o h = go (eqb n 0) refl
    where
      go : (b : Bool) → eqb n 0 ≡ b → Answered (cond b m n) (cond b o (refused n s))
      go true e = h (eqb-true n 0 e)
      go false e = rw e

  answered_core : (gone : State) (i n m : ℕ) (c : Column) (effect : core.Result) → (n ≡ 0 → Answered m (settled s gone i effect))
      → Answered (earlier n m) (settled s gone i (core.unless n c effect))
  answered_core gone i n m c effect h = go (eqb n 0) refl
    where
      go : (b : Bool) → eqb n 0 ≡ b → Answered (cond b m n) (settled s gone i (cond b effect (core.refused n c)))
      go true e = h (eqb-true n 0 e)
      go false e = rw e

  -- ---- 9

  abbrev nine : Bool → core.Result → ℕ
  nine taking r = first ((9, raises taking s.bank r && eqb s.bank.count capacity) ∷ [])

  module _ (w : Valid s) (i : ℕ) where
    -- no packet is put, or one is taken off for it
    answered_room : (next : State) → next.bank.count ≤ capacity → Answered 0 (fitting s next)
    answered_room next room = subst (Answered 0) (fits s next room) refl

    -- a packet is put where its addressee runs
    answered_put : (d : Column) (p : Packet) → d.running ≡ (at s i).running
        → Answered (first ((9, runs s.bank (receiver p) && eqb s.bank.count capacity) ∷ [])) (fitting s (put (with_column s i d) p))
    answered_put d p same = go (runs s.bank (receiver p)) (eqb s.bank.count capacity) kept refl
      where
        next : State
        next = with_column s i d

        kept : runs next.bank (receiver p) ≡ runs s.bank (receiver p)
        kept = running_kept s.bank.columns i d same (receiver p)

        go : (r full : Bool) → runs next.bank (receiver p) ≡ r → eqb s.bank.count capacity ≡ full
            → Answered (first ((9, r && full) ∷ [])) (fitting s (put next p))
        go false full r q = subst (Answered 0) (put_halted s next p r w.room) refl
        go true true r q = subst (Answered 9) (put_full s next p r (eqb-true s.bank.count capacity q)) refl
        go true false r q =
            let below : s.bank.count < capacity = let z = eqb-false s.bank.count capacity q in omega (arith, w.room, z) in
            subst (Answered 0) (put_running s next p r below) refl

    -- a step that takes no packet off
    answered_acting : (r : core.Result) → Calm (at s i) r → Answered (nine false r) (settled s s i r)
    unfolding puts
    answered_acting (core.accepted d [] true) h = answered_room _ w.room
    answered_acting (core.accepted d [] false) h = answered_room _ w.room
    answered_acting (core.accepted d (p ∷ []) true) h = answered_put d p h
    answered_acting (core.accepted d (p ∷ []) false) h = answered_put d p h
    answered_acting (core.accepted d (p ∷ (q ∷ l)) left) h = absurd h
    answered_acting (core.refused n d) h = absurd h

    -- a take: its packet makes room, unless it is left in its place
    answered_taking : (gone : State) → gone.bank.count < capacity → (r : core.Result) → Calm (at s i) r
        → Answered (nine true r) (settled s gone i r)
    unfolding puts
    answered_taking gone room (core.accepted d [] true) h = answered_room _ w.room
    answered_taking gone room (core.accepted d [] false) h = answered_room _ (omega (arith, room))
    answered_taking gone room (core.accepted d (p ∷ []) true) h = answered_put d p h
    answered_taking gone room (core.accepted d (p ∷ []) false) h =
        answered_room _ (omega (arith, room, put_count (with_column gone i d) p))
    answered_taking gone room (core.accepted d (p ∷ (q ∷ l)) left) h = absurd h
    answered_taking gone room (core.refused n d) h = absurd h

  -- ---- a step of column i

  module _ (i : ℕ) where
    -- "column not below columns": the core says 4 as well
    beyond : bank_refusal s ≡ 0 → leb (tree s).columns i ≡ true → validity_refusal (tree s) i (at s i) ≡ 4
    unfolding state_refusal
    beyond e h = rw (eq-eqb (tree_refusal (tree s)) 0 (valid s e).tree, h)

    acting_number : (n m : ℕ) → (validity_refusal (tree s) i (at s i) ≡ 4 → n ≡ 4)
        → earlier (acting_refusal s i) (earlier n m) ≡ earlier (bank_refusal s) (earlier n m)
    acting_number n m four =
        earlier_assoc (bank_refusal s) (first ((4, leb (tree s).columns i) ∷ [])) (earlier n m)
        ∙ go (eqb (bank_refusal s) 0) refl (leb (tree s).columns i) refl
      where
        go : (b : Bool) → eqb (bank_refusal s) 0 ≡ b → (l : Bool) → leb (tree s).columns i ≡ l
            → cond b (earlier (first ((4, l) ∷ [])) (earlier n m)) (bank_refusal s) ≡ cond b (earlier n m) (bank_refusal s)
        go true e true h = rw (four (beyond (eqb-true (bank_refusal s) 0 e) h))
        go true e false h = refl
        go false e l h = refl

    answered_acted : (n : ℕ) (effect : core.Result) → (validity_refusal (tree s) i (at s i) ≡ 4 → n ≡ 4) → Calm (at s i) effect
        → Answered (earlier (bank_refusal s) (earlier n (nine false effect))) (acted s i (core.unless n (at s i) effect))
    unfolding acted
    answered_acted n effect four calm =
        let m = nine false effect in
        subst (λ k. Answered k (unless (acting_refusal s i) s (settled s s i (core.unless n (at s i) effect)))) (acting_number n m four)
        (answered_unless (acting_refusal s i) (earlier n m) _ (λ e.
        answered_core s i n m (at s i) effect (λ z. answered_acting (acting s i e).0 i effect calm)))

-- ---- every step

module _ (s : State) where
  exact_order : (doors : ℕ) → Answered s (refusal_of s (Order doors)) (perform s (Order doors))
  unfolding perform core.order_refusal core.order_effect
  exact_order doors = answered_acted s (tree s).root (own_refusal s (Order doors)) (core.order_effect (tree s) (tree s).root (at s (tree s).root) doors) (λ e. rw e) tt

  exact_send : (i : ℕ) → Answered s (refusal_of s (Send i)) (perform s (Send i))
  unfolding perform core.send_refusal
  exact_send i = answered_acted s i (own_refusal s (Send i)) (core.send_effect (tree s) i (at s i)) (λ e. rw e) (calm_send (tree s) i (at s i))

  exact_ack : (i : ℕ) → Answered s (refusal_of s (Ack i)) (perform s (Ack i))
  unfolding perform core.ack_refusal core.ack_effect
  exact_ack i = answered_acted s i (own_refusal s (Ack i)) (core.ack_effect i (at s i)) (λ e. rw e) refl

  exact_all : (i : ℕ) → Answered s (refusal_of s (All i)) (perform s (All i))
  unfolding perform core.all_refusal core.all_effect
  exact_all i = answered_acted s i (own_refusal s (All i)) (core.all_effect (tree s) (at s i)) (λ e. rw e) tt

  exact_note : (i j : ℕ) → Answered s (refusal_of s (Note i j)) (perform s (Note i j))
  unfolding perform core.note_refusal core.note_effect
  exact_note i j = answered_acted s i (own_refusal s (Note i j)) (core.note_effect (tree s) (at s i) j) (λ e. rw e) tt

  exact_halt : (m : ℕ) → Answered s (refusal_of s (Halt m)) (perform s (Halt m))
  unfolding perform halt_refusal
  exact_halt m =
      subst (λ k. Answered s k (halt s m)) (earlier_assoc (bank_refusal s) (first (halt_conditions s m)) 0)
      (answered_unless s (halt_refusal s m) 0 (accepted (halted s (has m))) (λ e. refl))

  exact_back : (j : ℕ) → Answered s (refusal_of s (Back j)) (perform s (Back j))
  unfolding perform back_refusal
  exact_back j =
      subst (λ k. Answered s k (back s j)) (earlier_assoc (bank_refusal s) (first (back_conditions s j)) 0)
      (answered_unless s (back_refusal s j) 0 (accepted (state (returned s.bank j) s.heads s.doors)) (λ e. refl))

  exact_write : (i offset value : ℕ) → Answered s (refusal_of s (Write i offset value)) (perform s (Write i offset value))
  unfolding perform write_refusal
  exact_write i offset value =
      let four = first ((4, leb (tree s).columns i) ∷ []) in
      let own = first (write_conditions offset) in
      subst (λ k. Answered s k (write s i offset value))
      (earlier_assoc (acting_refusal s i) own 0 ∙ earlier_assoc (bank_refusal s) four (earlier own 0) ∙ ap (earlier (bank_refusal s)) (sym (earlier_assoc four own 0)))
      (answered_unless s (write_refusal s i offset) 0 _ (λ e. refl))

  exact_take : (place : ℕ) → Answered s (refusal_of s (Take place)) (perform s (Take place))
  unfolding perform delivered
  exact_take place =
      let p = packet_at s place in
      let i = receiver p in
      let ten = first ((10, leb s.bank.count place) ∷ []) in
      let n = core.take_refusal (tree s) i (at s i) p in
      let m = first ((9, overfull s (Take place)) ∷ []) in
      subst (λ k. Answered s k (perform s (Take place)))
      (earlier_assoc (bank_refusal s) ten (earlier n m) ∙ ap (earlier (bank_refusal s)) (sym (earlier_assoc ten n m)))
      (answered_unless s (take_refusal s place) (earlier n m) _ (λ e.
      let w = valid s (earlier_none (bank_refusal s) ten e).0 in
      let l = takes s place e in
      answered_core s (removed s place) i n m (at s i) (core.take_effect (tree s) i (at s i) p) (λ z.
      answered_taking s w i (removed s place) (omega (arith, l.1, l.2)) (core.take_effect (tree s) i (at s i) p) (calm_take (tree s) i (at s i) p))))

pub exact : Exact
exact s (Order doors) = exact_order s doors
exact s (Send i) = exact_send s i
exact s (Take place) = exact_take s place
exact s (Ack i) = exact_ack s i
exact s (All i) = exact_all s i
exact s (Note i j) = exact_note s i j
exact s (Halt m) = exact_halt s m
exact s (Back j) = exact_back s j
exact s (Write i offset value) = exact_write s i offset value
