-- A valid bank that takes a step of one column is valid after it exactly where the newest packet is: the column that acted passes row 4,
-- no other is rewritten, every other packet was held before, and who runs is the same. Assumes nothing.
use Rattle.std.specs.Prelude.{ℕ, ◌+◌, ◌-◌, ◌≤◌, ◌<◌, ◌≡◌, Bool, ◌&&◌, ◌||◌, cond, ◌⊎◌, eqb, get_or}
use Rattle.std.proofs.Math.Path.{refl, sym}
use Rattle.std.proofs.Common.{ap, ap₂, subst, ◌∙◌, true≢false, inl, inr, arith, get_or-set_other, eq-eqb, ne_eqb, eqb-true, ltb-true, ltb-false}
use Rattle.std.proofs.Math.Bool.{true, false}
use mathlib.Core.List.{List, [], ◌∷◌}
use Rattle.std.proofs.Math.Dec.{ltb}
use Rattle.std.proofs.lemmas.Bool.{eqb-false, not-false}
use Rattle.column.specs.laws.Cases.{truth, equal_cases, and_left, and_right, or_none, same_truth}
use Rattle.column.specs.Packets.{receiver}
use Rattle.column.specs.Columns.{state_refusal}
use Rattle.column.specs.Trees.{tree_refusal}
use Rattle.column.specs.Steps as core
use Rattle.column.specs.declared.tree.Tree.{Tree}
use Rattle.column.specs.declared.state.Column.{Column}
use Rattle.column.specs.declared.packet.Packet.{Packet}
use Rattle.bank.specs.Words.{packet_of}
use Rattle.bank.specs.inner.Changes.{Steady}
use Rattle.bank.specs.laws.Steady.{steady_cond, steady_send, steady_take}
use Rattle.bank.specs.Networks.{closed_up, with_packet, put, puts, removed}
use Rattle.bank.specs.laws.ListLaws.{closed_up_before, closed_up_after, set_keeps}
use Rattle.bank.specs.Banks.{State, column_at, runs, packet_at, packet_valid, capacity, no_column, bank_refusal, acting_refusal}
use Rattle.bank.specs.inner.Surveys.{newest_valid}
use Rattle.bank.proofs.laws.ColumnOn.{column_on}
use Rattle.bank.specs.laws.ValidityLaws.{Valid, valid, valid_passes}
use Rattle.bank.specs.Steps.{Result, accepted, refused, after, unless, with_column, fitting, settled, acted, delivered, note_refusal, take_refusal}
use Rattle.bank.specs.Performs.{perform}
use Rattle.bank.specs.Exact.{refusal_of}
use Rattle.bank.specs.Rest.{is_refused}
use Rattle.bank.proofs.laws.RestSteps.{refused_exactly}
use Rattle.bank.specs.laws.Kinds.{is_halt, of_halted, by_no_column}
use Rattle.bank.specs.inner.Moves.{acts}
use Rattle.bank.proofs.laws.Places.{one_acts, tree_kept, others_kept, acting_is}
use Rattle.bank.specs.declared.bank.Step.{Step}
use Rattle.bank.specs.declared.bank.Step.TheVariants.{Order, Send, Take, Ack, All, Note, Halt, Back, Write}

-- ---- what a step carries over: who runs, and the packets but for the newest

-- a packet that was under way before, at this place or another
abbrev Held : State → Packet → Type 0
Held s p = (k : ℕ) × (k < s.bank.count) × (packet_at s k ≡ p)

-- all packets of u but the newest `new` were held in s
record Carried (new : ℕ) (s u : State) : Type 0 where
  running : (j : ℕ) → runs u.bank j ≡ runs s.bank j
  older : (k : ℕ) → k + new < u.bank.count → Held s (packet_at u k)

carried_same : (s : State) → Carried 0 s s
carried_same s = record { running = λ j. refl; older = λ k h. (k, omega (arith, h), refl) }

carried_removed : (s : State) (place : ℕ) → Carried 0 s (removed s place)
carried_removed s place = record { running = λ j. refl; older = λ k h. go k (omega (arith, h)) (truth (ltb k place)) }
  where
    moved : (k from : ℕ) → from < s.bank.count
        → ((words : List ℕ) → get_or (closed_up words place s.bank.count 0) k 0 ≡ get_or words from 0) → Held s (packet_at (removed s place) k)
    moved k from h same = (from, h, sym (ap₂ packet_of (same s.heads) (same s.doors)))

    go : (k : ℕ) → k + 1 < s.bank.count → (ltb k place ≡ true) ⊎ (ltb k place ≡ false) → Held s (packet_at (removed s place) k)
    go k h (inl e) = moved k k (omega (arith, h)) (λ words. closed_up_before 0 words place s.bank.count k (ltb-true k place e) h)
    go k h (inr e) = moved k (k + 1) h (λ words. closed_up_after 0 words place s.bank.count k (ltb-false k place e) h)

module _ (s u : State) (carried : Carried 0 s u) where
  carried_column : (i : ℕ) (d : Column) → d.running ≡ runs s.bank i → Carried 0 s (with_column u i d)
  carried_column i d same = record {
    running = λ j. set_keeps (λ (c : Column). c.running) no_column u.bank.columns i d (same ∙ sym (carried.running i)) j ∙ carried.running j;
    older = carried.older;
  }

  carried_none : Carried 1 s u
  carried_none = record { running = carried.running; older = λ k h. carried.older k (omega (arith, h)) }

  -- the words before the end are not written
  carried_put : (p : Packet) → Carried 1 s (put u p)
  unfolding put
  carried_put p = go (runs u.bank (receiver p))
    where
      held : (k : ℕ) → k + 1 < u.bank.count + 1 → Held s (packet_at (with_packet u p) k)
      held k h =
          let q = carried.older k (omega (arith, h)) in
          let other : k ≡ u.bank.count → ⊥ = λ e. omega (arith, h, e) in
          (q.0, q.1, q.2 ∙ sym (ap₂ packet_of (get_or-set_other u.heads u.bank.count k _ 0 other) (get_or-set_other u.doors u.bank.count k _ 0 other)))

      go : (b : Bool) → Carried 1 s (cond b (with_packet u p) u)
      go true = record { running = carried.running; older = held }
      go false = carried_none

-- ---- every step of one column

-- what is known after a step, where it is accepted
abbrev Known : State → Result State → Type 0
Known s (accepted u) = (u.bank.count ≤ capacity) × Carried 1 s u
Known s (refused n u) = Unit {0}

module _ (s : State) where
  known_unless : (n : ℕ) (o : Result State) → Known s o → Known s (unless n s o)
  known_unless n o h = go (eqb n 0)
    where
      go : (b : Bool) → Known s (cond b o (refused n s))
      go true = h
      go false = tt

  known_fitting : (next : State) → Carried 1 s next → Known s (fitting s next)
  unfolding fitting
  known_fitting next h = go (ltb capacity next.bank.count) refl
    where
      go : (b : Bool) → ltb capacity next.bank.count ≡ b → Known s (cond b (refused 9 s) (accepted next))
      go true e = tt
      go false e = (ltb-false capacity next.bank.count e, h)

  -- the packet taken is left in its place, or not
  module _ (gone : State) (carried : Carried 0 s gone) (i : ℕ) where
    carried_left : (left : Bool) (d : Column) → d.running ≡ runs s.bank i → Carried 0 s (with_column (cond left s gone) i d)
    carried_left true = carried_column s s (carried_same s) i
    carried_left false = carried_column s gone carried i

    known_settled : (r : core.Result) → Steady (column_at s.bank i) r → Known s (settled s gone i r)
    unfolding puts
    known_settled (core.refused n d) h = tt
    known_settled (core.accepted d [] left) h = known_fitting _ (carried_none s _ (carried_left left d h))
    known_settled (core.accepted d (p ∷ []) left) h = known_fitting _ (carried_put s _ (carried_left left d h) p)
    known_settled (core.accepted d (p ∷ (q ∷ l)) left) h = absurd h

  abbrev tree : Tree
  tree = s.bank.tree

  abbrev at : ℕ → Column
  at i = column_at s.bank i

  known_acted : (i n : ℕ) (effect : core.Result) → Steady (at i) effect → Known s (acted s i (core.unless n (at i) effect))
  unfolding acted
  known_acted i n effect h =
      known_unless (acting_refusal s i) _ (known_settled s (carried_same s) i (core.unless n (at i) effect) (steady_cond (eqb n 0) (at i) effect (core.refused n (at i)) h tt))

  known : (x : Step) → by_no_column x ≡ false → Known s (perform s x)
  unfolding perform delivered core.order_effect core.ack_effect core.all_effect core.note_effect
  known (Order doors) e = let i = tree.root in known_acted i (core.order_refusal tree i (at i)) (core.order_effect tree i (at i) doors) refl
  known (Send i) e = known_acted i (core.send_refusal tree i (at i)) (core.send_effect tree i (at i)) (steady_send tree i (at i))
  known (Take place) e =
      let p = packet_at s place in
      let i = receiver p in
      let n = core.take_refusal tree i (at i) p in
      known_unless (take_refusal s place) _ (known_settled (removed s place) (carried_removed s place) i (core.take tree i (at i) p)
      (steady_cond (eqb n 0) (at i) (core.take_effect tree i (at i) p) (core.refused n (at i)) (steady_take tree i (at i) p) tt))
  known (Ack i) e = known_acted i (core.ack_refusal tree i (at i)) (core.ack_effect i (at i)) refl
  known (All i) e = known_acted i (core.all_refusal tree i (at i)) (core.all_effect tree (at i)) refl
  known (Note i j) e = known_acted i (note_refusal s.bank i j) (core.note_effect tree (at i) j) refl
  known (Halt m) e = absurd (true≢false e)
  known (Back j) e = absurd (true≢false e)
  known (Write i offset value) e = absurd (true≢false e)

-- ---- the test is enough, and no more than is needed

packet_valid_lem : (s : State) → Valid s → (k : ℕ) → k < s.bank.count → packet_valid s.bank (packet_at s k) ≡ true
packet_valid_lem s w k h = ap₂ ◌&&◌ (eq-eqb _ 0 (w.packets k h)) (w.receivers k h)

pub valid_still : (s : State) → Valid s → newest_valid s ≡ true
valid_still s w = go (eqb s.bank.count 0) refl
  where
    go : (b : Bool) → eqb s.bank.count 0 ≡ b → (b || packet_valid s.bank (packet_at s (s.bank.count - 1))) ≡ true
    go true e = refl
    go false e = let some = eqb-false s.bank.count 0 e in packet_valid_lem s w (s.bank.count - 1) (omega (arith, some))

module _ (s : State) (x : Step) (s' : State) (i : ℕ) (moves : by_no_column x ≡ false) (good : bank_refusal s ≡ 0) (done : perform s x ≡ accepted s')
    (actor : acts s x i ≡ true) where
  before : Valid s
  before = valid s good

  carried : (s'.bank.count ≤ capacity) × Carried 1 s s'
  carried = subst (Known s) done (known s x moves)

  pub room_on : s'.bank.count ≤ capacity
  room_on = carried.0

  pub tree_on : s'.bank.tree ≡ s.bank.tree
  tree_on = sym (ap (λ (o : Result State). (after o).bank.tree) done) ∙ tree_kept s x

  same_column : (j : ℕ) → (j ≡ i → ⊥) → column_at s'.bank j ≡ column_at s.bank j
  same_column j other =
      sym (ap (λ (o : Result State). column_at (after o).bank j) done) ∙ others_kept s x j (one_acts s x i j moves actor other)

  -- who runs is the same
  pub runs_on : (j : ℕ) → runs s'.bank j ≡ runs s.bank j
  runs_on = carried.1.running

  pub actor_on : (i < s.bank.tree.columns) × (runs s.bank i ≡ true)
  actor_on =
      let none : refusal_of s x ≡ 0 = eqb-true (refusal_of s x) 0 (not-false (eqb (refusal_of s x) 0) (sym (refused_exactly s x) ∙ ap is_refused done)) in
      let z = acting_is s x none i actor in
      (z.0, z.1 (or_none (is_halt x) (of_halted x) moves))

  older_valid : (p : Packet) → Held s p → packet_valid s'.bank p ≡ true
  older_valid p q =
      ap₂ (λ (t : Tree) (r : Bool). eqb (core.packet_refusal t p) 0 && r) tree_on (carried.1.running (receiver p))
      ∙ subst (λ (p : Packet). packet_valid s.bank p ≡ true) q.2 (packet_valid_lem s before q.0 q.1)

  module _ (still : newest_valid s' ≡ true) where
    each_column : (j : ℕ) → j < s'.bank.tree.columns → state_refusal s'.bank.tree j (column_at s'.bank j) ≡ 0
    each_column j h = go (equal_cases j i)
      where
        go : (j ≡ i) ⊎ (j ≡ i → ⊥) → state_refusal s'.bank.tree j (column_at s'.bank j) ≡ 0
        go (inl e) =
            subst (λ k. state_refusal s'.bank.tree k (column_at s'.bank k) ≡ 0) (sym e)
            (ap (λ (t : Tree). state_refusal t i (column_at s'.bank i)) tree_on ∙ column_on s x s' i moves done actor actor_on.1)
        go (inr other) =
            ap₂ (λ (t : Tree) (c : Column). state_refusal t j c) tree_on (same_column j other)
            ∙ before.columns j (subst (λ (t : Tree). j < t.columns) tree_on h)

    newest : 0 < s'.bank.count → packet_valid s'.bank (packet_at s' (s'.bank.count - 1)) ≡ true
    newest some =
        let held : eqb s'.bank.count 0 ≡ false = ne_eqb s'.bank.count 0 (λ e. omega (arith, some, e)) in
        sym (ap (λ (b : Bool). b || packet_valid s'.bank (packet_at s' (s'.bank.count - 1))) held) ∙ still

    each_packet : (k : ℕ) → k < s'.bank.count → packet_valid s'.bank (packet_at s' k) ≡ true
    each_packet k h = go (truth (ltb (k + 1) s'.bank.count))
      where
        go : (ltb (k + 1) s'.bank.count ≡ true) ⊎ (ltb (k + 1) s'.bank.count ≡ false) → packet_valid s'.bank (packet_at s' k) ≡ true
        go (inl e) = older_valid (packet_at s' k) (carried.1.older k (ltb-true (k + 1) s'.bank.count e))
        go (inr e) =
            let last = ltb-false (k + 1) s'.bank.count e in
            let at : s'.bank.count - 1 ≡ k = omega (arith, h, last) in
            subst (λ n. packet_valid s'.bank (packet_at s' n) ≡ true) at (newest (omega (arith, h)))

    pub still_valid : bank_refusal s' ≡ 0
    still_valid = valid_passes s' (record {
      tree = ap tree_refusal tree_on ∙ before.tree;
      columns = each_column;
      room = carried.0;
      packets = λ k h. eqb-true _ 0 (and_left _ _ (each_packet k h));
      receivers = λ k h. and_right (eqb (core.packet_refusal s'.bank.tree (packet_at s' k)) 0) _ (each_packet k h);
    })

  pub valid_on : newest_valid s' ≡ eqb (bank_refusal s') 0
  valid_on =
      same_truth (newest_valid s') (eqb (bank_refusal s') 0)
      (λ e. eq-eqb (bank_refusal s') 0 (still_valid e))
      (λ e. valid_still s' (valid s' (eqb-true (bank_refusal s') 0 e)))
