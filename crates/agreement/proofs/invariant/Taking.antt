-- A take that leaves the record of its column, an acknowledgement and a takeover keep the invariant. Assumes nothing.
use Prim.Native.Nat.{ℕ, ◌≤◌, ◌<◌}
use native.Mathlib.Omega.{arith}
use mathlib.Core.Path.{◌≡◌, refl, sym, ap, subst, ◌∙◌}
use mathlib.Core.Logic.{◌≢◌, ◌⊎◌, ⊎_elim, inl, inr}
use mathlib.Core.Bool.{Bool, true, false, cond, true≢false}
use mathlib.Core.List.{List}
use Rattle.column.specs.laws.Cases.{truth}
use Rattle.column.specs.Sets.{single, insert, without}
use Rattle.column.specs.Trees.{IsTree}
use Rattle.column.specs.laws.SubtreeLaws.{Under}
use Rattle.column.specs.Columns.{watched}
use Rattle.column.specs.Packets.{receiver}
use Rattle.column.specs.declared.tree.Tree.{Tree}
use Rattle.column.specs.declared.state.Column.{Column}
use Rattle.column.specs.declared.packet.Packet.{Packet}
use Rattle.column.specs.declared.packet.Packet.TheVariants.{Message, Acknowledgement}
use Rattle.agreement.proofs.relation.Model.{In, Empty, State, Runs, post, Taken, Becomes, Holds, taken_held, taken_back, taken_cases, taken_keeps, post_cases, post_old, post_new}
use Rattle.agreement.proofs.relation.Move.{renewed, serving, owing, Idle, Free}
use Rattle.agreement.proofs.relation.Members.{in_single, single_in, insert_old, insert_new, without_in, without_other, without_cases, under_cases, under_root}
use Rattle.agreement.proofs.invariant.Invariant.{number, Covered, pending, reached, Truthful, acknowledgement_truthful, message_sent, acknowledgement_owed, acknowledgement_sent, Invariant}
use Rattle.agreement.proofs.invariant.InvariantCarried.{steady}
use Rattle.agreement.proofs.invariant.Links.{linked_stays}
use Rattle.agreement.proofs.invariant.Packets.{message_acknowledgement, message_sender, message_number, acknowledgement_sender, acknowledgement_number, message_issued, message_receiver, acknowledgement_subtree, outstanding_cases}
use Rattle.agreement.proofs.invariant.Adjusting.{Adjusts, adjust}

module _ (t : Tree) (tree : IsTree t) {s : State} (a : ℕ) (inv : Invariant t s) (ra : Runs s a) where
  abbrev c : Column
  c = s.columns a

  -- a packet to a is taken
  module _ {l : List Packet} {x : Packet} (k : Taken s.network x l) (mine : receiver x ≡ a) where
    taken_new : (r : Packet) → Holds l r → Holds s.network r ⊎ Truthful t s r
    taken_new r m = inl (taken_back k m)

    taken_old : (r : Packet) → Holds s.network r → Holds l r ⊎ (receiver r ≡ a)
    taken_old r m = ⊎_elim (λ z. inl z) (λ e. inr (ap receiver e ∙ mine)) (taken_cases k m)

  -- the sets stay, but for those owed
  as_before : {owed : ℕ} → (t.watch ≡ false → a ≡ t.root → Empty owed) → Adjusts t tree a inv ra c.send c.awaited owed c.noted
  as_before f = record {
    sends = λ q m. inl m;
    awaits = λ q m. inl m;
    owes = f;
    notes = λ q m. m;
    halts = (inv.coverages a ra).noted_halted;
    parts = (inv.locals a ra).apart;
    covers = λ q p u h v. pending q u v;
  }

  pub keep_take_acknowledgement : {s' : State} (q : ℕ) {l : List Packet} → Taken s.network (Acknowledgement q a c.number) l →
      Becomes s s' a (serving c c.send (without c.awaited q)) l s.orders → Invariant t s'
  keep_take_acknowledgement q k b = adjust t tree a inv ra
      record {
        sends = λ x m. inl m;
        awaits = λ x m. inl (without_in c.awaited q m);
        owes = λ o. ((inv.locals a ra).shuns o).root_owes;
        notes = λ x m. m;
        halts = (inv.coverages a ra).noted_halted;
        parts = λ x m n. (inv.locals a ra).apart x (without_in c.awaited q m) n;
        covers = λ x p u h v. ⊎_elim (λ m. pending x (inl m) v)
            (λ m. ⊎_elim (λ z. pending x (inr z) v)
            (λ e. reached (acknowledgement_subtree (inv.packets (Acknowledgement q a c.number) (taken_held k)) p h
            (subst (λ (y : ℕ). Under t y p) e v)))
            (without_cases c.awaited q m)) u;
      }
      b
      record {
        new = taken_new k refl;
        old = taken_old k refl;
        awaits = λ x n h m. outstanding_cases (inv.outstanding a x ra h (without_in c.awaited q m))
            (λ d v. message_sent d (taken_keeps k v message_acknowledgement)) (λ o e. acknowledgement_owed o e)
            (λ v. acknowledgement_sent (taken_keeps k v (λ e. without_other c.awaited q m (acknowledgement_sender e))));
        awaited = λ p n h w. outstanding_cases w
            (λ d v. message_sent d (taken_keeps k v message_acknowledgement)) (λ o e. acknowledgement_owed o e)
            (λ v. acknowledgement_sent (taken_keeps k v (λ e. n (ap receiver e))));
      }

  pub keep_take_stale : {s' : State} (q n : ℕ) {l : List Packet} → n ≢ c.number → Taken s.network (Acknowledgement q a n) l →
      Becomes s s' a c l s.orders → Invariant t s'
  keep_take_stale q n ne k b = adjust t tree a inv ra (as_before (λ o. ((inv.locals a ra).shuns o).root_owes)) b record {
    new = taken_new k refl;
    old = taken_old k refl;
    awaits = λ x nx h m. outstanding_cases (inv.outstanding a x ra h m)
        (λ d v. message_sent d (taken_keeps k v message_acknowledgement)) (λ o e. acknowledgement_owed o e)
        (λ v. acknowledgement_sent (taken_keeps k v (λ e. ne (sym (acknowledgement_number e)))));
    awaited = λ p np h w. outstanding_cases w
        (λ d v. message_sent d (taken_keeps k v message_acknowledgement)) (λ o e. acknowledgement_owed o e)
        (λ v. acknowledgement_sent (taken_keeps k v (λ e. np (ap receiver e))));
  }

  pub keep_take_equal : {s' : State} (q d : ℕ) {l : List Packet} → Taken s.network (Message q a c.number d) l →
      Becomes s s' a (owing c (insert c.owed q)) l s.orders → Invariant t s'
  keep_take_equal q d k b = adjust t tree a inv ra
      (as_before (λ o e. absurd (message_receiver (inv.packets (Message q a c.number d) (taken_held k)) o e)))
      b
      record {
        new = taken_new k refl;
        old = taken_old k refl;
        awaits = λ x n h m. outstanding_cases (inv.outstanding a x ra h m)
            (λ i v. message_sent i (taken_keeps k v (λ e. n (ap receiver e)))) (λ o e. acknowledgement_owed o e)
            (λ v. acknowledgement_sent (taken_keeps k v (λ e. message_acknowledgement (sym e))));
        awaited = λ p n h w. outstanding_cases w
            (λ i v. ⊎_elim (λ z. message_sent i z)
            (λ e. acknowledgement_owed (subst (In (insert c.owed q)) (sym (message_sender e)) (insert_new c.owed q)) (sym (message_number e)))
            (taken_cases k v))
            (λ o e. acknowledgement_owed (insert_old c.owed q o) e)
            (λ v. acknowledgement_sent (taken_keeps k v (λ e. message_acknowledgement (sym e))));
      }

  pub keep_take_lower : {s' : State} (q n d : ℕ) {l : List Packet} → n < c.number → Taken s.network (Message q a n d) l →
      Becomes s s' a c (post s (Acknowledgement a q n) l) s.orders → Invariant t s'
  keep_take_lower q n d {l} lt k b = adjust t tree a inv ra (as_before (λ o. ((inv.locals a ra).shuns o).root_owes)) b record {
    new = λ r m. ⊎_elim (λ z. inl (taken_back k z))
        (λ z. inr (subst (Truthful t s) (sym z.0) (acknowledgement_truthful (λ p h u. older p h))))
        (post_cases s answer l m);
    old = λ r m. ⊎_elim (λ z. inl (post_old s answer l z)) (λ e. inr e) (taken_old k refl r m);
    awaits = λ x nx h m. outstanding_cases (inv.outstanding a x ra h m)
        (λ i v. message_sent i (kept v (λ e. nx (ap receiver e)))) (λ o e. acknowledgement_owed o e)
        (λ v. acknowledgement_sent (kept v (λ e. message_acknowledgement (sym e))));
    awaited = λ p np h w. outstanding_cases w
        (λ i v. ⊎_elim (λ z. message_sent i (post_old s answer l z))
        (λ e. acknowledgement_sent (subst (λ (r : Packet). Holds (post s answer l) r)
        (ap (λ (y : ℕ). Acknowledgement a y n) (sym (message_sender e)) ∙ ap (λ (y : ℕ). Acknowledgement a p y) (sym (message_number e)))
        (post_new s answer l (subst (Runs s) (message_sender e) h)))) (taken_cases k v))
        (λ o e. acknowledgement_owed o e)
        (λ v. acknowledgement_sent (kept v (λ e. message_acknowledgement (sym e))));
  }
    where
      answer : Packet
      answer = Acknowledgement a q n

      kept : {r : Packet} → Holds s.network r → r ≢ Message q a n d → Holds (post s answer l) r
      kept m ne = post_old s answer l (taken_keeps k m ne)

      older : (p : ℕ) → Runs s p → n ≤ number s p
      older p h = omega (arith, inv.near p h, (inv.records a ra).at_most)

  -- one who is owed is acknowledged: all that run in the subtree have the number
  keep_answer : {s' : State} (r : ℕ) → In c.owed r → ((p : ℕ) → Runs s p → Under t a p → c.number ≤ number s p) →
      Becomes s s' a (owing c (without c.owed r)) (post s (Acknowledgement a r c.number) s.network) s.orders → Invariant t s'
  keep_answer r m f b = adjust t tree a inv ra (as_before (λ o e q k. ((inv.locals a ra).shuns o).root_owes e q (without_in c.owed r k))) b record {
    new = λ x k. ⊎_elim (λ z. inl z) (λ z. inr (subst (Truthful t s) (sym z.0) (acknowledgement_truthful f)))
        (post_cases s answer s.network k);
    old = λ x k. inl (kept k);
    awaits = λ x n h k. outstanding_cases (inv.outstanding a x ra h k)
        (λ d v. message_sent d (kept v)) (λ o e. acknowledgement_owed o e) (λ v. acknowledgement_sent (kept v));
    awaited = λ p n h w. outstanding_cases w (λ d v. message_sent d (kept v))
        (λ o e. ⊎_elim (λ z. acknowledgement_owed z e)
        (λ z. acknowledgement_sent (subst (λ (x : Packet). Holds (post s answer s.network) x)
        (ap (λ (y : ℕ). Acknowledgement a y c.number) (sym z) ∙ ap (λ (y : ℕ). Acknowledgement a p y) e)
        (post_new s answer s.network (subst (Runs s) z h)))) (without_cases c.owed r o))
        (λ v. acknowledgement_sent (kept v));
  }
    where
      answer : Packet
      answer = Acknowledgement a r c.number

      kept : {x : Packet} → Holds s.network x → Holds (post s answer s.network) x
      kept k = post_old s answer s.network k

  pub keep_take_left : {s' : State} (q n d r : ℕ) {l : List Packet} → c.number < n → Taken s.network (Message q a n d) l →
      In c.owed r →
      Becomes s s' a (owing c (without c.owed r)) (post s (Acknowledgement a r c.number) s.network) s.orders → Invariant t s'
  keep_take_left q n d r lt k m b = keep_answer r m
      (λ p h u. omega (arith, inv.near p h, (message_issued (inv.packets (Message q a n d) (taken_held k))).at_most)) b

  -- a column that serves nobody: whoever it answers for has its number
  idle_covered : Idle c → (p : ℕ) → Covered t s c p → c.number ≤ number s p
  idle_covered idle p (pending q o v) = absurd (⊎_elim (idle.0 q) (idle.1 q) o)
  idle_covered idle p (reached z) = z

  subtree_served : c.whole ≡ false → Idle c → (p : ℕ) → Runs s p → Under t a p → c.number ≤ number s p
  subtree_served w idle p h u =
      ⊎_elim (λ z. omega (arith, ap (number s) z)) (λ b. idle_covered idle p ((inv.coverages a ra).own_covered w p h b)) (under_cases t a p u)

  idle_served : Idle c → (p : ℕ) → Runs s p → Under t a p → c.number ≤ number s p
  idle_served idle p h u =
      ⊎_elim (λ w. idle_covered idle p ((inv.coverages a ra).all_covered w p h)) (λ w. subtree_served w idle p h u) (truth c.whole)

  pub keep_acknowledge : {s' : State} (r : ℕ) → In c.owed r → Free t a c →
      Becomes s s' a (owing c (without c.owed r)) (post s (Acknowledgement a r c.number) s.network) s.orders → Invariant t s'
  keep_acknowledge r m o b = keep_answer r m (⊎_elim whole idle_served o) b
    where
      whole : (c.whole ≡ true) × (t.watch ≡ true → a ≢ t.root) → (p : ℕ) → Runs s p → Under t a p → c.number ≤ number s p
      whole z = (inv.coverages a ra).settled z.0 (⊎_elim z.1 (λ w e. ((inv.locals a ra).shuns w).root_owes e r m) (truth t.watch))

  pub keep_widen : {s' : State} → a ≢ t.root → In c.noted (watched t c) → c.whole ≡ false → Idle c →
      Becomes s s' a (renewed c c.number c.doors (single t.root) c.awaited c.owed true c.sender) s.network s.orders →
      Invariant t s'
  keep_widen n m w idle b = steady t inv ra b (λ o. linked_stays t b (inv.linked o) ra (omega arith) (λ _ z. absurd (true≢false z))) record {
    rises = omega arith;
    newest = λ e. absurd (n e);
    issued = λ _. inv.records a ra;
    local = λ _. record {
      root_whole = λ _. refl;
      members = λ q u. ⊎_elim (λ k. subst (λ (x : ℕ). x < t.columns) (sym (in_single t.root k)) tree.root_below) (λ k. absurd (idle.1 q k)) u;
      own = λ z. absurd (⊎_elim (λ e. true≢false e) n z);
      self_awaited = idle.1 a;
      apart = λ q k. absurd (idle.1 q k);
      shuns = λ o. record { root_noted = λ _ _. root_in o; root_sent = λ _. root_in o; root_owes = λ e. absurd (n e) };
    };
    coverage = λ _. record {
      own_covered = λ z. absurd (true≢false z);
      all_covered = λ _ p h. pending t.root (inl (single_in t.root)) (under_root t tree p (inv.inside p h));
      settled = λ _ _. subtree_served w idle;
      noted_halted = (inv.coverages a ra).noted_halted;
    };
    new = λ r k. inl k;
    old = λ r k. inl k;
    awaits = λ _ q nq h k. absurd (idle.1 q k);
    awaited = λ _ p np h v. outstanding_cases v
        (λ d k. message_sent d k) (λ o z. acknowledgement_owed o z) (λ k. acknowledgement_sent k);
  }
    where
      root_in : t.watch ≡ false → In c.noted t.root
      root_in o = subst (λ (b : Bool). In c.noted (cond b c.sender t.root)) o m
