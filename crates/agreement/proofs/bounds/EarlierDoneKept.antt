-- While the root runs, whoever is watched: everybody is done with the last order but one, but for messages to the root. Assumes nothing.
use Prim.Native.Nat.{ℕ, suc, ◌≤◌, ◌<◌}
use native.Mathlib.Omega.{arith}
use mathlib.Core.Path.{◌≡◌, refl, sym, ap, subst, ◌∙◌}
use mathlib.Core.Logic.{◌≢◌, ◌⊎◌, ⊎_elim, inl, inr}
use mathlib.Core.Bool.{true, false, true≢false}
use mathlib.Core.List.{List}
use lib.ListN.{length}
use borrow.Author.Tests.{eqb-true}
use Rattle.column.specs.laws.Cases.{compare_cases, equal_cases, truth}
use Rattle.column.specs.Sets.{single, insert, without}
use Rattle.column.specs.Trees.{IsTree, children}
use Rattle.column.specs.laws.SubtreeLaws.{Under}
use Rattle.column.specs.declared.tree.Tree.{Tree}
use Rattle.column.specs.declared.state.Column.{Column}
use Rattle.column.specs.declared.packet.Packet.{Packet}
use Rattle.column.specs.declared.packet.Packet.TheVariants.{Message, Acknowledgement}
use Rattle.agreement.proofs.relation.Model.{In, State, Runs, count, post, Taken, Becomes, Holds, taken_held, taken_back, post_cases, others_back}
use Rattle.agreement.proofs.relation.Move.{Idle, Free, Event, Move, order, send_self, send_noted, send_message, take_acknowledgement, take_stale, take_equal, take_lower, take_left, take_higher, acknowledge, widen, note_awaited, note_other, halt, back}
use Rattle.agreement.proofs.relation.Members.{in_single, insert_cases, insert_old, insert_new, without_in, without_cases, join_left, join_right, Below, under_cases, below_child, under_root, root_child}
use Rattle.agreement.proofs.invariant.Invariant.{number, Unserved, Invariant}
use Rattle.agreement.proofs.invariant.Packets.{message_acknowledgement, message_issued, acknowledgement_sender, acknowledgement_number}
use Rattle.agreement.proofs.invariant.InvariantCarried.{each}
use Rattle.agreement.proofs.bounds.SpreadKept.{Onward}
use Rattle.agreement.proofs.bounds.Bounded.{ServesRootOnly, DoneWith, above, done_at, PendingOrDone, pending, finished, EarlierDone}

-- ---- what a move of column a has to show; a halted column has nothing to show of itself

record KeepsEarlierDone (t : Tree) (s : State) (a newest : ℕ) (c : Column) (network : List Packet) : Type 0 where
  does : c.running ≡ true → (k : ℕ) → DoneWith t k (s.columns a) → DoneWith t k c
  lags : c.running ≡ true → (newest ≤ c.number) ⊎ ServesRootOnly t c
  others_lag : (i : ℕ) → i ≢ a → Runs s i → (newest ≤ number s i) ⊎ ServesRootOnly t (s.columns i)
  overs : c.running ≡ true → a ≢ t.root → c.whole ≡ true → ServesRootOnly t c
  descends : c.running ≡ true → (p : ℕ) → Runs s p → Below t a p → PendingOrDone t s c p
  acknowledges : (f r k : ℕ) → Holds network (Acknowledgement f r k) →
      Holds s.network (Acknowledgement f r k) ⊎ ((p : ℕ) → Runs s p → Under t f p → DoneWith t k (s.columns p))

module _ {t : Tree} {s s' : State} {a : ℕ} {c : Column} {network : List Packet} {orders : List ℕ} (b : Becomes s s' a c network orders)
    (ra : Runs s a) (old : EarlierDone t s) where
  earlier_done_become : KeepsEarlierDone t s a (length orders) c network → EarlierDone t s'
  earlier_done_become k = record {
    lagging = λ i h. rw (ap length b.told)
        (each b (λ (j : ℕ) (x : Column). x.running ≡ true → (length orders ≤ x.number) ⊎ ServesRootOnly t x) k.lags k.others_lag i h);
    over = each b (λ (j : ℕ) (x : Column). x.running ≡ true → j ≢ t.root → x.whole ≡ true → ServesRootOnly t x) k.overs (λ j n. old.over j);
    descending = each b (λ (i : ℕ) (x : Column). x.running ≡ true → (p : ℕ) → Runs s' p → Below t i p → PendingOrDone t s' x p)
        (λ h p r u. answered p r (k.descends h p (ran p r) u)) (λ i n h p r u. answered p r (old.descending i h p (ran p r) u));
    acknowledged = λ f r n m p h u. did n p h (⊎_elim (λ z. old.acknowledged f r n z p (ran p h) u) (λ z. z p (ran p h) u)
        (k.acknowledges f r n (subst (λ (l : List Packet). Holds l (Acknowledgement f r n)) b.packets m)));
  }
    where
      ran : (p : ℕ) → Runs s' p → Runs s p
      ran = each b (λ (j : ℕ) (x : Column). x.running ≡ true → Runs s j) (λ _. ra) (λ j n h. h)

      did : (n p : ℕ) → Runs s' p → DoneWith t n (s.columns p) → DoneWith t n (s'.columns p)
      did n = each b (λ (p : ℕ) (x : Column). x.running ≡ true → DoneWith t n (s.columns p) → DoneWith t n x) (λ h. k.does h n) (λ p z h d. d)

      answered : {x : Column} (p : ℕ) → Runs s' p → PendingOrDone t s x p → PendingOrDone t s' x p
      answered p h (pending q u n v) = pending q u n v
      answered {x} p h (finished d) = finished (did x.number p h d)

-- a column whose number rises is done with what it was done with
risen_done : {t : Tree} {k : ℕ} {c c' : Column} → c.number < c'.number → DoneWith t k c → DoneWith t k c'
risen_done l (above h) = above (omega (arith, l, h))
risen_done l (done_at e i) = above (omega (arith, l, e))

module _ (t : Tree) (tree : IsTree t) {s : State} (inv : Invariant t s) (root : Runs s t.root) (old : EarlierDone t s) where
  -- everybody is done with a number below the newest
  lag_done : {k : ℕ} → suc k ≤ count s → (p : ℕ) → Runs s p → DoneWith t k (s.columns p)
  lag_done {k} h p r = ⊎_elim (λ z. above (omega (arith, z, h))) (λ z. go z (compare_cases k (number s p))) (old.lagging p r)
    where
      go : ServesRootOnly t (s.columns p) → (k < number s p) ⊎ ((k ≡ number s p) ⊎ (number s p < k)) → DoneWith t k (s.columns p)
      go z (inl l) = above l
      go z (inr (inl e)) = done_at (sym e) z
      go z (inr (inr l)) = absurd (omega (arith, l, h, inv.near p r))

  -- a column that serves nobody but the root: its subtree is done
  root_only_done : (a : ℕ) → Runs s a → ServesRootOnly t (s.columns a) → (p : ℕ) → Runs s p → Under t a p → DoneWith t (number s a) (s.columns p)
  root_only_done a ra root_only p h u = ⊎_elim
      (λ e. subst (λ (x : ℕ). DoneWith t (number s a) (s.columns x)) (sym e) (done_at refl root_only))
      (λ b. go (old.descending a ra p h b)) (under_cases t a p u)
    where
      go : PendingOrDone t s (s.columns a) p → DoneWith t (number s a) (s.columns p)
      go (pending q o n v) = absurd (n (root_only q o))
      go (finished d) = d

  idle_root_only : (c : Column) → Idle c → ServesRootOnly t c
  idle_root_only c i q u = absurd (⊎_elim (i.0 q) (i.1 q) u)

  abbrev Tells : List Packet → Type 0
  Tells network = (f r k : ℕ) → Holds network (Acknowledgement f r k) →
      Holds s.network (Acknowledgement f r k) ⊎ ((p : ℕ) → Runs s p → Under t f p → DoneWith t k (s.columns p))

  -- column a keeps its number, and whom it had to serve it has still to serve, or they are done
  keeps : (a : ℕ) → Runs s a → {c : Column} {network : List Packet} → c.number ≡ number s a → (ServesRootOnly t (s.columns a) → ServesRootOnly t c) →
      (a ≢ t.root → c.whole ≡ true → ServesRootOnly t c) →
      ((q p : ℕ) → Unserved (s.columns a) q → q ≢ t.root → Runs s p → Under t q p → PendingOrDone t s c p) → Tells network →
      KeepsEarlierDone t s a (count s) c network
  keeps a ra {c} same root_only overs covers acknowledges = record {
    does = λ _ k. same_done k;
    lags = λ _. ⊎_elim (λ z. inl (omega (arith, z, same))) (λ z. inr (root_only z)) (old.lagging a ra);
    others_lag = λ i _. old.lagging i;
    overs = λ _. overs;
    descends = λ _ p h u. same_answered p h (old.descending a ra p h u);
    acknowledges = acknowledges;
  }
    where
      same_done : (k : ℕ) → DoneWith t k (s.columns a) → DoneWith t k c
      same_done k (above l) = above (omega (arith, l, same))
      same_done k (done_at e i) = done_at (same ∙ e) (root_only i)

      same_answered : (p : ℕ) → Runs s p → PendingOrDone t s (s.columns a) p → PendingOrDone t s c p
      same_answered p h (pending q u n v) = covers q p u n h v
      same_answered p h (finished d) = finished (subst (λ (n : ℕ). DoneWith t n (s.columns p)) (sym same) d)

  tells_same : Tells s.network
  tells_same f r k m = inl m

  tells_taken : {x : Packet} {l : List Packet} → Taken s.network x l → Tells l
  tells_taken k f r n m = inl (taken_back k m)

  -- an acknowledgement of a is put
  tells_answer : (a r k : ℕ) (l : List Packet) → ((x : Packet) → Holds l x → Holds s.network x) →
      ((p : ℕ) → Runs s p → Under t a p → DoneWith t k (s.columns p)) → Tells (post s (Acknowledgement a r k) l)
  tells_answer a r k l from told f x n m = ⊎_elim (λ z. inl (from (Acknowledgement f x n) z))
      (λ z. inr (λ p h u. subst (λ (y : ℕ). DoneWith t y (s.columns p)) (sym (acknowledgement_number z.0))
      (told p h (subst (λ (y : ℕ). Under t y p) (acknowledgement_sender z.0) u))))
      (post_cases s (Acknowledgement a r k) l m)

  -- the root is not halted
  halted_other : {x : ℕ} → ¬ Runs s x → x ≡ t.root → ⊥
  halted_other n e = n (subst (Runs s) (sym e) root)

  child_answers : {c : Column} (x p : ℕ) → ((q : ℕ) → In (children t x) q → In c.send q) → Below t x p → PendingOrDone t s c p
  child_answers x p f b = let k = below_child t tree b in pending k.0 (inl (f k.0 k.1))
      (λ e. root_child t x (subst (In (children t x)) e k.1)) k.2

  halted_answers : {c : Column} (x p : ℕ) → ¬ Runs s x → ((q : ℕ) → In (children t x) q → In c.send q) → Runs s p → Under t x p → PendingOrDone t s c p
  halted_answers x p n f h u = ⊎_elim (λ e. absurd (n (subst (Runs s) e h))) (child_answers x p f) (under_cases t x p u)

  -- who acknowledges serves nobody but the root
  free_root_only : (a r : ℕ) → Runs s a → In (s.columns a).owed r → Free t a (s.columns a) → ServesRootOnly t (s.columns a)
  free_root_only a r ra m (inl w) = ⊎_elim
      (λ e. absurd (⊎_elim (λ z. w.1 z e) (λ z. ((inv.locals a ra).shuns z).root_owes e r m) (truth t.watch)))
      (λ n. old.over a ra n w.0) (equal_cases a t.root)
  free_root_only a r ra m (inr i) = idle_root_only (s.columns a) i

  -- the sets of a as before
  same_sets : (a : ℕ) → Runs s a → {c : Column} {network : List Packet} → c.number ≡ number s a → c.send ≡ (s.columns a).send →
      c.awaited ≡ (s.columns a).awaited → c.whole ≡ (s.columns a).whole → Tells network → KeepsEarlierDone t s a (count s) c network
  same_sets a ra {c} e es ea ew tells = keeps a ra e (λ z q u. z q (was q u)) (λ n w q u. old.over a ra n (sym ew ∙ w) q (was q u))
      (λ q p u n h v. pending q (on q u) n v) tells
    where
      was : (q : ℕ) → Unserved c q → Unserved (s.columns a) q
      was q u = ⊎_elim (λ m. inl (subst (λ (x : ℕ). In x q) es m)) (λ m. inr (subst (λ (x : ℕ). In x q) ea m)) u

      on : (q : ℕ) → Unserved (s.columns a) q → Unserved c q
      on q u = ⊎_elim (λ m. inl (subst (λ (x : ℕ). In x q) (sym es) m)) (λ m. inr (subst (λ (x : ℕ). In x q) (sym ea) m)) u

  pub earlier_done_kept : {s' : State} {e : Event} → Move t s s' e → Onward e → EarlierDone t s'
  earlier_done_kept (order d r idle free b) o = earlier_done_become b r old record {
    does = λ _ k. risen_done (omega arith);
    lags = λ _. inl (omega (arith, inv.root_newest root));
    others_lag = λ i n h. lags i (root_only_done t.root root (idle_root_only (s.columns t.root) idle) i h (under_root t tree i (inv.inside i h)));
    overs = λ _ n. absurd (n refl);
    descends = λ _ p h u. child_answers t.root p (λ q m. m) u;
    acknowledges = λ f r k m. inl m;
  }
    where
      lags : (i : ℕ) → DoneWith t (number s t.root) (s.columns i) → (suc (count s) ≤ number s i) ⊎ ServesRootOnly t (s.columns i)
      lags i (above l) = inl (omega (arith, l, inv.root_newest root))
      lags i (done_at e z) = inr z
  earlier_done_kept (send_self a x r e m b) o = absurd (⊎_elim
      (λ w. ⊎_elim (λ z. ((inv.locals a r).own (inr z) x (inl m)).other e)
      (λ n. n (sym e ∙ old.over a r n w x (inl m))) (equal_cases a t.root))
      (λ w. ((inv.locals a r).own (inl w) x (inl m)).other e) (truth (s.columns a).whole))
  earlier_done_kept (send_noted a x r m n b) o =
      let halted : ¬ Runs s x = (inv.coverages a r).noted_halted x n in
      earlier_done_become b r old (keeps a r refl
      (λ z. absurd (halted_other halted (z x (inl m)))) (λ z w. absurd (halted_other halted (old.over a r z w x (inl m))))
      (λ q p u nq h v. ⊎_elim
      (λ k. ⊎_elim (λ z. pending q (inl (join_left (without (s.columns a).send x) (children t x) z)) nq v)
      (λ e. halted_answers x p halted (λ y z. join_right (without (s.columns a).send x) (children t x) z) h (subst (λ (y : ℕ). Under t y p) e v))
      (without_cases (s.columns a).send x k))
      (λ k. pending q (inr k) nq v) u) tells_same)
  earlier_done_kept {s'} (send_message a x r e m n b) o =
      earlier_done_become b r old (keeps a r refl (λ z q u. z q (was q u)) (λ z w q u. old.over a r z w q (was q u))
      (λ q p u nq h v. ⊎_elim
      (λ k. ⊎_elim (λ z. pending q (inl z) nq v)
      (λ z. pending q (inr (subst (In (insert (s.columns a).awaited x)) (sym z) (insert_new (s.columns a).awaited x))) nq v)
      (without_cases (s.columns a).send x k))
      (λ k. pending q (inr (insert_old (s.columns a).awaited x k)) nq v) u)
      (λ f y k h. ⊎_elim (λ z. inl z) (λ z. absurd (message_acknowledgement (sym z.0)))
      (post_cases s (Message a x (s.columns a).number (s.columns a).doors) s.network h)))
    where
      was : (q : ℕ) → In (without (s.columns a).send x) q ⊎ In (insert (s.columns a).awaited x) q → Unserved (s.columns a) q
      was q u = ⊎_elim (λ k. inl (without_in (s.columns a).send x k))
          (λ k. ⊎_elim (λ z. inr z) (λ z. inl (subst (In (s.columns a).send) (sym z) m)) (insert_cases (s.columns a).awaited x k)) u
  earlier_done_kept (take_acknowledgement a q k r e taken b) o =
      earlier_done_become b r old (keeps a r refl (λ z x u. z x (was x u)) (λ z w x u. old.over a r z w x (was x u))
      (λ x p u nx h v. ⊎_elim (λ m. pending x (inl m) nx v)
      (λ m. ⊎_elim (λ z. pending x (inr z) nx v) (λ z. finished (told p h (subst (λ (y : ℕ). Under t y p) z v))) (without_cases (s.columns a).awaited q m)) u)
      (tells_taken taken))
    where
      was : (x : ℕ) → In (s.columns a).send x ⊎ In (without (s.columns a).awaited q) x → Unserved (s.columns a) x
      was x u = ⊎_elim (λ m. inl m) (λ m. inr (without_in (s.columns a).awaited q m)) u

      told : (p : ℕ) → Runs s p → Under t q p → DoneWith t (number s a) (s.columns p)
      told p h u = subst (λ (y : ℕ). DoneWith t y (s.columns p)) e (old.acknowledged q a k (taken_held taken) p h u)
  earlier_done_kept (take_stale a q k r n taken b) o = earlier_done_become b r old (same_sets a r refl refl refl refl (tells_taken taken))
  earlier_done_kept (take_equal a q k d r e taken b) o = earlier_done_become b r old (same_sets a r refl refl refl refl (tells_taken taken))
  earlier_done_kept (take_lower a q k d {l} r lt taken b) o = earlier_done_become b r old (same_sets a r refl refl refl refl
      (tells_answer a q k l (λ x m. taken_back taken m) (λ p h u. lag_done (omega (arith, lt, (inv.records a r).at_most)) p h)))
  earlier_done_kept (take_left a q k d x r lt taken m b) o = earlier_done_become b r old (same_sets a r refl refl refl refl
      (tells_answer a x (number s a) s.network (λ y z. z)
      (λ p h u. lag_done (omega (arith, lt, (message_issued (inv.packets (Message q a k d) (taken_held taken))).at_most)) p h)))
  earlier_done_kept (take_higher a q k d r lt taken e b) o = earlier_done_become b r old record {
    does = λ _ x. risen_done lt;
    lags = λ _. inl (omega (arith, lt, inv.near a r));
    others_lag = λ i _. old.lagging i;
    overs = λ _ n w. absurd (n (eqb-true a t.root w));
    descends = λ _ p h u. child_answers a p (λ q m. m) u;
    acknowledges = λ f r x m. inl (taken_back taken m);
  }
  earlier_done_kept (acknowledge a x r m free b) o = earlier_done_become b r old (same_sets a r refl refl refl refl
      (tells_answer a x (number s a) s.network (λ y z. z) (root_only_done a r (free_root_only a x r m free))))
  earlier_done_kept (widen a r n m w idle b) o = earlier_done_become b r old (keeps a r refl (λ _. now) (λ _ _. now)
      (λ q p u nq h v. absurd (⊎_elim (idle.0 q) (idle.1 q) u)) tells_same)
    where
      now : (q : ℕ) → In (single t.root) q ⊎ In (s.columns a).awaited q → q ≡ t.root
      now q u = ⊎_elim (λ k. in_single t.root k) (λ k. absurd (idle.1 q k)) u
  earlier_done_kept (note_awaited a j r _ n m b) o =
      earlier_done_become b r old (keeps a r refl
      (λ z. absurd (halted_other n (z j (inr m)))) (λ z w. absurd (halted_other n (old.over a r z w j (inr m))))
      (λ q p u nq h v. ⊎_elim
      (λ k. pending q (inl (join_left (s.columns a).send (children t j) k)) nq v)
      (λ k. ⊎_elim (λ z. pending q (inr z) nq v)
      (λ e. halted_answers j p n (λ y z. join_right (s.columns a).send (children t j) z) h (subst (λ (y : ℕ). Under t y p) e v))
      (without_cases (s.columns a).awaited j k)) u) tells_same)
  earlier_done_kept (note_other a j r _ n m _ b) o = earlier_done_become b r old (same_sets a r refl refl refl refl tells_same)
  earlier_done_kept (halt a r b) o = earlier_done_become b r old record {
    does = λ h. absurd (stopped h);
    lags = λ h. absurd (stopped h);
    others_lag = λ i _. old.lagging i;
    overs = λ h. absurd (stopped h);
    descends = λ h. absurd (stopped h);
    acknowledges = λ f r x m. inl (others_back a s.network m);
  }
    where
      stopped : false ≡ true → ⊥
      stopped h = true≢false (sym h)
  earlier_done_kept (back j l noted rest h n nr r k b) o = absurd o
