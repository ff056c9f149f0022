-- Whoever is watched: every move but a return keeps what the halts say of the messages to the root. Assumes nothing.
use Prim.Native.Nat.{ℕ, suc, ◌+◌, ◌≤◌, ◌<◌}
use native.Mathlib.Omega.{arith}
use mathlib.Core.Path.{◌≡◌, refl, sym, ap, subst, ◌∙◌}
use mathlib.Core.Logic.{◌≢◌, ◌⊎◌, ⊎_elim, inl, inr}
use mathlib.Core.Bool.{Bool, true, false, ◌&&◌, ◌||◌, cond, true≢false}
use mathlib.Core.List.{List, ◌∷◌}
use lib.Dec.{eqb}
use lib.ListN.{length}
use borrow.Author.Tests.{eq-eqb, eqb-true}
use Rattle.column.specs.laws.Cases.{equal_cases, truth, and_left, and_right, or_cases}
use Rattle.column.specs.Sets.{without}
use Rattle.column.specs.Trees.{children}
use Rattle.column.specs.declared.tree.Tree.{Tree}
use Rattle.column.specs.declared.state.Column.{Column}
use Rattle.column.specs.declared.packet.Packet.{Packet}
use Rattle.column.specs.declared.packet.Packet.TheVariants.{Message, Acknowledgement}
use Rattle.bank.specs.laws.NetworkLaws.{others}
use Rattle.agreement.proofs.relation.Model.{In, State, Runs, count, post, Becomes, Holds, taken_held, taken_back, post_cases, others_back}
use Rattle.agreement.proofs.relation.Move.{halted, Idle, Event, Move, order, send_self, send_noted, send_message, take_acknowledgement, take_stale, take_equal, take_lower, take_left, take_higher, acknowledge, widen, note_awaited, note_other, halt, back}
use Rattle.agreement.proofs.relation.Members.{without_in, join_cases, root_child}
use Rattle.agreement.proofs.invariant.Invariant.{number, running_cases, Covered, pending, reached, Invariant, ranked, ranked_here, ranked_other}
use Rattle.agreement.proofs.invariant.Packets.{message_acknowledgement, message_issued}
use Rattle.agreement.proofs.invariant.InvariantCarried.{each}
use Rattle.agreement.proofs.bounds.Sums.{sum_le, sum_drop}
use Rattle.agreement.proofs.bounds.TokenLaws.{one, tokens, any, stale, current}
use Rattle.agreement.proofs.bounds.PairTokens.{Falls, zero_cases, risen_current, risen_stale}
use Rattle.agreement.proofs.bounds.SpreadKept.{Onward}
use Rattle.agreement.proofs.bounds.Bounded.{halted_before, RootPairTokens, HaltCounts, HaltHistory, SomeHaltHistory}
use Rattle.agreement.proofs.bounds.PairTokensKept.{falls_or_sent, AllPairTokens}
use Rattle.agreement.proofs.bounds.HaltCounts.{keep_root_pair, counts_steady, history_falls, sent_history}

module _ (t : Tree) (s s' : State) (g : ℕ → ℕ) (h : ℕ) (before : ℕ → ℕ → Bool) (inv : Invariant t s) (pair_tokens : AllPairTokens t s) (old : HaltHistory t s g h before) where
  -- ---- an order

  order_counts : Falls s s' → (d : ℕ) (c : Column) → c.running ≡ true → Runs s t.root → Idle (s.columns t.root) →
      Becomes s s' t.root c s.network (d ∷ s.orders) → HaltCounts t s' (ranked g (suc (count s)) h) h before
  order_counts falls d c on root idle b = record {
    most = λ k. ⊎_elim (λ e. omega (arith, ap g' e, ranked_here g (suc (count s)) h)) (λ n. omega (arith, counts.most k, ranked_other g (suc (count s)) h k n))
        (equal_cases k (suc (count s)));
    messages = λ f r k d m.
        let m' = subst (λ (l : List Packet). Holds l (Message f r k d)) b.packets m in
        let e = as_before k (message_issued (inv.packets (Message f r k d) m')).at_most in
        ⊎_elim (λ w. inl (runs_on f w)) (λ w. inr (omega (arith, w, e))) (counts.messages f r k d m');
    root_pairs = each b (λ (j : ℕ) (x : Column). x.running ≡ true → j ≢ t.root → RootPairTokens t s' g' h j x) (λ _ n. absurd (n refl)) (λ j n r nr. enters j r nr);
    counted = each b (λ (j : ℕ) (x : Column). x.running ≡ true → h ≤ halted_before before t.columns j) (λ _. counts.counted t.root root) (λ j n r. counts.counted j r);
  }
    where
      counts : HaltCounts t s g h before
      counts = old.counts root

      g' : ℕ → ℕ
      g' = ranked g (suc (count s)) h

      runs_on : (i : ℕ) → Runs s i → Runs s' i
      runs_on = each b (λ (j : ℕ) (x : Column). Runs s j → x.running ≡ true) (λ _. on) (λ j n r. r)

      as_before : (k : ℕ) → k ≤ count s → ranked g (suc (count s)) h k ≡ g k
      as_before k l = ranked_other g (suc (count s)) h k (λ e. omega (arith, e, l))

      more : count s' ≡ suc (count s)
      more = ap length b.told

      newest : (j : ℕ) → Runs s j → number s j ≡ count s
      newest j r = go ((inv.coverages t.root root).all_covered ((inv.locals t.root root).root_whole refl) j r)
        where
          go : Covered t s (s.columns t.root) j → number s j ≡ count s
          go (pending q u v) = absurd (⊎_elim (idle.0 q) (idle.1 q) u)
          go (reached l) = omega (arith, l, inv.root_newest root, (inv.records j r).at_most)

      enters : (j : ℕ) → Runs s j → j ≢ t.root → RootPairTokens t s' (ranked g (suc (count s)) h) h j (s.columns j)
      enters j r n =
          let e = counts.root_pairs j r n in
          let same = as_before (number s j) (omega (arith, newest j r)) in
          record {
            sends_root = λ m. omega (arith, same, e.sends_root m);
            current_root = λ z. omega (arith, same, e.current_root (omega (arith, z, falls (current (number s j)) j t.root)));
            newest = λ z. absurd (omega (arith, z, more, newest j r));
            older = λ z. omega (
              arith,
              falls (stale (number s j)) j t.root,
              e.newest (newest j r),
              same,
              ap (ranked g (suc (count s)) h) more,
              ranked_here g (suc (count s)) h,
            );
            sender_ran = λ w o. ⊎_elim (λ z. inl (runs_on (s.columns j).sender z)) (λ z. inr (omega (arith, z, same))) (e.sender_ran w o);
          }

  -- ---- a move of one column that halts nobody

  module _ (a : ℕ) (c : Column) (network : List Packet) (b : Becomes s s' a c network s.orders) (on : c.running ≡ true) (ra : Runs s a) (falls : Falls s s') where
    ran : (i : ℕ) → Runs s' i → Runs s i
    ran = each b (λ (j : ℕ) (x : Column). x.running ≡ true → Runs s j) (λ _. ra) (λ j n r. r)

    runs_on : (i : ℕ) → Runs s i → Runs s' i
    runs_on = each b (λ (j : ℕ) (x : Column). Runs s j → x.running ≡ true) (λ _. on) (λ j n r. r)

    abbrev News : Type 0
    News = (f r k d : ℕ) → Holds network (Message f r k d) → Holds s.network (Message f r k d)

    steady_history : News → (HaltCounts t s g h before → Runs s t.root → a ≢ t.root → RootPairTokens t s' g h a c) → HaltHistory t s' g h before
    steady_history new mine = history_falls t s s' g g h h before falls ran old
        (λ root. let counts = old.counts (ran t.root root) in
        counts_steady t s s' g h before a c network b on ra counts (λ f p _. falls f p t.root) (λ f r k d m. inl (new f r k d m))
        (mine counts (ran t.root root)))

    -- the record stays, and the root is not to be sent to
    kept_history : News → c.number ≡ number s a → (In c.send t.root → In (s.columns a).send t.root) → c.whole ≡ (s.columns a).whole →
        c.sender ≡ (s.columns a).sender → HaltHistory t s' g h before
    kept_history new e sends whole sender = steady_history new (λ counts root n.
        let z = counts.root_pairs a ra n in
        keep_root_pair t s s' g h a (s.columns a) c (λ f. falls f a t.root) (ap length b.told) runs_on e
        (λ m. z.sends_root (sends m)) (λ w. (sym whole ∙ w, sender)) z)

  -- ---- a halt

  module _ (a : ℕ) (b : Becomes s s' a (halted (s.columns a)) (others a s.network) s.orders) (ra : Runs s a) (falls : Falls s s')
      (alone : (p q : ℕ) → q ≢ t.root → Runs s t.root → tokens any s p q ≤ 1) where
    went : (i : ℕ) → Runs s' i → Runs s i
    went = each b (λ (j : ℕ) (x : Column). x.running ≡ true → Runs s j) (λ _. ra) (λ j n r. r)

    gone : ¬ Runs s' a
    gone r = true≢false (sym r ∙ ap (λ (x : Column). x.running) b.mine)

    stays : (i : ℕ) → i ≢ a → Runs s i → Runs s' i
    stays i n r = subst (λ (x : Column). x.running ≡ true) (sym (b.same i n)) r

    -- a halted before all that still run
    abbrev then : ℕ → ℕ → Bool
    then p q = (eqb q a && (s'.columns p).running) || before p q

    then_cases : (p q : ℕ) → then p q ≡ true → ((q ≡ a) × Runs s' p) ⊎ (before p q ≡ true)
    then_cases p q e = ⊎_elim (λ z. inl (eqb-true q a (and_left (eqb q a) _ z), and_right (eqb q a) _ z)) (λ z. inr z)
        (or_cases (eqb q a && (s'.columns p).running) (before p q) e)

    more : (p q : ℕ) → one (before p q) ≤ one (then p q)
    more p q = go (eqb q a && (s'.columns p).running) (before p q)
      where
        go : (x y : Bool) → one y ≤ one (x || y)
        go true true = omega arith
        go true false = omega arith
        go false y = omega arith

    more_halted : (p : ℕ) → halted_before before t.columns p ≤ halted_before then t.columns p
    more_halted p = sum_le (λ q. one (before p q)) (λ q. one (then p q)) t.columns (λ q _. more p q)

    one_more_halted : (p : ℕ) → Runs s' p → halted_before before t.columns p + 1 ≤ halted_before then t.columns p
    one_more_halted p r = sum_drop (λ q. one (before p q)) (λ q. one (then p q)) t.columns a 1 (inv.inside a ra) here (λ q _. more p q)
      where
        here : one (before p a) + 1 ≤ one ((eqb a a && (s'.columns p).running) || before p a)
        here = ⊎_elim (λ e. absurd (old.stopped p a e ra)) (λ (e : before p a ≡ false). let z : one (before p a) ≡ 0 = ap one e in rw (eq-eqb a a refl, r) (omega (arith, z))) (truth (before p a))

    halt_counts : Runs s' t.root → HaltCounts t s' g (suc h) then
    halt_counts root = record {
      most = λ k. omega (arith, counts.most k);
      messages = λ f r k d m. ran_or f k (counts.messages f r k d (others_back a s.network (subst (λ (l : List Packet). Holds l (Message f r k d)) b.packets m)));
      root_pairs = each b (λ (j : ℕ) (x : Column). x.running ≡ true → j ≢ t.root → RootPairTokens t s' g (suc h) j x) (λ r. absurd (true≢false (sym r)))
          (λ j n r nr. let e = counts.root_pairs j r nr in record {
            sends_root = λ m. omega (arith, e.sends_root m);
            current_root = λ z. omega (arith, e.current_root (omega (arith, z, falls (current (number s j)) j t.root)));
            newest = λ z. omega (arith, falls (stale (number s j)) j t.root, e.newest (z ∙ ap length b.told));
            older = λ z. omega (arith, falls (stale (number s j)) j t.root, e.older (z ∙ ap length b.told), ap (λ (l : List ℕ). g (length l)) b.told);
            sender_ran = λ w o. ran_or (s.columns j).sender (number s j) (e.sender_ran w o);
          });
      counted = λ p r. omega (arith, counts.counted p (went p r), one_more_halted p r);
    }
      where
        counts : HaltCounts t s g h before
        counts = old.counts (went t.root root)

        ran_or : (f k : ℕ) → Runs s f ⊎ (g k < h) → Runs s' f ⊎ (g k < suc h)
        ran_or f k (inl r) = ⊎_elim (λ e. inr (omega (arith, counts.most k))) (λ n. inl (stays f n r)) (equal_cases f a)
        ran_or f k (inr l) = inr (omega (arith, l))

    -- the root runs on
    halt_history : Runs s' t.root → HaltHistory t s' g (suc h) then
    halt_history root = record {
      stopped = λ p q e r. ⊎_elim (λ z. gone (subst (Runs s') z.0 r)) (λ z. old.stopped p q z (went q r)) (then_cases p q e);
      one_way = λ p q e f. ⊎_elim
          (λ z. ⊎_elim (λ y. gone (subst (Runs s') z.0 y.1)) (λ y. old.stopped q p y (went p z.1)) (then_cases q p f))
          (λ z. ⊎_elim (λ y. old.stopped p q z (went q y.1)) (λ y. old.one_way p q z y) (then_cases q p f)) (then_cases p q e);
      not_root = λ p e. ⊎_elim (λ z. gone (subst (Runs s') z.0 root)) (old.not_root p) (then_cases p t.root e);
      apart = λ p q n _. omega (arith, falls any p q, alone p q n (went t.root root));
      to_root = λ p n. omega (arith, falls any p t.root, old.to_root p n, more_halted p);
      counts = halt_counts;
    }

    pub halted_history : SomeHaltHistory t s'
    halted_history = ⊎_elim
        (λ r. record { given = g; halts = suc h; before = then; history = halt_history r })
        (λ r. record { given = g; halts = h; before = before; history = history_falls t s s' g g h h before falls went old (λ z. absurd (r z)) })
        (running_cases s' t.root)

  -- ---- every move but a return

  module _ (inv' : Invariant t s') (pair_tokens' : AllPairTokens t s') (alone : (p q : ℕ) → q ≢ t.root → Runs s t.root → tokens any s p q ≤ 1) where
    same : HaltHistory t s' g h before → SomeHaltHistory t s'
    same k = record { given = g; halts = h; before = before; history = k }

    unanswered : (a r k : ℕ) (l : List Packet) → ((x : Packet) → Holds l x → Holds s.network x) →
        (f y n d : ℕ) → Holds (post s (Acknowledgement a r k) l) (Message f y n d) → Holds s.network (Message f y n d)
    unanswered a r k l from f y n d m = ⊎_elim (λ z. from (Message f y n d) z) (λ z. absurd (message_acknowledgement z.0))
        (post_cases s (Acknowledgement a r k) l m)

    falling : {e : Event} → Move t s s' e → Onward e → Falls s s' → SomeHaltHistory t s'
    falling (order d r idle free b) o falls = record {
      given = ranked g (suc (count s)) h;
      halts = h;
      before = before;
      history = history_falls t s s' g (ranked g (suc (count s)) h) h h before falls
          (each b (λ (j : ℕ) (x : Column). x.running ≡ true → Runs s j) (λ _. r) (λ j n z. z)) old (λ _. order_counts falls d _ r r idle b);
    }
    falling (send_self a x r e m b) o falls = same (kept_history a _ _ b r r falls (λ f y k d z. z) refl (λ z. without_in (s.columns a).send x z) refl refl)
    falling (send_noted a x r m n b) o falls = same (kept_history a _ _ b r r falls (λ f y k d z. z) refl
        (λ z. ⊎_elim (λ w. without_in (s.columns a).send x w) (λ w. absurd (root_child t x w)) (join_cases (without (s.columns a).send x) (children t x) z)) refl refl)
    falling (send_message a x r e m n b) o falls =
        same (sent_history t s s' g h before inv' pair_tokens' record { from = a; to = x; runs = r; other = e; member = m; unnoted = n; becomes = b } old)
    falling (take_acknowledgement a q k r e taken b) o falls = same (kept_history a _ _ b r r falls (λ f y k d z. taken_back taken z) refl (λ z. z) refl refl)
    falling (take_stale a q k r n taken b) o falls = same (kept_history a _ _ b r r falls (λ f y k d z. taken_back taken z) refl (λ z. z) refl refl)
    falling (take_equal a q k d r e taken b) o falls = same (kept_history a _ _ b r r falls (λ f y k d z. taken_back taken z) refl (λ z. z) refl refl)
    falling (take_lower a q k d {l} r lt taken b) o falls = same (kept_history a _ _ b r r falls (unanswered a q k l (λ x z. taken_back taken z)) refl (λ z. z) refl refl)
    falling (take_left a q k d x r lt taken m b) o falls = same (kept_history a _ _ b r r falls (unanswered a x (number s a) s.network (λ x z. z)) refl (λ z. z) refl refl)
    falling (take_higher a q k d r lt taken e b) o falls = same (steady_history a _ _ b r r falls (λ f y k d z. taken_back taken z) (λ counts root n.
        let z = counts.root_pairs a r n in
        let last : suc (number s a) ≡ count s = omega (arith, lt, newest, inv.near a r) in
        let now : k ≡ count s = omega (arith, lt, newest, inv.near a r) in record {
          sends_root = λ m. absurd (root_child t a m);
          current_root = λ y. absurd (omega (arith, y, risen_current s' (s'.columns a) (λ f. falls f a t.root) (higher) (pair_tokens a t.root r), ap (λ (x : ℕ). tokens (current x) s' a t.root) here));
          newest = λ y. ⊎_elim
              (λ w. omega (arith, stales, w, z.older last, counts.most (number s a), ap g now))
              (λ w. omega (arith, stales, (pair_tokens a t.root r).one_current, z.current_root w, z.older last, ap g now))
              (zero_cases (tokens (current (number s a)) s a t.root));
          older = λ y. absurd (omega (arith, y, now, ap length b.told));
          sender_ran = λ _ _. ⊎_elim (λ w. inl (runs_on a _ _ b r r falls q w)) (λ w. inr w) (counts.messages q a k d (taken_held taken));
        }))
      where
        newest : k ≤ count s
        newest = (message_issued (inv.packets (Message q a k d) (taken_held taken))).at_most

        here : (s'.columns a).number ≡ k
        here = ap (λ (x : Column). x.number) b.mine

        higher : number s a < (s'.columns a).number
        higher = omega (arith, lt, here)

        stales : tokens (stale k) s' a t.root ≤ tokens (stale (number s a)) s a t.root + tokens (current (number s a)) s a t.root
        stales = subst (λ (x : ℕ). tokens (stale x) s' a t.root ≤ tokens (stale (number s a)) s a t.root + tokens (current (number s a)) s a t.root) here
            (risen_stale s' (s'.columns a) (λ f. falls f a t.root) higher (pair_tokens a t.root r))
    falling (acknowledge a x r m free b) o falls = same (kept_history a _ _ b r r falls (unanswered a x (number s a) s.network (λ x z. z)) refl (λ z. z) refl refl)
    falling (widen a r n m w idle b) o falls = same (steady_history a _ _ b r r falls (λ f y k d z. z) (λ counts root _.
        let z = counts.root_pairs a r n in
        keep_root_pair t s s' g h a (s.columns a) _ (λ f. falls f a t.root) (ap length b.told) (runs_on a _ _ b r r falls) refl
        (λ _. ⊎_elim
        (λ y. ⊎_elim (λ v. absurd ((inv.coverages a r).noted_halted (s.columns a).sender (subst (λ (v : Bool). In (s.columns a).noted (cond v (s.columns a).sender t.root)) y m) v)) (λ v. v) (z.sender_ran w y))
        (λ y. absurd ((inv.coverages a r).noted_halted t.root (subst (λ (v : Bool). In (s.columns a).noted (cond v (s.columns a).sender t.root)) y m) root))
        (truth t.watch))
        (λ y. absurd (true≢false y)) z))
    falling (note_awaited a j r _ n m b) o falls = same (kept_history a _ _ b r r falls (λ f y k d z. z) refl
        (λ z. ⊎_elim (λ w. w) (λ w. absurd (root_child t j w)) (join_cases (s.columns a).send (children t j) z)) refl refl)
    falling (note_other a j r _ n m _ b) o falls = same (kept_history a _ _ b r r falls (λ f y k d z. z) refl (λ z. z) refl refl)
    falling (halt a r b) o falls = halted_history a b r falls alone
    falling (back j l noted rest h n nr r k b) o falls = absurd o

    pub history_kept : {e : Event} → Move t s s' e → Onward e → SomeHaltHistory t s'
    history_kept mv o = ⊎_elim (falling mv o) (λ z. same (sent_history t s s' g h before inv' pair_tokens' z old)) (falls_or_sent inv mv o)
