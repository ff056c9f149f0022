-- Whoever is watched: what each move does to the tokens of the pairs. Assumes nothing.
use Prim.Native.Nat.{ℕ, ◌+◌, ◌≤◌, ◌<◌}
use native.Mathlib.Omega.{arith}
use mathlib.Core.Path.{◌≡◌, refl, sym, ap, subst, ◌∙◌}
use mathlib.Core.Logic.{◌≢◌, ◌⊎◌, ⊎_elim, inl, inr}
use mathlib.Core.Bool.{Bool, true, false, true≢false}
use mathlib.Core.List.{List}
use lib.ListN.{length}
use borrow.Author.Tests.{ne_eqb, eq-eqb, le-ltb}
use Rattle.column.specs.laws.Cases.{equal_cases, truth}
use Rattle.column.specs.Sets.{join, insert, without}
use Rattle.column.specs.Trees.{IsTree, children}
use Rattle.column.specs.laws.SubtreeLaws.{Under, subtree_trans, child_in}
use Rattle.column.specs.declared.tree.Tree.{Tree}
use Rattle.column.specs.declared.state.Column.{Column}
use Rattle.column.specs.declared.packet.Packet.{Packet}
use Rattle.column.specs.declared.packet.Packet.TheVariants.{Message}
use Rattle.agreement.proofs.relation.Model.{In, State, Runs, count, post, Becomes, taken_held}
use Rattle.agreement.proofs.relation.Move.{serving, noting, Event, Move, order, send_self, send_noted, send_message, take_acknowledgement, take_stale, take_equal, take_lower, take_left, take_higher, acknowledge, widen, note_awaited, note_other, halt, back}
use Rattle.agreement.proofs.relation.Members.{absent, insert_cases, insert_old, insert_new, without_in, without_other, without_cases, join_cases, Below}
use Rattle.agreement.proofs.invariant.Invariant.{number, Invariant}
use Rattle.agreement.proofs.invariant.Packets.{message_issued}
use Rattle.agreement.proofs.invariant.InvariantCarried.{each}
use Rattle.agreement.proofs.bounds.TokenLaws.{one, many, between, tokens, stale, current, ahead, tokens_become}
use Rattle.agreement.proofs.bounds.PairTokens.{Falls, fall_quiet, fall_taken, fall_halt, fall_lower, fall_answer, grow_sent, drop_taken, owes_equal, owes_higher, Halts, Carries, carry, fewer, zero_cases, rise}
use Rattle.agreement.proofs.bounds.SpreadLaws.{Spread, ToServe, to_send, to_await}
use Rattle.agreement.proofs.bounds.SpreadKept.{Onward, AllSpread}
use Rattle.agreement.proofs.bounds.Bounded.{EarlierDone, PairTokens}

-- ---- only a message that is sent adds a token

pub record Sent (s s' : State) : Type 0 where
  pub from : ℕ
  pub to : ℕ
  pub runs : Runs s from
  pub other : to ≢ from
  pub member : In (s.columns from).send to
  pub unnoted : ¬ In (s.columns from).noted to
  pub becomes : Becomes s s' from (serving (s.columns from) (without (s.columns from).send to) (insert (s.columns from).awaited to))
      (post s (Message from to (s.columns from).number (s.columns from).doors) s.network) s.orders

pub falls_or_sent : {t : Tree} {s s' : State} {e : Event} → Invariant t s → Move t s s' e → Onward e → Falls s s' ⊎ Sent s s'
falls_or_sent {t} {s} inv (order d r idle free b) o = inl (fall_quiet s t.root b
    (λ f p. rw (absent (s.columns t.root).owed p (⊎_elim (λ w. free w p) (λ w. ((inv.locals t.root r).shuns w).root_owes refl p) (truth t.watch)), r) (omega arith)))
falls_or_sent {s = s} inv (send_self a x r e m b) o = inl (fall_quiet s a b (λ f p. omega arith))
falls_or_sent {s = s} inv (send_noted a x r m n b) o = inl (fall_quiet s a b (λ f p. omega arith))
falls_or_sent inv (send_message a x r e m n b) o =
    inr record { from = a; to = x; runs = r; other = e; member = m; unnoted = n; becomes = b }
falls_or_sent {s = s} inv (take_acknowledgement a q k r e taken b) o = inl (fall_taken s a taken b (λ f p. omega arith))
falls_or_sent {s = s} inv (take_stale a q k r n taken b) o = inl (fall_taken s a taken b (λ f p. omega arith))
falls_or_sent {s = s} inv (take_equal a q k d r e taken b) o = inl (fall_taken s a taken b (owes_equal a q k d (s.columns a) e))
falls_or_sent {s = s} inv (take_lower a q k d r lt taken b) o = inl (fall_lower s a q k d taken b)
falls_or_sent {s = s} inv (take_left a q k d x r lt taken m b) o = inl (fall_answer s a x r m b)
falls_or_sent {s = s} inv (take_higher a q k d r lt taken e b) o =
    inl (fall_taken s a taken b (λ f p. owes_higher a q k d (s.columns a) (s.columns a).running f p))
falls_or_sent {s = s} inv (acknowledge a x r m free b) o = inl (fall_answer s a x r m b)
falls_or_sent {s = s} inv (widen a r n m w idle b) o = inl (fall_quiet s a b (λ f p. omega arith))
falls_or_sent {s = s} inv (note_awaited a j r _ n m b) o = inl (fall_quiet s a b (λ f p. omega arith))
falls_or_sent {s = s} inv (note_other a j r _ n m _ b) o = inl (fall_quiet s a b (λ f p. omega arith))
falls_or_sent {s = s} inv (halt a r b) o = inl (fall_halt s a b)
falls_or_sent inv (back j l noted rest h n nr r k b) o = absurd o

module _ {s s' : State} (z : Sent s s') where
  abbrev a : ℕ
  a = z.from

  abbrev c : Column
  c = s.columns z.from

  -- the column that sent it, afterwards
  abbrev after : Column
  after = serving (s.columns z.from) (without (s.columns z.from).send z.to) (insert (s.columns z.from).awaited z.to)

  abbrev message : Packet
  message = Message z.from z.to (s.columns z.from).number (s.columns z.from).doors

  grows : (f : ℕ → Bool) (p q : ℕ) → tokens f s' p q ≤ tokens f s p q + one (between f p q message)
  grows = grow_sent s a z.to c.doors z.becomes (λ f p. omega arith)

  pub grows_other : (f : ℕ → Bool) (p q : ℕ) → p ≢ a → tokens f s' p q ≤ tokens f s p q
  grows_other f p q ne = let y : one (between f p q message) ≡ 0 = rw (ne_eqb p a ne) refl in omega (arith, grows f p q, y)

  pub grows_not : (f : ℕ → Bool) (q : ℕ) → q ≢ z.to → tokens f s' a q ≤ tokens f s a q
  grows_not f q ne =
      let y : one (between f a q message) ≡ 0 = rw (eq-eqb a a refl, ne_eqb q z.to ne) refl in
      omega (arith, grows f a q, y)

  pub no_other : (f : ℕ → Bool) → f c.number ≡ false → tokens f s' a z.to ≤ tokens f s a z.to
  no_other f e =
      let y : one (between f a z.to message) ≡ 0 = rw (eq-eqb a a refl, eq-eqb z.to z.to refl, e) refl in
      omega (arith, grows f a z.to, y)

  pub one_more : (f : ℕ → Bool) → tokens f s' a z.to ≤ tokens f s a z.to + 1
  one_more f = omega (arith, grows f a z.to, go (between f a z.to message))
    where
      go : (b : Bool) → one b ≤ 1
      go true = omega arith
      go false = omega arith

  -- a packet to a halted column is not put
  pub sent_halted : ¬ Runs s z.to → Falls s s'
  unfolding post
  sent_halted n f p = tokens_become z.becomes f p (λ (q k : ℕ). k ≤ tokens f s p q) (omega (arith, same a)) (λ q _. omega (arith, same q))
    where
      unput : post s message s.network ≡ s.network
      unput = ⊎_elim (λ e. absurd (n e)) (λ e. rw e refl) (truth (s.columns z.to).running)

      same : (q : ℕ) → many (between f p q) (post s message s.network) ≡ many (between f p q) s.network
      same q = ap (many (between f p q)) unput

-- ---- all pairs

abbrev pub AllPairTokens : Tree → State → Type 0
AllPairTokens t s = (p q : ℕ) → Runs s p → PairTokens t s p (s.columns p) q

module _ {t : Tree} {s s' : State} {a : ℕ} {c : Column} {network : List Packet} {orders : List ℕ} (b : Becomes s s' a c network orders)
    (old : AllPairTokens t s) (halts : Halts t s s')
    (falls : (f : ℕ → Bool) (p q : ℕ) → p ≢ a → tokens f s' p q ≤ tokens f s p q) where
  pair_tokens_become : ((q : ℕ) → c.running ≡ true → PairTokens t s' a c q) → AllPairTokens t s'
  pair_tokens_become mine = each b (λ (p : ℕ) (x : Column). (q : ℕ) → x.running ≡ true → PairTokens t s' p x q) mine
      (λ p n q h. carry halts (λ f. falls f p q n) (fewer refl (λ y m. m) (λ y m. m) refl (λ z m. inl m) (λ m. m)) (old p q h))

module _ {t : Tree} {s s' : State} {a : ℕ} {c : Column} {network : List Packet} (ra : Runs s a) (old : AllPairTokens t s)
    (b : Becomes s s' a c network s.orders) where
  pub halting : Halts t s s'
  halting n = (λ r. n (ran t.root r), ap length b.told)
    where
      ran : (i : ℕ) → Runs s' i → Runs s i
      ran = each b (λ (j : ℕ) (x : Column). x.running ≡ true → Runs s j) (λ _. ra) (λ j n h. h)

  pair_tokens_steady : Falls s s' → ((q : ℕ) → Carries t s s' a (s.columns a) c q) → AllPairTokens t s'
  pair_tokens_steady falls k = pair_tokens_become b old halting (λ f p q _. falls f p q) (λ q _. carry halting (λ f. falls f a q) (k q) (old a q ra))

module _ (t : Tree) (tree : IsTree t) {s : State} (inv : Invariant t s) (spreads : AllSpread t s) (earlier : Runs s t.root → EarlierDone t s) (old : AllPairTokens t s) where
  sent_pair_tokens : {s' : State} → Sent s s' → AllPairTokens t s'
  sent_pair_tokens {s'} z = pair_tokens_become z.becomes old (halting z.runs old z.becomes) (λ f p q. grows_other z f p q)
      (λ q _. ⊎_elim (λ e. subst (PairTokens t s' z.from (after z)) (sym e) sent) (others q) (equal_cases q z.to))
    where
      none_before : tokens (current (number s z.from)) s z.from z.to ≡ 0
      none_before = ⊎_elim (λ e. e)
          (λ h. absurd (⊎_elim ((spreads z.from z.runs).disjoint z.to z.member) z.unnoted ((old z.from z.to z.runs).current_held h)))
          (zero_cases (tokens (current (number s z.from)) s z.from z.to))

      stale_same : tokens (stale (number s z.from)) s' z.from z.to ≤ tokens (stale (number s z.from)) s z.from z.to
      stale_same = no_other z (stale (number s z.from)) (le-ltb (number s z.from) (number s z.from) (omega arith))

      sent : PairTokens t s' z.from (after z) z.to
      sent = let before = old z.from z.to z.runs in record {
        none_ahead = omega (arith, before.none_ahead, no_other z (ahead (number s z.from)) (le-ltb (number s z.from) (number s z.from) (omega arith)));
        one_current = omega (arith, none_before, one_more z (current (number s z.from)));
        current_held = λ _. inl (insert_new (s.columns z.from).awaited z.to);
        one_stale = λ n. omega (arith, before.one_stale n, stale_same);
        stale_held = λ n h. ⊎_elim (λ y. absurd (z.unnoted y.0))
            (λ y. let w = halting z.runs old z.becomes y.0 in inr (w.0, y.1 ∙ sym w.1)) (before.stale_held n (omega (arith, h, stale_same)));
        current_own = λ _ w. (inv.locals z.from z.runs).own (inl w) z.to (inl z.member);
        current_served = λ _ w. absurd (served w);
      }
        where
          here : Spread t z.from (s.columns z.from)
          here = spreads z.from z.runs

          served : ToServe t (after z) z.to → ⊥
          served (to_send y k u) = without_other (s.columns z.from).send z.to k
              (sym (here.antichain y z.to (inl (without_in (s.columns z.from).send z.to k)) (inl z.member) u))
          served (to_await y k u) = ⊎_elim (λ w. u.other (here.antichain y z.to (inr w) (inl z.member) u.under)) (λ e. u.other (sym e))
              (insert_cases (s.columns z.from).awaited z.to k)

      others : (q : ℕ) → q ≢ z.to → PairTokens t s' z.from (after z) q
      others q ne = carry (halting z.runs old z.becomes) (λ f. grows_not z f q ne)
          (record {
            same = refl;
            holds = λ _ m. inl (insert_old (s.columns z.from).awaited z.to m);
            notes = λ m. m;
            goal = λ w. w;
            serves = λ _ w. inl (serves w, λ w. w);
          })
          (old z.from q z.runs)
        where
          serves : ToServe t (after z) q → ToServe t (s.columns z.from) q
          serves (to_send y k u) = to_send y (without_in (s.columns z.from).send z.to k) u
          serves (to_await y k u) = ⊎_elim (λ w. to_await y w u)
              (λ e. to_send z.to z.member (subst (λ (x : ℕ). Under t x q) e u.under)) (insert_cases (s.columns z.from).awaited z.to k)

  -- the sets of who is awaited and noted as before, and nobody more to send to
  same_pair_tokens : {s' : State} {a : ℕ} {c : Column} {network : List Packet} → Runs s a → Becomes s s' a c network s.orders → Falls s s' →
      c.number ≡ number s a → ((q : ℕ) → In c.send q → In (s.columns a).send q) → c.awaited ≡ (s.columns a).awaited →
      c.whole ≡ (s.columns a).whole → ((q : ℕ) → In (s.columns a).noted q → In c.noted q) → AllPairTokens t s'
  same_pair_tokens ra b falls e sends ea goal notes = pair_tokens_steady ra old b falls
      (λ q. fewer e sends (λ y m. subst (λ (x : ℕ). In x y) ea m) goal (λ _ m. inl (subst (λ (y : ℕ). In y q) (sym ea) m)) (notes q))

  -- who is in the subtree of a child of x is below x
  child_under : (x y q : ℕ) → x < t.columns → In (children t x) y → Under t y q → Below t x q
  child_under x y q h m u = record {
    under = subtree_trans t tree x y q h (child_in t tree x y m.holds).0 u;
    other = λ e. (child_in t tree x y m.holds).1 (subst (Under t y) e u);
  }

  pub pair_tokens_kept : {s' : State} {e : Event} → Move t s s' e → Onward e → AllPairTokens t s'
  pair_tokens_kept {s'} mv o = ⊎_elim (λ f. go mv o f) sent_pair_tokens (falls_or_sent inv mv o)
    where
      go : {e : Event} → Move t s s' e → Onward e → Falls s s' → AllPairTokens t s'
      go (order d r idle free b) o falls = pair_tokens_become b old (λ n. absurd (n r)) (λ f p q _. falls f p q)
          (λ q _. rise s' _ (λ f. falls f t.root q) (omega arith) (old t.root q r) (λ m. m) (λ n _. absurd (n r)) (λ _ m. absurd (idle.1 q m)))
      go (send_self a x r e m b) o falls = same_pair_tokens r b falls refl (λ y k. without_in (s.columns a).send x k) refl refl (λ q k. k)
      go (send_noted a x r m n b) o falls = pair_tokens_steady r old b falls
          (λ q. record { same = refl; holds = λ _ k. inl k; notes = λ k. k; goal = λ w. w; serves = λ _ w. inl (serves q w, λ w. w) })
        where
          serves : (q : ℕ) → ToServe t (serving (s.columns a) (join (without (s.columns a).send x) (children t x)) (s.columns a).awaited) q →
              ToServe t (s.columns a) q
          serves q (to_send y k u) = ⊎_elim (λ z. to_send y (without_in (s.columns a).send x z) u)
              (λ z. to_send x m (child_under x y q ((inv.locals a r).members x (inl m)) z u).under)
              (join_cases (without (s.columns a).send x) (children t x) k)
          serves q (to_await y k u) = to_await y k u
      go (send_message a x r e m n b) o falls = sent_pair_tokens record { from = a; to = x; runs = r; other = e; member = m; unnoted = n; becomes = b }
      go (take_acknowledgement a q k r e taken b) o falls = pair_tokens_steady r old b falls
          (λ x. fewer refl (λ y m. m) (λ y m. without_in (s.columns a).awaited q m) refl
          (λ h m. ⊎_elim (λ z. inl z) (λ z. absurd (last x z h)) (without_cases (s.columns a).awaited q m)) (λ m. m))
        where
          last : (x : ℕ) → x ≡ q → 0 < tokens (current (number s a)) s' a x → ⊥
          last x z h =
              let less = drop_taken s a q k taken b (λ f p. omega arith) (current (number s a)) (eq-eqb k (number s a) e) in
              let h' : 0 < tokens (current (number s a)) s' a q = subst (λ (y : ℕ). 0 < tokens (current (number s a)) s' a y) z h in
              omega (arith, less, h', (old a q r).one_current)
      go (take_stale a q k r n taken b) o falls = same_pair_tokens r b falls refl (λ y k. k) refl refl (λ q k. k)
      go (take_equal a q k d r e taken b) o falls = same_pair_tokens r b falls refl (λ y k. k) refl refl (λ q k. k)
      go (take_lower a q k d r lt taken b) o falls = same_pair_tokens r b falls refl (λ y k. k) refl refl (λ q k. k)
      go (take_left a q k d x r lt taken m b) o falls = same_pair_tokens r b falls refl (λ y k. k) refl refl (λ q k. k)
      go (take_higher a q k d r lt taken e b) o falls = pair_tokens_become b old (halting r old b) (λ f p q _. falls f p q)
          (λ x _. rise s' _ (λ f. falls f a x) lt (old a x r) (λ m. m) (λ n y. omega (arith, lt, y, newest))
          (λ nx m. (λ w. lagging x nx m (ran w), omega (arith, lt, newest, inv.near a r, ap length b.told))))
        where
          newest : k ≤ count s
          newest = (message_issued (inv.packets (Message q a k d) (taken_held taken))).at_most

          ran : Runs s' t.root → Runs s t.root
          ran = each b (λ (j : ℕ) (x : Column). x.running ≡ true → Runs s j) (λ _. r) (λ j n h. h) t.root

          -- who awaits another than the root has the newest number, while the root runs
          lagging : (x : ℕ) → x ≢ t.root → In (s.columns a).awaited x → Runs s t.root → ⊥
          lagging x nx m root = ⊎_elim (λ z. omega (arith, z, lt, newest)) (λ z. nx (z x (inr m))) ((earlier root).lagging a r)
      go (acknowledge a x r m free b) o falls = same_pair_tokens r b falls refl (λ y k. k) refl refl (λ q k. k)
      go (widen a r n m w idle b) o falls = pair_tokens_steady r old b falls (λ q. record {
        same = refl;
        holds = λ _ k. inl k;
        notes = λ k. k;
        goal = λ z. absurd (true≢false z);
        serves = λ h _. inr (refl, n, (old a q r).current_own h w);
      })
      go (note_awaited a j r _ n m b) o falls = pair_tokens_steady r old b falls (λ q. record {
        same = refl;
        holds = λ _ k. ⊎_elim (λ z. inl z) (λ e. inr (subst (In (insert (s.columns a).noted j)) (sym e) (insert_new (s.columns a).noted j)))
            (without_cases (s.columns a).awaited j k);
        notes = λ k. insert_old (s.columns a).noted j k;
        goal = λ w. w;
        serves = λ _ w. inl (serves q w, λ w. w);
      })
        where
          serves : (q : ℕ) →
              ToServe t (noting (s.columns a) (join (s.columns a).send (children t j)) (without (s.columns a).awaited j) (insert (s.columns a).noted j)) q →
              ToServe t (s.columns a) q
          serves q (to_send y k u) = ⊎_elim (λ z. to_send y z u)
              (λ z. to_await j m (child_under j y q ((inv.locals a r).members j (inr m)) z u)) (join_cases (s.columns a).send (children t j) k)
          serves q (to_await y k u) = to_await y (without_in (s.columns a).awaited j k) u
      go (note_other a j r _ n m _ b) o falls = same_pair_tokens r b falls refl (λ y k. k) refl refl (λ q k. insert_old (s.columns a).noted j k)
      go (halt a r b) o falls = pair_tokens_become b old (halting r old b) (λ f p q _. falls f p q) (λ q h. absurd (true≢false (sym h)))
      go (back j l noted rest h n nr r k b) o falls = absurd o
