-- Whoever is watched: every move keeps what bounds the packets under way. Assumes nothing.
use Prim.Native.Nat.{ℕ, ◌≤◌, ◌<◌}
use native.Mathlib.Omega.{arith}
use mathlib.Core.Path.{◌≡◌, sym, ap, subst, ◌∙◌, refl}
use mathlib.Core.Logic.{⊎_elim, ◌≢◌, inl, inr}
use mathlib.Core.Bool.{true, false, true≢false, Bool, cond}
use mathlib.Core.List.{List}
use Rattle.column.specs.laws.Cases.{equal_cases}
use Rattle.column.specs.Trees.{IsTree}
use Rattle.column.specs.declared.tree.Tree.{Tree}
use Rattle.column.specs.declared.state.Column.{Column}
use Rattle.column.specs.declared.packet.Packet.{Packet}
use Rattle.column.specs.declared.packet.Packet.TheVariants.{Message, Acknowledgement}
use Rattle.agreement.proofs.relation.Model.{State, Runs, Becomes, Holds, holds_none, In}
use Rattle.agreement.proofs.relation.Move.{Event, orders, sends, takes, acknowledges, widens, notes, halts, backs, Move, order, send_self, send_noted, send_message, take_acknowledgement, take_stale, take_equal, take_lower, take_left, take_higher, acknowledge, widen, note_awaited, note_other, halt, back, Rest, came_back, Returns}
use Rattle.agreement.proofs.invariant.Invariant.{Invariant, number, Fresh, fresh_invariant, running_cases}
use Rattle.agreement.proofs.invariant.InvariantCarried.{each}
use Rattle.agreement.proofs.invariant.InvariantKept.{kept}
use Rattle.agreement.proofs.bounds.TokenLaws.{tokens, any, stale, current, ahead}
use Rattle.agreement.proofs.bounds.PairTokens.{Falls}
use Rattle.agreement.proofs.bounds.SpreadKept.{Onward, spread_kept}
use Rattle.agreement.proofs.bounds.Bounded.{Bounded, ServesRootOnly, done_at, finished}
use Rattle.agreement.proofs.bounds.EarlierDoneKept.{earlier_done_kept}
use Rattle.agreement.proofs.bounds.PairTokensKept.{Sent, falls_or_sent, grows_other, AllPairTokens, pair_tokens_kept}
use Rattle.agreement.proofs.bounds.HaltCounts.{pair_two, pair_single}
use Rattle.agreement.proofs.bounds.HaltHistoryKept.{history_kept}
use Rattle.agreement.proofs.invariant.Still.{Still, no_tokens, nobody, none_held, fresh_still, returned_each, rest_still, still_returned}

-- who sent the record of a column whose goal is its own subtree runs
abbrev pub SendersRun : Tree → State → Type 0
SendersRun t s = (i : ℕ) → Runs s i → i ≢ t.root → (s.columns i).whole ≡ false → t.watch ≡ true → Runs s (s.columns i).sender

module _ (t : Tree) {s : State} (f : Still s) (senders : SendersRun t s) where
  root_only : (i : ℕ) → Runs s i → ServesRootOnly t (s.columns i)
  root_only i h q u = absurd (nobody t f i h u)

  no_packets : (x : Packet) → Holds s.network x → ⊥
  no_packets x m = holds_none (subst (λ (l : List Packet). Holds l x) f.no_packet m)

  pub still_bounded : Bounded t s
  still_bounded = record {
    spreads = λ i h. record {
      disjoint = λ q m n. nobody t f i h (inl m);
      antichain = λ q r u v. absurd (nobody t f i h u);
      outside = λ w n q u. absurd (nobody t f i h u);
    };
    earlier_done = λ _. record {
      lagging = λ i h. inr (root_only i h);
      over = λ i h _ _. root_only i h;
      descending = λ i h p r b. finished (done_at (f.agree p i r h) (root_only p r));
      acknowledged = λ x y k m. absurd (no_packets (Acknowledgement x y k) m);
    };
    pair_tokens = λ p q h. record {
      none_ahead = no_tokens t f (ahead (number s p)) p q;
      one_current = omega (arith, no_tokens t f (current (number s p)) p q);
      current_held = λ z. absurd (none_held t f (current (number s p)) p q z);
      one_stale = λ _. omega (arith, no_tokens t f (stale (number s p)) p q);
      stale_held = λ _ z. absurd (none_held t f (stale (number s p)) p q z);
      current_own = λ z. absurd (none_held t f (current (number s p)) p q z);
      current_served = λ z. absurd (none_held t f (current (number s p)) p q z);
    };
    single = λ _ p q _. omega (arith, no_tokens t f any p q);
    two = λ p q _. omega (arith, no_tokens t f any p q);
    root_row = λ q _. omega (arith, no_tokens t f any t.root q);
    halt_history = record {
      given = λ _. 0;
      halts = 0;
      before = λ _ _. false;
      history = record {
        stopped = λ p q e. absurd (true≢false (sym e));
        one_way = λ p q e. absurd (true≢false (sym e));
        not_root = λ p e. absurd (true≢false (sym e));
        apart = λ p q _ _. omega (arith, no_tokens t f any p q);
        to_root = λ p _. omega (arith, no_tokens t f any p t.root);
        counts = λ _. record {
          most = λ _. omega arith;
          messages = λ x y k d m. absurd (no_packets (Message x y k d) m);
          root_pairs = λ p h n. record {
            sends_root = λ m. absurd (nobody t f p h (inl m));
            current_root = λ z. absurd (none_held t f (current (number s p)) p t.root z);
            newest = λ _. omega (arith, no_tokens t f (stale (number s p)) p t.root);
            older = λ _. omega (arith, no_tokens t f (stale (number s p)) p t.root);
            sender_ran = λ w o. inl (senders p h n w o);
          };
          counted = λ p h. omega arith;
        };
      };
    };
  }

-- ---- the fresh bank: the root sent every record, and runs

pub fresh_bounded : (t : Tree) {s : State} → t.root < t.columns → Fresh t s → Bounded t s
fresh_bounded t {s} below f = still_bounded t (fresh_still t below f) (λ i h n w o.
    subst (Runs s) (sym (ap (λ (c : Column). c.sender) (f.columns_fresh i ((fresh_invariant t f below).inside i h))))
    (ap (λ (c : Column). c.running) (f.columns_fresh t.root below)))

-- ---- a return to a bank at rest: who noted the sender of its record took over

module _ (t : Tree) (tree : IsTree t) {s s' : State} (j l noted : ℕ) (inv : Invariant t s) (rest : Rest t s) (r : Runs s l)
    (b : Returns t s s' j (came_back t s j l noted)) where
  rest_senders : SendersRun t s
  rest_senders i h n w o = ⊎_elim (λ z. z) (λ z. absurd (halted z)) (running_cases s (s.columns i).sender)
    where
      halted : ¬ Runs s (s.columns i).sender → ⊥
      halted z = rest.no_note i (s.columns i).sender h ((inv.linked o).senders i h w) z (λ e. z (subst (Runs s) (sym e) h))
          (λ m. rest.no_all i h n (subst (λ (v : Bool). In (s.columns i).noted (cond v (s.columns i).sender t.root)) (sym o) m) w
          ((rest_still t tree inv rest).idle i h))

  runs_on : (i : ℕ) → Runs s i → Runs s' i
  runs_on = returned_each b (λ (i : ℕ) (x : Column). Runs s i → x.running ≡ true) (λ _. refl) (λ i _ _ h. h) (λ i _ _ h. h)

  pub back_bounded : Bounded t s'
  back_bounded = still_bounded t (still_returned b (rest_still t tree inv rest) r)
      (returned_each b (λ (i : ℕ) (x : Column). x.running ≡ true → i ≢ t.root → x.whole ≡ false → t.watch ≡ true → Runs s' x.sender)
      (λ _ _ _ _. runs_on l r)
      (λ i _ _ h n w o. runs_on (s.columns i).sender (rest_senders i h n w o))
      (λ i _ _ h n w o. runs_on (s.columns i).sender (rest_senders i h n w o)))

-- who runs ran before
stops : {s s' : State} {a : ℕ} {c : Column} {network : List Packet} {orders : List ℕ} → Becomes s s' a c network orders → Runs s a → (i : ℕ) → Runs s' i → Runs s i
stops {s} b r = each b (λ (j : ℕ) (x : Column). x.running ≡ true → Runs s j) (λ _. r) (λ j n h. h)

ran : {t : Tree} {s s' : State} {e : Event} → Move t s s' e → Onward e → (i : ℕ) → Runs s' i → Runs s i
ran (order d r idle free b) o = stops b r
ran (send_self a x r e m b) o = stops b r
ran (send_noted a x r m n b) o = stops b r
ran (send_message a x r e m n b) o = stops b r
ran (take_acknowledgement a q k r e taken b) o = stops b r
ran (take_stale a q k r n taken b) o = stops b r
ran (take_equal a q k d r e taken b) o = stops b r
ran (take_lower a q k d r lt taken b) o = stops b r
ran (take_left a q k d x r lt taken m b) o = stops b r
ran (take_higher a q k d r lt taken e b) o = stops b r
ran (acknowledge a x r m free b) o = stops b r
ran (widen a r n m w idle b) o = stops b r
ran (note_awaited a j r _ n m b) o = stops b r
ran (note_other a j r _ n m _ b) o = stops b r
ran (halt a r b) o = stops b r
ran (back j l noted rest h n nr r k b) o = absurd o

module _ (t : Tree) (tree : IsTree t) {s s' : State} (inv : Invariant t s) (old : Bounded t s) where
  onward : {e : Event} → Move t s s' e → Onward e → Bounded t s'
  onward m o = record {
    spreads = spread_kept t tree inv old.spreads m o;
    earlier_done = λ r. earlier_done_kept t tree inv (ran m o t.root r) (old.earlier_done (ran m o t.root r)) m o;
    pair_tokens = pair_tokens';
    single = λ r p q n. few_tokens p q 1 (old.single (ran m o t.root r) p q n) (λ h. pair_single (pair_tokens' p q h) n r);
    two = λ p q n. few_tokens p q 2 (old.two p q n) (λ h. pair_two (pair_tokens' p q h) n);
    root_row = λ q n. few_tokens t.root q 1 (old.root_row q n) (λ h. pair_single (pair_tokens' t.root q h) n h);
    halt_history =
        let k = old.halt_history in
        history_kept t s s' k.given k.halts k.before inv old.pair_tokens k.history (kept tree inv m) pair_tokens' (λ p q n r. old.single r p q n) m o;
  }
    where
      pair_tokens' : AllPairTokens t s'
      pair_tokens' = pair_tokens_kept t tree inv old.spreads old.earlier_done old.pair_tokens m o

      -- only a running column gets a token
      few_tokens : (p q k : ℕ) → tokens any s p q ≤ k → (Runs s' p → tokens any s' p q ≤ k) → tokens any s' p q ≤ k
      few_tokens p q k l f = ⊎_elim (λ (z : Falls s s'). omega (arith, z any p q, l))
          (λ (z : Sent s s'). ⊎_elim
          (λ e. f (subst (Runs s') (sym e) (ap (λ (x : Column). x.running) z.becomes.mine ∙ z.runs)))
          (λ n. omega (arith, grows_other z any p q n, l)) (equal_cases p z.from))
          (falls_or_sent inv m o)

  came_back_lem : {j l : ℕ} → Move t s s' (backs j l) → Bounded t s'
  came_back_lem (back j l noted rest h n nr r k b) = back_bounded t tree j l noted inv rest r b

  by : (e : Event) → Move t s s' e → Bounded t s'
  by (orders d) m = onward m tt
  by (sends i x) m = onward m tt
  by (takes p o) m = onward m tt
  by (acknowledges i o) m = onward m tt
  by (widens i) m = onward m tt
  by (notes i j) m = onward m tt
  by (halts i) m = onward m tt
  by (backs j l) m = came_back_lem m

pub bounded_kept : {t : Tree} {s s' : State} {e : Event} → IsTree t → Invariant t s → Bounded t s → Move t s s' e → Bounded t s'
bounded_kept {t} {e = e} tree inv old m = by t tree inv old e m
