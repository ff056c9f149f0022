-- Whoever is watched: the messages to the root, by the halts since the last return. Assumes nothing.
use Prim.Native.Nat.{ℕ, suc, ◌+◌, ◌*◌, ◌≤◌, ◌<◌, zero}
use native.Mathlib.Omega.{arith}
use mathlib.Core.Path.{◌≡◌, refl, sym, ap, subst, ◌∙◌}
use mathlib.Core.Logic.{◌≢◌, ◌⊎◌, ⊎_elim, inl, inr}
use mathlib.Core.Bool.{Bool, true, false, cond}
use mathlib.Core.List.{List}
use native.Mathlib.Nat.{mul-add}
use lib.ListN.{length}
use lib.Dec.{eqb}
use borrow.Author.Tests.{le-ltb, eq-eqb, ne_eqb}
use Rattle.column.specs.laws.Cases.{compare_cases, equal_cases, truth}
use Rattle.column.specs.declared.tree.Tree.{Tree}
use Rattle.column.specs.declared.state.Column.{Column}
use Rattle.column.specs.declared.packet.Packet.{Packet}
use Rattle.column.specs.declared.packet.Packet.TheVariants.{Message}
use Rattle.agreement.proofs.relation.Model.{In, State, Runs, count, Becomes, Holds, post_cases}
use Rattle.agreement.proofs.relation.Members.{without_in}
use Rattle.agreement.proofs.invariant.Invariant.{number, running_cases, Invariant}
use Rattle.agreement.proofs.invariant.Packets.{message_sender}
use Rattle.agreement.proofs.invariant.InvariantCarried.{each}
use Rattle.agreement.proofs.bounds.TokenLaws.{tokens, any, stale, current, tokens_split, one}
use Rattle.agreement.proofs.bounds.PairTokens.{Falls, zero_cases}
use Rattle.agreement.proofs.bounds.Bounded.{PairTokens, halted_before, RootPairTokens, HaltCounts, HaltHistory, Bounded}
use Rattle.agreement.proofs.bounds.PairTokensKept.{Sent, grows_other, grows_not, no_other, sent_halted, AllPairTokens}
use Rattle.agreement.proofs.bounds.Sums.{sum, sum_same}

-- ---- how many tokens a pair has

pub pair_two : {t : Tree} {s : State} {p q : ℕ} {c : Column} → PairTokens t s p c q → q ≢ t.root → tokens any s p q ≤ 2
pair_two {t} {s} {p} {q} {c} k n = omega (arith, tokens_split c.number s p q, k.one_stale n, k.one_current, k.none_ahead)

pub pair_single : {t : Tree} {s : State} {p q : ℕ} {c : Column} → PairTokens t s p c q → q ≢ t.root → Runs s t.root → tokens any s p q ≤ 1
pair_single {t} {s} {p} {q} {c} k n root = ⊎_elim
    (λ z. omega (arith, tokens_split c.number s p q, z, k.one_current, k.none_ahead))
    (λ z. ⊎_elim (λ w. omega (arith, tokens_split c.number s p q, w.1, k.one_stale n, k.none_ahead)) (λ w. absurd (w.0 root)) (k.stale_held n z))
    (zero_cases (tokens (stale c.number) s p q))

-- the tokens of a running column and the root: two for each halt
two_for_each_halt : (t : Tree) (s : State) (g : ℕ → ℕ) (h : ℕ) (before : ℕ → ℕ → Bool) → Invariant t s → HaltCounts t s g h before → (p : ℕ) → Runs s p → p ≢ t.root →
    PairTokens t s p (s.columns p) t.root → tokens any s p t.root ≤ 2 * halted_before before t.columns p
two_for_each_halt t s g h before inv counts p r n k = ⊎_elim none some (zero_cases (tokens (current (number s p)) s p t.root))
  where
    at_most : tokens (stale (number s p)) s p t.root ≤ g (number s p) + h
    at_most = ⊎_elim (λ e. (counts.root_pairs p r n).newest e)
        (λ e. omega (arith, (counts.root_pairs p r n).older e, counts.most (count s))) (go (compare_cases (number s p) (count s)))
      where
        go : (number s p < count s) ⊎ ((number s p ≡ count s) ⊎ (count s < number s p)) → (number s p ≡ count s) ⊎ (suc (number s p) ≡ count s)
        go (inl l) = inr (omega (arith, l, inv.near p r))
        go (inr (inl e)) = inl e
        go (inr (inr l)) = absurd (omega (arith, l, (inv.records p r).at_most))

    none : tokens (current (number s p)) s p t.root ≡ 0 → tokens any s p t.root ≤ 2 * halted_before before t.columns p
    none z = omega (arith, tokens_split (number s p) s p t.root, at_most, z, k.none_ahead, counts.most (number s p), counts.counted p r)

    some : 0 < tokens (current (number s p)) s p t.root → tokens any s p t.root ≤ 2 * halted_before before t.columns p
    some z = omega (arith, tokens_split (number s p) s p t.root, at_most, k.one_current, (counts.root_pairs p r n).current_root z, k.none_ahead, counts.counted p r)

-- ---- a move that halts nobody and orders nothing

module _ (t : Tree) (s s' : State) (g : ℕ → ℕ) (h p : ℕ) (c c' : Column) where
  pub keep_root_pair : (falls : (f : ℕ → Bool) → tokens f s' p t.root ≤ tokens f s p t.root) → count s' ≡ count s → ((i : ℕ) → Runs s i → Runs s' i) →
      c'.number ≡ c.number → (In c'.send t.root → g c.number < h) → (c'.whole ≡ false → (c.whole ≡ false) × (c'.sender ≡ c.sender)) →
      RootPairTokens t s g h p c → RootPairTokens t s' g h p c'
  keep_root_pair falls same runs e sends goal old = record {
    sends_root = rw e (λ m. sends m);
    current_root = rw e (λ z. old.current_root (omega (arith, z, falls (current c.number))));
    newest = rw e (λ z. omega (arith, falls (stale c.number), old.newest (z ∙ same)));
    older = rw (e, same) (λ z. omega (arith, falls (stale c.number), old.older z));
    sender_ran = rw e (λ w o. let z = goal w in ⊎_elim (λ r. inl (runs c'.sender (subst (Runs s) (sym z.1) r))) (λ r. inr r) (old.sender_ran z.0 o));
  }

module _ (t : Tree) (s s' : State) (g : ℕ → ℕ) (h : ℕ) (before : ℕ → ℕ → Bool) (a : ℕ) (c : Column) (network : List Packet)
    (b : Becomes s s' a c network s.orders) (on : c.running ≡ true) (ra : Runs s a) (old : HaltCounts t s g h before)
    (falls : (f : ℕ → Bool) (p : ℕ) → p ≢ a → tokens f s' p t.root ≤ tokens f s p t.root) where
  runs_on : (i : ℕ) → Runs s i → Runs s' i
  runs_on = each b (λ (j : ℕ) (x : Column). Runs s j → x.running ≡ true) (λ _. on) (λ j n r. r)

  same_count : count s' ≡ count s
  same_count = ap length b.told

  pub counts_steady : ((f r k d : ℕ) → Holds network (Message f r k d) → Holds s.network (Message f r k d) ⊎ Runs s f) → (a ≢ t.root → RootPairTokens t s' g h a c) →
      HaltCounts t s' g h before
  counts_steady new mine = record {
    most = old.most;
    messages = λ f r k d m. ⊎_elim (λ z. ⊎_elim (λ w. inl (runs_on f w)) (λ w. inr w) (old.messages f r k d z)) (λ z. inl (runs_on f z))
        (new f r k d (subst (λ (l : List Packet). Holds l (Message f r k d)) b.packets m));
    root_pairs = each b (λ (j : ℕ) (x : Column). x.running ≡ true → j ≢ t.root → RootPairTokens t s' g h j x) (λ _. mine)
        (λ j n r nr. keep_root_pair t s s' g h j (s.columns j) (s.columns j) (λ f. falls f j n) same_count runs_on refl
        (old.root_pairs j r nr).sends_root (λ w. (w, refl)) (old.root_pairs j r nr));
    counted = each b (λ (j : ℕ) (x : Column). x.running ≡ true → h ≤ halted_before before t.columns j) (λ _. old.counted a ra) (λ j n r. old.counted j r);
  }

-- ---- the history where no pair gets a token and nobody is added to it

pub history_falls : (t : Tree) (s s' : State) (g g' : ℕ → ℕ) (h h' : ℕ) (before : ℕ → ℕ → Bool) → Falls s s' → ((i : ℕ) → Runs s' i → Runs s i) →
    HaltHistory t s g h before → (Runs s' t.root → HaltCounts t s' g' h' before) → HaltHistory t s' g' h' before
history_falls t s s' g g' h h' before falls ran old counts = record {
  stopped = λ p q z r. old.stopped p q z (ran q r);
  one_way = old.one_way;
  not_root = old.not_root;
  apart = λ p q n z. omega (arith, falls any p q, old.apart p q n z);
  to_root = λ p n. omega (arith, falls any p t.root, old.to_root p n);
  counts = counts;
}

-- ---- a message is sent

module _ (t : Tree) (s s' : State) (g : ℕ → ℕ) (h : ℕ) (before : ℕ → ℕ → Bool) (inv' : Invariant t s') (pair_tokens' : AllPairTokens t s') (z : Sent s s')
    (old : HaltHistory t s g h before) where
  abbrev a : ℕ
  a = z.from

  abbrev c : Column
  c = s.columns z.from

  ran : (i : ℕ) → Runs s' i → Runs s i
  ran = each z.becomes (λ (j : ℕ) (x : Column). x.running ≡ true → Runs s j) (λ _. z.runs) (λ j n r. r)

  runs : (i : ℕ) → Runs s i → Runs s' i
  runs = each z.becomes (λ (j : ℕ) (x : Column). Runs s j → x.running ≡ true) (λ _. z.runs) (λ j n r. r)

  stale_falls : tokens (stale c.number) s' a t.root ≤ tokens (stale c.number) s a t.root
  stale_falls = ⊎_elim
      (λ e. subst (λ (y : ℕ). tokens (stale c.number) s' a y ≤ tokens (stale c.number) s a y) e
      (no_other z (stale c.number) (le-ltb c.number c.number (omega arith))))
      (λ n. grows_not z (stale c.number) t.root (λ e. n (sym e))) (equal_cases z.to t.root)

  sent_counts : Runs s' t.root → HaltCounts t s' g h before
  sent_counts root = counts_steady t s s' g h before a _ _ z.becomes z.runs z.runs counts (λ f p n. grows_other z f p t.root n)
      (λ f r k d m. ⊎_elim (λ w. inl w) (λ w. inr (subst (Runs s) (sym (message_sender w.0)) z.runs))
      (post_cases s (Message a z.to c.number c.doors) s.network m))
      (λ n. let e = counts.root_pairs a z.runs n in record {
        sends_root = λ m. e.sends_root (without_in c.send z.to m);
        current_root = λ w. ⊎_elim (λ y. e.sends_root (subst (In c.send) y z.member))
            (λ y. e.current_root (omega (arith, w, grows_not z (current c.number) t.root (λ x. y (sym x))))) (equal_cases z.to t.root);
        newest = λ w. omega (arith, stale_falls, e.newest (w ∙ ap length z.becomes.told));
        older = λ w. omega (arith, stale_falls, e.older (w ∙ ap length z.becomes.told), ap (λ (l : List ℕ). g (length l)) z.becomes.told);
        sender_ran = λ w o. ⊎_elim (λ r. inl (runs c.sender r)) (λ r. inr r) (e.sender_ran w o);
      })
    where
      counts : HaltCounts t s g h before
      counts = old.counts (ran t.root root)

  pub sent_history : HaltHistory t s' g h before
  sent_history = record {
    stopped = λ p q w r. old.stopped p q w (ran q r);
    one_way = old.one_way;
    not_root = old.not_root;
    apart = λ p q n w. ⊎_elim (λ e. subst (λ (y : ℕ). tokens any s' y q ≤ 1) (sym e) (mine q n (subst (λ (y : ℕ). (before y q ≡ true) ⊎ (before q y ≡ true)) e w)))
        (λ e. omega (arith, grows_other z any p q e, old.apart p q n w)) (equal_cases p a);
    to_root = λ p n. ⊎_elim (λ e. subst (λ (y : ℕ). tokens any s' y t.root ≤ 2 * halted_before before t.columns y) (sym e) (mine_root (λ x. n (e ∙ x))))
        (λ e. omega (arith, grows_other z any p t.root e, old.to_root p n)) (equal_cases p a);
    counts = sent_counts;
  }
    where
      mine : (q : ℕ) → q ≢ t.root → (before z.from q ≡ true) ⊎ (before q z.from ≡ true) → tokens any s' z.from q ≤ 1
      mine q n w = ⊎_elim
          (λ e. ⊎_elim (λ y. omega (arith, sent_halted z (subst (λ (x : ℕ). ¬ Runs s x) e (old.stopped z.from q y)) any z.from q, old.apart z.from q n w))
          (λ y. absurd (old.stopped q z.from y z.runs)) w)
          (λ e. omega (arith, grows_not z any q e, old.apart z.from q n w)) (equal_cases q z.to)

      mine_root : z.from ≢ t.root → tokens any s' z.from t.root ≤ 2 * halted_before before t.columns z.from
      mine_root n = ⊎_elim
          (λ r. two_for_each_halt t s' g h before inv' (sent_counts r) z.from (runs z.from z.runs) n (pair_tokens' z.from t.root (runs z.from z.runs)))
          (λ r. ⊎_elim
          (λ e. omega (arith, sent_halted z (λ y. r (runs t.root (subst (Runs s) e y))) any z.from t.root, old.to_root z.from n))
          (λ e. omega (arith, grows_not z any t.root (λ x. e (sym x)), old.to_root z.from n)) (equal_cases z.to t.root))
          (running_cases s' t.root)

sum_times : (k : ℕ) (f : ℕ → ℕ) (n : ℕ) → sum (λ q. k * f q) n ≡ k * sum f n
unfolding sum
sum_times k f zero = omega arith
sum_times k f (suc n) = omega (arith, sum_times k f n, mul-add k (sum f n) (f n))

module _ (t : Tree) {s : State} (bounded : Bounded t s) (k : ℕ) where
  abbrev before : ℕ → ℕ → Bool
  before = bounded.halt_history.before

  -- the root sends nothing to itself
  abbrev pub charged : ℕ → ℕ → ℕ
  charged p q = cond (eqb p t.root) 0 (k * one (before p q))

  pub charged_other : (p q : ℕ) → p ≢ t.root → charged p q ≡ k * one (before p q)
  charged_other p q n = ap (λ (b : Bool). cond b 0 (k * one (before p q))) (ne_eqb p t.root n)

  pub charged_root : (p q : ℕ) → p ≡ t.root → charged p q ≡ 0
  charged_root p q e = ap (λ (b : Bool). cond b 0 (k * one (before p q))) (eq-eqb p t.root e)

  -- q did not halt before p
  pub charged_none : (p q : ℕ) → before p q ≡ false → charged p q ≡ 0
  charged_none p q e = ⊎_elim (charged_root p q)
      (λ n. charged_other p q n ∙ ap (λ (b : Bool). k * one b) e ∙ omega arith) (equal_cases p t.root)

  pub charged_self : (p : ℕ) → charged p p ≡ 0
  charged_self p = charged_none p p (⊎_elim (λ e. absurd (bounded.halt_history.history.one_way p p e e)) (λ e. e) (truth (before p p)))

  pub charged_for_root : (p : ℕ) → charged p t.root ≡ 0
  charged_for_root p = charged_none p t.root (⊎_elim (λ e. absurd (bounded.halt_history.history.not_root p e)) (λ e. e) (truth (before p t.root)))

  pub charged_sum : (p : ℕ) → p ≢ t.root → sum (charged p) t.columns ≡ k * halted_before before t.columns p
  charged_sum p n = sum_same (charged p) (λ q. k * one (before p q)) t.columns (λ q _. charged_other p q n)
      ∙ sum_times k (λ q. one (before p q)) t.columns
