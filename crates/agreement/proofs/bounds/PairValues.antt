-- What the potential counts for each pair of columns, whoever is watched: 9 at most, the tokens of a column and the root apart, and 4 for each
-- column alone. Assumes nothing.
use Prim.Native.Nat.{ℕ, ◌+◌, ◌*◌, ◌≤◌, ◌<◌}
use native.Mathlib.Omega.{arith}
use mathlib.Core.Path.{◌≡◌, refl, sym, ap, subst}
use mathlib.Core.Logic.{◌≢◌, ◌⊎◌, ⊎_elim, inl, inr}
use mathlib.Core.Bool.{Bool, true, false, not, ◌&&◌, cond, true≢false}
use mathlib.Core.List.{List}
use lib.Dec.{eqb, ltb}
use borrow.Author.Tests.{eq-eqb, ne_eqb, eqb-true, le-ltb}
use Rattle.column.specs.laws.Cases.{truth, equal_cases, and_left, and_right}
use Rattle.column.specs.Sets.{has}
use Rattle.column.specs.Trees.{IsTree}
use Rattle.column.specs.laws.SubtreeLaws.{Under, subtree_trans, subtree_antisym}
use Rattle.column.specs.Packets.{is_message, sender, receiver}
use Rattle.column.specs.declared.tree.Tree.{Tree}
use Rattle.column.specs.declared.state.Column.{Column}
use Rattle.column.specs.declared.packet.Packet.{Packet}
use Rattle.column.specs.declared.packet.Packet.TheVariants.{Message, Acknowledgement}
use Rattle.agreement.proofs.relation.Model.{In, State, Runs, count, Holds}
use Rattle.agreement.proofs.relation.Members.{Below}
use Rattle.agreement.proofs.invariant.Invariant.{running_cases, Invariant}
use Rattle.agreement.proofs.invariant.Validity.{Validity}
use Rattle.agreement.proofs.bounds.TokenLaws.{one, many, every, between, owes, tokens, any, stale, current, many_none, many_under, tokens_split}
use Rattle.agreement.proofs.bounds.SpreadLaws.{ToServe, to_send, to_await}
use Rattle.agreement.proofs.bounds.Bounded.{PairTokens, Bounded}
use Rattle.agreement.proofs.bounds.Sums.{sum, sum_same, sum_add, sum_zero, sum_swap, square, square_add, of, many_pairs, of_between, none_alone}
use Rattle.agreement.proofs.bounds.Cover.{is_below, below_true, cover, cover_serves, cover_passed}
use Rattle.agreement.proofs.bounds.Potential.{own_part, other_part, beside, parts, debts, row, potential, one_le, one_few}

module _ (t : Tree) (s : State) where
  abbrev n : ℕ
  n = count s

  -- ---- what a pair of columns counts

  abbrev packets : ℕ → ℕ → ℕ
  packets p q = many (of every p q) s.network

  abbrev messages : ℕ → ℕ → ℕ
  messages p q = many (of is_message p q) s.network

  abbrev owed : ℕ → ℕ → ℕ
  owed p q = 2 * one (owes any p (s.columns q))

  -- what p has still to do for q
  abbrev pub own : ℕ → ℕ → ℕ
  own p q = cond (s.columns p).running (beside p (own_part t n p (s.columns p)) (other_part t n p (s.columns p)) q) 0

  abbrev pub value : ℕ → ℕ → ℕ
  value p q = packets p q + (messages p q + (messages p q + (owed p q + own p q)))

  row_pairs : (p : ℕ) → row t n p (s.columns p) ≡ sum (λ q. owed q p) t.columns + sum (own p) t.columns
  unfolding parts debts
  row_pairs p = go (s.columns p).running
    where
      c : Column
      c = s.columns p

      go : (b : Bool) → cond b (debts t c.owed + parts t n p c) 0
          ≡ sum (λ q. 2 * one (b && (has c.owed q && true))) t.columns + sum (λ q. cond b (beside p (own_part t n p c) (other_part t n p c) q) 0) t.columns
      go true = ap (λ (x : ℕ). x + parts t n p c)
          (sum_same (λ q. 2 * one (has c.owed q)) (λ q. 2 * one (has c.owed q && true)) t.columns (λ q l. same (has c.owed q)))
        where
          same : (b : Bool) → 2 * one b ≡ 2 * one (b && true)
          same true = refl
          same false = refl
      go false = omega (arith, sum_zero t.columns)

  pub potential_pairs : Validity t s → potential t s ≡ square value t.columns
  potential_pairs st = omega (
    arith,
    many_pairs t.columns every s.network ends,
    many_pairs t.columns is_message s.network ends,
    sum_same (λ p. row t n p (s.columns p)) (λ p. sum (λ q. owed q p) t.columns + sum (own p) t.columns) t.columns (λ p l. row_pairs p),
    sum_add (λ p. sum (λ q. owed q p) t.columns) (λ p. sum (own p) t.columns) t.columns,
    sum_swap owed t.columns t.columns,
    square_add owed own t.columns,
    square_add messages (λ p q. owed p q + own p q) t.columns,
    square_add messages (λ p q. messages p q + (owed p q + own p q)) t.columns,
    square_add packets (λ p q. messages p q + (messages p q + (owed p q + own p q))) t.columns,
  )
    where
      ends : (x : Packet) → Holds s.network x → (sender x < t.columns) × (receiver x < t.columns)
      ends x m = ((st.packets x m).acceptable.sender_below, (st.packets x m).acceptable.receiver_below)

module _ (t : Tree) (tree : IsTree t) {s : State} (inv : Invariant t s) (st : Validity t s) (bounded : Bounded t s) where
  abbrev l : List Packet
  l = s.network

  both : (b : Bool) → b ≡ true → (b && true) ≡ true
  both b e = ap (λ (x : Bool). x && true) e

  -- ---- packets and what is owed, beside the tokens

  few_packets : (p q : ℕ) → packets t s p q ≤ many (between any p q) l
  few_packets p q = of_between every p q l

  few_messages : (p q : ℕ) → messages t s p q ≤ packets t s p q
  few_messages p q = many_under (of is_message p q) (of every p q)
      (λ x. one_le (of is_message p q x) (of every p q x) (λ e. both (between any p q x) (and_left (between any p q x) _ e))) l

  pub carried_tokens : (p q : ℕ) → packets t s p q + (messages t s p q + (messages t s p q + owed t s p q)) ≤ 3 * tokens any s p q
  carried_tokens p q = omega (arith, few_packets p q, few_messages p q)

  -- whose receiver is halted, are acknowledgements
  message_runs : (p q : ℕ) (x : Packet) → Holds l x → of is_message p q x ≡ true → Runs s q
  message_runs p q (Message i j k d) h e =
      subst (Runs s) (sym (eqb-true q j (and_left (eqb q j) _ (and_right (eqb p i) _ (and_left (between any p q (Message i j k d)) _ e)))))
      (st.packets (Message i j k d) h).runs
  message_runs p q (Acknowledgement i j k) h e = absurd (true≢false (sym (and_right (between any p q (Acknowledgement i j k)) _ e)))

  pub carried_halted : (p q : ℕ) → (Runs s q → ⊥) → packets t s p q + (messages t s p q + (messages t s p q + owed t s p q)) ≤ tokens any s p q
  carried_halted p q h = omega (
    arith,
    few_packets p q,
    many_none (of is_message p q) l (λ x m. ⊎_elim (λ e. absurd (h (message_runs p q x m e))) (λ e. e) (truth (of is_message p q x))),
    ap (λ (b : Bool). one (b && (has (s.columns q).owed p && true))) (⊎_elim (λ e. absurd (h e)) (λ e. e) (truth (s.columns q).running)),
  )

  none_own : (g : Packet → Bool) (p : ℕ) → many (of g p p) l ≡ 0
  none_own g p = none_alone g p l (λ x m. (st.packets x m).acceptable.apart)

  -- ---- the own goal

  -- with the own goal, and of the root, the cover is below the column
  pub own_below : (p q : ℕ) → Runs s p → ((s.columns p).whole ≡ false) ⊎ (p ≡ t.root) → cover t p (s.columns p) q ≡ true → Below t p q
  own_below p q r w e = go (cover_serves t p (s.columns p) q e)
    where
      under : (y : ℕ) → Below t p y → Under t y q → Below t p q
      under y b u = record {
        under = subtree_trans t tree p y q (inv.inside p r) b.under u;
        other = λ z. b.other (subtree_antisym t tree p y (inv.inside p r) b.under (subst (Under t y) z u));
      }

      go : ToServe t (s.columns p) q → Below t p q
      go (to_send y m u) = under y ((inv.locals p r).own w y (inl m)) u
      go (to_await y m b) = under y ((inv.locals p r).own w y (inr m)) b.under

  -- what is to reach now, and what a takeover adds
  one_of : (p q : ℕ) → Runs s p → one (cover t p (s.columns p) q) + one (not (s.columns p).whole && not (is_below t p q)) ≤ 1
  one_of p q r = go (s.columns p).whole refl (cover t p (s.columns p) q) refl
    where
      go : (w : Bool) → (s.columns p).whole ≡ w → (b : Bool) → cover t p (s.columns p) q ≡ b → one b + one (not w && not (is_below t p q)) ≤ 1
      go true e b k = omega (arith, one_few b)
      go false e true k = omega (arith, ap (λ (x : Bool). one (not x)) (below_true t p q (own_below p q r (inl e) k)))
      go false e false k = omega (arith, one_few (not (is_below t p q)))

  -- ---- a column alone

  pub alone : (p : ℕ) → p < t.columns → value t s p p ≡ own t s p p
  alone p h = omega (arith, none_own every p, none_own is_message p, owes_none (s.columns p).running)
    where
      owes_none : (b : Bool) → one (b && (has (s.columns p).owed p && true)) ≡ 0
      owes_none true = ap (λ (x : Bool). one (x && true)) (st.each_valid p h).owes_others
      owes_none false = refl

  pub own_self : (p : ℕ) → own t s p p ≤ 4
  own_self p = row_own c.running refl
    where
      c : Column
      c = s.columns p

      part : (r : Runs s p) (w : Bool) → c.whole ≡ w → (b : Bool) → cover t p c p ≡ b → one b + (2 * one (not w) + 2 * one (ltb c.number (count s))) ≤ 4
      part r true e b k = omega (arith, one_few b, one_few (ltb c.number (count s)))
      part r false e true k = absurd ((own_below p p r (inl e) k).other refl)
      part r false e false k = omega (arith, one_few (ltb c.number (count s)))

      row_own : (b : Bool) → c.running ≡ b → cond b (beside p (own_part t (count s) p c) (other_part t (count s) p c) p) 0 ≤ 4
      row_own true r = subst (λ (x : Bool). cond x (own_part t (count s) p c) (other_part t (count s) p c p) ≤ 4) (sym (eq-eqb p p refl))
          (part r c.whole refl (cover t p c p) refl)
      row_own false r = omega arith

  -- ---- two columns

  module _ (p q : ℕ) (r : Runs s p) (other : q ≢ t.root) where
    abbrev c : Column
    c = s.columns p

    abbrev m : ℕ
    m = c.number

    abbrev w : PairTokens t s p c q
    w = bounded.pair_tokens p q r

    -- who has a token with the present number is reached already
    pub current_none : 0 < tokens (current m) s p q →
        one (cover t p c q) + one (not c.whole && not (is_below t p q)) ≡ 0
    current_none h = go c.whole refl (cover t p c q) refl
      where
        go : (x : Bool) → c.whole ≡ x → (b : Bool) → cover t p c q ≡ b → one b + one (not x && not (is_below t p q)) ≡ 0
        go x e true k = absurd (cover_passed t p c q k (w.current_served h (cover_serves t p c q k)))
        go true e false k = refl
        go false e false k = omega (arith, ap (λ (y : Bool). one (not y)) (below_true t p q (w.current_own h e)))

    newest : m ≡ count s → one (ltb m (count s)) ≡ 0
    newest e = ap one (le-ltb m (count s) (omega (arith, e)))

    abbrev heavy : ℕ
    heavy = packets t s p q + (messages t s p q + (messages t s p q + owed t s p q))

    -- the tokens of the pair beside what p has to do for q
    abbrev Bound : Type 0
    Bound = heavy + other_part t (count s) p c q ≤ 9

    pub split : tokens any s p q ≤ tokens (stale m) s p q + tokens (current m) s p q
    split = omega (arith, tokens_split m s p q, w.none_ahead)

    -- no token
    bound_none : tokens (stale m) s p q ≡ 0 → tokens (current m) s p q ≡ 0 → Bound
    bound_none e k = omega (arith, carried_tokens p q, split, one_of p q r, one_few (not (has c.noted q)), one_few (ltb m (count s)))

    -- one with the present number only
    bound_current : tokens (stale m) s p q ≡ 0 → 0 < tokens (current m) s p q → Bound
    bound_current e k = omega (arith, carried_tokens p q, split, current_none k, w.one_current, one_few (not (has c.noted q)), one_few (ltb m (count s)))

    -- one with a lower number
    bound_stale : 0 < tokens (stale m) s p q → Bound
    bound_stale k = ⊎_elim noted last (w.stale_held other k)
      where
        noted : In c.noted q × (tokens (current m) s p q ≡ 0) → Bound
        noted z = omega (
          arith,
          carried_halted p q ((inv.coverages p r).noted_halted q z.0),
          split,
          z.1,
          w.one_stale other,
          ap (λ (x : Bool). one (not x)) z.0.holds,
          one_of p q r,
          one_few (ltb m (count s)),
        )

        last : (¬ Runs s t.root) × (m ≡ count s) → Bound
        last z = ⊎_elim
            (λ (e : tokens (current m) s p q ≡ 0). omega (arith, e, carried_tokens p q, split, w.one_stale other, newest z.1, one_of p q r, one_few (not (has c.noted q))))
            (λ (e : tokens (current m) s p q ≢ 0).
            omega (arith, carried_tokens p q, split, w.one_stale other, w.one_current, newest z.1, current_none (omega (arith, e)), one_few (not (has c.noted q))))
            (equal_cases (tokens (current m) s p q) 0)

    bound : Bound
    bound = ⊎_elim
        (λ (e : tokens (stale m) s p q ≡ 0). ⊎_elim (λ (k : tokens (current m) s p q ≡ 0). bound_none e k)
        (λ (k : tokens (current m) s p q ≢ 0). bound_current e (omega (arith, k))) (equal_cases (tokens (current m) s p q) 0))
        (λ (e : tokens (stale m) s p q ≢ 0). bound_stale (omega (arith, e)))
        (equal_cases (tokens (stale m) s p q) 0)

  -- what p has still to do for q
  pub own_few : (p q : ℕ) → q ≢ p → own t s p q ≤ 9
  own_few p q e = go (s.columns p).running refl
    where
      c : Column
      c = s.columns p

      go : (b : Bool) → (s.columns p).running ≡ b → cond b (beside p (own_part t (count s) p c) (other_part t (count s) p c) q) 0 ≤ 9
      go true r = omega (
        arith,
        one_of p q r,
        one_few (not (has c.noted q)),
        one_few (ltb c.number (count s)),
        ap (λ (x : Bool). cond x (own_part t (count s) p c) (other_part t (count s) p c q)) (ne_eqb q p e),
      )
      go false r = omega arith

  pub value_halted : (p q : ℕ) → ¬ Runs s p → value t s p q ≤ 3 * tokens any s p q
  value_halted p q n = omega (
    arith,
    carried_tokens p q,
    ap (λ (b : Bool). cond b (beside p (own_part t (count s) p (s.columns p)) (other_part t (count s) p (s.columns p)) q) 0)
        (⊎_elim (λ e. absurd (n e)) (λ e. e) (truth (s.columns p).running)),
  )

  pub value_other : (p q : ℕ) → q ≢ p → q ≢ t.root → value t s p q ≤ 9
  value_other p q e other = ⊎_elim running stopped (running_cases s p)
    where
      c : Column
      c = s.columns p

      running : Runs s p → value t s p q ≤ 9
      running r = omega (
        arith,
        bound p q r other,
        ap (λ (b : Bool). cond b (beside p (own_part t (count s) p c) (other_part t (count s) p c) q) 0) r,
        ap (λ (x : Bool). cond x (own_part t (count s) p c) (other_part t (count s) p c q)) (ne_eqb q p e),
      )

      stopped : ¬ Runs s p → value t s p q ≤ 9
      stopped n = omega (arith, value_halted p q n, bounded.two p q other)
