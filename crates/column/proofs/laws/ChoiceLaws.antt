-- Which member of a set a tree's sequence chooses. Assumes nothing.
use Rattle.std.specs.Prelude.{ℕ, zero, suc, ◌+◌, ◌-◌, ◌^◌, ◌≤◌, ◌<◌, ◌≡◌, Bool, true, false, cond, ◌⊎◌, List, get_or}
use Rattle.std.proofs.Math.Path.{refl}
use Rattle.std.proofs.Common.{sym, ap, ◌∙◌, true≢false, inl, inr, arith, lt_of_lt_of_le, add-one, pow_mono}
use Rattle.std.specs.Int.Count.{count_trailing_zeros}
use Rattle.column.specs.laws.Cases.{compare_cases, equal_cases}
use Rattle.column.specs.Sets.{has, lowest_in, lowest}
use Rattle.column.specs.laws.SetLaws.{has_none}
use Rattle.column.specs.laws.Digits.{lowest_lt, lowest_member, lowest_none}
use Rattle.column.specs.Trees.{ascending, listed_at, IsTree, earliest_from, places, choose, tree_refusal}
use Rattle.column.specs.laws.TreeLaws.{check_exact}
use Rattle.column.specs.laws.SequenceLaws.{ascending_at}
use Rattle.column.specs.Columns.{validity_refusal}
use Rattle.column.specs.laws.StateLaws.{validity_refusal_tree, validity_refusal_sixteen, validity_refusal_send}
use Rattle.column.specs.declared.tree.Tree.{Tree}
use Rattle.column.specs.declared.state.Column.{Column}

-- "the member that stands earliest in that list"
pub record Earliest (t : Tree) (m c : ℕ) : Type 0 where
  pub place : ℕ
  pub counts : place < t.columns
  pub valid : listed_at t place ≡ c
  pub member : has m c ≡ true
  pub none_earlier : (k : ℕ) → k < place → has m (listed_at t k) ≡ false

-- ---- from a place on: the one there is a member, or the next place is looked at

module _ (first : List ℕ) (m at n : ℕ) (h : at < n) where
  more : n - at ≡ suc (n - (at + 1))
  more = omega arith

  pub from_here : has m (get_or first at 0) ≡ true → earliest_from first m at (n - at) ≡ get_or first at 0
  from_here e = ap (earliest_from first m at) more ∙ ap (λ (b : Bool). cond b (get_or first at 0) (earliest_from first m (suc at) (n - (at + 1)))) e

  pub from_next : has m (get_or first at 0) ≡ false → earliest_from first m at (n - at) ≡ earliest_from first m (at + 1) (n - (at + 1))
  from_next e =
      ap (earliest_from first m at) more ∙ ap (λ (b : Bool). cond b (get_or first at 0) (earliest_from first m (suc at) (n - (at + 1)))) e
      ∙ ap (λ (k : ℕ). earliest_from first m k (n - (at + 1))) (sym (add-one at))

-- ---- what is chosen

module _ (t : Tree) (m : ℕ) where
  -- from place `at` on, where no member is before
  earliest_from_lem : (at k p : ℕ) → at ≤ p → p < at + k → at + k ≤ t.columns → has m (listed_at t p) ≡ true
      → ((j : ℕ) → j < at → has m (listed_at t j) ≡ false) → Earliest t m (earliest_from t.first m at k)
  earliest_from_lem at zero p l h n e none = absurd (omega arith)
  earliest_from_lem at (suc k) p l h n e none = go (earliest_from_lem (suc at) k p) (has m (listed_at t at)) refl
    where
      go : (suc at ≤ p → p < suc at + k → suc at + k ≤ t.columns → has m (listed_at t p) ≡ true
          → ((j : ℕ) → j < suc at → has m (listed_at t j) ≡ false) → Earliest t m (earliest_from t.first m (suc at) k))
          → (b : Bool) → has m (listed_at t at) ≡ b → Earliest t m (cond b (listed_at t at) (earliest_from t.first m (suc at) k))
      go ih true q = record { place = at; counts = omega arith; valid = refl; member = q; none_earlier = none }
      go ih false q = past (equal_cases at p)
        where
          past : (at ≡ p) ⊎ (at ≡ p → ⊥) → Earliest t m (earliest_from t.first m (suc at) k)
          past (inl z) = absurd (true≢false (sym e ∙ ap (λ (j : ℕ). has m (listed_at t j)) (sym z) ∙ q))
          past (inr z) = ih (omega arith) (omega arith) (omega arith) e (λ j l. before j l (equal_cases j at))
            where
              before : (j : ℕ) → j < suc at → (j ≡ at) ⊎ (j ≡ at → ⊥) → has m (listed_at t j) ≡ false
              before j l (inl z) = ap (λ (i : ℕ). has m (listed_at t i)) z ∙ q
              before j l (inr z) = none j (omega arith)

  from_le : (at k : ℕ) → ((j : ℕ) → j < at + k → listed_at t j ≤ 16) → earliest_from t.first m at k ≤ 16
  from_le at zero h = omega arith
  from_le at (suc k) h = go (has m (listed_at t at)) (from_le (suc at) k (λ j l. h j (omega arith)))
    where
      go : (b : Bool) → earliest_from t.first m (suc at) k ≤ 16 → cond b (listed_at t at) (earliest_from t.first m (suc at) k) ≤ 16
      go true ih = h at (omega arith)
      go false ih = ih

  from_none : (at k : ℕ) → ((j : ℕ) → has m (listed_at t j) ≡ false) → earliest_from t.first m at k ≡ 16
  from_none at zero h = refl
  from_none at (suc k) h = rw (h at) (from_none (suc at) k h)

module _ (t : Tree) (ok : tree_refusal t ≡ 0) where
  tree : IsTree t
  tree = (check_exact t).0 ok

  all_places : places t ≡ t.columns
  all_places = omega (arith, tree.sixteen)

  pub choose_le : (m : ℕ) → choose t m ≤ 16
  choose_le m = from_le t m 0 (places t) (λ j l. omega (arith, all_places, tree.listed_below j (omega (arith, l, all_places)), tree.sixteen))

  module _ (m : ℕ) (h : m < 2 ^ t.columns) (some : 0 < m) where
    -- a set that is not empty has a member, which is at some place
    pub choose_earliest : Earliest t m (choose t m)
    choose_earliest =
        let n = t.columns in
        let p = tree.listed (lowest_in n m) (lowest_lt n m h some) in
        earliest_from_lem t m 0 (places t) p.0 (omega arith) (omega (arith, p.1, all_places)) (omega (arith, all_places))
        (ap (has m) p.2 ∙ lowest_member n m h some) (λ j l. absurd (omega arith))

    pub choose_member : has m (choose t m) ≡ true
    choose_member = choose_earliest.member

    pub choose_lt : choose t m < t.columns
    choose_lt = let e = choose_earliest in omega (arith, e.valid, tree.listed_below e.place e.counts)

  lowest_empty : lowest 0 ≡ 16
  unfolding count_trailing_zeros
  lowest_empty = refl

  -- "Without it, ascending numbers": there the earliest member is the lowest
  pub choose_ascending : t.first ≡ ascending → (m : ℕ) → m < 2 ^ t.columns → choose t m ≡ lowest m
  choose_ascending e zero h = from_none t 0 0 (places t) (λ j. has_none (listed_at t j)) ∙ sym lowest_empty
  choose_ascending e (suc m) h =
      let c = choose_earliest (suc m) h (omega arith) in
      go c (at c.place (omega (arith, c.counts, tree.sixteen))) (compare_cases (choose t (suc m)) (lowest (suc m)))
    where
      at : (k : ℕ) → k < 16 → listed_at t k ≡ k
      at k l = ap (λ (s : List ℕ). get_or s k 0) e ∙ ascending_at k l

      go : (c : Earliest t (suc m) (choose t (suc m))) → listed_at t c.place ≡ c.place
          → (choose t (suc m) < lowest (suc m)) ⊎ ((choose t (suc m) ≡ lowest (suc m)) ⊎ (lowest (suc m) < choose t (suc m)))
          → choose t (suc m) ≡ lowest (suc m)
      go c p (inl l) = absurd (true≢false (sym c.member ∙ lowest_none 16 (suc m) (choose t (suc m)) l))
      go c p (inr (inl q)) = q
      go c p (inr (inr l)) =
          let low = lowest (suc m) in
          let small : suc m < 2 ^ 16 = lt_of_lt_of_le h (pow_mono tree.sixteen) in
          let k : low < c.place = omega (arith, l, c.valid, p) in
          absurd (true≢false (sym (lowest_member 16 (suc m) small (omega arith)) ∙ ap (has (suc m)) (sym (at low (omega (arith, k, c.counts, tree.sixteen)))) ∙ c.none_earlier low k))

-- ---- the choice of a column's state that passes

module _ (t : Tree) (i : ℕ) (c : Column) (good : validity_refusal t i c ≡ 0) where
  -- the one that a send serves
  pub validity_refusal_choice : 0 < c.send → choose t c.send < 16
  validity_refusal_choice some =
      omega (arith, validity_refusal_sixteen t i c good, choose_lt t (validity_refusal_tree t i c good) c.send (validity_refusal_send t i c good) some)
