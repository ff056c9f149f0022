-- The check of rows 2 and 3 decides `IsTree`: a climb that ends at the root at all does so within as many parents as there are columns.
-- Assumes nothing.
use Prim.Native.Nat.{ℕ, zero, suc, ◌+◌, ◌≤◌, ◌<◌}
use Rattle.std.specs.Prelude.{◌≡◌, Bool, false, ◌&&◌, ◌||◌, cond, ◌⊎◌, ◌↔◌, [], ◌∷◌, leb, ltb}
use Rattle.std.proofs.Math.Path.{refl, ap, ap₂}
use Rattle.std.proofs.Common.{sym, ◌∙◌, true≢false, ⊎_elim}
use Rattle.std.proofs.Math.Bool.{true, not, or-true}
use Rattle.std.proofs.Math.Logic.{inl, inr}
use Rattle.std.proofs.Math.Nat.{add-zero, add-suc}
use native.Mathlib.Omega.{arith}
use Rattle.std.proofs.Math.Dec.{eqb}
use borrow.Author.Tests.{eq-eqb, ne_eqb, eqb-true, eqb-false, lt-ltb, le-ltb, ltb-true, ltb-false, lt-leb, leb-false, not-false}
use Rattle.column.specs.laws.Cases.{equal_cases, truth, or_cases, and_left, and_right}
use Rattle.column.specs.Refusals.{first}
use Rattle.column.specs.laws.RefusalLaws.{passed, passes, earlier_none}
use Rattle.column.specs.laws.SequenceLaws.{Twice, pigeonhole, each_listed, listed_once, lists_whole}
use Rattle.column.specs.Sets.{whole}
use Rattle.column.specs.Trees.{tree_of, parent, climb, listed_at, IsTree, every, is_parent_below, climbs_in, is_listed_below, listed_in, lists_each, tree_conditions, tree_refusal, column_refusal}
use Rattle.column.specs.declared.tree.Tree.{Tree}

-- ---- a test of every column below n

module _ (f : ℕ → Bool) where
  pub every_at : (n j : ℕ) → every f n ≡ true → j < n → f j ≡ true
  unfolding every
  every_at zero j e h = absurd (omega arith)
  every_at (suc n) j e h = go (every_at n j (and_left (every f n) (f n) e)) (equal_cases j n)
    where
      go : (j < n → f j ≡ true) → (j ≡ n) ⊎ (j ≡ n → ⊥) → f j ≡ true
      go ih (inl p) = ap f p ∙ and_right (every f n) (f n) e
      go ih (inr p) = ih (omega arith)

  pub every_all : (n : ℕ) → ((j : ℕ) → j < n → f j ≡ true) → every f n ≡ true
  unfolding every
  every_all zero h = refl
  every_all (suc n) h = rw (every_all n (λ j l. h j (omega arith)), h n (omega arith))

  pub every_alike : (g : ℕ → Bool) → ((j : ℕ) → f j ≡ g j) → (n : ℕ) → every f n ≡ every g n
  unfolding every
  every_alike g e zero = refl
  every_alike g e (suc n) = ap₂ (λ (x y : Bool). x && y) (every_alike g e n) (e n)

  pub every_fails : (n j : ℕ) → f j ≡ false → j < n → every f n ≡ false
  every_fails n j e h = ⊎_elim (λ a. absurd (true≢false (sym (every_at n j a h) ∙ e))) (λ a. a) (truth (every f n))

-- ---- climbs

module _ (t : Tree) where
  pub climb_zero : (c : ℕ) → climb t 0 c ≡ c
  unfolding climb
  climb_zero c = refl

  pub climb_suc : (k c : ℕ) → climb t (suc k) c ≡ parent t (climb t k c)
  unfolding climb
  climb_suc zero c = refl
  climb_suc (suc k) c = climb_suc k (parent t c)

  pub climb_add : (k i c : ℕ) → climb t (k + i) c ≡ climb t k (climb t i c)
  unfolding climb
  climb_add k zero c = rw add-zero
  climb_add k (suc i) c = rw add-suc (climb_add k i (parent t c))

  pub climb_lt : ((c : ℕ) → c < t.columns → parent t c < t.columns) → (k c : ℕ) → c < t.columns → climb t k c < t.columns
  unfolding climb
  climb_lt below zero c h = h
  climb_lt below (suc k) c h = climb_lt below k (parent t c) (below c h)

  pub climbs_more : (budget c : ℕ) → (c ≡ t.root → ⊥) → climbs_in t (suc budget) c ≡ climbs_in t budget (parent t c)
  unfolding climbs_in
  climbs_more budget c ne = rw (ne_eqb c t.root ne)

  -- a climb does not look at the sequence
  climbs_alike : (budget c : ℕ) → climbs_in (tree_of t.columns t.root t.up) budget c ≡ climbs_in t budget c
  unfolding climbs_in
  climbs_alike zero c = refl
  climbs_alike (suc budget) c = ap (λ (b : Bool). eqb c t.root || b) (climbs_alike budget (parent t c))

  pub every_climbs_alike : (budget n : ℕ)
      → every (climbs_in (tree_of t.columns t.root t.up) budget) n ≡ every (climbs_in t budget) n
  every_climbs_alike budget n = every_alike _ (climbs_in t budget) (climbs_alike budget) n

  pub climb_ends : (budget c : ℕ) → climbs_in t budget c ≡ true → (k : ℕ) × (k < budget) × (climb t k c ≡ t.root)
  unfolding climb climbs_in
  climb_ends zero c e = absurd (true≢false (sym e))
  climb_ends (suc budget) c e = go (climb_ends budget (parent t c)) (or_cases (eqb c t.root) (climbs_in t budget (parent t c)) e)
    where
      go : (climbs_in t budget (parent t c) ≡ true → (k : ℕ) × (k < budget) × (climb t k (parent t c) ≡ t.root))
          → (eqb c t.root ≡ true) ⊎ (climbs_in t budget (parent t c) ≡ true)
          → (k : ℕ) × (k < suc budget) × (climb t k c ≡ t.root)
      go ih (inl p) = (0, omega arith, eqb-true c t.root p)
      go ih (inr p) =
          let r = ih p in
          (suc r.0, omega arith, r.2)

  pub ends_climb : (budget k c : ℕ) → k < budget → climb t k c ≡ t.root → climbs_in t budget c ≡ true
  unfolding climb climbs_in
  ends_climb zero k c h e = absurd (omega arith)
  ends_climb (suc budget) zero c h e = rw (eq-eqb c t.root e)
  ends_climb (suc budget) (suc k) c h e =
      ap (λ (b : Bool). eqb c t.root || b) (ends_climb budget k (parent t c) (omega arith) e) ∙ or-true (eqb c t.root)

  -- what a climb of any length meets, one of fewer parents than there are columns meets: among the first places two are the same,
  -- and from there on the climb goes in a circle
  module _ (below : (c : ℕ) → c < t.columns → parent t c < t.columns) (c : ℕ) (h : c < t.columns) where
    circle : (w : Twice (λ i. climb t i c) t.columns) (k : ℕ) → (m : ℕ) × (m < w.other) × (climb t m c ≡ climb t k c)
    circle w zero = (0, omega arith, refl)
    circle w (suc k) = go (circle w k)
      where
        next : (m : ℕ) → climb t m c ≡ climb t k c → climb t (suc m) c ≡ climb t (suc k) c
        next m e = climb_suc m c ∙ ap (parent t) e ∙ sym (climb_suc k c)

        go : (m : ℕ) × (m < w.other) × (climb t m c ≡ climb t k c) → (m : ℕ) × (m < w.other) × (climb t m c ≡ climb t (suc k) c)
        go r = turn (equal_cases (suc r.0) w.other)
          where
            turn : (suc r.0 ≡ w.other) ⊎ (suc r.0 ≡ w.other → ⊥) → (m : ℕ) × (m < w.other) × (climb t m c ≡ climb t (suc k) c)
            turn (inl p) = (w.one, w.before, w.equal ∙ ap (λ (x : ℕ). climb t x c) (sym p) ∙ next r.0 r.2)
            turn (inr p) = (suc r.0, omega arith, next r.0 r.2)

    pub climb_short : (k : ℕ) → (m : ℕ) × (m < t.columns) × (climb t m c ≡ climb t k c)
    climb_short k =
        let w : Twice (λ i. climb t i c) t.columns = pigeonhole t.columns (λ i. climb t i c) (λ i l. climb_lt below i c h) in
        let r = circle w k in
        (r.0, omega arith, r.2)

    -- a climb that comes to where one ends, ends
    pub climbs_on : (i k : ℕ) → climb t k (climb t i c) ≡ t.root → climbs_in t t.columns c ≡ true
    climbs_on i k e =
        let r = climb_short (k + i) in
        ends_climb t.columns r.0 c r.1 (r.2 ∙ climb_add k i c ∙ e)

-- ---- the check

-- the conditions of row 3 give 0 or 3
abbrev Three : ℕ → Type 0
Three n = (n ≡ 0) ⊎ (n ≡ 3)

three : (a b c d e : Bool) → Three (cond a 3 (cond b 3 (cond c 3 (cond d 3 (cond e 3 0)))))
three true b c d e = inr refl
three false true c d e = inr refl
three false false true d e = inr refl
three false false false true e = inr refl
three false false false false true = inr refl
three false false false false false = inl refl

module _ (t : Tree) where
  accepted : tree_refusal t ≡ 0 → IsTree t
  unfolding tree_refusal
  accepted e =
      let p = passed (tree_conditions t) tt e in
      let each : lists_each t ≡ true = not-false _ p.1.1.1.1.0 in
      let below : (k : ℕ) → k < t.columns → listed_at t k < t.columns =
      λ k h. ltb-true (listed_at t k) t.columns (every_at (is_listed_below t) t.columns k (and_left _ _ each) h) in
      let whole_listed : listed_in t.first t.columns ≡ whole t.columns =
      eqb-true (listed_in t.first t.columns) (whole t.columns) (and_right (every (is_listed_below t) t.columns) _ each) in
      record {
        some = omega (arith, eqb-false t.columns 0 p.0);
        sixteen = ltb-false 16 t.columns p.1.0;
        root_below = leb-false t.columns t.root p.1.1.0;
        parent_below = λ c h. ltb-true (parent t c) t.columns (every_at (is_parent_below t) t.columns c (not-false _ p.1.1.1.0) h);
        root_own = eqb-true (parent t t.root) t.root (not-false _ p.1.1.1.1.1.0);
        climbs = λ c h.
            let r = climb_ends t t.columns c (every_at (climbs_in t t.columns) t.columns c (not-false _ p.1.1.1.1.1.1.0) h) in
            (r.0, r.2);
        listed = each_listed t.first t.columns below whole_listed;
        listed_once = listed_once t.first t.columns below whole_listed;
        listed_below = below;
      }

  pub climbs_in_lem : IsTree t → (c : ℕ) → c < t.columns → climbs_in t t.columns c ≡ true
  climbs_in_lem tree c h = let w = tree.climbs c h in climbs_on t tree.parent_below c h 0 w.0 (ap (climb t w.0) (climb_zero t c) ∙ w.1)

  lists_each_lem : IsTree t → lists_each t ≡ true
  lists_each_lem tree =
      let n = t.columns in
      rw (
        every_all (is_listed_below t) n (λ k h. lt-ltb (listed_at t k) n (tree.listed_below k h)),
        eq-eqb (listed_in t.first n) (whole n) (lists_whole t.first n tree.listed_below tree.listed),
      )

  exact : IsTree t → tree_refusal t ≡ 0
  unfolding tree_refusal
  exact tree =
      passes (tree_conditions t) (
        ne_eqb t.columns 0 (λ e. omega arith),
        (
          le-ltb 16 t.columns tree.sixteen,
          (
            lt-leb t.columns t.root tree.root_below,
            (
              ap not (every_all (is_parent_below t) t.columns (λ c h. lt-ltb (parent t c) t.columns (tree.parent_below c h))),
              (
                ap not (lists_each_lem tree),
                (
                  ap not (eq-eqb (parent t t.root) t.root tree.root_own),
                  (
                    ap not (every_all (climbs_in t t.columns) t.columns (climbs_in_lem tree)),
                    tt,
                  ),
                ),
              ),
            ),
          ),
        ),
      )

  pub check_exact : tree_refusal t ≡ 0 ↔ IsTree t
  check_exact = (accepted, exact)

  pub tree_sixteen : tree_refusal t ≡ 0 → t.columns ≤ 16
  tree_sixteen e = (accepted e).sixteen

  pub tree_root : tree_refusal t ≡ 0 → t.root < 16
  tree_root e = omega (arith, (accepted e).sixteen, (accepted e).root_below)

  -- a column that is not refused
  pub column_accepted : (c : ℕ) → column_refusal t c ≡ 0 → (t.columns ≤ 16) × (c < t.columns)
  column_accepted c e =
      let q = earlier_none (tree_refusal t) (first ((4, leb t.columns c) ∷ [])) e in
      (tree_sixteen q.0, leb-false t.columns c (passed ((4, leb t.columns c) ∷ []) tt q.1).0)

  refusal_cases : (((t.columns ≡ 0) ⊎ (16 < t.columns)) × (tree_refusal t ≡ 2)) ⊎ Three (tree_refusal t)
  unfolding tree_refusal
  refusal_cases = go (truth (eqb t.columns 0)) (truth (ltb 16 t.columns))
    where
      go : (eqb t.columns 0 ≡ true) ⊎ (eqb t.columns 0 ≡ false) → (ltb 16 t.columns ≡ true) ⊎ (ltb 16 t.columns ≡ false)
          → (((t.columns ≡ 0) ⊎ (16 < t.columns)) × (tree_refusal t ≡ 2)) ⊎ Three (tree_refusal t)
      go (inl a) b = inl (inl (eqb-true t.columns 0 a), rw a)
      go (inr a) (inl b) = inl (inr (ltb-true 16 t.columns b), rw (a, b))
      go (inr a) (inr b) =
          inr (rw (a, b) (three (leb t.columns t.root) (not (every (is_parent_below t) t.columns)) (not (lists_each t))
          (not (eqb (parent t t.root) t.root)) (not (every (climbs_in t t.columns) t.columns))))

  two_refused : (t.columns ≡ 0) ⊎ (16 < t.columns) → tree_refusal t ≡ 2
  unfolding tree_refusal
  two_refused (inl e) = rw (eq-eqb t.columns 0 e)
  two_refused (inr h) = rw (ne_eqb t.columns 0 (λ e. omega arith), lt-ltb 16 t.columns h)

  pub refusal_two : tree_refusal t ≡ 2 ↔ ((t.columns ≡ 0) ⊎ (16 < t.columns))
  refusal_two = (λ e. ⊎_elim (λ p. p.0) (⊎_elim (λ z. absurd (omega arith)) (λ z. absurd (omega arith))) refusal_cases, two_refused)

  pub refusal_numbers : (tree_refusal t ≡ 0) ⊎ ((tree_refusal t ≡ 2) ⊎ (tree_refusal t ≡ 3))
  refusal_numbers = ⊎_elim (λ p. inr (inl p.1)) (⊎_elim (λ z. inl z) (λ z. inr (inr z))) refusal_cases
