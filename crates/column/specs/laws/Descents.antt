-- The calls that make a subtree: what they give climbs to the column that they start from, and with calls enough all that climbs there is found; and
-- how far a column is below the root. Assumes nothing.
use Prim.Native.Nat.{ℕ, zero, suc, ◌+◌, ◌-◌, ◌*◌, ◌^◌, ◌≤◌, ◌<◌}
use Rattle.std.specs.Prelude.{◌≡◌, Bool, true, not, ◌||◌, cond, ◌⊎◌, eqb}
use Rattle.std.proofs.Math.Path.{refl, ap}
use Rattle.std.proofs.Common.{sym, ◌∙◌, true≢false, ⊎_elim, lt_of_lt_of_le, arith, pow_pos, pow_mono, eq-eqb, ne_eqb, eqb-true}
use Rattle.std.proofs.Math.Bool.{or-true}
use Rattle.std.proofs.Math.Logic.{inl, inr}
use Rattle.std.specs.Int.Count.{ones}
use Rattle.std.proofs.lemmas.Nat.{ones-le}
use Rattle.column.specs.laws.Cases.{equal_cases, or_cases, and_left, same_truth}
use Rattle.column.specs.Sets.{has, single, join, without, lowest}
use Rattle.column.specs.laws.SetLaws.{has_none, has_join, has_single, has_without, has_without_other, single_lt, join_lt, without_lt, member_lt, member_pos, same_members, ones_without}
use Rattle.column.specs.laws.Digits.{lowest_member}
use Rattle.column.specs.Trees.{parent, climb, IsTree, children, subtree_in, subtrees_in, climbs_in}
use Rattle.column.specs.laws.TreeLaws.{climb_zero, climb_suc, climb_lt, climbs_more, climbs_in_lem}
use Rattle.column.specs.laws.ChildLaws.{children_lt, child_parent, child_has}
use Rattle.column.specs.declared.tree.Tree.{Tree}

-- the parents to climb from c to the root, counted as far as `budget` goes
unfoldable pub depth_in : Tree → ℕ → ℕ → ℕ
depth_in t zero c = 0
depth_in t (suc budget) c = cond (eqb c t.root) 0 (suc (depth_in t budget (parent t c)))

abbrev pub depth : Tree → ℕ → ℕ
depth t c = depth_in t t.columns c

-- ---- with a budget in which the climb ends

module _ (t : Tree) where
  climbs_on : (budget c : ℕ) → climbs_in t (suc budget) c ≡ true → (c ≡ t.root → ⊥) → climbs_in t budget (parent t c) ≡ true
  climbs_on budget c e ne = sym (climbs_more t budget c ne) ∙ e

  within_budget : (budget c : ℕ) → climbs_in t budget c ≡ true → depth_in t budget c < budget
  unfolding climbs_in depth_in
  within_budget zero c e = absurd (true≢false (sym e))
  within_budget (suc budget) c e = go (λ ne. within_budget budget (parent t c) (climbs_on budget c e ne)) (equal_cases c t.root)
    where
      go : ((c ≡ t.root → ⊥) → depth_in t budget (parent t c) < budget) → (c ≡ t.root) ⊎ (c ≡ t.root → ⊥) → depth_in t (suc budget) c < suc budget
      go ih (inl p) = rw (eq-eqb c t.root p) (omega arith)
      go ih (inr p) = rw (ne_eqb c t.root p) (omega (arith, ih p))

  one_more : (budget c : ℕ) → climbs_in t budget c ≡ true → depth_in t (suc budget) c ≡ depth_in t budget c
  unfolding climbs_in depth_in
  one_more zero c e = absurd (true≢false (sym e))
  one_more (suc budget) c e = go (λ ne. one_more budget (parent t c) (climbs_on budget c e ne)) (equal_cases c t.root)
    where
      go : ((c ≡ t.root → ⊥) → depth_in t (suc budget) (parent t c) ≡ depth_in t budget (parent t c))
          → (c ≡ t.root) ⊎ (c ≡ t.root → ⊥) → depth_in t (suc (suc budget)) c ≡ depth_in t (suc budget) c
      go ih (inl p) = rw (eq-eqb c t.root p)
      go ih (inr p) = rw (ne_eqb c t.root p) (ap suc (ih p))

  one_parent : (budget c : ℕ) → climbs_in t budget c ≡ true → (c ≡ t.root → ⊥) → depth_in t budget c ≡ suc (depth_in t budget (parent t c))
  unfolding climbs_in depth_in
  one_parent zero c e ne = absurd (true≢false (sym e))
  one_parent (suc budget) c e ne = rw (ne_eqb c t.root ne) (ap suc (sym (one_more budget (parent t c) (climbs_on budget c e ne))))

-- ---- in a tree

module _ (t : Tree) (tree : IsTree t) where
  pub depth_child : (c : ℕ) → c < t.columns → (c ≡ t.root → ⊥) → depth t c ≡ suc (depth t (parent t c))
  depth_child c h ne = one_parent t t.columns c (climbs_in_lem t tree c h) ne

  pub depth_le : (c : ℕ) → c < t.columns → depth t c ≤ 15
  depth_le c h = omega (arith, within_budget t t.columns c (climbs_in_lem t tree c h))

  pub climb_root : (k : ℕ) → climb t k t.root ≡ t.root
  unfolding climb
  climb_root zero = refl
  climb_root (suc k) = ap (climb t k) tree.root_own ∙ climb_root k

  -- a climb stays where it is, or comes nearer to the root
  pub climb_nearer : (k p : ℕ) → p < t.columns → (climb t k p ≡ p) ⊎ (depth t (climb t k p) < depth t p)
  unfolding climb
  climb_nearer zero p h = inl refl
  climb_nearer (suc k) p h = go (equal_cases p t.root) (climb_nearer k (parent t p) (tree.parent_below p h))
    where
      go : (p ≡ t.root) ⊎ (p ≡ t.root → ⊥)
          → (climb t k (parent t p) ≡ parent t p) ⊎ (depth t (climb t k (parent t p)) < depth t (parent t p))
          → (climb t k (parent t p) ≡ p) ⊎ (depth t (climb t k (parent t p)) < depth t p)
      go (inl e) ih = inl (rw e (climb_root (suc k)))
      go (inr ne) (inl e) = inr (omega (arith, ap (depth t) e, depth_child p h ne))
      go (inr ne) (inr l) = inr (omega (arith, depth_child p h ne))

-- some climb from p meets c
abbrev pub Climbs : Tree → ℕ → ℕ → Type 0
Climbs t p c = (k : ℕ) × (climb t k p ≡ c)

-- some climb from p meets a member of s
abbrev pub ClimbsInto : Tree → ℕ → ℕ → Type 0
ClimbsInto t p s = (q : ℕ) × (has s q ≡ true) × Climbs t p q

-- ---- members of a union

pub join_cases : (a b p : ℕ) → has (join a b) p ≡ true → (has a p ≡ true) ⊎ (has b p ≡ true)
join_cases a b p e = or_cases (has a p) (has b p) (sym (has_join a b p) ∙ e)

join_left : (a b p : ℕ) → has a p ≡ true → has (join a b) p ≡ true
join_left a b p e = has_join a b p ∙ ap (λ (x : Bool). x || has b p) e

join_right : (a b p : ℕ) → has b p ≡ true → has (join a b) p ≡ true
join_right a b p e = has_join a b p ∙ ap (λ (x : Bool). has a p || x) e ∙ or-true (has a p)

module _ (t : Tree) where
  -- ---- one call

  pub subtree_more : (calls c : ℕ) → subtree_in (suc calls) t c ≡ join (single c) (subtrees_in calls t (children t c))
  unfolding subtree_in
  subtree_more calls c = refl

  pub subtrees_more : (calls s : ℕ) → (s ≡ 0 → ⊥)
      → subtrees_in (suc calls) t s ≡ join (subtree_in calls t (lowest s)) (subtrees_in calls t (without s (lowest s)))
  unfolding subtrees_in
  subtrees_more calls s ne = rw (ne_eqb s 0 ne)

  pub found_here : (calls c : ℕ) → 0 < calls → has (subtree_in calls t c) c ≡ true
  found_here zero c l = absurd (omega arith)
  found_here (suc calls) c l =
      rw (subtree_more calls c) (join_left (single c) (subtrees_in calls t (children t c)) c (has_single c c ∙ eq-eqb c c refl))

  -- ---- climbs

  climbs_here : (c p : ℕ) → has (single c) p ≡ true → Climbs t p c
  climbs_here c p e = (0, climb_zero t p ∙ eqb-true p c (sym (has_single c p) ∙ e))

  pub climbs_child : (c p : ℕ) → ClimbsInto t p (children t c) → Climbs t p c
  climbs_child c p w =
      (suc w.2.0, climb_suc t w.2.0 p ∙ ap (parent t) w.2.1 ∙ child_parent t c w.0 w.1)

  climbs_rest : (s c p : ℕ) → ClimbsInto t p (without s c) → ClimbsInto t p s
  climbs_rest s c p w = (w.0, and_left (has s w.0) (not (eqb w.0 c)) (sym (has_without s c w.0) ∙ w.1), w.2)

module _ (t : Tree) (tree : IsTree t) where
  -- ---- the lowest member of a set of the tree's columns

  sixteen : (s : ℕ) → s < 2 ^ t.columns → s < 2 ^ 16
  sixteen s h = lt_of_lt_of_le h (pow_mono tree.sixteen)

  first_in : (s : ℕ) → s < 2 ^ t.columns → (s ≡ 0 → ⊥) → has s (lowest s) ≡ true
  first_in s h ne = lowest_member 16 s (sixteen s h) (omega arith)

  first_below : (s : ℕ) → s < 2 ^ t.columns → (s ≡ 0 → ⊥) → lowest s < t.columns
  first_below s h ne = member_lt t.columns s (lowest s) h (first_in s h ne)

  rest_below : (s : ℕ) → s < 2 ^ t.columns → (s ≡ 0 → ⊥) → without s (lowest s) < 2 ^ t.columns
  rest_below s h ne = without_lt t.columns s (lowest s) h (first_below s h ne)

  -- ---- every call gives columns of the tree

  mutual
    unfolding subtree_in subtrees_in

    pub subtree_below : (calls c : ℕ) → c < t.columns → subtree_in calls t c < 2 ^ t.columns
    subtree_below zero c h = pow_pos t.columns
    subtree_below (suc calls) c h =
        join_lt t.columns (single c) (subtrees_in calls t (children t c)) (single_lt h) (subtrees_below calls (children t c) (children_lt t c))

    pub subtrees_below : (calls s : ℕ) → s < 2 ^ t.columns → subtrees_in calls t s < 2 ^ t.columns
    subtrees_below zero s h = pow_pos t.columns
    subtrees_below (suc calls) s h =
        ⊎_elim
        (λ z. rw z (pow_pos t.columns))
        (λ ne.
        rw (ne_eqb s 0 ne)
        (join_lt t.columns (subtree_in calls t (lowest s)) (subtrees_in calls t (without s (lowest s)))
        (subtree_below calls (lowest s) (first_below s h ne))
        (subtrees_below calls (without s (lowest s)) (rest_below s h ne))))
        (equal_cases s 0)

  -- ---- what a call gives climbs to its column, or to a member of its set

  mutual
    unfolding subtree_in subtrees_in

    pub subtree_climbs : (calls c p : ℕ) → has (subtree_in calls t c) p ≡ true → Climbs t p c
    subtree_climbs zero c p e = absurd (true≢false (sym e ∙ has_none p))
    subtree_climbs (suc calls) c p e =
        ⊎_elim
        (climbs_here t c p)
        (λ b. climbs_child t c p (subtrees_climb calls (children t c) p (children_lt t c) b))
        (join_cases (single c) (subtrees_in calls t (children t c)) p e)

    pub subtrees_climb : (calls s p : ℕ) → s < 2 ^ t.columns → has (subtrees_in calls t s) p ≡ true → ClimbsInto t p s
    subtrees_climb zero s p h e = absurd (true≢false (sym e ∙ has_none p))
    subtrees_climb (suc calls) s p h e =
        let c = lowest s in
        ⊎_elim
        (λ z. absurd (true≢false (sym (rw z at e) ∙ has_none p)))
        (λ ne.
        ⊎_elim
        (λ first. (c, first_in s h ne, subtree_climbs calls c p first))
        (λ rest. climbs_rest t s c p (subtrees_climb calls (without s c) p (rest_below s h ne) rest))
        (join_cases (subtree_in calls t c) (subtrees_in calls t (without s c)) p (rw (ne_eqb s 0 ne) at e)))
        (equal_cases s 0)

  -- ---- a column is found within 17 calls for each parent on its climb: one for the column, and one for each member of a list of at most 16

  member_found : (calls need s q p : ℕ) → s < 2 ^ t.columns → has s q ≡ true
      → ((m : ℕ) → need ≤ m → has (subtree_in m t q) p ≡ true)
      → need + ones s ≤ calls → has (subtrees_in calls t s) p ≡ true
  member_found zero need s q p h e f l = absurd (omega (arith, ones_without q s e))
  member_found (suc calls) need s q p h e f l =
      let ne : s ≡ 0 → ⊥ = λ z. absurd (omega (arith, member_pos s q e)) in
      let c = lowest s in
      let first = subtree_in calls t c in
      let rest = subtrees_in calls t (without s c) in
      let one = ones_without c s (first_in s h ne) in
      rw (subtrees_more t calls s ne)
      (⊎_elim
      (λ here. join_left first rest p (rw (← here) (f calls (omega (arith, one)))))
      (λ other.
      join_right first rest p
      (member_found calls need (without s c) q p (rest_below s h ne) (has_without_other s c q other ∙ e) f (omega (arith, one))))
      (equal_cases q c))

  found_below : (calls need c q p : ℕ) → has (children t c) q ≡ true
      → ((m : ℕ) → need ≤ m → has (subtree_in m t q) p ≡ true)
      → need + 17 ≤ calls → has (subtree_in calls t c) p ≡ true
  found_below zero need c q p e f l = absurd (omega arith)
  found_below (suc calls) need c q p e f l =
      let few = ones-le 16 (children t c) (sixteen (children t c) (children_lt t c)) in
      rw (subtree_more t calls c)
      (join_right (single c) (subtrees_in calls t (children t c)) p
      (member_found calls need (children t c) q p (children_lt t c) e f (omega (arith, few))))

  climb_depth : (k p : ℕ) → p < t.columns → depth t (climb t k p) ≤ depth t p
  climb_depth k p h = ⊎_elim (λ e. omega (arith, ap (depth t) e)) (λ l. omega arith) (climb_nearer t tree k p h)

  climb_found : (k calls c p : ℕ) → p < t.columns → climb t k p ≡ c → 17 * (depth t p - depth t c) < calls → has (subtree_in calls t c) p ≡ true
  climb_found zero calls c p h e l = rw (sym (climb_zero t p) ∙ e) (found_here t calls c (omega arith))
  climb_found (suc k) calls c p h e l =
      let q = climb t k p in
      let below = climb_lt t tree.parent_below k p h in
      let up : parent t q ≡ c = sym (climb_suc t k p) ∙ e in
      ⊎_elim
      (λ r. climb_found k calls c p h (r ∙ sym tree.root_own ∙ ap (parent t) (sym r) ∙ up) l)
      (λ ne.
      let deeper : depth t q ≡ suc (depth t c) = depth_child t tree q below ne ∙ ap (λ (x : ℕ). suc (depth t x)) up in
      found_below calls (suc (17 * (depth t p - depth t q))) c q p (child_has t c q below up ne)
      (λ m g. climb_found k m q p h refl g)
      (omega (arith, deeper, climb_depth k p h)))
      (equal_cases q t.root)

  -- ---- so calls for sixteen levels are enough

  pub subtree_found : (calls c p : ℕ) → 256 ≤ calls → p < t.columns → Climbs t p c → has (subtree_in calls t c) p ≡ true
  subtree_found calls c p l h w = climb_found w.0 calls c p h w.1 (omega (arith, depth_le t tree p h))

  pub subtrees_found : (calls s p : ℕ) → 272 ≤ calls → s < 2 ^ t.columns → p < t.columns → ClimbsInto t p s → has (subtrees_in calls t s) p ≡ true
  subtrees_found calls s p l h below w =
      member_found calls 256 s w.0 p h w.1
      (λ m g. subtree_found m w.0 p g below w.2)
      (omega (arith, ones-le 16 s (sixteen s h)))

  pub calls_enough : (a b s : ℕ) → 272 ≤ a → 272 ≤ b → s < 2 ^ t.columns → subtrees_in a t s ≡ subtrees_in b t s
  calls_enough a b s la lb h =
      same_members t.columns (subtrees_in a t s) (subtrees_in b t s) (subtrees_below a s h) (subtrees_below b s h)
      (λ p l.
      same_truth (has (subtrees_in a t s) p) (has (subtrees_in b t s) p)
      (λ e. subtrees_found b s p lb h l (subtrees_climb a s p h e))
      (λ e. subtrees_found a s p la h l (subtrees_climb b s p h e)))
