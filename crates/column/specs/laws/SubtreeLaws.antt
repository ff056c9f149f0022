-- The subtree of a column: the columns whose climb meets it, the column with the subtrees of its children, the columns below it in a tree.
-- Assumes nothing.
use Rattle.std.specs.Prelude.{ℕ, zero, suc, ◌+◌, ◌-◌, ◌/◌, ◌^◌, ◌<◌, ◌≡◌, true, ◌⊎◌, ◌↔◌}
use Rattle.std.proofs.Common.{sym, ap, ◌∙◌, ⊎_elim, pow-suc, arith, pow_pos, eqb-true}
use Rattle.column.specs.Sets.{digit, has, single, join, whole}
use Rattle.column.specs.laws.Digits.{digit_zero, digit_suc, has_true}
use Rattle.column.specs.laws.SetLaws.{has_single, member_lt, same_members}
use Rattle.column.specs.Trees.{climb, IsTree, children, descent, subtree, subtrees}
use Rattle.column.specs.laws.TreeLaws.{climb_zero, climb_add}
use Rattle.column.specs.laws.Descents.{depth, depth_child, climb_nearer, Climbs, join_cases, subtree_more, climbs_child, subtree_below, subtrees_below, subtree_climbs, subtrees_climb, found_here, subtree_found, subtrees_found, calls_enough}
use Rattle.column.specs.laws.ChildLaws.{children_lt, child_below, child_parent, child_other}
use Rattle.column.specs.declared.tree.Tree.{Tree}

-- p is in the subtree of c
abbrev pub Under : Tree → ℕ → ℕ → Type 0
Under t c p = has (subtree t c) p ≡ true

has_whole : (n j : ℕ) → j < n → has (whole n) j ≡ true
has_whole n j h = has_true (whole n) j (go n j h)
  where
    go : (n j : ℕ) → j < n → digit (whole n) j ≡ 1
    go zero j h = absurd (omega arith)
    go (suc n) zero h = digit_zero (whole (suc n)) ∙ omega (arith, pow-suc 2 n, pow_pos n)
    go (suc n) (suc j) h =
        let half : whole (suc n) / 2 ≡ whole n = omega (arith, pow-suc 2 n, pow_pos n) in
        digit_suc (whole (suc n)) j ∙ ap (λ (m : ℕ). digit m j) half ∙ go n j (omega arith)

module _ (t : Tree) (tree : IsTree t) where
  pub subtree_lt : (c : ℕ) → c < t.columns → subtree t c < 2 ^ t.columns
  subtree_lt c h = subtree_below t tree descent c h

  subtree_sound : (c p : ℕ) → c < t.columns → Under t c p → (p < t.columns) × Climbs t p c
  subtree_sound c p h u = (member_lt t.columns (subtree t c) p (subtree_lt c h) u, subtree_climbs t tree descent c p u)

  subtree_whole : (c p : ℕ) → (p < t.columns) × Climbs t p c → Under t c p
  subtree_whole c p w = subtree_found t tree descent c p (omega arith) w.0 w.1

  pub subtree_climb : (c p : ℕ) → c < t.columns → Under t c p ↔ ((p < t.columns) × Climbs t p c)
  subtree_climb c p h = (subtree_sound c p h, subtree_whole c p)

  pub subtrees_member : (s p : ℕ) → s < 2 ^ t.columns → has (subtrees t s) p ≡ true ↔ ((q : ℕ) × (has s q ≡ true) × Under t q p)
  subtrees_member s p h = (
    λ e.
        let w = subtrees_climb t tree descent s p h e in
        let below = member_lt t.columns (subtrees t s) p (subtrees_below t tree descent s h) e in
        (w.0, w.1, subtree_whole w.0 p (below, w.2)),
    λ w.
        let r = subtree_sound w.0 p (member_lt t.columns s w.0 h w.1) w.2 in
        subtrees_found t tree descent s p (omega arith) h r.0 (w.0, w.1, r.1),
  )

  -- "The subtree of a column is the column with the subtrees of its children"
  pub subtree_step : (c : ℕ) → subtree t c ≡ join (single c) (subtrees t (children t c))
  subtree_step c =
      let calls = descent - 1 in
      subtree_more t calls c
      ∙ ap (λ (s : ℕ). join (single c) s) (calls_enough t tree calls descent (children t c) (omega arith) (omega arith) (children_lt t c))

  pub subtree_self : (c : ℕ) → Under t c c
  subtree_self c = found_here t descent c (omega arith)

  pub subtree_trans : (c q p : ℕ) → c < t.columns → Under t c q → Under t q p → Under t c p
  subtree_trans c q p h u v =
      let a = subtree_sound c q h u in
      let b = subtree_sound q p a.0 v in
      subtree_whole c p (b.0, (a.1.0 + b.1.0, climb_add t a.1.0 b.1.0 p ∙ ap (climb t a.1.0) b.1.1 ∙ a.1.1))

  -- a column of the subtree is its column, or deeper
  under_cases : (c p : ℕ) → c < t.columns → Under t c p → (c ≡ p) ⊎ (depth t c < depth t p)
  under_cases c p h u =
      let w = subtree_sound c p h u in
      rw w.1.1 at (climb_nearer t tree w.1.0 p w.0)

  pub subtree_deeper : (c p : ℕ) → c < t.columns → Under t c p → (p ≡ c → ⊥) → depth t c < depth t p
  subtree_deeper c p h u ne = ⊎_elim (λ e. absurd (ne (sym e))) (λ l. l) (under_cases c p h u)

  pub subtree_antisym : (c p : ℕ) → c < t.columns → Under t c p → Under t p c → p ≡ c
  subtree_antisym c p h u v = ⊎_elim (λ e. e) (λ l. ⊎_elim (λ e. sym e) (λ g. absurd (omega arith)) (under_cases c p h u)) (under_cases p c (subtree_sound c p h u).0 v)

  pub child_in : (c q : ℕ) → has (children t c) q ≡ true → Under t c q × (Under t q c → ⊥)
  child_in c q e =
      let below = child_below t c q e in
      let deeper : depth t q ≡ suc (depth t c) =
      depth_child t tree q below (child_other t c q e) ∙ ap (λ (x : ℕ). suc (depth t x)) (child_parent t c q e) in (
        subtree_whole c q (below, climbs_child t c q (q, e, (0, climb_zero t q))),
        λ u. ⊎_elim (λ z. omega (arith, ap (depth t) z)) (λ l. omega arith) (under_cases q c below u),
      )

  pub descendant_child : (c p : ℕ) → Under t c p → (p ≡ c → ⊥) → (q : ℕ) × (has (children t c) q ≡ true) × Under t q p
  descendant_child c p u ne =
      ⊎_elim
      (λ e. absurd (ne (eqb-true p c (sym (has_single c p) ∙ e))))
      (subtrees_member (children t c) p (children_lt t c)).0
      (join_cases (single c) (subtrees t (children t c)) p (rw (subtree_step c) at u))

  pub subtree_root : subtree t t.root ≡ whole t.columns
  subtree_root =
      same_members t.columns (subtree t t.root) (whole t.columns) (subtree_lt t.root tree.root_below) (omega (arith, pow_pos t.columns))
      (λ p l. subtree_whole t.root p (l, tree.climbs p l) ∙ sym (has_whole t.columns p l))
