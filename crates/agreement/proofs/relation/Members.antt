-- Who is a member after each operation on sets. Assumes nothing.
use Prim.Native.Nat.{ℕ, ◌<◌}
use mathlib.Core.Path.{◌≡◌, refl, sym, ap, ◌∙◌, subst}
use mathlib.Core.Logic.{◌≢◌, ◌⊎◌, ⊎_elim, inl, inr}
use mathlib.Core.Bool.{Bool, true, false, not, ◌||◌, true≢false}
use lib.Dec.{eqb}
use borrow.Author.Tests.{eq-eqb, eqb-true}
use Rattle.column.specs.laws.Cases.{equal_cases, truth, or_cases, and_left}
use Rattle.column.specs.Sets.{has, single, join, insert, without}
use Rattle.column.specs.laws.SetLaws.{has_none, has_join, has_single, has_without, has_without_self, has_without_other}
use Rattle.column.specs.laws.SubtreeLaws.{Under, subtree_climb, subtree_trans, subtree_deeper, child_in, descendant_child}
use Rattle.column.specs.Trees.{children, IsTree}
use Rattle.column.specs.laws.ChildLaws.{child_below, child_other}
use Rattle.column.specs.laws.Descents.{depth}
use Rattle.column.specs.declared.tree.Tree.{Tree}
use Rattle.agreement.proofs.relation.Model.{In}

pub absent : (m q : ℕ) → (In m q → ⊥) → has m q ≡ false
absent m q n = ⊎_elim (λ e. absurd (n (record { holds = e }))) (λ e. e) (truth (has m q))

pub in_none : {q : ℕ} → In 0 q → ⊥
in_none {q} h = true≢false (sym h.holds ∙ has_none q)

pub in_single : (x : ℕ) {q : ℕ} → In (single x) q → q ≡ x
in_single x {q} h = eqb-true q x (sym (has_single x q) ∙ h.holds)

pub single_in : (x : ℕ) → In (single x) x
single_in x = record { holds = has_single x x ∙ eq-eqb x x refl }

module _ (m n : ℕ) {q : ℕ} where
  pub join_cases : In (join m n) q → In m q ⊎ In n q
  join_cases h =
      ⊎_elim (λ e. inl (record { holds = e })) (λ e. inr (record { holds = e })) (or_cases (has m q) (has n q) (sym (has_join m n q) ∙ h.holds))

  pub join_left : In m q → In (join m n) q
  join_left h = record { holds = has_join m n q ∙ ap (λ (b : Bool). b || has n q) h.holds }

  pub join_right : In n q → In (join m n) q
  join_right h = record { holds = has_join m n q ∙ go (has m q) h.holds }
    where
      go : (b : Bool) → has n q ≡ true → (b || has n q) ≡ true
      go true e = refl
      go false e = e

module _ (m x : ℕ) where
  pub insert_cases : {q : ℕ} → In (insert m x) q → In m q ⊎ (q ≡ x)
  insert_cases h = ⊎_elim (λ k. inl k) (λ k. inr (in_single x k)) (join_cases m (single x) h)

  pub insert_old : {q : ℕ} → In m q → In (insert m x) q
  insert_old h = join_left m (single x) h

  pub insert_new : In (insert m x) x
  insert_new = join_right m (single x) (single_in x)

  pub without_in : {q : ℕ} → In (without m x) q → In m q
  without_in {q} h = record { holds = and_left (has m q) (not (eqb q x)) (sym (has_without m x q) ∙ h.holds) }

  pub without_other : {q : ℕ} → In (without m x) q → q ≢ x
  without_other h e = true≢false (sym h.holds ∙ (ap (has (without m x)) e ∙ has_without_self m x))

  pub without_cases : {q : ℕ} → In m q → In (without m x) q ⊎ (q ≡ x)
  without_cases {q} h = ⊎_elim (λ e. inr e) (λ n. inl (record { holds = has_without_other m x q n ∙ h.holds })) (equal_cases q x)

-- p is in the subtree of a, and is not a
pub record Below (t : Tree) (a p : ℕ) : Type 0 where
  pub under : Under t a p
  pub other : p ≢ a

module _ (t : Tree) where
  pub children_inside : (j : ℕ) {q : ℕ} → In (children t j) q → q < t.columns
  children_inside j {q} h = child_below t j q h.holds

  pub root_child : (j : ℕ) → In (children t j) t.root → ⊥
  root_child j h = child_other t j t.root h.holds refl

  pub under_cases : (a p : ℕ) → Under t a p → (p ≡ a) ⊎ Below t a p
  under_cases a p u = ⊎_elim (λ e. inl e) (λ n. inr (record { under = u; other = n })) (equal_cases p a)

module _ (t : Tree) (tree : IsTree t) where
  -- a child of a descendant is a proper descendant
  pub child_descends : (a j : ℕ) {q : ℕ} → a < t.columns → Under t a j → In (children t j) q → Below t a q
  child_descends a j {q} h u c =
      let z = child_in t tree j q c.holds in
      record { under = subtree_trans t tree a j q h u z.0; other = λ e. z.1 (subst (λ (x : ℕ). Under t x j) (sym e) u) }

  -- a proper descendant of a column is in the subtree of a child of it
  pub below_child : {a p : ℕ} → Below t a p → (c : ℕ) × In (children t a) c × Under t c p
  below_child {a} {p} b =
      let z = descendant_child t tree a p b.under b.other in
      (z.0, record { holds = z.1 }, z.2)

  pub below_deeper : {a p : ℕ} → a < t.columns → Below t a p → depth t a < depth t p
  below_deeper {a} {p} h b = subtree_deeper t tree a p h b.under b.other

  pub under_root : (p : ℕ) → p < t.columns → Under t t.root p
  under_root p h = (subtree_climb t tree t.root p tree.root_below).1 (h, tree.climbs p h)
