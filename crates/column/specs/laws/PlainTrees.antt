-- A tree whose root is 0, whose every parent is below the count and lower than its child and whose sequence ascends is one.
use Prim.Native.Nat.{ℕ, zero, suc, ◌≤◌, ◌<◌, ◌-◌}
use Rattle.std.specs.Prelude.{◌≡◌, refl, true, not, ◌&&◌, eqb, ltb, leb}
use Rattle.std.proofs.Common.{sym, ap, ◌∙◌, arith, ltb-true, leb-true, eqb-true}
use Rattle.std.proofs.lemmas.Bool.{eqb-false, not-true}
use Rattle.column.specs.laws.Cases.{and_left, and_right}
use Rattle.column.specs.Trees.{IsTree, every, parent, listed_at, climb, tree_refusal}
use Rattle.column.specs.inner.TreePasses.{plain_at, plainly}
use Rattle.column.specs.laws.TreeLaws.{every_at, check_exact}
use Rattle.column.specs.declared.tree.Tree.{Tree}

module _ (t : Tree) (n≢0 : 1 ≤ t.columns) (few : t.columns ≤ 16) (zero-root : t.root ≡ 0) (plain : every (plain_at t.columns t.up t.first) t.columns ≡ true) where
  at : (j : ℕ) → j < t.columns → plain_at t.columns t.up t.first j ≡ true
  at j h = every_at (plain_at t.columns t.up t.first) t.columns j plain h

  -- by the comparison with the count, not by those with the places: document 02, Point 4
  below : (j : ℕ) → j < t.columns → parent t j < t.columns
  below j h = ltb-true (parent t j) t.columns (and_left _ _ (at j h))

  placed : (j : ℕ) → j < t.columns → leb (parent t j) (j - 1) && eqb (listed_at t j) j ≡ true
  placed j h = and_right (ltb (parent t j) t.columns) _ (at j h)

  lower : (j : ℕ) → j < t.columns → parent t j ≤ j - 1
  lower j h = leb-true (parent t j) (j - 1) (and_left _ _ (placed j h))

  listed_is : (j : ℕ) → j < t.columns → listed_at t j ≡ j
  listed_is j h = eqb-true (listed_at t j) j (and_right (leb (parent t j) (j - 1)) _ (placed j h))

  -- a climb from below a bound comes to 0
  ends : (bound c : ℕ) → c < bound → c < t.columns → (k : ℕ) × (climb t k c ≡ 0)
  unfolding climb
  ends zero c h l = absurd (omega arith)
  ends (suc bound) zero h l = (0, refl)
  ends (suc bound) (suc c) h l =
      let low = lower (suc c) l in
      let r = ends bound (parent t (suc c)) (omega (arith, low)) (omega (arith, low)) in
      (suc r.0, r.1)

  is_tree : IsTree t
  is_tree =
      record {
        some = n≢0;
        sixteen = few;
        root_below = omega arith;
        parent_below = below;
        root_own = ap (parent t) zero-root ∙ own ∙ sym zero-root;
        climbs = λ c h. let r = ends t.columns c h h in (r.0, r.1 ∙ sym zero-root);
        listed = λ c h. (c, h, listed_is c h);
        listed_once = λ k m hk hm e. sym (listed_is k hk) ∙ e ∙ listed_is m hm;
        listed_below = λ k h. omega (arith, listed_is k h);
      }
    where
      own : parent t 0 ≡ 0
      own = omega (arith, lower 0 (omega arith))

pub plain_refusal : (t : Tree) → plainly t.columns t.root t.up t.first ≡ true → tree_refusal t ≡ 0
plain_refusal t e =
    let some = eqb-false t.columns 0 (not-true _ (and_left _ _ e)) in
    let rest = and_right (not (eqb t.columns 0)) _ e in
    let few = leb-true t.columns 16 (and_left _ _ rest) in
    let rest2 = and_right (leb t.columns 16) _ rest in
    let root = eqb-true t.root 0 (and_left _ _ rest2) in
    (check_exact t).1 (is_tree t (omega (arith, some)) few root (and_right (eqb t.root 0) _ rest2))
