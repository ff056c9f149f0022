use borrow.Author.Rules.{rules}
use mathlib.Core.Path.{◌≡◌, sym, ◌∙◌}
use Prim.Native.Nat.{ℕ, ◌<◌, ◌≤◌}
use mathlib.Core.Bool.{Bool, true, not, cond}
use mathlib.Core.List.{List, [], ◌∷◌}
use borrow.Author.Tests.{eq-eqb, ne_eqb, lt-ltb, le-ltb, lt-leb, le-leb}
use lib.Dec.{eqb}
use Rattle.column.specs.laws.Cases.{and_left, cond_and}
use Rattle.column.specs.Refusals.{first}
use Rattle.column.specs.inner.TreePasses.{Passes, ParentsBelow, lists_hold}
use Rattle.column.specs.declared.tree.Tree.{Tree}
use Rattle.column.specs.Trees.{tree_of, parent, every, is_parent_below, climbs_in, lists_each, tree_refusal}
use Rattle.column.specs.laws.TreeLaws.{every_climbs_alike}
use Rattle.column.proofs.topology.check_climbs.Goals as goal

below : {r : Bool} {n : ℕ} {up first : List ℕ} → Passes r n up first → r ≡ true → ParentsBelow n up
below k h = record { each = and_left _ _ (sym k.told ∙ h) }

-- what the pass tells of the tree, where it is good
held : (t : Tree) {r : Bool} → Passes r t.columns t.up t.first → r ≡ true → lists_hold t ≡ true
held t k h = sym k.told ∙ h

-- a tree of one to sixteen columns, whose root is one of them
module _ (t : Tree) (some : t.columns ≡ 0 → ⊥) (few : t.columns ≤ 16) (root : t.root < t.columns) where
  -- what is left to test where the root is below
  past_root : tree_refusal t
      ≡ cond (not (lists_hold t)) 3
      (first ((3, not (eqb (parent t t.root) t.root)) ∷ (3, not (every (climbs_in t t.columns) t.columns)) ∷ []))
  unfolding tree_refusal
  past_root =
      simp (ne_eqb _ _ some, le-ltb _ _ few, lt-leb _ _ root)
      (sym (cond_and (every (is_parent_below t) t.columns) (lists_each t) 3 _))

  -- what is left to test where the root is its own parent
  past_own : lists_hold t ≡ true → parent t t.root ≡ t.root
      → tree_refusal t ≡ first ((3, not (every (climbs_in t t.columns) t.columns)) ∷ [])
  past_own lists own = past_root ∙ simp (lists, eq-eqb (parent t t.root) t.root own)

climbs_are : (t : Tree) → every (climbs_in t t.columns) t.columns ≡ every (climbs_in (tree_of t.columns t.root t.up) t.columns) t.columns
climbs_are t = sym (every_climbs_alike t t.columns t.columns)

-- the premise of the climbs: the pass before them gives it
pub climbs_end-requires : goal.climbs_end-requires
climbs_end-requires c = (search rules, below c.lists_hold.ensures c.if-not-lists_hold.false)

pub returns-then-n-eq0 : goal.returns-then-n-eq0
unfolding tree_refusal
returns-then-n-eq0 c = simp (eq-eqb _ _ c.if-n-eq0.true)

pub returns-then-n-gt16 : goal.returns-then-n-gt16
unfolding tree_refusal
returns-then-n-gt16 c = simp (ne_eqb _ _ c.if-n-eq0.false, lt-ltb _ _ c.if-n-gt16.true)

pub returns-then-n-root : goal.returns-then-n-root
unfolding tree_refusal
returns-then-n-root c = simp (ne_eqb _ _ c.if-n-eq0.false, le-ltb _ _ c.if-n-gt16.false, le-leb _ _ c.if-n-root.true)

pub returns-then-not-lists_hold : goal.returns-then-not-lists_hold
returns-then-not-lists_hold c =
    rw (past_root c.args.t c.if-n-eq0.false c.if-n-gt16.false c.if-n-root.false, sym c.lists_hold.ensures.told ∙ c.if-not-lists_hold.true)

pub returns-then-t-root : goal.returns-then-t-root
returns-then-t-root c =
    let t = c.args.t in
    rw (past_root t c.if-n-eq0.false c.if-n-gt16.false c.if-n-root.false) (simp (held t c.lists_hold.ensures c.if-not-lists_hold.false, ne_eqb (parent t t.root) t.root c.if-t-root.true))

pub returns-then-not-climbs_end : goal.returns-then-not-climbs_end
returns-then-not-climbs_end c =
    let t = c.args.t in
    rw (past_own t c.if-n-eq0.false c.if-n-gt16.false c.if-n-root.false (held t c.lists_hold.ensures c.if-not-lists_hold.false) c.if-t-root.false, climbs_are t ∙ sym c.climbs_end.ensures ∙ c.if-not-climbs_end.true)

pub returns : goal.returns
returns c =
    let t = c.args.t in
    rw (past_own t c.if-n-eq0.false c.if-n-gt16.false c.if-n-root.false (held t c.lists_hold.ensures c.if-not-lists_hold.false) c.if-t-root.false, climbs_are t ∙ sym c.climbs_end.ensures ∙ c.if-not-climbs_end.false)
