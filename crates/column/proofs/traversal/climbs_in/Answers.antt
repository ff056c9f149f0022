-- The climb from c has come to `at`, and meets the root in n places where the climb from there does in those that are left.
use Prim.Native.Nat.{ℕ, suc, ◌+◌, ◌<◌, ◌≤◌, ◌-◌}
use mathlib.Core.Path.{◌≡◌, sym, ap, ◌∙◌}
use mathlib.Core.Bool.{true}
use mathlib.Core.List.{List}
use native.Mathlib.Numerals.{add-one}
use native.Mathlib.Omega.{arith}
use borrow.Author.Tests.{ltb-true}
use Rattle.column.specs.Trees.{tree_of, parent, climb, is_parent_below, climbs_in, every}
use Rattle.column.specs.inner.TreePasses.{ParentsBelow}
use Rattle.column.specs.laws.TreeLaws.{every_at, climb_zero, climb_suc, climbs_more, climb_ends, ends_climb, climbs_on}
use Rattle.column.specs.declared.tree.Tree.{Tree}
use Rattle.column.proofs.traversal.climbs_in.Goals as goal

-- what is asked of the tree and of the column, and where the climb has come to
module _
    (n root c : ℕ)
    (up : List ℕ)
    (asked : (n ≤ 16) × ((c < n) × (ParentsBelow n up × (every (climbs_in (tree_of n root up) n) c ≡ true)))) where
  abbrev tree : Tree
  tree = tree_of n root up

  -- a climb that comes below where it began ends
  ends_below : (i at : ℕ) → climb tree i c ≡ at → at < c → climbs_in tree n c ≡ true
  ends_below i at e h =
      let r = climb_ends tree n at (every_at (climbs_in tree n) c at asked.1.1.1 h) in
      climbs_on tree (λ j l. ltb-true (parent tree j) n (every_at (is_parent_below tree) n j asked.1.1.0.each l)) c asked.1.0 i r.0
      (ap (climb tree r.0) e ∙ r.2)

  -- the next place of the climb
  below_at : (at : ℕ) → at < n → parent tree at < n
  below_at at h = ltb-true (parent tree at) n (every_at (is_parent_below tree) n at asked.1.1.0.each h)

  climbed : (at gone : ℕ) → climb tree gone c ≡ at → climb tree (gone + 1) c ≡ parent tree at
  climbed at gone e = ap (λ k. climb tree k c) (add-one gone) ∙ climb_suc tree gone c ∙ ap (parent tree) e

pub overflow_cast-up : goal.overflow_cast-up
overflow_cast-up c =
    let a = c.args in
    omega (arith, below_at a.n a.root a.c a.up.now c.requires a.c c.requires.1.0)

pub returns-then-up-c : goal.returns-then-up-c
returns-then-up-c c =
    let a = c.args in
    let t = tree_of a.n a.root a.up.now in
    sym (ends_below a.n a.root a.c a.up.now c.requires 1 _ (climb_suc t 0 a.c ∙ ap (parent t) (climb_zero t a.c)) c.if-up-c.true)

pub loop-gone-init : goal.loop-gone-init
loop-gone-init c =
    let a = c.args in
    let t = tree_of a.n a.root a.up.now in
    let e : a.n ≡ a.n - 0 = omega arith in
    (omega arith, climb_zero t a.c, ap (λ b. climbs_in t b a.c) e)

pub returns-then-at-root : goal.returns-then-at-root
returns-then-at-root c =
    let a = c.args in
    let t = tree_of a.n a.root a.up.now in
    sym (c.loop-gone.invariant.2 ∙ ends_climb t (a.n - c.loop-gone.gone) 0 c.loop-gone.at (omega arith) (climb_zero t c.loop-gone.at ∙ c.if-at-root.true))

pub overflow_cast-at : goal.overflow_cast-at
overflow_cast-at c =
    let a = c.args in
    omega (arith, below_at a.n a.root a.c a.up.now c.requires c.loop-gone.at c.loop-gone.invariant.0)

pub returns-then-at-c : goal.returns-then-at-c
returns-then-at-c c =
    let a = c.args in
    let l = c.loop-gone in
    let on = climbed a.n a.root a.c a.up.now c.requires l.at l.gone l.invariant.1 in
    sym (ends_below a.n a.root a.c a.up.now c.requires (l.gone + 1) _ on c.if-at-c.true)

pub loop-gone-preserved : goal.loop-gone-preserved
loop-gone-preserved c =
    let a = c.args in
    let l = c.loop-gone in
    let t = tree_of a.n a.root a.up.now in
    let fewer : a.n - l.gone ≡ suc (a.n - (l.gone + 1)) = omega arith in (
      below_at a.n a.root a.c a.up.now c.requires l.at l.invariant.0,
      climbed a.n a.root a.c a.up.now c.requires l.at l.gone l.invariant.1,
      l.invariant.2 ∙ ap (λ b. climbs_in t b l.at) fewer ∙ climbs_more t (a.n - (l.gone + 1)) l.at c.if-at-root.false,
    )

pub returns : goal.returns
unfolding climbs_in
returns c =
    let a = c.args in
    let t = tree_of a.n a.root a.up.now in
    let none : a.n - c.loop-gone.gone ≡ 0 = omega arith in
    sym (c.loop-gone.invariant.2 ∙ ap (λ b. climbs_in t b c.loop-gone.at) none)
