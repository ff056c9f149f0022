-- Whether every place so far is plainly good.
use Prim.Native.Nat.{ℕ, ◌≤◌}
use mathlib.Core.Path.{◌≡◌, sym, ap, ap₂, ◌∙◌}
use mathlib.Core.Bool.{Bool, ◌&&◌}
use mathlib.Core.List.{List}
use native.Mathlib.Numerals.{add-one}
use native.Mathlib.Omega.{arith}
use borrow.Author.Tests.{eq-eqb, ne_eqb, lt-leb, le-leb}
use lib.Dec.{eqb, ltb, leb}
use lib.ListN.{get_or}
use Rattle.column.specs.Trees.{every}
use Rattle.column.specs.inner.TreePasses.{plain_at, plainly}
use Rattle.column.proofs.traversal.rises.Goals as goal

-- what is left to test of a tree that has a count and the root 0
past : (n root : ℕ) (up first : List ℕ) → (n ≡ 0 → ⊥) → n ≤ 16 → root ≡ 0 → plainly n root up first ≡ every (plain_at n up first) n
past n root up first some few zero = simp (ne_eqb n 0 some, le-leb n 16 few, eq-eqb root 0 zero)

pub returns-then-n-eq0 : goal.returns-then-n-eq0
returns-then-n-eq0 c = simp (eq-eqb _ _ c.if-n-eq0.true)

pub returns-then-n-gt16 : goal.returns-then-n-gt16
returns-then-n-gt16 c = simp (ne_eqb _ _ c.if-n-eq0.false, lt-leb _ _ c.if-n-gt16.true)

pub returns-then-root-ne0 : goal.returns-then-root-ne0
returns-then-root-ne0 c = simp (ne_eqb _ _ c.if-n-eq0.false, le-leb _ _ c.if-n-gt16.false, ne_eqb _ _ c.if-root-ne0.true)

pub loop-k-preserved : goal.loop-k-preserved
unfolding every
loop-k-preserved c =
    let a = c.args in
    let k = c.loop-k.k in
    let here : Bool → ℕ → Bool = λ all most.
    all && (ltb (get_or a.up.now k 0) a.n && (leb (get_or a.up.now k 0) most && eqb (get_or a.first.now k 0) k)) in
    (omega arith, rw (add-one k) (ap₂ here c.loop-k.invariant.1 c.loop-k.invariant.0))

pub returns : goal.returns
returns c =
    let a = c.args in
    let tested = past a.n a.root a.up.now a.first.now c.if-n-eq0.false c.if-n-gt16.false c.if-root-ne0.false in
    c.loop-k.invariant.1 ∙ ap (every (plain_at a.n a.up.now a.first.now)) (omega arith) ∙ sym tested
