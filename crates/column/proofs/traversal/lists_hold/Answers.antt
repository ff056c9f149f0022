-- Every parent and every listed column so far is below, and the set is that of the columns listed.
use mathlib.Core.Path.{◌≡◌, sym, ap, ap₂, ◌∙◌}
use mathlib.Core.Bool.{Bool, true, ◌&&◌, and-false}
use native.Mathlib.Numerals.{add-one}
use native.Mathlib.Omega.{arith}
use borrow.Author.Tests.{lt-ltb, le-ltb}
use lib.Dec.{eqb}
use lib.ListN.{get_or}
use Rattle.column.specs.Sets.{insert, whole}
use Rattle.column.specs.Trees.{tree_in_sequence, every, is_parent_below, is_listed_below, listed_in, lists_each}
use Rattle.column.specs.laws.TreeLaws.{every_fails}
use Rattle.column.proofs.traversal.lists_hold.Goals as goal

pub returns-then-bound-up : goal.returns-then-bound-up
returns-then-bound-up c =
    let a = c.args in
    let t = tree_in_sequence a.n 0 a.up.now a.first.now in
    let j = c.loop-j.j in
    record {
      told = sym (ap (λ (b : Bool). b && lists_each t)
          (every_fails (is_parent_below t) a.n j (le-ltb (get_or a.up.now j 0) a.n c.if-bound-up.true) (omega arith)));
    }

pub returns-then-bound-c : goal.returns-then-bound-c
returns-then-bound-c c =
    let a = c.args in
    let t = tree_in_sequence a.n 0 a.up.now a.first.now in
    let j = c.loop-j.j in
    record {
      told = sym (ap (λ (b : Bool). every (is_parent_below t) a.n && (b && eqb (listed_in a.first.now a.n) (whole a.n)))
          (every_fails (is_listed_below t) a.n j (le-ltb (get_or a.first.now j 0) a.n c.if-bound-c.true) (omega arith))
          ∙ and-false (every (is_parent_below t) a.n));
    }

pub loop-j-preserved : goal.loop-j-preserved
unfolding every
loop-j-preserved c =
    let a = c.args in
    let j = c.loop-j.j in
    let x = get_or a.first.now j 0 in (
      rw (add-one j) (rw (c.loop-j.invariant.0, lt-ltb (get_or a.up.now j 0) a.n c.if-bound-up.false)),
      rw (add-one j) (rw (c.loop-j.invariant.1, lt-ltb x a.n c.if-bound-c.false)),
      c.insert-listed.ensures ∙ rw (add-one j) (ap (λ s. insert s x) c.loop-j.invariant.2),
    )

pub returns : goal.returns
returns c =
    let a = c.args in
    let t = tree_in_sequence a.n 0 a.up.now a.first.now in
    let done : c.loop-j.j ≡ a.n = omega arith in
    let parents : true ≡ every (is_parent_below t) a.n = sym (ap (every (is_parent_below t)) (sym done) ∙ c.loop-j.invariant.0) in
    let listed : true ≡ every (is_listed_below t) a.n = sym (ap (every (is_listed_below t)) (sym done) ∙ c.loop-j.invariant.1) in
    record {
      told = ap₂ eqb (c.loop-j.invariant.2 ∙ ap (listed_in a.first.now) done) c.whole.ensures
          ∙ ap₂ (λ (p q : Bool). p && (q && eqb (listed_in a.first.now a.n) (whole a.n))) parents listed;
    }
