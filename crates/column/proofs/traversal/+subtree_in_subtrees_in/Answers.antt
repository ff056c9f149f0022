use Prim.Native.Nat.{suc, ◌-◌}
use mathlib.Core.Path.{◌≡◌, sym, ap, ◌∙◌}
use native.Mathlib.Omega.{arith}
use Rattle.column.specs.Trees.{subtree_in, subtrees_in}
use Rattle.column.specs.laws.Descents.{subtree_more, subtrees_more}
use Rattle.column.proofs.traversal.+subtree_in_subtrees_in.Goals as goal

pub subtree_in-returns-then-calls-eq0 : goal.subtree_in-returns-then-calls-eq0
unfolding subtree_in
subtree_in-returns-then-calls-eq0 t c =
    let a = c.args in
    sym (ap (λ calls. subtree_in calls a.t a.c) c.if-calls-eq0.true)

pub subtree_in-returns : goal.subtree_in-returns
subtree_in-returns t c =
    let a = c.args in
    let fewer : a.calls ≡ suc (a.calls - 1) = omega arith in
    rw (c.subtrees_in.ensures, c.children_of.ensures, c.single.ensures)
    (sym (ap (λ calls. subtree_in calls a.t a.c) fewer ∙ subtree_more a.t (a.calls - 1) a.c))

pub subtrees_in-returns-then-calls-eq0 : goal.subtrees_in-returns-then-calls-eq0
unfolding subtrees_in
subtrees_in-returns-then-calls-eq0 t c =
    let a = c.args in
    sym (ap (λ calls. subtrees_in calls a.t a.set) c.if-calls-eq0.true)

pub subtrees_in-returns-then-set-eq0 : goal.subtrees_in-returns-then-set-eq0
unfolding subtrees_in
subtrees_in-returns-then-set-eq0 t c =
    let a = c.args in
    let fewer : a.calls ≡ suc (a.calls - 1) = omega arith in
    rw (c.if-set-eq0.true, fewer)

pub subtrees_in-returns : goal.subtrees_in-returns
subtrees_in-returns t c =
    let a = c.args in
    let fewer : a.calls ≡ suc (a.calls - 1) = omega arith in
    rw (c.subtrees_in.ensures, c.without.ensures, c.subtree_in.ensures, c.lowest-c.ensures)
    (sym (ap (λ calls. subtrees_in calls a.t a.set) fewer ∙ subtrees_more a.t (a.calls - 1) a.set c.if-set-eq0.false))
