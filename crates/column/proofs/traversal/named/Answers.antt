-- The set so far is that of the places below j that name c.
use mathlib.Core.Path.{ap, ◌∙◌}
use native.Mathlib.Numerals.{add-one}
use native.Mathlib.Omega.{arith}
use borrow.Author.Tests.{eq-eqb, ne_eqb}
use lib.ListN.{get_or}
use Rattle.column.specs.Sets.{selected}
use Rattle.column.specs.inner.TreePasses.{names}
use Rattle.column.proofs.traversal.named.Goals as goal
use Rattle.column.proofs.traversal.named.Goals.{then-up-j, else-up-j}

pub loop-j-preserved : goal.loop-j-preserved
unfolding selected
loop-j-preserved c =
    let a = c.args in
    let j = c.loop-j.j in
    let inv = c.loop-j.invariant in
    let p = get_or a.up.now j 0 in
    elim c.if-up-j.branch [
      | then-up-j w ↦ w.set-is ∙ w.insert-set.ensures ∙ rw (inv, add-one j) (simp (eq-eqb p a.c w.if-up-j.true))
      | else-up-j w ↦ w.set-is ∙ inv ∙ rw (add-one j) (simp (ne_eqb p a.c w.if-up-j.false))
    ]

pub returns : goal.returns
returns c =
    let a = c.args in
    c.loop-j.invariant ∙ ap (selected (names a.up.now a.c)) (omega arith)
