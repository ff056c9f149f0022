-- Every climb so far ends at the root.
use borrow.Author.Rules.{rules}
use mathlib.Core.Path.{sym, ap, ◌∙◌}
use native.Mathlib.Numerals.{add-one}
use native.Mathlib.Omega.{arith}
use borrow.Author.Tests.{not-true, not-false}
use Rattle.column.specs.Trees.{tree_of, every, climbs_in}
use Rattle.column.specs.laws.TreeLaws.{every_fails}
use Rattle.column.proofs.traversal.climbs_end.Goals as goal

pub climbs_in-requires : goal.climbs_in-requires
climbs_in-requires c = (search rules, (search rules, (c.requires.1, c.loop-j.invariant)))

pub returns-then-not-climbs_in : goal.returns-then-not-climbs_in
returns-then-not-climbs_in c =
    let a = c.args in
    let t = tree_of a.n a.root a.up.now in
    sym (every_fails (climbs_in t t.columns) t.columns c.loop-j.j (sym c.climbs_in.ensures ∙ not-true _ c.if-not-climbs_in.true-raw) (omega arith))

pub loop-j-preserved : goal.loop-j-preserved
unfolding every
loop-j-preserved c = rw (add-one c.loop-j.j) (rw (c.loop-j.invariant, sym c.climbs_in.ensures ∙ not-false _ c.if-not-climbs_in.false-raw))

pub returns : goal.returns
returns c =
    let a = c.args in
    let t = tree_of a.n a.root a.up.now in
    sym (ap (every (climbs_in t t.columns)) (omega arith) ∙ c.loop-j.invariant)
