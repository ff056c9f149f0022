-- The earliest of all places is the earliest of those from `at` on.
use Prim.Native.Nat.{◌-◌}
use mathlib.Core.Path.{◌≡◌, sym, ap, ◌∙◌}
use native.Mathlib.Omega.{arith}
use Rattle.column.specs.Trees.{earliest_from}
use Rattle.column.proofs.laws.ChoiceLaws.{from_here, from_next}
use Rattle.column.proofs.choice.choose.Goals as goal

pub loop-at-init : goal.loop-at-init
loop-at-init c =
    let n = c.min-n.result in
    let e : n ≡ n - 0 = omega arith in
    ap (earliest_from c.args.t.first c.args.set 0) e

pub bounds-first-at : goal.bounds-first-at
bounds-first-at c = omega (arith, c.min-n.ensures)

pub returns-then-has : goal.returns-then-has
returns-then-has c =
    let a = c.args in
    sym (ap (earliest_from a.t.first a.set 0) (sym c.min-n.ensures) ∙ c.loop-at.invariant
    ∙ from_here a.t.first a.set c.loop-at.at c.min-n.result (omega arith) (sym c.has.ensures ∙ c.if-has.true))

pub loop-at-preserved : goal.loop-at-preserved
loop-at-preserved c =
    let a = c.args in
    let at = c.loop-at.at in
    let n = c.min-n.result in
    c.loop-at.invariant ∙ from_next a.t.first a.set at n (omega arith) (sym c.has.ensures ∙ c.if-has.false)

pub returns : goal.returns
returns c =
    let a = c.args in
    let none : c.min-n.result - c.loop-at.at ≡ 0 = omega arith in
    sym (ap (earliest_from a.t.first a.set 0) (sym c.min-n.ensures) ∙ c.loop-at.invariant
    ∙ ap (earliest_from a.t.first a.set c.loop-at.at) none)
