use Rattle.std.proofs.Common.{◌≡◌, false, sym, ◌∙◌}
use borrow.Author.Tests.{eq-eqb, not-false}
use Rattle.firmware.specs.inner.StepCalls.{acknowledges}
use Rattle.firmware.specs.laws.LoneLaws.{rest_root}
use Rattle.firmware.proofs.lone.LoneColumn.own_rests.Goals as goal

pub returns-then-from-self : goal.returns-then-from-self
returns-then-from-self c =
    let a = c.args.self.now in
    let owes_none : acknowledges a.tree a.own a.column ≡ false = sym c.acknowledges.ensures ∙ c.if-acknowledges.false in
    sym (rest_root a.tree a.own a.column (not-false a.column.running c.if-not-c.false) (eq-eqb a.column.send 0 c.if-c-ne0.false) owes_none
    (eq-eqb a.own a.tree.root (sym c.from.ensures ∙ c.if-from-self.true)))
