use borrow.Author.Tests.{eq-eqb, ne_eqb, not-true, not-false}
use mathlib.Core.Path.{refl, sym, ap, ◌∙◌}
use Rattle.column.specs.Sets.{minus}
use Rattle.bank.specs.laws.turns.LowestReady.{step_is}
use Rattle.bank.specs.declared.bank.Step.TheVariants.{Note, Take}
use Rattle.bank.proofs.turn.step_of.Goals as goal

pub returns-then-not-c : goal.returns-then-not-c
returns-then-not-c c =
    let a = c.args in
    sym (step_is a.t a.full a.halted a.i a.c (Take 0) (not-true a.c.running c.if-not-c.true) refl refl refl refl)

pub returns-then-new-ne0 : goal.returns-then-new-ne0
returns-then-new-ne0 c =
    let a = c.args in
    ap (λ j. Note a.i j) c.lowest.ensures
    ∙ sym (step_is a.t a.full a.halted a.i a.c (Take 0) (not-false a.c.running c.if-not-c.false) (ne_eqb (minus a.halted a.c.noted) 0 c.if-new-ne0.true) refl refl refl)

pub returns-then-can_send : goal.returns-then-can_send
returns-then-can_send c =
    let a = c.args in
    sym (step_is a.t a.full a.halted a.i a.c (Take 0) (not-false a.c.running c.if-not-c.false) (eq-eqb (minus a.halted a.c.noted) 0 c.if-new-ne0.false) (sym c.can_send.ensures ∙ c.if-can_send.true) refl refl)

pub returns-then-can_ack : goal.returns-then-can_ack
returns-then-can_ack c =
    let a = c.args in
    sym (step_is a.t a.full a.halted a.i a.c (Take 0) (not-false a.c.running c.if-not-c.false) (eq-eqb (minus a.halted a.c.noted) 0 c.if-new-ne0.false)
    (sym c.can_send.ensures ∙ c.if-can_send.false) (sym c.can_ack.ensures ∙ c.if-can_ack.true) refl)

pub returns-then-can_take_over : goal.returns-then-can_take_over
returns-then-can_take_over c =
    let a = c.args in
    sym (step_is a.t a.full a.halted a.i a.c (Take 0) (not-false a.c.running c.if-not-c.false) (eq-eqb (minus a.halted a.c.noted) 0 c.if-new-ne0.false)
    (sym c.can_send.ensures ∙ c.if-can_send.false) (sym c.can_ack.ensures ∙ c.if-can_ack.false) (sym c.can_take_over.ensures ∙ c.if-can_take_over.true))

pub returns : goal.returns
returns c =
    let a = c.args in
    sym (step_is a.t a.full a.halted a.i a.c (Take 0) (not-false a.c.running c.if-not-c.false) (eq-eqb (minus a.halted a.c.noted) 0 c.if-new-ne0.false)
    (sym c.can_send.ensures ∙ c.if-can_send.false) (sym c.can_ack.ensures ∙ c.if-can_ack.false) (sym c.can_take_over.ensures ∙ c.if-can_take_over.false))
