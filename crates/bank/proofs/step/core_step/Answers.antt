use mathlib.Core.Path.{◌∙◌}
use Rattle.column.specs.laws.UncheckedLaws.{order_unchecked_lem, ack_unchecked_lem, all_unchecked_lem}
use Rattle.column.proofs.laws.UncheckedLaws.{send_unchecked_lem}
use Rattle.bank.proofs.step.core_step.Goals as goal

pub returns-in-Order : goal.returns-in-Order
returns-in-Order c =
    λ good.
    let a = c.args in
    rw c.in-Order.is (c.order.ensures ∙ order_unchecked_lem a.t a.i a.c good _)

pub returns-in-Send : goal.returns-in-Send
returns-in-Send c =
    λ good.
    let a = c.args in
    rw c.in-Send.is (c.send.ensures ∙ send_unchecked_lem a.t a.i a.c good)

pub returns-in-Ack : goal.returns-in-Ack
returns-in-Ack c =
    λ good.
    let a = c.args in
    rw c.in-Ack.is (c.ack.ensures ∙ ack_unchecked_lem a.t a.i a.c good)

pub returns-in-All : goal.returns-in-All
returns-in-All c =
    λ good.
    let a = c.args in
    rw c.in-All.is (c.all.ensures ∙ all_unchecked_lem a.t a.i a.c good)
