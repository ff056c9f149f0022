use Rattle.std.proofs.lemmas.Result.{err_from_is_err_and}
use mathlib.Core.Path.{sym, ◌∙◌}
use borrow.Author.Tests.{not-true, not-false}
use Rattle.column.specs.Sets.{has}
use Rattle.column.specs.laws.UncheckedLaws.{note_unchecked_lem}
use Rattle.bank.specs.laws.StepLaws.{note_halted, note_refused, note_six}
use Rattle.bank.proofs.step.noted.Goals as goal

pub returns-then-not-has : goal.returns-then-not-has
returns-then-not-has c =
    λ good.
    let a = c.args in
    c.note.ensures ∙ note_unchecked_lem a.t a.i a.c good a.j
    ∙ note_halted a.t a.i a.c a.j (has a.running a.j) (sym c.has.ensures ∙ not-true _ c.if-not-has.true-raw)

pub returns-in_err-check_note : goal.returns-in_err-check_note
returns-in_err-check_note c =
    let p = err_from_is_err_and c.from_residual.result c.from_residual.ensures.1 in
    λ good.
    let a = c.args in
    rw (p.1, p.2) (note_refused a.t a.i a.c a.j (has a.running a.j) _ c.in_err-check_note.ensures)

pub returns : goal.returns
returns c =
    λ good.
    let a = c.args in
    note_six a.t a.i a.c a.j (has a.running a.j) (sym c.has.ensures ∙ not-false _ c.if-not-has.false-raw) c.in_ok-check_note.ensures
