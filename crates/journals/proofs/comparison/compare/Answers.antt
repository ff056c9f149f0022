use Rattle.std.proofs.Common.{sym, ◌∙◌}
use Rattle.std.proofs.lemmas.Result.{err_from_is_err_and}
use Rattle.journals.specs.laws.ComparingLaws.{first_refused, second_refused, both_given}
use Rattle.journals.proofs.comparison.compare.Goals as goal

pub returns-in_err-one : goal.returns-in_err-one
returns-in_err-one c =
    let p = err_from_is_err_and c.from_residual.result c.from_residual.ensures.1 in
    rw (p.1, p.2) (sym (first_refused _ _ _ _ (sym c.in_err-one.ensures)))

pub returns-in_err-two : goal.returns-in_err-two
returns-in_err-two c =
    let p = err_from_is_err_and c.from_residual-in_err-two.result c.from_residual-in_err-two.ensures.1 in
    rw (p.1, p.2) (sym (second_refused _ _ _ _ _ (sym c.in_ok-one.ensures) (sym c.in_err-two.ensures)))

pub returns : goal.returns
returns c = c.compare_read.ensures ∙ sym (both_given _ _ _ _ _ (sym c.in_ok-one.ensures) (sym c.in_ok-two.ensures))
