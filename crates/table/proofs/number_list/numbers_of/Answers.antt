use Rattle.std.proofs.Common.{sym, ◌∙◌}
use Rattle.text.specs.Pieces.{numbers_in}
use Rattle.text.specs.laws.ReadingLaws.{cut_is, after_other, after_key_is}
use Rattle.table.proofs.number_list.numbers_of.Goals as goal

pub returns-in_err-strip_prefix : goal.returns-in_err-strip_prefix
unfolding numbers_in
returns-in_err-strip_prefix c =
    let a = c.args in
    rw (after_other a.key.now a.line.now (sym (cut_is a.key.now a.line.now) ∙ c.in_err-strip_prefix.ensures.cases)) c.from_residual.ensures

pub returns : goal.returns
unfolding numbers_in
returns c =
    let a = c.args in
    let cut = c.in_ok-strip_prefix.ensures.cases in
    rw (after_key_is a.key.now a.line.now (sym (cut_is a.key.now a.line.now) ∙ cut.0), ← cut.1) c.numbers_in.ensures
