use Rattle.std.proofs.Common.{sym, ◌∙◌}
use Rattle.text.specs.Pieces.{numeral_in}
use Rattle.text.specs.laws.ReadingLaws.{cut_is, after_other, after_key_is}
use Rattle.text.proofs.reading.keyed.Goals as goal

pub returns-in_err-strip_prefix : goal.returns-in_err-strip_prefix
unfolding numeral_in
returns-in_err-strip_prefix c =
    rw (after_other c.args.key.now c.args.line.now (sym (cut_is c.args.key.now c.args.line.now) ∙ c.in_err-strip_prefix.ensures.cases), c.from_residual.ensures)

pub returns : goal.returns
unfolding numeral_in
returns c =
    let cut = c.in_ok-strip_prefix.ensures.cases in
    rw (after_key_is c.args.key.now c.args.line.now (sym (cut_is c.args.key.now c.args.line.now) ∙ cut.0), ← cut.1) c.numeral.ensures
