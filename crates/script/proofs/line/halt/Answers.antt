use Rattle.std.proofs.Common.{sym, ◌∙◌}
use Rattle.text.specs.Text.{halt_key}
use Rattle.text.specs.laws.ReadingLaws.{cut_is, after_other, after_key_is}
use Rattle.script.specs.Lines.{halt_in}
use Rattle.script.proofs.line.halt.Goals as goal

pub returns-in_err-strip_prefix : goal.returns-in_err-strip_prefix
unfolding halt_in
returns-in_err-strip_prefix c =
    let l = c.args.line.now in
    rw (c.from_residual.ensures, after_other halt_key l (sym (cut_is halt_key l) ∙ c.in_err-strip_prefix.ensures.cases))

pub returns : goal.returns
unfolding halt_in
returns c =
    let l = c.args.line.now in
    let k = c.in_ok-strip_prefix.ensures.cases in
    rw (after_key_is halt_key l (sym (cut_is halt_key l) ∙ k.0), ← k.1) c.members_in.ensures
