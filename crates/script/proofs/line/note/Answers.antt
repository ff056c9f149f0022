use Rattle.std.proofs.Common.{sym, ◌∙◌}
use Rattle.text.specs.Text.{note_key}
use Rattle.text.specs.laws.ReadingLaws.{cut_is, after_other, after_key_is}
use Rattle.script.specs.Lines.{note_in}
use Rattle.script.proofs.line.note.Goals as goal

pub returns-in_err-strip_prefix : goal.returns-in_err-strip_prefix
unfolding note_in
returns-in_err-strip_prefix c =
    let l = c.args.line.now in
    rw (c.from_residual.ensures, after_other note_key l (sym (cut_is note_key l) ∙ c.in_err-strip_prefix.ensures.cases))

pub returns : goal.returns
returns c =
    let l = c.args.line.now in
    let k = c.in_ok-strip_prefix.ensures.cases in
    rw (after_key_is note_key l (sym (cut_is note_key l) ∙ k.0), ← k.1) c.note_columns.ensures
