use Rattle.std.proofs.Common.{◌<◌, rules, arith, sym, subst}
use Rattle.column.specs.Refusals.{refusal_number}
use Rattle.text.specs.laws.WritingLaws.{puts_all}
use Rattle.losses_text.specs.laws.LossTextLaws.{Fits, refused_written, losses_answered}
use Rattle.losses_text.proofs.request.put_answer.Goals as goal

pub returns-in-Ok : goal.returns-in-Ok
returns-in-Ok c =
    let a = losses_answered c.args.input.now in
    let e = c.in-Ok.ensures in
    let fits = subst Fits (sym e) a.fits in
    rw (a.text_is, ← e) (puts_all _ (omega (arith, fits, c.requires)) c.put_counts.ensures)

pub returns-in-Err : goal.returns-in-Err
returns-in-Err c =
    let a = losses_answered c.args.input.now in
    let small : refusal_number c.in-Err.refusal < 256 = search rules in
    rw (a.text_is, ← c.in-Err.ensures) (refused_written _ small c.requires (rw (c.from.ensures, c.number.ensures) at c.put_field.ensures))
