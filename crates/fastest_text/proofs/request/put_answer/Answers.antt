use Rattle.std.proofs.Common.{◌<◌, rules, arith}
use Rattle.column.specs.Refusals.{refusal_number}
use Rattle.text.specs.Text.{refused_text}
use Rattle.text.specs.laws.WritingLaws.{puts_all}
use Rattle.text.specs.laws.DecimalLaws.{refused_length}
use Rattle.table.specs.Tables.{table_text}
use Rattle.fastest_text.specs.laws.AnswerLaws.{answer_given, answer_not_given}
use Rattle.fastest_text.proofs.request.put_answer.Goals as goal

pub put_table-requires : goal.put_table-requires
put_table-requires c = (answer_given _ _ c.in-Ok.ensures).columns

pub returns-in-Ok : goal.returns-in-Ok
returns-in-Ok c =
    let k = answer_given _ _ c.in-Ok.ensures in
    let w = puts_all (table_text c.in-Ok.tree) (omega (arith, k.fits, c.requires)) c.put_table.ensures in
    record { writes = rw k.text w; upper_bound = omega (arith, w.place, k.fits) }

pub returns-in-Err : goal.returns-in-Err
returns-in-Err c =
    let n = refusal_number c.in-Err.refusal in
    let small : n < 256 = search rules in
    let few = refused_length n small in
    let w = puts_all (refused_text n) (omega (arith, few, c.requires)) (rw (c.from.ensures, c.number.ensures) at c.put_field.ensures) in
    record { writes = rw (answer_not_given _ n c.in-Err.ensures) w; upper_bound = omega (arith, w.place, few) }
