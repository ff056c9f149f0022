use Rattle.std.proofs.Common.{◌<◌, rules, arith}
use Rattle.column.specs.Refusals.{refusal_number}
use Rattle.text.specs.Text.{refused_text}
use Rattle.text.specs.laws.DecimalLaws.{refused_length}
use Rattle.text.specs.laws.WritingLaws.{puts_all}
use Rattle.script.proofs.answer.put_refused.Goals as goal

pub returns : goal.returns
returns c =
    let n = refusal_number c.args.refusal in
    let small : n < 256 = search rules in
    puts_all (refused_text n) (omega (arith, c.requires, refused_length n small)) (rw (c.from.ensures, c.number.ensures) at c.put_field.ensures)
