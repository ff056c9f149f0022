use native.Mathlib.Omega.{arith}
use Rattle.text.specs.Text.{steps_key, step_ok, field}
use Rattle.text.specs.laws.WritingLaws.{puts_all, puts_more}
use Rattle.script.specs.Scripts.{steps_text}
use Rattle.script.specs.laws.ScriptLaws.{steps_length}
use Rattle.script.proofs.answer.put_steps.Goals as goal

pub returns : goal.returns
returns c =
    let n = c.args.steps in
    puts_all (steps_text n) (omega (arith, c.requires, steps_length n c.ranges.steps.fits))
    (puts_more (field steps_key n) step_ok c.put_field-end.ensures c.put_all.ensures)
