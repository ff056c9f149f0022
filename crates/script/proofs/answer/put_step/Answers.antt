use Rattle.std.proofs.Common.{arith}
use Rattle.text.specs.Text.{step_ok}
use Rattle.text.specs.laws.WritingLaws.{puts_all}
use Rattle.script.proofs.answer.put_step.Goals as goal

pub returns : goal.returns
returns c = puts_all step_ok (omega (arith, c.requires)) c.put_all.ensures
