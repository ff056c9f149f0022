use Rattle.std.proofs.Common.{refl}
use Rattle.script.specs.Scripts.{answered}
use Rattle.script.proofs.one_line.answer_line.Goals as goal

pub returns-in-None-clause-answers : goal.returns-in-None-clause-answers
unfolding answered
returns-in-None-clause-answers c = rw c.in-None.is (record { state_is = refl; text_is = c.put_refused.ensures })
