use Rattle.std.proofs.Common.{Ok, Err}
use Rattle.script.specs.Scripts.{answered}
use Rattle.script.specs.laws.ScriptLaws.{step_answers}
use Rattle.script.proofs.one_line.whole_line.Goals as goal

pub returns-in-Ok : goal.returns-in-Ok
unfolding answered
returns-in-Ok c = step_answers c.args.bank.now (Ok c.in-Ok.next) _ c.in-Ok.ensures c.put_step.ensures

pub returns-in-Err : goal.returns-in-Err
unfolding answered
returns-in-Err c = step_answers c.args.bank.now (Err c.in-Err.refusal) _ c.in-Err.ensures c.put_refused.ensures
