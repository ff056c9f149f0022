use Rattle.std.proofs.Common.{Ok, Err}
use Rattle.bank.specs.Banks.{state}
use Rattle.script.specs.Scripts.{answered}
use Rattle.script.specs.laws.ScriptLaws.{dispatch_answers}
use Rattle.script.proofs.one_line.dispatch_line.Goals as goal

pub returns-in-Ok : goal.returns-in-Ok
unfolding answered
returns-in-Ok c =
    let a = c.args in
    dispatch_answers (Ok c.in-Ok.done) a.limit (state a.bank.now a.network.now.heads a.network.now.doors) c.in-Ok.ensures c.put_steps.ensures

pub returns-in-Err : goal.returns-in-Err
unfolding answered
returns-in-Err c =
    let a = c.args in
    dispatch_answers (Err c.in-Err.refusal) a.limit (state a.bank.now a.network.now.heads a.network.now.doors) c.in-Err.ensures c.put_refused.ensures
