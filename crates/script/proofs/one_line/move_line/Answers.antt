use Rattle.std.proofs.Common.{Ok, Err, refl}
use Rattle.bank.specs.Parts.{with_part}
use Rattle.script.specs.Scripts.{answered}
use Rattle.script.specs.laws.ScriptLaws.{step_answers}
use Rattle.script.proofs.one_line.move_line.Goals as goal

pub returns-in-Ok-clause-answers : goal.returns-in-Ok-clause-answers
unfolding answered
returns-in-Ok-clause-answers c =
    let a = c.args in
    let p = c.in-Ok.ensures a.bank.now.columns (c.tested-told.ensures a.network.now.doors c.requires.tells) c.requires.moves c.acting-i.ensures refl in
    step_answers a.bank.now (Ok (with_part a.bank.now c.acting-i.result c.in-Ok.part)) _ p.0 c.put_step.ensures

pub returns-in-Err-clause-answers : goal.returns-in-Err-clause-answers
unfolding answered
returns-in-Err-clause-answers c =
    let a = c.args in
    let p = c.in-Err.ensures a.bank.now.columns (c.tested-told.ensures a.network.now.doors c.requires.tells) c.requires.moves c.acting-i.ensures refl in
    step_answers a.bank.now (Err c.in-Err.refusal) _ p.0 c.put_refused.ensures

pub returns-in-Err-clause-knows : goal.returns-in-Err-clause-knows
returns-in-Err-clause-knows c =
    let a = c.args in
    (c.in-Err.ensures a.bank.now.columns (c.tested-told.ensures a.network.now.doors c.requires.tells) c.requires.moves c.acting-i.ensures refl).1
