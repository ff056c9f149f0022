use Rattle.std.proofs.Common.{refl}
use Rattle.bank.specs.Banks.{state}
use Rattle.script.specs.Scripts.{answered}
use Rattle.script.proofs.one_line.list_line.Goals as goal

pub returns-clause-answers : goal.returns-clause-answers
unfolding answered
returns-clause-answers c =
    let a = c.args in
    let s = state a.bank.now a.network.now.heads a.network.now.doors in
    record { state_is = refl; text_is = c.put_column.ensures s (c.tested-told.ensures a.network.now.doors c.requires.tells) refl refl }
