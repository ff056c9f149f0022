use mathlib.Core.Path.{◌∙◌}
use Rattle.bank.specs.Banks.{state}
use Rattle.bank.specs.Performs.{perform}
use Rattle.bank.specs.laws.Kinds.{moving}
use Rattle.bank.proofs.laws.PartLaws.{actor_moves}
use Rattle.bank.proofs.step.perform.Goals as goal

pub act-requires : goal.act-requires
act-requires c =
    let a = c.args in
    let d = c.in_default in
    actor_moves (state a.b a.network.now.heads a.network.now.doors) a.x c.acting-i.result (moving a.x d.not-Halt d.not-Back d.not-Write) c.acting-i.ensures

pub returns-in-Halt : goal.returns-in-Halt
unfolding perform
returns-in-Halt c = c.halt_columns.ensures ∙ rw c.in-Halt.is

pub returns-in-Back : goal.returns-in-Back
unfolding perform
returns-in-Back c = c.bring_back.ensures c.args.network.now.doors ∙ rw c.in-Back.is

pub returns-in-Write : goal.returns-in-Write
unfolding perform
returns-in-Write c = c.write_byte.ensures c.args.network.now.doors ∙ rw c.in-Write.is
