use Rattle.bank.specs.Banks.{state}
use Rattle.bank.proofs.laws.MoveLaws.{taker}
use Rattle.bank.specs.Performs.{perform}
use Rattle.bank.proofs.step.take.Goals as goal

pub act-requires : goal.act-requires
act-requires c =
    let a = c.args in
    taker (state a.b a.network.now.heads a.network.now.doors) a.place c.receiver_at-i.ensures

pub returns : goal.returns
unfolding perform
returns c = c.act.ensures
