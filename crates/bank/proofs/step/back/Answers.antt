use Rattle.bank.proofs.step.back.Goals as goal

pub returns : goal.returns
returns c = c.bring_back.ensures c.args.network.now.doors
