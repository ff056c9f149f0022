use Rattle.bank.proofs.step.write.Goals as goal

pub returns : goal.returns
returns c = c.write_byte.ensures c.args.network.now.doors
