use Rattle.column.proofs.refusal.may_acknowledge.Goals as goal

pub returns : goal.returns
returns c = rw c.idle.ensures
