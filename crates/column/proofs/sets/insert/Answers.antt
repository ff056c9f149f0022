use Rattle.column.proofs.sets.insert.Goals as goal

pub returns : goal.returns
returns c = rw c.single.ensures
