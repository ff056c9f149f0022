use Rattle.column.proofs.sets.without.Goals as goal

pub returns : goal.returns
returns c = rw (c.insert.ensures, c.single.ensures)
