use Rattle.bank.proofs.turn.can_take_over.Goals as goal

pub returns : goal.returns
returns c = rw (c.has.ensures, c.watched.ensures)
