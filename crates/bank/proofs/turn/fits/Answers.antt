use Rattle.bank.proofs.turn.fits.Goals as goal

pub returns : goal.returns
returns c = rw c.has.ensures
