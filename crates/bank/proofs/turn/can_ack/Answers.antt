use borrow.Author.Tests.{eq-eqb, ne_eqb}
use Rattle.bank.proofs.turn.can_ack.Goals as goal

pub returns-then-set-eq0 : goal.returns-then-set-eq0
returns-then-set-eq0 c = rw (eq-eqb c.args.c.owed 0 c.if-set-eq0.true)

pub returns : goal.returns
returns c = rw (ne_eqb c.args.c.owed 0 c.if-set-eq0.false, c.fits.ensures, c.lowest.ensures, c.may_acknowledge.ensures)
