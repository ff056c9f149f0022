use mathlib.Core.Path.{◌∙◌}
use Rattle.bank.proofs.returning.come_back.Goals as goal

pub returns : goal.returns
returns c = c.strike.ensures ∙ rw (c.rejoin.ensures, c.has.ensures, c.halted-others.ensures, c.lowest-sender.ensures)
