use mathlib.Core.Path.{refl}
use borrow.Author.Tests.{eq-eqb}
use Rattle.bank.specs.Performs.{perform}
use Rattle.bank.proofs.step.note.Goals as goal

pub act-requires : goal.act-requires
act-requires c = let i = c.args.i in (refl, λ _. eq-eqb i i refl)

pub returns : goal.returns
unfolding perform
returns c = c.act.ensures
