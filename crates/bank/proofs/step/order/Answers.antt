use mathlib.Core.Path.{refl}
use borrow.Author.Tests.{eq-eqb}
use Rattle.bank.specs.Performs.{perform}
use Rattle.bank.proofs.step.order.Goals as goal

pub act-requires : goal.act-requires
act-requires c = let root = c.args.b.tree.root in (refl, λ _. eq-eqb root root refl)

pub returns : goal.returns
unfolding perform
returns c = c.act.ensures
