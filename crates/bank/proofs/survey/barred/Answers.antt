use Rattle.bank.specs.inner.Surveys.{barred_of}
use Rattle.bank.proofs.survey.barred.Goals as goal

pub returns-then-watch : goal.returns-then-watch
unfolding barred_of
returns-then-watch c = rw c.if-watch.true

pub returns : goal.returns
unfolding barred_of
returns c = rw c.if-watch.false
