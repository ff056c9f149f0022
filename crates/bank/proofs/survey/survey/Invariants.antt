use Rattle.bank.specs.inner.Surveys.{Passing}
use Rattle.bank.proofs.survey.survey.Given as goal

abbrev pub invariant-loop-j : goal.invariant-loop-j
invariant-loop-j l = Passing l.v l.b l.n l.j
