use Prim.Native.Nat.{ℕ}
use mathlib.Core.Path.{ap}
use lib.Dec.{eqb}
use Rattle.bank.specs.laws.SurveyLaws.{others_halted}
use Rattle.bank.proofs.rest.columns_rest.Goals as goal

pub ready_columns-requires : goal.ready_columns-requires
ready_columns-requires c = (c.requires.0, rw (c.halted.ensures, c.requires.1) (others_halted c.args.b.now))

pub returns : goal.returns
returns c = ap (λ (m : ℕ). eqb m 0) c.ready_columns.ensures
