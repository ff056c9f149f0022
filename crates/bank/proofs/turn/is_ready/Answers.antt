use mathlib.Core.Path.{ap, ◌∙◌}
use mathlib.Core.Bool.{not}
use Rattle.bank.specs.StepKinds.{is_take}
use Rattle.bank.proofs.turn.is_ready.Goals as goal

pub returns : goal.returns
returns c = ap not (c.is_take.ensures ∙ ap is_take c.step_of.ensures)
