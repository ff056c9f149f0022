use Rattle.std.proofs.Common.{ap, ◌∙◌}
use Rattle.bank.specs.Banks.{State}
use Rattle.bank.specs.Steps.{after}
use Rattle.bank.specs.Dispatch.{dispatch_outcome}
use Rattle.losses.specs.Losses.{to_rest, ended}
use Rattle.losses.specs.laws.LossesLaws.{step_left_lem}
use Rattle.losses.proofs.count.ended.Goals as goal

pub returns : goal.returns
unfolding ended
returns c =
    ap (λ (s : State). s.bank)
    (c.dispatched.ensures
    ∙ ap (λ (s : State). after (dispatch_outcome to_rest s)) (rw (← c.unwrap_or-halted.ensures) at (step_left_lem c.args.b c.halt.result c.halt.ensures)))
