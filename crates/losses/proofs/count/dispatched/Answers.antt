use Rattle.losses.specs.laws.LossesLaws.{dispatch_left}
use Rattle.losses.proofs.count.dispatched.Goals as goal

pub returns-in-Ok : goal.returns-in-Ok
returns-in-Ok c = dispatch_left _ c.in-Ok.ensures

pub returns-in-Err : goal.returns-in-Err
returns-in-Err c = dispatch_left _ c.in-Err.ensures
