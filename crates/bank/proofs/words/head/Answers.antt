use Prim.Native.Nat.{◌+◌}
use mathlib.Core.Path.{ap}
use Rattle.bank.specs.Words.{acknowledging}
use Rattle.bank.proofs.words.head.Goals as goal

pub returns-in-Message : goal.returns-in-Message
returns-in-Message c = rw c.in-Message.is c.placed.ensures

pub returns-in-Acknowledgement : goal.returns-in-Acknowledgement
returns-in-Acknowledgement c = rw c.in-Acknowledgement.is (ap (λ n. acknowledging + n) c.placed-in-Acknowledgement.ensures)
