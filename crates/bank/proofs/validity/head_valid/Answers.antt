use mathlib.Core.Path.{sym}
use Rattle.bank.specs.laws.HeadLaws.{head_ends}
use Rattle.bank.proofs.validity.head_valid.Goals as goal

pub returns : goal.returns
returns c =
    let a = c.args in
    rw (c.has.ensures, c.ends_valid.ensures, c.receiver_in-to.ensures) (sym (head_ends a.columns a.root a.watch a.running a.head))
