use mathlib.Core.Path.{sym, ◌∙◌}
use borrow.Author.Tests.{le-leb}
use Rattle.bank.specs.Parts.{receiver_at}
use Rattle.bank.proofs.laws.MoveLaws.{receiver_at_lem}
use Rattle.bank.proofs.opening.receiver_at.Goals as goal

pub returns-then-place-ge-CAPACITY : goal.returns-then-place-ge-CAPACITY
unfolding receiver_at
returns-then-place-ge-CAPACITY c = rw (le-leb 512 c.args.place c.if-place-ge-CAPACITY.true)

pub returns : goal.returns
returns c =
    let a = c.args in
    c.receiver_in.ensures ∙ sym (receiver_at_lem a.place a.heads.now c.if-place-ge-CAPACITY.false)
