use Prim.Native.Nat.{◌<◌}
use mathlib.Core.Path.{◌≡◌, sym, ap, ◌∙◌}
use native.Mathlib.Omega.{arith}
use borrow.Author.Tests.{not-true, not-false}
use Rattle.column.specs.Sets.{has}
use Rattle.column.specs.Packets.{receiver}
use Rattle.bank.proofs.laws.ChangeLaws.{delivered_halted, delivered_full, delivered_put}
use Rattle.bank.proofs.settling.deliver.Goals as goal
use Rattle.bank.proofs.settling.deliver.Goals.{After-has}

asked : (c : After-has) → let a = c.args in c.has.result ≡ has a.running (receiver a.p)
asked c = c.has.ensures ∙ ap (has c.args.running) c.receiver.ensures

pub returns-then-not-has : goal.returns-then-not-has
returns-then-not-has c =
    λ d b i n running_is steady below.
    let a = c.args in
    delivered_halted b i a.network.now.heads a.network.now.doors d a.count n a.p a.running running_is steady below
    (sym (asked (goal.at.returns-then-not-has c).After-has) ∙ not-true _ c.if-not-has.true-raw) c.requires

pub returns-then-count-eq-CAPACITY : goal.returns-then-count-eq-CAPACITY
returns-then-count-eq-CAPACITY c =
    λ d b i n running_is steady below.
    let a = c.args in
    delivered_full b i a.network.now.heads a.network.now.doors d a.count n a.p a.running running_is steady below
    (sym (asked (goal.at.returns-then-count-eq-CAPACITY c).After-has) ∙ not-false _ c.if-not-has.false-raw) c.if-count-eq-CAPACITY.true

pub returns : goal.returns
returns c =
    λ d b i n running_is steady below.
    let a = c.args in
    let room : a.count < 512 = omega (arith, c.if-count-eq-CAPACITY.false, c.requires) in
    delivered_put b i a.network.now.heads a.network.now.doors d a.count n a.p a.running running_is steady below c.append.ensures
    (sym (asked (goal.at.returns c).After-has) ∙ not-false _ c.if-not-has.false-raw) room
