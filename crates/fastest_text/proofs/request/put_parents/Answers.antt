use Rattle.std.proofs.Common.{◌≤◌, length, get_or, take, arith}
use Rattle.text.specs.Text.{divided, next_text}
use Rattle.text.specs.laws.WritingLaws.{puts_none, puts_more}
use Rattle.text.specs.laws.DividedLaws.{none, taken_more, taken_first}
use Rattle.fastest_text.proofs.request.put_parents.Goals as goal

pub loop-j-init : goal.loop-j-init
unfolding divided
loop-j-init c = puts_none c.args.out.now c.args.at

pub loop-j-preserved : goal.loop-j-preserved
loop-j-preserved c =
    let j = c.loop-j.j in
    let up = c.args.up.now in
    let few : j ≤ length up = omega (arith, c.loop-j-test.true) in
    rw (taken_more up j (omega (arith, c.loop-j-test.true)))
    (puts_more (divided (take j up)) (next_text (none (take j up)) (get_or up j 0)) c.loop-j.invariant (rw (← taken_first up j few, c.from.ensures) at c.put_next-next.ensures))
