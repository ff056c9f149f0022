use Rattle.std.proofs.Common.{◌-◌, arith}
use Rattle.fastest.specs.Strategy.{soonest, grown}
use Rattle.fastest.specs.laws.StrategyLaws.{next_most}
use Rattle.fastest.proofs.growth.grow.Goals as goal

pub with_column-g-requires : goal.with_column-g-requires
with_column-g-requires c =
    let r = c.args.r in
    let l = c.loop-c in
    let small = next_most r.delay r.gap c.requires.2 c.requires.3 (l.c - 1) (soonest (grown r.delay r.gap (l.c - 1)).next l.c) in
    rw l.invariant (omega arith, omega (arith, small), omega arith, omega arith)
