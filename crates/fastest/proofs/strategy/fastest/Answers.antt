use Rattle.std.proofs.Common.{sym}
use Rattle.fastest.specs.laws.StrategyLaws.{allowed}
use Rattle.fastest.proofs.strategy.fastest.Goals as goal

pub grow-requires : goal.grow-requires
grow-requires c =
    let w = allowed _ _ _ (sym c.in_ok-check_fastest.ensures) in
    (w.possible.some, w.possible.few, w.delay_most, w.gap_most)
