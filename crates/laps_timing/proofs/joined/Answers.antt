use Rattle.std.proofs.Common.{◌<◌, arith, length, rules}
use Rattle.std.proofs.lemmas.List.Edits.{map_over_more}
use Rattle.std.specs.Int.Bits.{bit_or}
use Rattle.laps_timing.proofs.joined.Goals as goal

pub loop-n-preserved : goal.loop-n-preserved
loop-n-preserved c =
    map_over_more (bit_or c.args.byte) c.args.numbers c.loop-n.n-items c.loop-n.n-index _ (search rules) c.loop-n.invariant (search rules)
