use Prim.Native.Nat.{ℕ, zero, suc, ◌<◌}
use Rattle.std.proofs.Common.{arith}
use lib.Count.{count_trailing_zeros}
use Rattle.column.specs.Sets.{lowest}
use Rattle.column.proofs.effect.ack_effect.Goals as goal

-- the empty set has no lowest member
some : (m : ℕ) → lowest m < 16 → 0 < m
unfolding count_trailing_zeros
some zero h = absurd (omega (arith, h))
some (suc n) h = omega arith

pub acknowledge_lowest-requires : goal.acknowledge_lowest-requires
acknowledge_lowest-requires c =
    let b = c.in_ok-check_bounds.ensures.bounds in
    (b.column, some c.args.c.owed (omega (arith, b.other, c.lowest.ensures)))
