-- The numbers before the place are joined, and those from it on are as they were.
use Rattle.std.proofs.Common.{◌≡◌, ◌++◌, take, drop, map}
use Rattle.std.specs.Int.Bits.{bit_or}
use Rattle.laps_timing.proofs.joined.Given as goal

abbrev pub invariant-loop-n : goal.invariant-loop-n
invariant-loop-n l = l.n-items ≡ map (bit_or l.byte) (take l.n-index l.fn.numbers) ++ drop l.n-index l.fn.numbers
