-- The value is that of the bytes passed.
use Rattle.std.proofs.Common.{◌≡◌, take}
use Rattle.column.specs.Packets.{high_value}
use Rattle.column.proofs.number_bytes.high_value.Given as goal

abbrev pub invariant-loop-byte : goal.invariant-loop-byte
invariant-loop-byte l = l.value ≡ high_value (take l.byte-index l.s)
