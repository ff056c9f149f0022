-- `number_bytes::low_value` meets its contract. The loop's invariant: the value is that of the bytes from `i` on.
-- Assumes nothing.
use mathlib.Core.Path.{◌≡◌}
use lib.ListN.{drop}
use Rattle.column.specs.Packets.{low_value}
use Rattle.column.proofs.number_bytes.low_value.Given as goal

abbrev pub invariant-loop-i : goal.invariant-loop-i
invariant-loop-i l = (l.value ≡ low_value (drop l.i l.s))
