-- `number_bytes::put_high_first` meets its contract. The loop's invariant: the bytes of what is left of the number, then those written, are the whole.
-- Assumes nothing.
use mathlib.Core.Path.{◌≡◌}
use mathlib.Core.List.{◌++◌}
use lib.ListN.{length, drop}
use Rattle.column.specs.Packets.{high_first}
use Rattle.column.proofs.number_bytes.put_high_first.Given as goal

abbrev pub invariant-loop-i : goal.invariant-loop-i
invariant-loop-i l = (length l.out ≡ length l.initial.out) × (high_first l.i l.rest ++ drop l.i l.out ≡ high_first (length l.initial.out) l.number)
