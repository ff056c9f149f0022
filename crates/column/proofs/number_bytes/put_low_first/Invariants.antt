-- `number_bytes::put_low_first` meets its contract. The loop's invariant: the bytes written, then those of what is left of the number, are the whole.
-- Assumes nothing.
use Prim.Native.Nat.{◌-◌}
use mathlib.Core.Path.{◌≡◌}
use mathlib.Core.List.{◌++◌}
use lib.ListN.{length, take}
use Rattle.column.specs.Packets.{low_first}
use Rattle.column.proofs.number_bytes.put_low_first.Given as goal

abbrev pub invariant-loop-i : goal.invariant-loop-i
invariant-loop-i l = (length l.out ≡ length l.initial.out) × (take l.i l.out ++ low_first (length l.initial.out - l.i) l.rest ≡ low_first (length l.initial.out) l.number)
