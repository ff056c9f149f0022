-- The bytes before i are those of the digits read, which are hexadecimal.
use Rattle.std.proofs.Common.{◌≡◌, ◌*◌, ◌++◌, length, take, drop}
use Rattle.script.specs.Lines.{hexadecimal_bytes, all_hexadecimal}
use Rattle.script.proofs.hexadecimal.read_doors.Given as goal

abbrev pub invariant-loop-i : goal.invariant-loop-i
invariant-loop-i l =
    (length l.bytes ≡ 8)
    × (hexadecimal_bytes l.text ≡ take l.i l.bytes ++ hexadecimal_bytes (drop (2 * l.i) l.text))
    × (all_hexadecimal l.text ≡ all_hexadecimal (drop (2 * l.i) l.text))
