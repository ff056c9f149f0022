use Rattle.std.proofs.Common.{take, ◌≡◌}
use Rattle.text.specs.Text.{written}
use Rattle.firmware.proofs.block.put_bytes.Given as goal

abbrev pub invariant-loop-i : goal.invariant-loop-i
invariant-loop-i l = l.out ≡ written l.initial.out l.at (take l.i l.bytes)
