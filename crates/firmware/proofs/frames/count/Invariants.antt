-- What is left of the frame, counted after the packets so far, is the answer.
use Rattle.std.proofs.Common.{◌≡◌, ◌≤◌, length}
use Rattle.column.specs.Frames.{frame_packets}
use Rattle.firmware.specs.Calls.{packet_count}
use Rattle.firmware.specs.laws.PacketCopies.{counted_from}
use Rattle.firmware.proofs.frames.count.Given as goal

abbrev pub invariant-loop-rest : goal.invariant-loop-rest
invariant-loop-rest l = record { few : l.count ≤ frame_packets; is_counted : packet_count l.frame ≡ counted_from l.rest l.count 0 }

abbrev pub decreases-loop-rest : goal.decreases-loop-rest
decreases-loop-rest l = length l.rest
