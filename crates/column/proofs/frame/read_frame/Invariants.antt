-- What is left of the frame, laid after the packets so far, is the answer.
use Rattle.std.proofs.Common.{◌≡◌, ◌-◌, ◌≤◌, length}
use Rattle.column.specs.Frames.{frame_packets, read_frame, frame_of}
use Rattle.column.specs.laws.PacketPlaces.{laid_from}
use Rattle.column.proofs.frame.read_frame.Given as goal

abbrev pub invariant-loop-rest : goal.invariant-loop-rest
invariant-loop-rest l = record {
  few : l.count ≤ frame_packets;
  places : length l.packets ≡ frame_packets;
  is_laid : laid_from (frame_packets - l.count) l.rest l.packets l.count ≡ frame_of (read_frame l.frame);
}

abbrev pub decreases-loop-rest : goal.decreases-loop-rest
decreases-loop-rest l = length l.rest
