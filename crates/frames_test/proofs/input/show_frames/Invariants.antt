use Rattle.std.proofs.Common.{length}
use Rattle.frames_test.proofs.input.show_frames.Given as goal

abbrev pub decreases-loop-size : goal.decreases-loop-size
decreases-loop-size l = length l.rest
