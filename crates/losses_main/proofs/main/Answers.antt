-- What is answered was written into the array.
use Rattle.std.proofs.Common.{arith, sym, length-take-le}
use Rattle.text.specs.laws.WritingLaws.{writes_within}
use Rattle.losses_main.proofs.main.Goals as goal

pub slice_bounds-text-end : goal.slice_bounds-text-end
slice_bounds-text-end c = writes_within (omega arith) c.answer-length.ensures

pub slice_bounds-write_all-end : goal.slice_bounds-write_all-end
slice_bounds-write_all-end c = sym (length-take-le _ _ (writes_within (omega arith) c.answer-length.ensures))
