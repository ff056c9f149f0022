use Rattle.std.proofs.Common.{sym, arith}
use Rattle.text.specs.laws.WritingLaws.{written_none, written_next}
use Rattle.firmware.proofs.block.put_bytes.Goals as goal

pub loop-i-init : goal.loop-i-init
loop-i-init c = sym (written_none c.args.out.now c.args.at)

pub loop-i-preserved : goal.loop-i-preserved
loop-i-preserved c = rw c.loop-i.invariant (written_next c.args.out.now c.args.at c.args.bytes.now c.loop-i.i (omega arith) (omega arith))
