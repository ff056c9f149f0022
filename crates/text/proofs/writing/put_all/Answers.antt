use Rattle.text.specs.laws.WritingLaws.{puts_past}
use Rattle.text.proofs.writing.put_all.Goals as goal

pub returns-then-out-at : goal.returns-then-out-at
returns-then-out-at c = puts_past c.args.out.now c.args.at c.if-out-at.true c.args.bytes.now
