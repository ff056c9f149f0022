use Rattle.std.proofs.Common.{[], ◌∷◌}
use Rattle.text.specs.Text.{comma, decimal}
use Rattle.text.specs.laws.WritingLaws.{puts_more}
use Rattle.text.proofs.writing.put_divided.Goals as goal

pub returns : goal.returns
returns c = rw c.if-first.false (puts_more (comma ∷ []) (decimal c.args.n) c.put_byte-number.ensures c.put_number-2.ensures)
