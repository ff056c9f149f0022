use Rattle.std.proofs.Common.{refl, [], ◌∷◌, arith}
use Rattle.text.specs.laws.WritingLaws.{written_one, writes_puts, puts_past}
use Rattle.text.proofs.writing.put_byte.Goals as goal

pub returns-then-out-at : goal.returns-then-out-at
returns-then-out-at c = puts_past c.args.out.now c.args.at c.if-out-at.true (c.args.byte ∷ [])

pub returns : goal.returns
returns c =
    writes_puts (c.args.byte ∷ []) (omega arith)
    (record { place = refl; left = written_one c.args.out.now c.args.at c.args.byte c.if-out-at.false })
