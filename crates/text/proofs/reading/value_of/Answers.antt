use Rattle.std.proofs.Common.{sym, ◌∙◌, add-one, pow-suc, arith}
use Rattle.text.specs.laws.ReadingLaws.{digits_next, digits_below, digits_above, digits_done}
use Rattle.text.proofs.reading.value_of.Goals as goal

pub returns-in_default : goal.returns-in_default
returns-in_default c = sym (c.loop-byte.invariant.1 ∙ digits_below c.args.text.now c.loop-byte.byte-index c.loop-byte.value (omega arith) (omega arith))

pub returns-in_default-2 : goal.returns-in_default-2
returns-in_default-2 c =
    sym (c.loop-byte.invariant.1 ∙ digits_above c.args.text.now c.loop-byte.byte-index c.loop-byte.value (omega arith) (omega arith) (omega arith))

pub loop-byte-preserved : goal.loop-byte-preserved
loop-byte-preserved c = (
  rw (add-one c.loop-byte.byte-index) (omega (arith, pow-suc 10 c.loop-byte.byte-index)),
  rw c.from.ensures (c.loop-byte.invariant.1 ∙ digits_next c.args.text.now c.loop-byte.byte-index c.loop-byte.value (omega arith) (omega arith) (omega arith)),
)

pub returns : goal.returns
returns c = sym (c.loop-byte.invariant.1 ∙ digits_done c.args.text.now c.loop-byte.byte-index c.loop-byte.value (omega arith))
