use Rattle.std.proofs.Common.{arith, sym, ◌∙◌}
use Rattle.laps_timing.specs.laws.LapLaws.{number_next, number_below, number_above, number_done}
use Rattle.laps_timing.proofs.number.Goals as goal

pub returns-in_default : goal.returns-in_default
returns-in_default c =
    sym (c.loop-byte.invariant ∙ number_below c.args.text.now c.loop-byte.byte-index c.loop-byte.n c.loop-byte-test.true (omega (arith, c.in_default)))

pub returns-in_default-2 : goal.returns-in_default-2
returns-in_default-2 c =
    sym (c.loop-byte.invariant ∙ number_above c.args.text.now c.loop-byte.byte-index c.loop-byte.n c.loop-byte-test.true (omega (arith, c.in_default)) (omega (arith, c.in_default)))

pub loop-byte-preserved : goal.loop-byte-preserved
loop-byte-preserved c =
    c.loop-byte.invariant
    ∙ number_next c.args.text.now c.loop-byte.byte-index c.loop-byte.n c.loop-byte-test.true (omega (arith, c.in-48-to-57)) (omega (arith, c.in-48-to-57))

pub returns : goal.returns
returns c = sym (c.loop-byte.invariant ∙ number_done c.args.text.now c.loop-byte.byte-index c.loop-byte.n c.loop-byte-test.false)
