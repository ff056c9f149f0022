use Rattle.std.proofs.Common.{◌-◌, ◌∙◌, sym, arith}
use Rattle.journals.specs.laws.ChainLaws.{walk_begins, walk_found, walk_on, walk_falls, walk_ends}
use Rattle.journals.proofs.index.Index.has.Goals as goal

pub loop-next-init : goal.loop-next-init
loop-next-init c = rw c.bucket_of.ensures (walk_begins c.requires.2)

pub returns-then-self-next : goal.returns-then-self-next
returns-then-self-next c =
    let there = c.requires.2.keys_are (c.loop-next.next - 1) (omega (arith, c.loop-next.invariant.within)) in
    sym (walk_found c.loop-next.invariant c.loop-next-test.true (sym there ∙ c.if-self-next.true))

pub loop-next-smaller : goal.loop-next-smaller
loop-next-smaller c = walk_falls c.requires.2 c.loop-next.invariant c.loop-next-test.true

pub loop-next-preserved : goal.loop-next-preserved
loop-next-preserved c =
    let there = c.requires.2.keys_are (c.loop-next.next - 1) (omega (arith, c.loop-next.invariant.within)) in
    walk_on c.requires.2 c.loop-next.invariant c.loop-next-test.true (λ e. c.if-self-next.false (there ∙ e))

pub returns : goal.returns
returns c = sym (walk_ends c.loop-next.invariant (omega (arith, c.loop-next-test.false)))
