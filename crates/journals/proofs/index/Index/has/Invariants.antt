use Rattle.journals.specs.inner.KeyedLines.{keys_in}
use Rattle.journals.specs.laws.ChainLaws.{Walk}
use Rattle.journals.proofs.index.Index.has.Given as goal

abbrev pub invariant-loop-next : goal.invariant-loop-next
invariant-loop-next l = Walk (keys_in l.lines) l.n l.key l.next

abbrev pub decreases-loop-next : goal.decreases-loop-next
decreases-loop-next l = l.next
