use Rattle.std.proofs.Common.{◌≡◌, true}
use Rattle.journals.specs.inner.KeyedLines.{keys_in}
use Rattle.journals.specs.inner.Chains.{Indexed, distinct}
use Rattle.journals.proofs.index.Index.chain.Given as goal

abbrev pub invariant-loop-n : goal.invariant-loop-n
invariant-loop-n l = (distinct (keys_in l.lines) l.n ≡ true) × Indexed (keys_in l.lines) l.n l.self
