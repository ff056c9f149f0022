use Rattle.journals.specs.inner.ReadTexts.{lines_of, missing_of}
use Rattle.journals.specs.laws.MissingLaws.{Written}
use Rattle.journals.proofs.indexed.IndexedJournal.put_missing.Given as goal

abbrev pub invariant-loop-line : goal.invariant-loop-line
invariant-loop-line l =
    let mine = l.self.journal in
    let theirs = l.other.journal in
    Written mine.owner theirs.owner (lines_of theirs) mine.lines.now l.line-index l.rest (missing_of mine theirs) l.start l.end l.out l.initial.out
