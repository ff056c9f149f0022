use Rattle.std.proofs.Common.{refl, sym, ◌∙◌}
use Rattle.journals.specs.laws.ReadJournalLaws.{once_words}
use Rattle.journals.proofs.indexed.IndexedJournal.new.Goals as goal

pub returns-then-not-chain : goal.returns-then-not-chain
returns-then-not-chain c = (refl, sym (once_words c.args.journal.holds) ∙ sym c.chain.ensures.answer ∙ c.if-not-chain.true)

pub returns : goal.returns
returns c = (refl, sym (once_words c.args.journal.holds) ∙ sym c.chain.ensures.answer ∙ c.if-not-chain.false)
