-- The journals that were read, and what is missing of them.
use Rattle.std.specs.Prelude.{ℕ, ◌≡◌, Bool, true, false, ◌&&◌, List, Result, Ok, Err}
use Rattle.column.specs.Refusals.{Given, given, refused, refusal_number}
use Rattle.journals.specs.Journals.{Entry, Journal, once_each, all_heard, missing}
use Rattle.journals.specs.inner.ReadJournals.{lines_in, journal_in}
use Rattle.column.specs.declared.error.Refusal.{Refusal}
use Rattle.journals.specs.declared.journal.ReadJournal.{ReadJournal}
use Rattle.journals.specs.declared.indexed.IndexedJournal.{IndexedJournal}

abbrev pub lines_of : ReadJournal → List Entry
lines_of j = lines_in j.owner j.text.now

abbrev pub journal_said : ReadJournal → Journal
journal_said j = journal_in j.owner j.text.now

-- the values of each case
abbrev pub journal_meant : Result ReadJournal Refusal → Given Journal
journal_meant (Ok j) = given (journal_said j)
journal_meant (Err r) = refused (refusal_number r)

-- everything that one of two got from the other was sent by the other
abbrev pub both_heard : Journal → Journal → Bool
both_heard one two = all_heard one.owner two.owner one.entries two.entries && all_heard two.owner one.owner two.entries one.entries

-- the bytes of what one sent to the other, and the other never got
abbrev pub missing_of : ReadJournal → ReadJournal → List ℕ
missing_of one two = missing one.owner two.owner (lines_of one) (lines_of two)

-- a journal is indexed, where it repeats no line
abbrev pub IsIndexed : Result IndexedJournal Refusal → ReadJournal → Type 0
IsIndexed (Ok x) j = (x.journal ≡ j) × (once_each (lines_of j) ≡ true)
IsIndexed (Err r) j = (refusal_number r ≡ 20) × (once_each (lines_of j) ≡ false)
