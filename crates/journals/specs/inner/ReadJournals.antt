-- A text that is the lines of a journal, and these by their words and sizes.
use Rattle.std.specs.Prelude.{ℕ, ◌<◌, ◌≤◌, Bool, true, false, cond, List, [], ◌≡◌, ltb, length, map}
use Rattle.column.specs.Refusals.{Given, given, refused}
use Rattle.text.specs.Text.{Reading, read, unread}
use Rattle.journals.specs.Journals.{Entry, Journal, entries_in}
use Rattle.journals.specs.inner.KeyedLines.{keyed, lines_limit}
use Rattle.journals.specs.declared.lines.KeyedLine.{KeyedLine}

-- "the owner" of a first line: "0 to 15"
unfoldable pub owner_named : Reading ℕ → Given ℕ
owner_named (read owner) = cond (ltb owner 16) (given owner) (refused 19)
owner_named unread = refused 19

unfoldable pub is_given : Given (List Entry) → Bool
is_given (given l) = true
is_given (refused n) = false

unfoldable pub entries_given : Given (List Entry) → List Entry
entries_given (given l) = l
entries_given (refused n) = []

-- what is read of a text, which has at most as many lines as bytes
abbrev pub all_entries : ℕ → List ℕ → Given (List Entry)
all_entries owner text = entries_in (length text) owner text

-- the lines that a text is
abbrev pub lines_in : ℕ → List ℕ → List Entry
lines_in owner text = entries_given (all_entries owner text)

abbrev pub journal_in : ℕ → List ℕ → Journal
journal_in owner text = record { owner = owner; entries = lines_in owner text }

-- a text is lines in the journal of an owner, and these are their words and sizes
pub record Holds (owner : ℕ) (text : List ℕ) (lines : List KeyedLine) : Type 0 where
  pub below : owner < 16
  pub well : is_given (all_entries owner text) ≡ true
  pub keyed_all : lines ≡ map keyed (lines_in owner text)
  pub few : length lines ≤ lines_limit
