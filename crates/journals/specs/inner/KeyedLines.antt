-- A journal's lines by their words and sizes, and how they are read one after the other.
use Rattle.std.specs.Prelude.{ℕ, ◌+◌, ◌/◌, Bool, cond, List, [], ◌∷◌, ◌++◌, length, take, map, filter, sum, Result, Ok, Err}
use Rattle.std.specs.List.{list_all}
use Rattle.column.specs.Refusals.{Given, given, refused, refusal_number}
use Rattle.text.specs.Pieces.{Cut, ended, unended}
use Rattle.journals.specs.Journals.{Entry, line_of, journal_limit}
use Rattle.journals.specs.inner.LineWords.{key_of, heard_key, missed_key}
use Rattle.column.specs.declared.error.Refusal.{Refusal}
use Rattle.journals.specs.declared.line.Line.{Line}
use Rattle.journals.specs.declared.lines.KeyedLine.{KeyedLine}

abbrev pub keyed : Entry → KeyedLine
keyed e = record { key = key_of e.line; size = length e.text }

unfoldable pub keyed_in : Given (List Entry) → Given (List KeyedLine)
keyed_in (given l) = given (map keyed l)
keyed_in (refused n) = refused n

abbrev pub keys_in : List KeyedLine → List ℕ
keys_in l = map (λ x. x.key) l

abbrev pub keys_of : List Entry → List ℕ
keys_of l = keys_in (map keyed l)

-- whatever of these lines was got from b, b has sent
abbrev pub heard_keys : ℕ → ℕ → List ℕ → List KeyedLine → Bool
heard_keys a b theirs l = list_all (λ x. heard_key a b theirs x.key) l

-- how many bytes those of these lines take that were sent to b, and that b has not got
abbrev pub missed_length : ℕ → ℕ → List ℕ → List KeyedLine → ℕ
missed_length a b theirs l = sum (map (λ x. x.size) (filter (λ x. missed_key a b theirs x.key) l))

-- the bytes of these lines that were sent to b, and that b has not got
unfoldable pub missing_by : ℕ → ℕ → List ℕ → List Entry → List ℕ
missing_by a b theirs [] = []
missing_by a b theirs (e ∷ l) = cond (missed_key a b theirs (key_of e.line)) e.text [] ++ missing_by a b theirs l

unfoldable pub first_of : ℕ → Given Line → Given KeyedLine
first_of size (given x) = given (record { key = key_of x; size = size })
first_of size (refused n) = refused n

-- the first line of a text
unfoldable pub first_cut : ℕ → Cut → Given KeyedLine
first_cut owner (ended text rest) = first_of (length text + 1) (line_of owner text)
first_cut owner unended = refused 19

-- what the reader answers, and the lines that it leaves
abbrev pub lines_meant : Result ℕ Refusal → List KeyedLine → Given (List KeyedLine)
lines_meant (Ok n) lines = given (take n lines)
lines_meant (Err r) lines = refused (refusal_number r)

abbrev pub count_of : Result ℕ Refusal → ℕ
count_of (Ok n) = n
count_of (Err r) = 0

-- the bytes of the shortest line, `got=1,0,0`, with its byte 10
abbrev pub shortest_line : ℕ
shortest_line = 10

-- as many lines as a journal can have
abbrev pub lines_limit : ℕ
lines_limit = journal_limit / shortest_line + 1
