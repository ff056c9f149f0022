-- A line as one word: its way, its kind, the other column and its number; and what the words say of what was heard and missed.
use Rattle.std.specs.Prelude.{ℕ, ◌*◌, ◌/◌, ◌%◌, ◌+◌, Bool, ◌&&◌, not, List, eqb, length}
use Rattle.column.specs.Columns.{numbers}
use Rattle.journals.specs.Journals.{kind_number}
use Rattle.journals.specs.inner.Chains.{among}
use Rattle.journals.specs.declared.line.Way.{Way}
use Rattle.journals.specs.declared.line.Way.TheVariants.{Sent, Got}
use Rattle.journals.specs.declared.line.Line.{Line}

abbrev pub way_number : Way → ℕ
way_number Sent = 0
way_number Got = 1

-- how many values a byte has: the kind and the other column are one each
abbrev pub byte_values : ℕ
byte_values = 256

abbrev pub way_in : ℕ → ℕ
way_in key = key / (numbers * byte_values * byte_values)

abbrev pub other_in : ℕ → ℕ
other_in key = key / numbers % byte_values

-- a line of this way about this column
abbrev pub about_key : ℕ → ℕ → ℕ → Bool
about_key other way key = eqb (way_in key) way && eqb (other_in key) other

abbrev pub word : ℕ → ℕ → ℕ → ℕ → ℕ
word way kind other number = ((way * byte_values + kind) * byte_values + other) * numbers + number

abbrev pub kind_in : ℕ → ℕ
kind_in key = key / (numbers * byte_values) % byte_values

abbrev pub number_in : ℕ → ℕ
number_in key = key % numbers

-- the line of this way about this column with the same kind and number
abbrev pub turned : ℕ → ℕ → ℕ → ℕ
turned way other key = word way (kind_in key) other (number_in key)

-- the way at the other end
abbrev pub other_way : Way → Way
other_way Sent = Got
other_way Got = Sent

-- one word: it is a line of this way about b, and b has no line of the other way for it
abbrev pub unmatched_key : Way → ℕ → ℕ → List ℕ → ℕ → Bool
unmatched_key way a b theirs key = about_key b (way_number way) key && not (among theirs (length theirs) (turned (way_number (other_way way)) a key))

-- one word: it is no line got from b, or b has sent it
abbrev pub heard_key : ℕ → ℕ → List ℕ → ℕ → Bool
heard_key a b theirs key = not (unmatched_key Got a b theirs key)

-- one word: it is a line sent to b, and b has not got it
abbrev pub missed_key : ℕ → ℕ → List ℕ → ℕ → Bool
missed_key a b theirs key = unmatched_key Sent a b theirs key

abbrev pub key_of : Line → ℕ
key_of x = word (way_number x.way) (kind_number x.kind) x.other x.number
