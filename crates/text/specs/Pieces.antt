-- Lines and pieces of a text, after document 01, "The bank and its table": a text up to a byte 10, divided at its commas, and a key with what follows it.
use Rattle.std.specs.Prelude.{ℕ, ◌+◌, ◌-◌, ◌<◌, cond, List, [], ◌∷◌, eqb, take, drop, length}
use Rattle.text.specs.Text.{newline, comma, Reading, read, unread, numeral, after_key}
use Rattle.text.specs.declared.three_lines.LineEnds.{LineEnds}
use Rattle.std.specs.declared.option.Option.{Option}
use Rattle.std.specs.declared.option.Option.TheVariants.{Some, None}

-- a text up to its first byte 10, and what follows; or a text without one
pub data Cut : Type 0 where
  ended : List ℕ → List ℕ → Cut
  unended : Cut

unfoldable pub with_first : ℕ → Cut → Cut
with_first b (ended line rest) = ended (b ∷ line) rest
with_first b unended = unended

unfoldable pub cut : List ℕ → Cut
cut [] = unended
cut (b ∷ l) = cond (eqb b newline) (ended [] l) (with_first b (cut l))

-- a text divided at its commas
unfoldable pub longer : ℕ → List (List ℕ) → List (List ℕ)
longer b [] = (b ∷ []) ∷ []
longer b (p ∷ ps) = (b ∷ p) ∷ ps

unfoldable pub pieces : List ℕ → List (List ℕ)
pieces [] = [] ∷ []
pieces (b ∷ l) = cond (eqb b comma) ([] ∷ pieces l) (longer b (pieces l))

-- the numerals of all pieces
unfoldable pub with_number : Reading ℕ → Reading (List ℕ) → Reading (List ℕ)
with_number (read number) (read l) = read (number ∷ l)
with_number (read number) unread = unread
with_number unread r = unread

unfoldable pub numerals : List (List ℕ) → Reading (List ℕ)
numerals [] = read []
numerals (p ∷ ps) = with_number (numeral 2 p) (numerals ps)

-- "`columns=3`", "`root=0`": a key and a numeral
unfoldable pub numeral_in : ℕ → Reading (List ℕ) → Reading ℕ
numeral_in width (read l) = numeral width l
numeral_in width unread = unread

abbrev pub keyed : List ℕ → ℕ → List ℕ → Reading ℕ
keyed key width line = numeral_in width (after_key key line)

-- "`up=0,0,1`": a key and numerals divided by commas. "`up` has at least one"; there may be any number
unfoldable pub numbers_in : Reading (List ℕ) → Reading (List ℕ)
numbers_in (read l) = numerals (pieces l)
numbers_in unread = unread

abbrev pub numbers : List ℕ → List ℕ → Reading (List ℕ)
numbers key line = numbers_in (after_key key line)

-- three lines, and what follows them
pub record ThreeLines : Type 0 where
  pub one : List ℕ
  pub two : List ℕ
  pub three : List ℕ
  pub rest : List ℕ

-- "three lines, each ended by byte 10, in this order"
unfoldable pub third_line : List ℕ → List ℕ → Cut → Reading ThreeLines
third_line one two (ended three rest) = read (record { one = one; two = two; three = three; rest = rest })
third_line one two unended = unread

unfoldable pub second_line : List ℕ → Cut → Reading ThreeLines
second_line one (ended two rest) = third_line one two (cut rest)
second_line one unended = unread

unfoldable pub first_line : Cut → Reading ThreeLines
first_line (ended one rest) = second_line one (cut rest)
first_line unended = unread

abbrev pub three_lines : List ℕ → Reading ThreeLines
three_lines s = first_line (cut s)

-- the lines before these ends
abbrev pub lines_at : List ℕ → ℕ → ℕ → ℕ → ThreeLines
lines_at s one two three = record {
  one = take (one - 0) (drop 0 s);
  two = take (two - (one + 1)) (drop (one + 1) s);
  three = take (three - (two + 1)) (drop (two + 1) s);
  rest = drop (three + 1) s;
}

abbrev pub ends_meant : Option LineEnds → List ℕ → Reading ThreeLines
ends_meant (Some e) s = read (lines_at s e.one e.two e.three)
ends_meant None s = unread

-- each end is a place of the text after the one before it
abbrev pub Rising : Option LineEnds → List ℕ → Type 0
Rising (Some e) s = (e.one < e.two) × (e.two < e.three) × (e.three < length s)
Rising None s = Unit {0}
