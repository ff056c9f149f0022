-- Journals of columns as text, and two of them compared: Point 11 of document 02.
use Rattle.std.specs.Prelude.{ℕ, zero, suc, Bool, true, false, not, ◌&&◌, ◌||◌, cond, eqb, ltb, length, Result}
use mathlib.Core.List.{List, [], ◌∷◌, ◌++◌, Memᴰ}
use Rattle.column.specs.Refusals.{first, Given, given, refused, meant}
use Rattle.column.specs.Columns.{numbers}
use Rattle.text.specs.Text.{bytes, column_key, newline, comma, decimal, Reading, read, unread, numeral, starts_with, after_key}
use Rattle.text.specs.Pieces.{Cut, ended, unended, cut, pieces, keyed}
use Rattle.list.specs.Closing.{Listed, placed}
use Rattle.column.specs.declared.error.Refusal.{Refusal}
use Rattle.journals.specs.declared.line.Way.{Way}
use Rattle.journals.specs.declared.line.Way.TheVariants.{Sent, Got}
use Rattle.journals.specs.declared.line.Kind.{Kind}
use Rattle.journals.specs.declared.line.Kind.TheVariants.{Message, Acknowledgement}
use Rattle.journals.specs.declared.line.Line.{Line}

abbrev pub sent_key : List ℕ
sent_key = bytes "sent="

abbrev pub got_key : List ℕ
got_key = bytes "got="

-- ---- a line

abbrev pub line : Way → Kind → ℕ → ℕ → Line
line way kind other number = record { way = way; kind = kind; other = other; number = number }

-- "Kind is 1 for messages and 2 for acknowledgements"
abbrev pub message_kind : ℕ
message_kind = 1

abbrev pub acknowledgement_kind : ℕ
acknowledgement_kind = 2

abbrev pub kind_number : Kind → ℕ
kind_number Message = message_kind
kind_number Acknowledgement = acknowledgement_kind

-- the kind of a number
abbrev pub kind_of_number : ℕ → Given Kind
kind_of_number kind = cond (eqb kind message_kind) (given Message) (cond (eqb kind acknowledgement_kind) (given Acknowledgement) (refused 19))

-- "at most 4,294,967,295", "the other column and the owner are 0 to 15 and differ"
abbrev pub good_line : ℕ → ℕ → ℕ → ℕ → Bool
good_line owner kind other number =
    (eqb kind message_kind || eqb kind acknowledgement_kind) && (ltb other 16 && (not (eqb other owner) && ltb number numbers))

-- the line of a kind
abbrev pub line_with : Way → ℕ → ℕ → Given Kind → Given Line
line_with way other number (given kind) = given (line way kind other number)
line_with way other number (refused n) = refused n

unfoldable pub line_judged : ℕ → Way → Reading ℕ → Reading ℕ → Reading ℕ → Given Line
line_judged owner way (read kind) (read other) (read number) =
    cond (good_line owner kind other number) (line_with way other number (kind_of_number kind)) (refused 19)
line_judged owner way (read kind) (read other) unread = refused 19
line_judged owner way (read kind) unread number = refused 19
line_judged owner way unread other number = refused 19

-- "kind, other column and number (one to ten digits, no leading zero ..), divided by commas"
unfoldable pub line_pieces : ℕ → Way → List (List ℕ) → Given Line
line_pieces owner way [] = refused 19
line_pieces owner way (kind ∷ []) = refused 19
line_pieces owner way (kind ∷ other ∷ []) = refused 19
line_pieces owner way (kind ∷ other ∷ number ∷ []) = line_judged owner way (numeral 1 kind) (numeral 2 other) (numeral 10 number)
line_pieces owner way (kind ∷ other ∷ number ∷ more ∷ l) = refused 19

unfoldable pub line_in : ℕ → Way → Reading (List ℕ) → Given Line
line_in owner way (read l) = line_pieces owner way (pieces l)
line_in owner way unread = refused 19

-- "`sent=` or `got=`"; a line without its byte 10
unfoldable pub line_of : ℕ → List ℕ → Given Line
line_of owner l = cond (starts_with sent_key l) (line_in owner Sent (after_key sent_key l)) (line_in owner Got (after_key got_key l))

-- ---- a journal

-- a line, and its text with byte 10
pub record Entry : Type 0 where
  pub text : List ℕ
  pub line : Line

abbrev pub entry : List ℕ → Line → Entry
entry text x = record { text = text ++ (newline ∷ []); line = x }

unfoldable pub with_entry : List ℕ → Given Line → Given (List Entry) → Given (List Entry)
with_entry text (given x) (given l) = given (entry text x ∷ l)
with_entry text (given x) (refused n) = refused n
with_entry text (refused n) l = refused n

unfoldable pub cut_entries : (List ℕ → Given (List Entry)) → ℕ → Cut → Given (List Entry)
cut_entries more owner (ended text rest) = with_entry text (line_of owner text) (more rest)
cut_entries more owner unended = refused 19

-- a line takes a byte at least, so that as many lines as bytes are enough
unfoldable pub entries_in : ℕ → ℕ → List ℕ → Given (List Entry)
entries_in zero owner l = given []
entries_in (suc most) owner [] = given []
entries_in (suc most) owner (b ∷ l) = cut_entries (entries_in most owner) owner (cut (b ∷ l))

pub record Journal : Type 0 where
  pub owner : ℕ
  pub entries : List Entry

unfoldable pub with_owner : ℕ → Given (List Entry) → Given Journal
with_owner owner (given l) = given (record { owner = owner; entries = l })
with_owner owner (refused n) = refused n

-- "Its first line is `column=` with its owner."
unfoldable pub owned : List ℕ → ℕ → Reading ℕ → Given Journal
owned rest most (read owner) = cond (ltb owner 16) (with_owner owner (entries_in most owner rest)) (refused 19)
owned rest most unread = refused 19

unfoldable pub headed : ℕ → Cut → Given Journal
headed most (ended one rest) = owned rest most (keyed column_key 2 one)
headed most unended = refused 19

-- "A journal is at most 32,768 bytes."
abbrev pub journal_limit : ℕ
journal_limit = 32768

unfoldable pub journal_of : List ℕ → Given Journal
journal_of s = cond (ltb journal_limit (length s)) (refused 19) (headed (length s) (cut s))

-- ---- two journals

abbrev pub same_way : Way → Way → Bool
same_way Sent Sent = true
same_way Sent Got = false
same_way Got Sent = false
same_way Got Got = true

abbrev pub same_kind : Kind → Kind → Bool
same_kind Message Message = true
same_kind Message Acknowledgement = false
same_kind Acknowledgement Message = false
same_kind Acknowledgement Acknowledgement = true

abbrev pub same_line : Line → Line → Bool
same_line x y = same_way x.way y.way && (same_kind x.kind y.kind && (eqb x.other y.other && eqb x.number y.number))

-- a list has a line
unfoldable pub has_line : List Entry → Line → Bool
has_line [] x = false
has_line (e ∷ l) x = same_line e.line x || has_line l x

-- "20 the same line twice in a journal"
unfoldable pub once_each : List Entry → Bool
once_each [] = true
once_each (e ∷ l) = not (has_line l e.line) && once_each l

-- a line of this way about this column
abbrev pub about : ℕ → Way → Line → Bool
about other way x = same_way x.way way && eqb x.other other

-- "21 a packet got that the other didn't send": every packet that a got from b was sent by b
unfoldable pub all_heard : ℕ → ℕ → List Entry → List Entry → Bool
all_heard a b [] theirs = true
all_heard a b (e ∷ l) theirs =
    (not (about b Got e.line) || has_line theirs (line Sent e.line.kind a e.line.number)) && all_heard a b l theirs

-- "list in journal order every sending by one to the other that the other never got": "the `sent=` lines as they are"
unfoldable pub missing : ℕ → ℕ → List Entry → List Entry → List ℕ
missing a b [] theirs = []
missing a b (e ∷ l) theirs =
    cond (about b Sent e.line && not (has_line theirs (line Got e.line.kind a e.line.number)))
    (e.text ++ missing a b l theirs)
    (missing a b l theirs)

-- "order 19, 20, 21"
abbrev pub pair_conditions : Journal → Journal → List (ℕ × Bool)
pair_conditions one two =
    (19, eqb one.owner two.owner)
    ∷ (20, not (once_each one.entries && once_each two.entries))
    ∷ (
      21,
      not (all_heard one.owner two.owner one.entries two.entries
          && all_heard two.owner one.owner two.entries one.entries),
    )
    ∷ []

-- "first journal first"
abbrev pub missing_text : Journal → Journal → List ℕ
missing_text one two =
    missing one.owner two.owner one.entries two.entries ++ missing two.owner one.owner two.entries one.entries

abbrev pub declined : ℕ → List ℕ → Listed
declined n old = record { answer = refused n; buffer = old }

-- "written into a lent buffer from its start, and their length is answered; 11, tested last, if they don't fit"
unfoldable pub pair_compared : Journal → Journal → List ℕ → Listed
pair_compared one two old =
    let n = first (pair_conditions one two) in
    cond (eqb n 0) (placed old 0 (missing_text one two)) (declined n old)

unfoldable pub both_compared : Given Journal → Given Journal → List ℕ → Listed
both_compared (given one) (given two) old = pair_compared one two old
both_compared (given one) (refused n) old = declined n old
both_compared (refused n) two old = declined n old

abbrev pub compared : List ℕ → List ℕ → List ℕ → Listed
compared one two old = both_compared (journal_of one) (journal_of two) old

-- ---- the text of a journal

abbrev pub way_key : Way → List ℕ
way_key Sent = sent_key
way_key Got = got_key

unfoldable pub line_text : Line → List ℕ
line_text x = way_key x.way ++ (decimal (kind_number x.kind) ++ (comma ∷ (decimal x.other ++ (comma ∷ decimal x.number))))

unfoldable pub lines_text : List Line → List ℕ
lines_text [] = []
lines_text (x ∷ l) = line_text x ++ (newline ∷ lines_text l)

abbrev pub journal_text : ℕ → List Line → List ℕ
journal_text owner l = column_key ++ (decimal owner ++ (newline ∷ lines_text l))

-- what the call answers, and the whole buffer after it
abbrev pub compared_meant : Result ℕ Refusal → List ℕ → Listed
compared_meant r out = record { answer = meant r; buffer = out }

-- no line twice
unfoldable pub Once : List Line → Type 0
Once [] = Unit {0}
Once (x ∷ l) = (Memᴰ x l → ⊥) × Once l

unfoldable pub entries_of : List Line → List Entry
entries_of [] = []
entries_of (x ∷ l) = entry (line_text x) x ∷ entries_of l

abbrev pub journal : ℕ → List Line → Journal
journal owner l = record { owner = owner; entries = entries_of l }
