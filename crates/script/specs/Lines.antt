-- The lines of a script after its table, after document 01, "The script program".
use Rattle.std.specs.Prelude.{ℕ, ◌+◌, ◌-◌, ◌*◌, Bool, true, ◌&&◌, ◌||◌, cond, List, [], ◌∷◌, Option, Some, None, eqb, leb, ltb, length}
use Rattle.column.specs.Sets.{insert}
use Rattle.column.specs.Packets.{low_value}
use Rattle.text.specs.Text.{order_key, send_key, take_key, ack_key, all_key, note_key, halt_key, back_key, list_key, run_key, Reading, read, unread, is_digit, numeral, after_key}
use Rattle.text.specs.Pieces.{pieces, numerals, keyed}
use Rattle.bank.specs.declared.bank.Step.{Step}
use Rattle.bank.specs.declared.bank.Step.TheVariants.{Order, Send, Take, Ack, All, Note, Halt, Back}
use Rattle.script.specs.declared.line.Command as line
use Rattle.script.specs.declared.line.Command.TheVariants as line-is

-- what a line asks for
pub data Command : Type 0 where
  perform : Step → Command
  list : ℕ → Command
  dispatch : ℕ → Command

-- the values of each case of the code's enum
abbrev pub command_meant : line.Command → Command
command_meant (line-is.Perform x) = perform x
command_meant (line-is.List i) = list i
command_meant (line-is.Dispatch limit) = dispatch limit

-- what `parse` answers
abbrev pub parsed_meant : Option line.Command → Reading Command
parsed_meant (Some c) = read (command_meant c)
parsed_meant None = unread

-- ---- "`order=` with 16 lowercase hexadecimal digits (byte 0 first)"

abbrev pub is_hexadecimal : ℕ → Bool
is_hexadecimal b = is_digit b || (leb 97 b && ltb b 103)

abbrev pub hexadecimal : ℕ → ℕ
hexadecimal b = cond (ltb b 58) (b - 48) (b - 87)

unfoldable pub all_hexadecimal : List ℕ → Bool
all_hexadecimal [] = true
all_hexadecimal (b ∷ l) = is_hexadecimal b && all_hexadecimal l

-- two digits a byte
unfoldable pub hexadecimal_bytes : List ℕ → List ℕ
hexadecimal_bytes [] = []
hexadecimal_bytes (a ∷ []) = []
hexadecimal_bytes (a ∷ b ∷ l) = (hexadecimal a * 16 + hexadecimal b) ∷ hexadecimal_bytes l

unfoldable pub doors_in : Reading (List ℕ) → Reading Command
doors_in (read l) =
    cond (eqb (length l) 16 && all_hexadecimal l) (read (perform (Order (low_value (hexadecimal_bytes l))))) unread
doors_in unread = unread

-- ---- "with a column", and document 02's "`back=` with a column"; "`note=` with two divided by a comma", "`take=` with a place of one to three
-- digits"; of `run=` "The limit numeral has up to four digits, no leading zero."

unfoldable pub asking : (ℕ → Command) → Reading ℕ → Reading Command
asking command (read number) = read (command number)
asking command unread = unread

unfoldable pub note_of : Reading ℕ → Reading ℕ → Reading Command
note_of (read i) (read j) = read (perform (Note i j))
note_of (read i) unread = unread
note_of unread j = unread

unfoldable pub note_of_pieces : List (List ℕ) → Reading Command
note_of_pieces [] = unread
note_of_pieces (one ∷ []) = unread
note_of_pieces (one ∷ two ∷ []) = note_of (numeral 2 one) (numeral 2 two)
note_of_pieces (one ∷ two ∷ three ∷ l) = unread

unfoldable pub note_in : Reading (List ℕ) → Reading Command
note_in (read l) = note_of_pieces (pieces l)
note_in unread = unread

-- ---- "`halt=` takes a list of one or more columns divided by commas .. A column named twice counts as once."

-- a number as a member of a set: 16, which no bank has, in place of every number that none has
abbrev pub member_of : ℕ → ℕ
member_of number = cond (ltb number 16) number 16

-- the set with these numbers; `members_named` of LineLaws says that it has them and no others
unfoldable pub with_members : ℕ → List ℕ → ℕ
with_members m [] = m
with_members m (number ∷ l) = with_members (insert m (member_of number)) l

-- the set with the numerals still to be read
unfoldable pub halt_after : ℕ → Reading (List ℕ) → Reading Command
halt_after m (read l) = read (perform (Halt (with_members m l)))
halt_after m unread = unread

unfoldable pub halt_in : Reading (List ℕ) → Reading Command
halt_in (read l) = halt_after 0 (numerals (pieces l))
halt_in unread = unread

-- ---- a line, without its byte 10

unfoldable pub or_else : Reading Command → Reading Command → Reading Command
or_else (read command) r = read command
or_else unread r = r

unfoldable pub command_of : List ℕ → Reading Command
command_of l =
    or_else (doors_in (after_key order_key l))
    (or_else (asking (λ i. perform (Send i)) (keyed send_key 2 l))
    (or_else (asking (λ place. perform (Take place)) (keyed take_key 3 l))
    (or_else (asking (λ i. perform (Ack i)) (keyed ack_key 2 l))
    (or_else (asking (λ i. perform (All i)) (keyed all_key 2 l))
    (or_else (note_in (after_key note_key l))
    (or_else (halt_in (after_key halt_key l))
    (or_else (asking (λ j. perform (Back j)) (keyed back_key 2 l))
    (or_else (asking list (keyed list_key 2 l))
    (asking dispatch (keyed run_key 4 l))))))))))
