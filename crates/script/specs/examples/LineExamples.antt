-- Worked examples of the lines of a script, after document 01, "The script program". Assumes nothing.
use Prim.Native.String.{String}
use Rattle.std.specs.Prelude.{◌≡◌, refl, List, [], ◌∷◌, map}
use Rattle.column.specs.Packets.{low_value}
use Rattle.text.specs.Text.{bytes, Reading, read, unread, all_digits, value_from, leading_zero, numeral, starts_with, after_key}
use Rattle.text.specs.Pieces.{longer, pieces, with_number, numerals, numeral_in}
use Rattle.bank.specs.declared.bank.Step.TheVariants.{Order, Send, Take, Ack, All, Note, Halt, Back}
use Rattle.script.specs.Lines.{Command, perform, list, dispatch, all_hexadecimal, hexadecimal_bytes, doors_in, asking, note_of, note_of_pieces, note_in, with_members, halt_after, halt_in, or_else, command_of}

-- a line, and what it asks for
abbrev lines : List (String × Reading Command)
lines =
    -- "16 lowercase hexadecimal digits (byte 0 first)"
    ("order=0102000000000000", read (perform (Order 513)))
    ∷ ("order=ffffffffffffffff", read (perform (Order 18446744073709551615)))
    ∷ ("order=0a0b0c0d0e0f0009", read (perform (Order 648534899364203274)))
    ∷ ("order=010200000000000", unread)
    ∷ ("order=01020000000000000", unread)
    ∷ ("order=010A000000000000", unread)
    ∷ ("order=010g000000000000", unread)
    -- bytes 47, 58, 71 and 96, which are next to the digits
    ∷ ("order=010/000000000000", unread)
    ∷ ("order=010:000000000000", unread)
    ∷ ("order=010G000000000000", unread)
    ∷ ("order=010`000000000000", unread)
    -- "with a column": one or two digits, no leading zero
    ∷ ("send=9", read (perform (Send 9)))
    ∷ ("send=99", read (perform (Send 99)))
    ∷ ("ack=15", read (perform (Ack 15)))
    ∷ ("all=3", read (perform (All 3)))
    ∷ ("halt=0", read (perform (Halt 1)))
    ∷ ("back=2", read (perform (Back 2)))
    ∷ ("list=0", read (list 0))
    ∷ ("send=100", unread)
    ∷ ("ack=100", unread)
    ∷ ("all=100", unread)
    ∷ ("back=100", unread)
    ∷ ("list=100", unread)
    ∷ ("send=01", unread)
    ∷ ("send= 0", unread)
    ∷ ("send=/", unread)
    ∷ ("send=:", unread)
    ∷ ("send=", unread)
    ∷ ("back=1,2", unread)
    ∷ ("SEND=0", unread)
    -- "a list of one or more columns divided by commas": the set of them, 65536 for numbers that no bank has
    ∷ ("halt=1,2", read (perform (Halt 6)))
    ∷ ("halt=2,1,2", read (perform (Halt 6)))
    ∷ ("halt=15", read (perform (Halt 32768)))
    ∷ ("halt=16,99", read (perform (Halt 65536)))
    ∷ ("halt=0,0,0,0,0,0,0,0,0,0,0,0,0,0,0,0,0,3", read (perform (Halt 9)))
    ∷ ("halt=", unread)
    ∷ ("halt=1,", unread)
    ∷ ("halt=,1", unread)
    ∷ ("halt=01", unread)
    ∷ ("halt=1,100", unread)
    -- "`note=` with two divided by a comma"
    ∷ ("note=0,9", read (perform (Note 0 9)))
    ∷ ("note=10,15", read (perform (Note 10 15)))
    ∷ ("note=100,1", unread)
    ∷ ("note=1,100", unread)
    ∷ ("note=01,1", unread)
    ∷ ("note=1", unread)
    ∷ ("note=1,2,3", unread)
    -- "`take=` with a place of one to three digits"
    ∷ ("take=512", read (perform (Take 512)))
    ∷ ("take=999", read (perform (Take 999)))
    ∷ ("take=00", unread)
    ∷ ("take=1000", unread)
    -- of `run=` "The limit numeral has up to four digits, no leading zero."
    ∷ ("run=0", read (dispatch 0))
    ∷ ("run=9999", read (dispatch 9999))
    ∷ ("run=10000", unread)
    ∷ ("run=01", unread)
    ∷ ("run=", unread)
    -- no key
    ∷ ("jump=1", unread)
    ∷ ("", unread)
    ∷ []

pub every_line : map (λ r. command_of (bytes r.0)) lines ≡ map (λ r. r.1) lines
unfolding low_value all_digits value_from leading_zero numeral starts_with after_key longer pieces numeral_in all_hexadecimal hexadecimal_bytes doors_in asking note_of note_of_pieces note_in with_members halt_after halt_in with_number numerals or_else command_of
every_line = refl
