-- The line of a packet in a journal, by the pieces that are written one after the other, and of which column's journal it is.
use Rattle.std.specs.Prelude.{ℕ, true, false, List, ◌∷◌, [], ◌++◌}
use Rattle.column.specs.Refusals.{Given, given, refused}
use Rattle.column.specs.Packets.{sender, receiver, Part}
use Rattle.column.specs.declared.packet.Packet.{Packet}
use Rattle.text.specs.Text.{comma, field, next_text}
use Rattle.journals.specs.Journals.{kind_number}
use Rattle.journals.specs.PacketLines.{packet_kind, sent_line, got_line}
use Rattle.journals.specs.declared.line.Way.{Way}
use Rattle.journals.specs.declared.line.Way.TheVariants.{Sent, Got}
use Rattle.journals.specs.declared.line.Line.{Line}
use Rattle.firmware.specs.Calls.{Filled, unfilled, line_left, sent_call, got_call}

-- the number of a packet's kind in a line
abbrev pub kind_of : Packet → ℕ
kind_of p = kind_number (packet_kind p)

-- the last number of a line, with the line's end
abbrev pub from_number : ℕ → List ℕ
from_number number = field (comma ∷ []) number

abbrev pub from_other : ℕ → ℕ → List ℕ
from_other other number = next_text false other ++ from_number number

abbrev pub from_kind : ℕ → ℕ → ℕ → List ℕ
from_kind kind other number = next_text true kind ++ from_other other number

-- a packet's line: key, kind, the other column, number, end
abbrev pub packet_text : List ℕ → ℕ → ℕ → ℕ → List ℕ
packet_text key kind other number = key ++ from_kind kind other number

-- ---- a packet that was sent or got

-- the end whose journal has the line, and the other one
abbrev pub end_of : Way → Packet → ℕ
end_of Sent p = sender p
end_of Got p = receiver p

abbrev pub other_of : Way → Packet → ℕ
other_of Sent p = receiver p
other_of Got p = sender p

abbrev pub way_line : Way → Packet → Line
way_line Sent p = sent_line p
way_line Got p = got_line p

abbrev pub way_left : Way → ℕ → Given Part → List ℕ → Filled
way_left way own (given q) old = line_left own (end_of way q.packet) (way_line way q.packet) old
way_left way own (refused n) old = unfilled n old

abbrev pub way_call : Way → List ℕ → List ℕ → List ℕ → Filled
way_call Sent column packet old = sent_call column packet old
way_call Got column packet old = got_call column packet old
