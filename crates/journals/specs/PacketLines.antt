-- The lines that a column writes of the packets which it sends and gets, each with its byte 10: Point 11 of document 02.
use Rattle.std.specs.Prelude.{ℕ, List, [], ◌∷◌, ◌++◌}
use Rattle.column.specs.Packets.{sender, receiver, number_of}
use Rattle.column.specs.declared.packet.Packet.{Packet}
use Rattle.column.specs.declared.packet.Packet.TheVariants.{Message, Acknowledgement}
use Rattle.text.specs.Text.{column_key, newline, field}
use Rattle.journals.specs.Journals.{line, line_text}
use Rattle.journals.specs.declared.line.Kind.{Kind}
use Rattle.journals.specs.declared.line.Kind.TheVariants as kind-is
use Rattle.journals.specs.declared.line.Way.TheVariants.{Sent, Got}
use Rattle.journals.specs.declared.line.Line.{Line}

-- "Kind is 1 for messages and 2 for acknowledgements of either width."
abbrev pub packet_kind : Packet → Kind
packet_kind (Message from to number doors) = kind-is.Message
packet_kind (Acknowledgement from to number) = kind-is.Acknowledgement

-- "`sent=` or `got=` with kind, other column and number"
abbrev pub sent_line : Packet → Line
sent_line p = line Sent (packet_kind p) (receiver p) (number_of p)

abbrev pub got_line : Packet → Line
got_line p = line Got (packet_kind p) (sender p) (number_of p)

-- "Its first line is `column=` with its owner."
abbrev pub owner_bytes : ℕ → List ℕ
owner_bytes owner = field column_key owner

abbrev pub line_bytes : Line → List ℕ
line_bytes x = line_text x ++ (newline ∷ [])
