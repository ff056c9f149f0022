-- A packet of the network as two words, after document 01, "Packets". The head holds the kind, the ends and the number, the other word the
-- doors. Words 0 and 0 are what a free place holds after a step freed it.
use Rattle.std.specs.Prelude.{ℕ, ◌+◌, ◌*◌, ◌/◌, ◌%◌, cond, ltb}
use Rattle.column.specs.Columns.{numbers}
use Rattle.column.specs.declared.packet.Packet.{Packet}
use Rattle.column.specs.declared.packet.Packet.TheVariants.{Message, Acknowledgement}

-- how many ends a head tells apart: this and `numbers` are the factors of its parts
abbrev pub ends : ℕ
ends = 256

-- the lowest head of an acknowledgement
abbrev pub acknowledging : ℕ
acknowledging = numbers * ends * ends

abbrev pub placed : ℕ → ℕ → ℕ → ℕ
placed from to number = (from * ends + to) * numbers + number

abbrev pub head_of : Packet → ℕ
head_of (Message from to number doors) = placed from to number
head_of (Acknowledgement from to number) = acknowledging + placed from to number

abbrev pub number_in : ℕ → ℕ
number_in head = head % numbers

abbrev pub receiver_in : ℕ → ℕ
receiver_in head = head / numbers % ends

abbrev pub sender_in : ℕ → ℕ
sender_in head = head / (numbers * ends) % ends

-- the packet that two words mean, whatever they are
unfoldable pub packet_of : ℕ → ℕ → Packet
packet_of head doors =
    cond (ltb head acknowledging)
    (Message (sender_in head) (receiver_in head) (number_in head) doors)
    (Acknowledgement (sender_in head) (receiver_in head) (number_in head))
