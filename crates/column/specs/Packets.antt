-- Packets and their bytes, after document 01, "Packets" and "What a column holds"; their reader after document 02, Point 5, their widths after
-- Point 10.
use Rattle.std.specs.Prelude.{ℕ, zero, suc, ◌+◌, ◌-◌, ◌*◌, ◌/◌, ◌%◌, Bool, true, false, not, ◌&&◌, cond, List, [], ◌∷◌, ◌++◌, reverse, eqb, ltb, leb, length, take, drop, get_or, replicate, Result, Ok, Err}
use Rattle.column.specs.Refusals.{Given, given, refused, refusal_number}
use Rattle.column.specs.declared.error.Refusal.{Refusal}
use Rattle.column.specs.Sets.{has}
use Rattle.column.specs.declared.packet.Packet.{Packet}
use Rattle.column.specs.declared.packet.Packet.TheVariants.{Message, Acknowledgement}
use Rattle.column.specs.declared.codec.Width.{Width}
use Rattle.column.specs.declared.codec.Reading.{Reading}
use Rattle.column.specs.declared.codec.Written.{Written}

-- ---- the parts of a packet

abbrev pub is_message : Packet → Bool
is_message (Message from to number doors) = true
is_message (Acknowledgement from to number) = false

abbrev pub sender : Packet → ℕ
sender (Message from to number doors) = from
sender (Acknowledgement from to number) = from

abbrev pub receiver : Packet → ℕ
receiver (Message from to number doors) = to
receiver (Acknowledgement from to number) = to

abbrev pub number_of : Packet → ℕ
number_of (Message from to number doors) = number
number_of (Acknowledgement from to number) = number

abbrev pub doors_of : Packet → ℕ
doors_of (Message from to number doors) = doors
doors_of (Acknowledgement from to number) = 0

-- ---- numbers in any count of bytes

-- the lowest byte first
unfoldable pub low_first : ℕ → ℕ → List ℕ
low_first zero value = []
low_first (suc count) value = value % 256 ∷ low_first count (value / 256)

-- what bytes mean, the lowest first
unfoldable pub low_value : List ℕ → ℕ
low_value [] = 0
low_value (b ∷ s) = b + 256 * low_value s

-- the highest byte first
abbrev pub high_first : ℕ → ℕ → List ℕ
high_first count value = reverse (low_first count value)

abbrev pub high_value : List ℕ → ℕ
high_value s = low_value (reverse s)

-- what bytes mean that a word of 64 bits can hold, at most eight; 0 of more
abbrev pub word : (List ℕ → ℕ) → List ℕ → ℕ
word value s = cond (leb (length s) 8) (value s) 0

-- "Door d, 1 to 64, is occupied when bit (d−1) mod 8, lowest bit 0, of byte (d−1)/8 rounded down is 1"
abbrev pub occupied : List ℕ → ℕ → Bool
occupied bytes door = has (get_or bytes ((door - 1) / 8) 0) ((door - 1) % 8)

-- ---- widths: the kinds, and how many bytes a number has

-- "four bytes of number, high first"
abbrev pub number_size : ℕ
number_size = 4

-- "doors (8 bytes)"
abbrev pub doors_size : ℕ
doors_size = 8

-- "A message is 13 bytes: kind 1, from, to, number (two bytes, high first), doors. An acknowledgement is 5 bytes: kind 2, from, to, number.": the old
-- kinds, which the converter alone reads and writes
abbrev pub narrow : Width
narrow = record { message = 1; acknowledgement = 2; count = 2 }

-- "New messages have kind 3 and 15 bytes, new acknowledgements kind 4 and 7 bytes"
abbrev pub wide : Width
wide = record { message = 3; acknowledgement = 4; count = number_size }

abbrev pub acknowledgement_size : Width → ℕ
acknowledgement_size w = 3 + w.count

abbrev pub message_size : Width → ℕ
message_size w = acknowledgement_size w + doors_size

-- ---- the bytes of a packet

unfoldable pub bytes_in : Width → Packet → List ℕ
bytes_in w (Message from to number doors) = w.message ∷ from ∷ to ∷ (high_first w.count number ++ low_first doors_size doors)
bytes_in w (Acknowledgement from to number) = w.acknowledgement ∷ from ∷ to ∷ high_first w.count number

abbrev pub bytes_of : Packet → List ℕ
bytes_of p = bytes_in wide p

-- "From and to are 0 to 15 and differ."
abbrev pub good_ends : Packet → Bool
good_ends p = ltb (sender p) 16 && (ltb (receiver p) 16 && not (eqb (sender p) (receiver p)))

-- ---- the writer: "answers fifteen bytes", "those past the packet 0, and the packet's size; ends above 15 or equal are refused with 12"

-- a size or a refusal, and the bytes; a refused writer's bytes are 0
pub record Wrote : Type 0 where
  pub size : Given ℕ
  pub bytes : List ℕ

abbrev pub padded : List ℕ → List ℕ
padded s = s ++ replicate (message_size wide - length s) 0

abbrev pub wrote : List ℕ → Wrote
wrote s = record { size = given (length s); bytes = padded s }

abbrev pub wrote_none : ℕ → Wrote
wrote_none n = record { size = refused n; bytes = padded [] }

-- what is written, or the number of the refusal
abbrev pub written_meant : Written → Wrote
written_meant w = record { size = given w.size; bytes = w.bytes }

abbrev pub write_meant : Result Written Refusal → Wrote
write_meant (Ok w) = written_meant w
write_meant (Err r) = wrote_none (refusal_number r)

unfoldable pub write : Packet → Wrote
write p = cond (good_ends p) (wrote (bytes_of p)) (wrote_none 12)

-- ---- the reader: "now accepts bytes after a packet and also answers how many bytes it used", "refusal 12 now means that none stands at the start"

-- a packet and how many bytes it takes
pub record Part : Type 0 where
  pub packet : Packet
  pub used : ℕ

abbrev pub part : Packet → ℕ → Part
part p used = record { packet = p; used = used }

-- the part, or the number of the refusal
abbrev pub read_meant : Result Reading Refusal → Given Part
read_meant (Ok q) = given (part q.packet q.used)
read_meant (Err r) = refused (refusal_number r)

abbrev pub number_in : Width → List ℕ → ℕ
number_in w s = high_value (take w.count (drop 3 s))

abbrev pub message_in : Width → List ℕ → Packet
message_in w s = Message (get_or s 1 0) (get_or s 2 0) (number_in w s) (low_value (take doors_size (drop (acknowledgement_size w) s)))

abbrev pub acknowledgement_in : Width → List ℕ → Packet
acknowledgement_in w s = Acknowledgement (get_or s 1 0) (get_or s 2 0) (number_in w s)

-- bytes that begin with a kind begin with its packet, if they are enough and its ends good
abbrev pub starts_as : List ℕ → ℕ → ℕ → Packet → Given Part → Given Part
starts_as s count kind p other = cond (eqb (get_or s 0 0) kind) (cond (leb count (length s) && good_ends p) (given (part p count)) (refused 12)) other

unfoldable pub read_in : Width → List ℕ → Given Part
read_in w s =
    starts_as s (message_size w) w.message (message_in w s)
    (starts_as s (acknowledgement_size w) w.acknowledgement (acknowledgement_in w s)
    (refused 12))

-- "everywhere else the old kinds are now 12"
abbrev pub read : List ℕ → Given Part
read s = read_in wide s
