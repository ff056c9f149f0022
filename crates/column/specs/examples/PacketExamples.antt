-- Worked examples of packets and their bytes, after document 01, "Packets". Assumes nothing.
use Rattle.std.specs.Prelude.{ℕ, zero, suc, ◌≡◌, refl, Bool, true, false, ◌&&◌, List, [], ◌∷◌, ◌++◌, map, ltb, take, replicate}
use Rattle.std.proofs.Common.{arith, ltb-true}
use Rattle.column.specs.laws.Cases.{and_left, and_right}
use Rattle.column.specs.Refusals.{given, refused}
use Rattle.column.specs.Packets.{low_first, low_value, wide, bytes_in, bytes_of, occupied, write, part, read_in, read}
use Rattle.column.specs.laws.NumberLaws.{Bytes}
use Rattle.column.specs.laws.PacketLaws.{read_write, write_read, wide_kinds, Valid}
use Rattle.column.specs.declared.packet.Packet.{Packet}
use Rattle.column.specs.declared.packet.Packet.TheVariants.{Message, Acknowledgement}

-- order 258 from column 0 to column 1, whose doors are the bytes 1 to 8
abbrev pub message : Packet
message = Message 0 1 258 578437695752307201

abbrev pub message_bytes : List ℕ
message_bytes = 3 ∷ 0 ∷ 1 ∷ 0 ∷ 0 ∷ 1 ∷ 2 ∷ 1 ∷ 2 ∷ 3 ∷ 4 ∷ 5 ∷ 6 ∷ 7 ∷ 8 ∷ []

abbrev pub acknowledgement : Packet
acknowledgement = Acknowledgement 1 0 7

abbrev pub acknowledgement_bytes : List ℕ
acknowledgement_bytes = 4 ∷ 1 ∷ 0 ∷ 0 ∷ 0 ∷ 0 ∷ 7 ∷ []

message_bytes_lem : bytes_of message ≡ message_bytes
unfolding bytes_in low_first
message_bytes_lem = refl

message_read : read message_bytes ≡ given (part message 15)
unfolding read_in low_value
message_read = refl

acknowledgement_written : write acknowledgement ≡ record { size = given 7; bytes = 4 ∷ 1 ∷ 0 ∷ 0 ∷ 0 ∷ 0 ∷ 7 ∷ replicate 8 0 }
unfolding write bytes_in low_first
acknowledgement_written = refl

acknowledgement_read : read (acknowledgement_bytes ++ message_bytes) ≡ given (part acknowledgement 7)
unfolding read_in low_value
acknowledgement_read = refl

-- bytes that begin with no packet
abbrev wrong : List (List ℕ)
wrong =
    -- "message of 13 bytes read, 12 refused", which "move to the new limit and size": 15 and 14
    take 14 message_bytes
    -- "the old kinds are now 12": a message and an acknowledgement of two bytes of number, alone and before others
    ∷ (1 ∷ 0 ∷ 1 ∷ 1 ∷ 2 ∷ 1 ∷ 2 ∷ 3 ∷ 4 ∷ 5 ∷ 6 ∷ 7 ∷ 8 ∷ [])
    ∷ (2 ∷ 1 ∷ 0 ∷ 0 ∷ 7 ∷ [])
    ∷ (2 ∷ 1 ∷ 0 ∷ 0 ∷ 7 ∷ message_bytes)
    -- a kind that is none, and a message of an acknowledgement's size
    ∷ (5 ∷ 0 ∷ 1 ∷ 0 ∷ 0 ∷ 1 ∷ 2 ∷ 1 ∷ 2 ∷ 3 ∷ 4 ∷ 5 ∷ 6 ∷ 7 ∷ 8 ∷ [])
    ∷ (3 ∷ 1 ∷ 0 ∷ 0 ∷ 0 ∷ 0 ∷ 7 ∷ [])
    -- equal ends, and an end above 15: the sender, and the receiver
    ∷ (4 ∷ 1 ∷ 1 ∷ 0 ∷ 0 ∷ 0 ∷ 7 ∷ [])
    ∷ (4 ∷ 16 ∷ 0 ∷ 0 ∷ 0 ∷ 0 ∷ 7 ∷ [])
    ∷ (4 ∷ 0 ∷ 16 ∷ 0 ∷ 0 ∷ 0 ∷ 7 ∷ [])
    -- "4 bytes"
    ∷ (4 ∷ 1 ∷ 0 ∷ 0 ∷ [])
    ∷ []

wrong_refused : map read wrong ≡ replicate 10 (refused 12)
unfolding read_in low_value
wrong_refused = refl

-- packets to write with an end above 15, the sender or the receiver, or equal ends
wrong_ends_refused : map write (Acknowledgement 16 0 7 ∷ Acknowledgement 0 16 7 ∷ Message 0 16 7 0 ∷ Message 3 3 7 0 ∷ [])
    ≡ replicate 4 (record { size = refused 12; bytes = replicate 15 0 })
unfolding write
wrong_ends_refused = refl

-- 15 is an end, of either
pub last_ends : (write (Acknowledgement 15 14 7)).size ∷ (write (Acknowledgement 14 15 7)).size ∷ [] ≡ given 7 ∷ given 7 ∷ []
unfolding write bytes_in low_first
last_ends = refl

-- "doors byte 7 = 128 is door 64", and neither door 63 nor door 1
last_door : map (occupied (0 ∷ 0 ∷ 0 ∷ 0 ∷ 0 ∷ 0 ∷ 0 ∷ 128 ∷ [])) (64 ∷ 63 ∷ 1 ∷ []) ≡ true ∷ false ∷ false ∷ []
last_door = refl

-- ---- what the laws of packets ask for holds of these

pub message_back : read (bytes_of message ++ acknowledgement_bytes) ≡ given (part message 15)
unfolding bytes_in low_first
message_back = read_write wide wide_kinds message acknowledgement_bytes (record { number = omega arith; doors = omega arith }) refl

abbrev pub all_bytes : List ℕ → Bool
all_bytes [] = true
all_bytes (b ∷ s) = ltb b 256 && all_bytes s

pub are_bytes : (s : List ℕ) → all_bytes s ≡ true → Bytes s
are_bytes [] e i = omega arith
are_bytes (b ∷ s) e zero = ltb-true b 256 (and_left _ _ e)
are_bytes (b ∷ s) e (suc i) = are_bytes s (and_right (ltb b 256) _ e) i

pub message_again : Valid wide message_bytes (part message 15)
message_again = write_read wide message_bytes (are_bytes message_bytes refl) (part message 15) message_read
