-- Worked examples of frames, after document 02, Point 5. Assumes nothing.
use Rattle.std.specs.Prelude.{ℕ, zero, suc, ◌≡◌, refl, List, [], ◌∷◌, ◌++◌, map, take, replicate}
use Rattle.std.proofs.Common.{arith}
use Rattle.column.specs.Refusals.{given, refused}
use Rattle.column.specs.Packets.{low_first, low_value, bytes_in, read_in}
use Rattle.column.specs.examples.PacketExamples.{message, message_bytes, acknowledgement, acknowledgement_bytes, are_bytes}
use Rattle.column.specs.Frames.{packets_in, read_frame, joined}
use Rattle.column.specs.laws.FrameLaws.{Fine, Joins, frame_write, frame_bad, frame_long, frame_read}
use Rattle.column.specs.declared.packet.Packet.{Packet}

abbrev two : List Packet
two = acknowledgement ∷ message ∷ []

abbrev two_bytes : List ℕ
two_bytes = acknowledgement_bytes ++ message_bytes

two_joined : joined two ≡ two_bytes
unfolding joined bytes_in low_first
two_joined = refl

two_read : read_frame two_bytes ≡ given two
unfolding packets_in read_in low_value
two_read = refl

-- "An empty frame yields none and is accepted."
none_read : read_frame [] ≡ given []
unfolding packets_in
none_read = refl

-- frames with a bad packet
abbrev wrong : List (List ℕ)
wrong =
    -- a byte after a packet
    (acknowledgement_bytes ++ (7 ∷ []))
    -- a kind that is none between two packets
    ∷ (acknowledgement_bytes ++ (5 ∷ message_bytes))
    -- "the old kinds are now 12", between two packets too
    ∷ (acknowledgement_bytes ++ (2 ∷ 1 ∷ 0 ∷ 0 ∷ 7 ∷ message_bytes))
    -- a message without its last byte, alone and after a packet
    ∷ take 14 message_bytes
    ∷ (acknowledgement_bytes ++ take 14 message_bytes)
    -- equal ends in the last packet
    ∷ (message_bytes ++ (4 ∷ 1 ∷ 1 ∷ 0 ∷ 0 ∷ 0 ∷ 7 ∷ []))
    ∷ []

wrong_refused : map read_frame wrong ≡ replicate 6 (refused 12)
unfolding packets_in read_in low_value
wrong_refused = refl

-- ---- what the laws of frames ask for holds of these

fine_copies : (n : ℕ) → Fine (replicate n acknowledgement)
fine_copies zero = tt
fine_copies (suc n) = ((record { number = omega arith; doors = omega arith }, refl), fine_copies n)

-- exactly 512 pass
pub full_read : read_frame (joined (replicate 512 acknowledgement)) ≡ given (replicate 512 acknowledgement)
full_read = frame_write (replicate 512 acknowledgement) (fine_copies 512) (omega arith)

-- 512 packets and a byte, and 512 and a packet more
pub full_and_a_byte : read_frame (joined (replicate 512 acknowledgement) ++ (7 ∷ [])) ≡ refused 12
full_and_a_byte = frame_long (replicate 512 acknowledgement) (7 ∷ []) (fine_copies 512) refl (omega arith)

pub one_too_many : read_frame (joined (replicate 512 acknowledgement) ++ message_bytes) ≡ refused 12
one_too_many = frame_long (replicate 512 acknowledgement) message_bytes (fine_copies 512) refl (omega arith)

-- 511 packets, and part of one
pub last_partial : read_frame (joined (replicate 511 acknowledgement) ++ take 4 acknowledgement_bytes) ≡ refused 12
unfolding read_in low_value
last_partial = frame_bad (replicate 511 acknowledgement) (take 4 acknowledgement_bytes) 12 (fine_copies 511) (omega arith) (omega arith) refl

pub two_again : Joins two_bytes two
two_again = frame_read two_bytes (are_bytes two_bytes refl) two two_read
