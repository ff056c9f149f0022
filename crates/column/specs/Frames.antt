-- Frames of joined packets, after document 02, Point 5.
use Rattle.std.specs.Prelude.{ℕ, zero, suc, ◌-◌, cond, List, [], ◌∷◌, ◌++◌, eqb, length, drop, replicate, Result, Ok, Err}
use Rattle.column.specs.Refusals.{Given, given, refused, refusal_number}
use Rattle.column.specs.declared.error.Refusal.{Refusal}
use Rattle.column.specs.Packets.{Part, bytes_of, read}
use Rattle.column.specs.declared.packet.Packet.{Packet}
use Rattle.column.specs.declared.packet.Packet.TheVariants.{Message}
use Rattle.column.specs.declared.frame.Frame.{Frame}

-- "A frame of more than 512 packets is 12."
abbrev pub frame_packets : ℕ
frame_packets = 512

-- a packet before what the rest of a frame yields
abbrev pub prefixed : Packet → Given (List Packet) → Given (List Packet)
prefixed p (given ps) = given (p ∷ ps)
prefixed p (refused n) = refused n

-- "A frame with a bad packet anywhere is refused with 12"
abbrev pub followed : Given Part → (ℕ → Given (List Packet)) → Given (List Packet)
followed (given q) rest = prefixed q.packet (rest q.used)
followed (refused n) rest = refused 12

-- at most so many packets: "takes packets until the frame ends", "An empty frame yields none and is accepted."
unfoldable pub packets_in : ℕ → List ℕ → Given (List Packet)
packets_in zero s = cond (eqb (length s) 0) (given []) (refused 12)
packets_in (suc most) s = cond (eqb (length s) 0) (given []) (followed (read s) (λ used. packets_in most (drop used s)))

abbrev pub read_frame : List ℕ → Given (List Packet)
read_frame s = packets_in frame_packets s

-- packets written one after another
unfoldable pub joined : List Packet → List ℕ
joined [] = []
joined (p ∷ ps) = bytes_of p ++ joined ps

-- ---- what the frame reader answers: a count or a refusal, and every place

-- what a place without a packet holds
abbrev pub no_packet : Packet
no_packet = Message 0 0 0 0

pub record Framed : Type 0 where
  pub count : Given ℕ
  pub packets : List Packet

abbrev pub framed : ℕ → List Packet → Framed
framed k packets = record { count = given k; packets = packets }

-- no packet is yielded, and no place holds one
abbrev pub framed_none : ℕ → Framed
framed_none n = record { count = refused n; packets = replicate frame_packets no_packet }

abbrev pub frame_meant : Result Frame Refusal → Framed
frame_meant (Ok f) = framed f.count f.packets
frame_meant (Err r) = framed_none (refusal_number r)

-- the packets come first, past them nothing; "yields no packet" where it is refused
abbrev pub frame_of : Given (List Packet) → Framed
frame_of (given ps) = framed (length ps) (ps ++ replicate (frame_packets - length ps) no_packet)
frame_of (refused n) = framed_none n
