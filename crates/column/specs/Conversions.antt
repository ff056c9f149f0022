-- The converter between packets of the old kinds and of the new, after document 02, Point 10.
use Rattle.std.specs.Prelude.{ℕ, cond, List, eqb, ltb, length}
use Rattle.column.specs.Refusals.{Given, given, refused}
use Rattle.column.specs.Packets.{number_of, narrow, wide, bytes_in, Part, read_in, Wrote, wrote, wrote_none}
use Rattle.column.specs.declared.packet.Packet.{Packet}
use Rattle.column.specs.declared.codec.Width.{Width}

-- "one packet (any byte after it is 12)"
abbrev pub exactly : Given Part → ℕ → Given Packet
exactly (given q) size = cond (eqb q.used size) (given q.packet) (refused 12)
exactly (refused n) size = refused 12

abbrev pub alone_in : Width → List ℕ → Given Packet
alone_in w s = exactly (read_in w s) (length s)

-- the highest number of the old width
abbrev pub narrow_highest : ℕ
narrow_highest = 65535

-- "of the old kinds into the new": bytes that are no packet of the old kinds are read by the new ones
abbrev pub widened : Given Packet → Wrote → Wrote
widened (given p) other = wrote (bytes_in wide p)
widened (refused n) other = other

-- "and back", "18 for narrowing a number above 65,535, after 12"
abbrev pub narrowed : Given Packet → Wrote
narrowed (given p) = cond (ltb narrow_highest (number_of p)) (wrote_none 18) (wrote (bytes_in narrow p))
narrowed (refused n) = wrote_none 12

-- "A converter, answering as the writer does, turns one packet .. of the old kinds into the new and back"
unfoldable pub convert : List ℕ → Wrote
convert s = widened (alone_in narrow s) (narrowed (alone_in wide s))
