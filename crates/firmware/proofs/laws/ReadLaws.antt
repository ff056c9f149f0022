-- What a packet that is read takes and is, and by what bytes that begin with none are refused. Assumes nothing.
use Rattle.std.specs.Prelude.{ℕ, ◌≤◌, ◌≡◌, Bool, true, false, cond, ◌&&◌, List, eqb, leb, length, get_or}
use Rattle.std.proofs.Common.{sym}
use Rattle.column.specs.Refusals.{given, refused}
use Rattle.column.specs.Packets.{wide, good_ends, Part, bytes_of, message_in, acknowledgement_in, read_in, read, wrote, write}
use Rattle.column.specs.laws.NumberLaws.{Bytes}
use Rattle.column.specs.laws.PacketLaws.{write_good, write_read, read_sized}

-- bytes that begin with no packet are 12
pub read_refused : (s : List ℕ) (n : ℕ) → refused n ≡ read s → n ≡ 12
unfolding read_in
read_refused s n e =
    go _ _ (eqb (get_or s 0 0) 3) (leb 15 (length s) && good_ends (message_in wide s)) (eqb (get_or s 0 0) 4) (leb 7 (length s) && good_ends (acknowledgement_in wide s)) e
  where
    go : (x y : Part) (a b c d : Bool)
        → refused n ≡ cond a (cond b (given x) (refused 12)) (cond c (cond d (given y) (refused 12)) (refused 12)) → n ≡ 12
    go x y true true c d e = cc
    go x y true false c d e = cc
    go x y false b true true e = cc
    go x y false b true false e = cc
    go x y false b false d e = cc

module _ (s : List ℕ) (q : Part) (e : given q ≡ read s) where
  pub read_some : 7 ≤ q.used
  read_some = (read_sized wide s q (sym e)).0

  pub read_among : q.used ≤ length s
  read_among = (read_sized wide s q (sym e)).1

  -- it is what the writer gives
  pub read_written : Bytes s → write q.packet ≡ wrote (bytes_of q.packet)
  read_written h = write_good q.packet (write_read wide s h q (sym e)).ends
