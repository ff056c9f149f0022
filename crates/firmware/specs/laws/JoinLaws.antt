-- A packet is joined to a frame: an accepted join leaves a frame of one packet more, and one is accepted wherever it has room and is not the 513th. Assumes nothing.
use Rattle.std.specs.Prelude.{ℕ, ◌+◌, ◌≤◌, ◌<◌, ◌≡◌, Bool, ◌&&◌, leb, drop}
use Rattle.std.proofs.Math.Path.{refl, ap}
use Rattle.std.proofs.Common.{sym, ◌∙◌, arith, length-append}
use Rattle.std.proofs.Math.Bool.{true, false, cond}
use mathlib.Core.List.{List, [], ◌∷◌, ◌++◌, append_assoc, append-nil}
use Rattle.std.proofs.Math.Dec.{ltb}
use Rattle.std.proofs.Math.ListN.{length, take}
use Rattle.std.proofs.Math.Seq.{take-append_seam, length-take-le}
use borrow.Author.Tests.{leb-true, ltb-true, le-leb, lt-ltb}
use Rattle.column.specs.Refusals.{Given, given, refused}
use Rattle.column.specs.laws.Cases.{and_left, and_right}
use Rattle.column.specs.laws.NumberLaws.{Bytes, bytes_take}
use Rattle.column.specs.Packets.{Part, part, wide, good_ends, bytes_of, read}
use Rattle.column.specs.laws.PacketLaws.{Fits, write_read}
use Rattle.column.specs.Frames.{frame_packets, read_frame, joined, frame_of}
use Rattle.column.specs.laws.FrameLaws.{Fine, frame_read, frame_write}
use Rattle.column.specs.declared.packet.Packet.{Packet}
use Rattle.text.specs.Text.{written}
use Rattle.firmware.specs.Calls.{refused_by, no_room, Filled, filled_meant, unfilled, packet_count, joined_at, join_left, join_call}

-- ---- a frame and one packet more

joined_more : (ps : List Packet) (p : Packet) → joined (ps ++ (p ∷ [])) ≡ joined ps ++ bytes_of p
unfolding joined
joined_more [] p = append-nil (bytes_of p)
joined_more (q ∷ ps) p = ap (λ l. bytes_of q ++ l) (joined_more ps p) ∙ sym (append_assoc (bytes_of q) (joined ps) (bytes_of p))

fine_more : (ps : List Packet) (p : Packet) → Fine ps → Fits wide p → good_ends p ≡ true → Fine (ps ++ (p ∷ []))
fine_more [] p f a b = ((a, b), tt)
fine_more (q ∷ ps) p f a b = (f.0, fine_more ps p f.1 a b)

frame_more : (s : List ℕ) → Bytes s → (ps : List Packet) → read_frame s ≡ given ps → length ps < frame_packets
    → (p : Packet) → Fits wide p → good_ends p ≡ true → read_frame (s ++ bytes_of p) ≡ given (ps ++ (p ∷ []))
frame_more s h ps e l p a b =
    let j = frame_read s h ps e in
    ap (λ x. read_frame (x ++ bytes_of p)) (sym j.bytes)
    ∙ ap read_frame (sym (joined_more ps p))
    ∙ frame_write (ps ++ (p ∷ [])) (fine_more ps p j.fine a b) (omega (arith, l, length-append ps (p ∷ [])))

-- what is first after bytes were written from a place on
written_first : (old : List ℕ) (at : ℕ) (w : List ℕ) → at ≤ length old → take (at + length w) (written old at w) ≡ take at old ++ w
unfolding written
written_first old at w l =
    let first = take at old ++ w in
    let n : length first ≡ at + length w = length-append (take at old) w ∙ ap (λ k. k + length w) (length-take-le at old l) in
    ap (λ k. take k (take at old ++ (w ++ drop (at + length w) old))) (sym n)
    ∙ ap (take (length first)) (sym (append_assoc (take at old) w (drop (at + length w) old)))
    ∙ take-append_seam first (drop (at + length w) old)

-- ---- the call

module _ (bytes old : List ℕ) (at : ℕ) where
  -- these packets were the frame before the place, and with this one, which is at the start of the bytes, they are the frame up to its end
  pub record Joins (f : Filled) : Type 0 where
    pub packets : List Packet
    pub packet : Packet
    pub was : read_frame (take at old) ≡ given packets
    pub packet_read : read bytes ≡ given (part packet f.answer)
    pub is : read_frame (take (at + f.answer) f.buffer) ≡ given (packets ++ (packet ∷ []))

  pub join_frames : Bytes bytes → Bytes old → (join_call bytes old at).answer < refused_by → Joins (join_call bytes old at)
  unfolding joined_at
  join_frames hb ho = go (read bytes) refl (read_frame (take at old)) refl
    where
      fits : (q : Part) → read bytes ≡ given q → (ps : List Packet) → read_frame (take at old) ≡ given ps
          → (b : Bool) → (leb (at + q.used) (length old) && ltb (length ps) frame_packets) ≡ b
          → let f = cond b (filled_meant q.used (written old at (take q.used bytes))) (unfilled no_room old) in f.answer < refused_by → Joins f
      fits q e ps g false x l = absurd (omega arith)
      fits q e ps g true x l =
          let v = write_read wide bytes hb q e in
          let w = take q.used bytes in
          let used : length w ≡ q.used = length-take-le q.used bytes v.among in
          let room = leb-true (at + q.used) (length old) (and_left (leb (at + q.used) (length old)) (ltb (length ps) frame_packets) x) in
          let few = ltb-true (length ps) frame_packets (and_right (leb (at + q.used) (length old)) (ltb (length ps) frame_packets) x) in
          record {
            packets = ps;
            packet = q.packet;
            was = g;
            packet_read = e;
            is =
                ap (λ k. read_frame (take (at + k) (written old at w))) (sym used)
                ∙ ap read_frame (written_first old at w (omega (arith, room)))
                ∙ ap (λ x. read_frame (take at old ++ x)) (sym v.first)
                ∙ frame_more (take at old) (bytes_take at old ho) ps g few q.packet v.fits v.ends;
          }

      go : (r : Given Part) → read bytes ≡ r → (k : Given (List Packet)) → read_frame (take at old) ≡ k
          → let f = join_left r (frame_of k).count bytes old at in f.answer < refused_by → Joins f
      go (given q) e (given ps) g l = fits q e ps g (leb (at + q.used) (length old) && ltb (length ps) frame_packets) refl l
      go (given q) e (refused n) g l = absurd (omega arith)
      go (refused n) e k g l = absurd (omega arith)

  -- up to 512 packets
  pub join_accepts : (p : Packet) (used : ℕ) → read bytes ≡ given (part p used) → (ps : List Packet) → read_frame (take at old) ≡ given ps
      → length ps < 512 → at + used ≤ length old → (join_call bytes old at).answer ≡ used
  unfolding joined_at
  join_accepts p used e ps g l room =
      ap (λ r. (join_left r (packet_count (take at old)) bytes old at).answer) e
      ∙ ap (λ k. (join_left (given (part p used)) (frame_of k).count bytes old at).answer) g
      ∙ rw (le-leb (at + used) (length old) room, lt-ltb (length ps) 512 l)
