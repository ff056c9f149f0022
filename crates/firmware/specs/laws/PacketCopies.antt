-- The packet that is read is written again by its own bytes, and packets of a frame are counted one by one. Assumes nothing.
use Rattle.std.specs.Prelude.{ℕ, zero, suc, ◌+◌, ◌-◌, ◌≤◌, ◌<◌, ◌≡◌, false, ◌⊎◌, List, [], ◌++◌, length, take, drop, replicate}
use Rattle.std.proofs.Math.Path.{refl, ap}
use Rattle.std.proofs.Common.{sym, ◌∙◌, inl, inr, ⊎_elim, append-nil, arith, length-take-le}
use Rattle.std.proofs.Math.Bool.{true}
use Rattle.std.proofs.Math.Dec.{eqb}
use Rattle.std.proofs.Math.ListN.{length-drop}
use Rattle.std.proofs.Math.Seq.{drop-drop}
use borrow.Author.Tests.{eq-eqb, ne_eqb}
use Rattle.column.specs.Refusals.{Given, given, refused}
use Rattle.column.specs.Packets.{wide, low_first, bytes_in, bytes_of, padded, Part, Wrote, read}
use Rattle.column.specs.laws.PacketLaws.{read_used, read_writes, read_sized}
use Rattle.column.specs.laws.NumberLaws.{Bytes}
use Rattle.column.specs.Frames.{frame_packets, prefixed, packets_in, read_frame, frame_of}
use Rattle.column.specs.declared.packet.Packet.{Packet}
use Rattle.column.specs.declared.packet.Packet.TheVariants.{Message, Acknowledgement}
use Rattle.firmware.specs.Calls.{filled_meant, packet_left, rewritten, packet_count}

-- ---- a packet by its own bytes

two_sizes : (p : Packet) → (length (bytes_of p) ≡ 15) ⊎ (length (bytes_of p) ≡ 7)
unfolding bytes_in low_first
two_sizes (Message from to number doors) = inl refl
two_sizes (Acknowledgement from to number) = inr refl

module _ (s : List ℕ) (h : Bytes s) (q : Part) (e : read s ≡ given q) (old : List ℕ) where
  copied : packet_left (rewritten (read s)) old ≡ filled_meant q.used (padded (take q.used s))
  copied = rw e (ap (λ (w : Wrote). packet_left w old) (read_writes s h q e))

  first_size : (n : ℕ) → q.used ≡ n → length (take n s) ≡ n
  first_size n l = length-take-le n s (omega (arith, l, (read_sized wide s q e).1))

  pub copied_message : q.used ≡ 15 → packet_left (rewritten (read s)) old ≡ filled_meant 15 (take 15 s)
  copied_message l =
      copied
      ∙ ap (λ (n : ℕ). filled_meant n (padded (take n s))) l
      ∙ ap (λ (w : List ℕ). filled_meant 15 w) (ap (λ (n : ℕ). take 15 s ++ replicate (15 - n) 0) (first_size 15 l) ∙ append-nil (take 15 s))

  pub short_used : (q.used ≡ 15 → ⊥) → q.used ≡ 7
  short_used n =
      let size = read_used wide s h q e in
      ⊎_elim (λ (l : length (bytes_of q.packet) ≡ 15). absurd (n (sym size ∙ l))) (λ (l : length (bytes_of q.packet) ≡ 7). sym size ∙ l) (two_sizes q.packet)

  pub copied_acknowledgement : q.used ≡ 7 → packet_left (rewritten (read s)) old ≡ filled_meant 7 (take 7 s ++ replicate 8 0)
  copied_acknowledgement l =
      copied
      ∙ ap (λ (n : ℕ). filled_meant n (padded (take n s))) l
      ∙ ap (λ (n : ℕ). filled_meant 7 (take 7 s ++ replicate (15 - n) 0)) (first_size 7 l)

-- ---- packets counted

-- so many more than those that follow
unfoldable pub counted : ℕ → Given (List Packet) → Given ℕ
counted n (given ps) = given (n + length ps)
counted n (refused k) = refused k

-- those from a place on where so many are before it
abbrev pub counted_from : List ℕ → ℕ → ℕ → Given ℕ
counted_from s count at = counted count (packets_in (frame_packets - count) (drop at s))

module _ (s : List ℕ) where
  pub count_start : packet_count s ≡ counted_from s 0 0
  unfolding counted
  count_start = go (read_frame s)
    where
      go : (g : Given (List Packet)) → (frame_of g).count ≡ counted 0 g
      go (given ps) = ap given (omega arith)
      go (refused n) = refl

  module _ (count at : ℕ) (inside : at < length s) where
    some : eqb (length (drop at s)) 0 ≡ false
    some = ne_eqb (length (drop at s)) 0 (λ z. omega (arith, z, length-drop at s, inside))

    pub count_full : count ≡ frame_packets → counted_from s count at ≡ refused 12
    unfolding counted packets_in
    count_full l =
        let none : frame_packets - count ≡ 0 = omega (arith, l) in
        rw (none, some)

    module _ (few : count < frame_packets) where
      abbrev m : ℕ
      m = frame_packets - (count + 1)

      step : frame_packets - count ≡ suc m
      step = omega (arith, few)

      pub count_refused : (k : ℕ) → read (drop at s) ≡ refused k → counted_from s count at ≡ refused 12
      unfolding counted packets_in
      count_refused k e = rw (step, some, e)

      pub count_more : (q : Part) → read (drop at s) ≡ given q → counted_from s count at ≡ counted_from s (count + 1) (at + q.used)
      unfolding packets_in counted
      count_more q e = rw (step, some, e, drop-drop q.used at s) (go (packets_in m (drop (at + q.used) s)))
        where
          go : (g : Given (List Packet)) → counted count (prefixed q.packet g) ≡ counted (count + 1) g
          go (given ps) = ap given (omega arith)
          go (refused n) = refl

  pub count_end : (count at : ℕ) → length s ≤ at → counted_from s count at ≡ given count
  unfolding counted packets_in
  count_end count at h = rw (done (frame_packets - count)) (ap given (omega arith))
    where
      none : eqb (length (drop at s)) 0 ≡ true
      none = eq-eqb (length (drop at s)) 0 (omega (arith, length-drop at s, h))

      done : (n : ℕ) → packets_in n (drop at s) ≡ given []
      done zero = rw none
      done (suc n) = rw none
