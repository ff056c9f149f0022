-- The bytes of a packet as they are put into fifteen, for the proof of the writer, and the places of a frame as they are filled one after another, for
-- the proof of the frame reader. Assumes nothing.
use Rattle.std.specs.Prelude.{ℕ, zero, suc, ◌+◌, ◌-◌, ◌≤◌, ◌<◌, ◌≡◌, refl, List, ◌∷◌, ◌++◌, [], cond, Bool, true, false, length, take, drop, replicate, set, eqb}
use Rattle.std.proofs.Common.{sym, ap, ap₂, ◌∙◌, append_assoc, append-nil, arith, length-append, length-take, take_at, drop_at, ne_eqb}
use Rattle.std.proofs.lemmas.List.{length-replicate, set_at}
use Rattle.column.specs.Refusals.{given, Given, refused}
use Rattle.column.specs.Packets.{low_first, high_first, number_size, doors_size, wide, message_size, padded, wrote, Part, read, part}
use Rattle.column.specs.laws.NumberLaws.{length_low, length_high}
use Rattle.column.specs.Frames.{Framed, framed, framed_none, frame_packets, no_packet, frame_of, followed, packets_in, read_frame}
use Rattle.column.specs.laws.FrameLaws.{after, after_more, after_none}
use Rattle.column.specs.declared.packet.Packet.{Packet}

drop_zeros : (k n : ℕ) → drop {A = ℕ} k (replicate n 0) ≡ replicate (n - k) 0
drop_zeros zero n =
    let e : n ≡ n - zero = omega arith in
    ap (λ m. replicate m 0) e
drop_zeros (suc k) zero =
    let e : zero ≡ zero - suc k = omega arith in
    ap (λ m. replicate m 0) e
drop_zeros (suc k) (suc n) =
    let e : n - k ≡ suc n - suc k = omega arith in
    drop_zeros k n ∙ ap (λ m. replicate m 0) e

-- a size and bytes that are those of a packet
pub wrote_are : (b : List ℕ) (n : ℕ) (bytes : List ℕ) → n ≡ length b → bytes ≡ padded b → record { size = given n; bytes = bytes } ≡ wrote b
wrote_are b n bytes e f = ap₂ (λ k l. record { size = given k; bytes = l }) e f

module _ (kind from to number count : ℕ) where
  -- fifteen bytes, of which the kind and the ends are put
  abbrev pub headed : List ℕ
  headed = kind ∷ from ∷ to ∷ replicate (message_size wide - 3) 0

  abbrev pub numbered : List ℕ
  numbered = kind ∷ from ∷ to ∷ (high_first count number ++ replicate (message_size wide - 3 - count) 0)

  -- the number put from place 3 on
  pub number_put : count ≤ number_size → (new : List ℕ) → new ≡ high_first (length (take (3 + count - 3) (drop 3 headed))) number
      → take 3 headed ++ (new ++ drop (3 + count - 3) (drop 3 headed)) ≡ numbered
  number_put l new e =
      let n : 3 + count - 3 ≡ count = omega arith in
      let size : length (take (3 + count - 3) (drop 3 headed)) ≡ count = simp length-take (omega arith) in
      ap₂ (λ a b. kind ∷ from ∷ to ∷ (a ++ b))
      (e ∙ ap (λ m. high_first m number) size)
      (ap (λ m. drop m (drop 3 headed)) n ∙ drop_zeros count (message_size wide - 3))

  -- an acknowledgement is whole
  pub acknowledgement_put : count ≤ number_size → (bytes : List ℕ) → bytes ≡ numbered
      → record { size = given (3 + count); bytes = bytes } ≡ wrote (kind ∷ from ∷ to ∷ high_first count number)
  acknowledgement_put l bytes is =
      let lh = length_high count number in
      let b = kind ∷ from ∷ to ∷ high_first count number in
      let size : 3 + count ≡ length b = omega (arith, lh) in
      let zeros : message_size wide - 3 - count ≡ message_size wide - length b = omega (arith, lh) in
      wrote_are b (3 + count) bytes size (is ∙ ap (λ m. b ++ replicate m 0) zeros)

  taken : take (3 + count) numbered ≡ kind ∷ from ∷ to ∷ high_first count number
  taken =
      let e : 3 + count ≡ length (kind ∷ from ∷ to ∷ high_first count number) = omega (arith, length_high count number) in
      take_at (kind ∷ from ∷ to ∷ high_first count number) _ (3 + count) (sym e)

  dropped : drop (3 + count) numbered ≡ replicate (message_size wide - 3 - count) 0
  dropped =
      let e : 3 + count ≡ length (kind ∷ from ∷ to ∷ high_first count number) = omega (arith, length_high count number) in
      drop_at (kind ∷ from ∷ to ∷ high_first count number) _ (3 + count) (sym e)

  -- the doors put behind the number
  pub doors_put : count ≤ number_size → (doors : ℕ) (bytes new : List ℕ) → bytes ≡ numbered
      → new ≡ low_first (length (take (3 + count + doors_size - (3 + count)) (drop (3 + count) bytes))) doors
      → record {
        size = given (3 + count + doors_size);
        bytes = take (3 + count) bytes ++ (new ++ drop (3 + count + doors_size - (3 + count)) (drop (3 + count) bytes));
      }
      ≡ wrote (kind ∷ from ∷ to ∷ (high_first count number ++ low_first doors_size doors))
  doors_put l doors bytes new is e =
      let H = high_first count number in
      let D = low_first doors_size doors in
      let b = kind ∷ from ∷ to ∷ (H ++ D) in
      let lh = length_high count number in
      let n : 3 + count + doors_size - (3 + count) ≡ doors_size = omega arith in
      let whole : 3 + count + doors_size ≡ length b = simp length-append (omega (arith, lh, length_low doors_size doors)) in
      let rest = ap (drop (3 + count)) is ∙ dropped in
      let size : length (take (3 + count + doors_size - (3 + count)) (drop (3 + count) bytes)) ≡ doors_size =
      ap₂ (λ m s. length (take m s)) n rest ∙ simp (length-take, length-replicate) (omega arith) in
      let zeros : message_size wide - 3 - count - doors_size ≡ message_size wide - length b = omega (arith, whole) in
      wrote_are b (3 + count + doors_size) _ whole
      (ap₂ ◌++◌ (ap (take (3 + count)) is ∙ taken)
      (ap₂ ◌++◌ (e ∙ ap (λ m. low_first m doors) size)
      (ap₂ drop n rest ∙ drop_zeros doors_size (message_size wide - 3 - count) ∙ ap (λ m. replicate m 0) zeros))
      ∙ ap (λ s. kind ∷ from ∷ to ∷ s) (sym (append_assoc H D _)))

-- the rest of a frame laid from a place on, where at most n packets have room
abbrev pub laid_after : Given Part → (Packet → ℕ → Framed) → Framed
laid_after (given q) rest = rest q.packet q.used
laid_after (refused n) rest = framed_none 12

unfoldable pub laid_from : ℕ → List ℕ → List Packet → ℕ → Framed
laid_from zero s slots count = cond (eqb (length s) 0) (framed count slots) (framed_none 12)
laid_from (suc n) s slots count =
    cond (eqb (length s) 0) (framed count slots) (laid_after (read s) (λ p used. laid_from n (drop used s) (set slots count p) (count + 1)))

laid_ended : (n : ℕ) (ps : List Packet) → length ps + n ≡ frame_packets
    → framed (length ps) (ps ++ replicate n no_packet) ≡ frame_of (after ps (given []))
laid_ended n ps e =
    let m : frame_packets - length ps ≡ n = omega arith in
    rw (append-nil ps, m)

laid_is : (n : ℕ) (s : List ℕ) (ps : List Packet) → length ps + n ≡ frame_packets
    → laid_from n s (ps ++ replicate n no_packet) (length ps) ≡ frame_of (after ps (packets_in n s))
unfolding laid_from packets_in
laid_is zero s ps e = go (eqb (length s) 0)
  where
    go : (b : Bool) → cond b (framed (length ps) (ps ++ replicate 0 no_packet)) (framed_none 12) ≡ frame_of (after ps (cond b (given []) (refused 12)))
    go true = laid_ended 0 ps e
    go false = refl
laid_is (suc n) s ps e = go (eqb (length s) 0) (read s) (λ p used. laid_is n (drop used s) (ps ++ (p ∷ [])) (simp length-append (omega arith)))
  where
    slots : List Packet
    slots = ps ++ replicate (suc n) no_packet

    filled : (p : Packet) → set slots (length ps) p ≡ (ps ++ (p ∷ [])) ++ replicate n no_packet
    filled p = set_at ps no_packet (replicate n no_packet) p (length ps) refl ∙ sym (append_assoc ps (p ∷ []) (replicate n no_packet))

    go : (b : Bool) (r : Given Part)
        → ((p : Packet) (used : ℕ)
        → laid_from n (drop used s) ((ps ++ (p ∷ [])) ++ replicate n no_packet) (length (ps ++ (p ∷ [])))
        ≡ frame_of (after (ps ++ (p ∷ [])) (packets_in n (drop used s))))
        → cond b (framed (length ps) slots) (laid_after r (λ p used. laid_from n (drop used s) (set slots (length ps) p) (length ps + 1)))
        ≡ frame_of (after ps (cond b (given []) (followed r (λ used. packets_in n (drop used s)))))
    go true r h = laid_ended (suc n) ps e
    go false (refused k) h = refl
    go false (given q) h =
        ap₂ (laid_from n (drop q.used s)) (filled q.packet) (sym (length-append ps (q.packet ∷ [])))
        ∙ h q.packet q.used ∙ ap frame_of (after_more ps q.packet (packets_in n (drop q.used s)))

pub laid_frame : (s : List ℕ) → laid_from frame_packets s (replicate frame_packets no_packet) 0 ≡ frame_of (read_frame s)
laid_frame s = laid_is frame_packets s [] refl ∙ ap frame_of (after_none (read_frame s))

-- one turn of the loop
pub laid_ends : (n : ℕ) (slots : List Packet) (count : ℕ) (s : List ℕ) → length s ≡ 0 → laid_from n s slots count ≡ framed count slots
unfolding laid_from
laid_ends zero slots count s e = rw e
laid_ends (suc n) slots count s e = rw e

pub laid_full : (slots : List Packet) (count : ℕ) (s : List ℕ) → 0 < length s → laid_from 0 s slots count ≡ framed_none 12
unfolding laid_from
laid_full slots count s h = rw (ne_eqb (length s) 0 (λ e. omega arith))

pub laid_refused : (n : ℕ) (slots : List Packet) (count : ℕ) (s : List ℕ) (k : ℕ) → 0 < length s → read s ≡ refused k → laid_from n s slots count ≡ framed_none 12
unfolding laid_from
laid_refused zero slots count s k h r = rw (ne_eqb (length s) 0 (λ e. omega arith))
laid_refused (suc n) slots count s k h r = rw (ne_eqb (length s) 0 (λ e. omega arith), r)

pub laid_more : (n : ℕ) (slots : List Packet) (count : ℕ) (s : List ℕ) (p : Packet) (used : ℕ) → 0 < length s → read s ≡ given (part p used)
    → laid_from (suc n) s slots count ≡ laid_from n (drop used s) (set slots count p) (count + 1)
unfolding laid_from
laid_more n slots count s p used h r = rw (ne_eqb (length s) 0 (λ e. omega arith), r)
