-- Laws of frames: packets that are written one after another are read back, and what a frame is read as is written back.
-- Assumes nothing.
use Rattle.std.specs.Prelude.{ℕ, zero, suc, ◌+◌, ◌-◌, ◌≤◌, ◌<◌, ◌≡◌, refl, Bool, true, false, cond, List, [], ◌∷◌, ◌++◌, eqb, length, drop, get_or, replicate}
use Rattle.std.proofs.Common.{sym, ap, ◌∙◌, append_assoc, append-nil, arith, length-append, eqb-true, ne_eqb}
use Rattle.std.proofs.lemmas.List.{length-replicate, get_or-replicate}
use Rattle.std.proofs.Math.Seq.{drop-append_seam}
use Rattle.column.specs.Refusals.{Given, given, refused}
use Rattle.column.specs.Packets.{Part, part, wide, bytes_in, bytes_of, good_ends, read}
use Rattle.column.specs.laws.NumberLaws.{Bytes, bytes_drop}
use Rattle.column.specs.laws.PacketLaws.{Fits, read_write, write_read, read_rest, wide_kinds}
use Rattle.column.specs.Frames.{frame_packets, prefixed, followed, packets_in, read_frame, joined, no_packet, Framed, frame_of}
use Rattle.column.specs.declared.packet.Packet.{Packet}
use Rattle.column.specs.declared.packet.Packet.TheVariants.{Message, Acknowledgement}

-- ---- packets before what the rest of a frame yields

abbrev pub after : List Packet → Given (List Packet) → Given (List Packet)
after ps (given qs) = given (ps ++ qs)
after ps (refused n) = refused n

pub after_none : (r : Given (List Packet)) → after [] r ≡ r
after_none (given qs) = refl
after_none (refused n) = refl

pub after_more : (ps : List Packet) (p : Packet) (r : Given (List Packet)) → after (ps ++ (p ∷ [])) r ≡ after ps (prefixed p r)
after_more ps p (given qs) = ap given (append_assoc ps (p ∷ []) qs)
after_more ps p (refused n) = refl

after_first : (p : Packet) (ps : List Packet) (r : Given (List Packet)) → prefixed p (after ps r) ≡ after (p ∷ ps) r
after_first p ps (given qs) = refl
after_first p ps (refused n) = refl

-- ---- what is written is read back

-- every packet fits its types, and its ends are good
abbrev pub Fine : List Packet → Type 0
Fine [] = Unit {0}
Fine (p ∷ ps) = ((Fits wide p) × (good_ends p ≡ true)) × Fine ps

some_bytes : (p : Packet) → 0 < length (bytes_of p)
unfolding bytes_in
some_bytes (Message from to number doors) = omega arith
some_bytes (Acknowledgement from to number) = omega arith

packets_more : (n : ℕ) (s : List ℕ) (q : Part) → 0 < length s → read s ≡ given q → packets_in (suc n) s ≡ prefixed q.packet (packets_in n (drop q.used s))
unfolding packets_in
packets_more n s q h r = rw (ne_eqb (length s) 0 (λ e. omega arith), r)

packets_end : (n : ℕ) → packets_in n [] ≡ given []
unfolding packets_in
packets_end zero = refl
packets_end (suc n) = refl

packets_full : (s : List ℕ) → 0 < length s → packets_in 0 s ≡ refused 12
unfolding packets_in
packets_full s h = rw (ne_eqb (length s) 0 (λ e. omega arith))

packets_bad : (n k : ℕ) (s : List ℕ) → 0 < length s → read s ≡ refused k → packets_in n s ≡ refused 12
unfolding packets_in
packets_bad zero k s h r = packets_full s h
packets_bad (suc n) k s h r = rw (ne_eqb (length s) 0 (λ e. omega arith), r)

-- packets written one after another, followed by any bytes
packets_after : (m n : ℕ) (ps : List Packet) (rest : List ℕ) → Fine ps → length ps + n ≡ m → packets_in m (joined ps ++ rest) ≡ after ps (packets_in n rest)
unfolding joined
packets_after m n [] rest f l =
    let e : m ≡ n = omega arith in
    ap (λ k. packets_in k rest) e ∙ sym (after_none (packets_in n rest))
packets_after zero n (p ∷ ps) rest f l = absurd (omega arith)
packets_after (suc m) n (p ∷ ps) rest f l =
    let s = joined ps ++ rest in
    let some : 0 < length (bytes_of p ++ s) = simp length-append (omega (arith, some_bytes p)) in
    ap (packets_in (suc m)) (append_assoc (bytes_of p) (joined ps) rest)
    ∙ packets_more m (bytes_of p ++ s) (part p (length (bytes_of p))) some (read_write wide wide_kinds p s f.0.0 f.0.1)
    ∙ ap (λ l. prefixed p (packets_in m l)) (drop-append_seam (bytes_of p) s)
    ∙ ap (prefixed p) (packets_after m n ps rest f.1 (omega arith))
    ∙ after_first p ps (packets_in n rest)

frame_after : (ps : List Packet) (rest : List ℕ) → Fine ps → length ps ≤ frame_packets
    → read_frame (joined ps ++ rest) ≡ after ps (packets_in (frame_packets - length ps) rest)
frame_after ps rest f l = packets_after frame_packets (frame_packets - length ps) ps rest f (omega arith)

-- a frame written packet by packet is read back as these packets
pub frame_write : (ps : List Packet) → Fine ps → length ps ≤ frame_packets → read_frame (joined ps) ≡ given ps
frame_write ps f l =
    ap read_frame (sym (append-nil (joined ps))) ∙ frame_after ps [] f l ∙ ap (after ps) (packets_end (frame_packets - length ps)) ∙ ap given (append-nil ps)

-- "A frame with a bad packet anywhere is refused with 12 and yields no packet."
pub frame_bad : (ps : List Packet) (rest : List ℕ) (k : ℕ) → Fine ps → length ps ≤ frame_packets → 0 < length rest → read rest ≡ refused k
    → read_frame (joined ps ++ rest) ≡ refused 12
frame_bad ps rest k f l some r = frame_after ps rest f l ∙ ap (after ps) (packets_bad (frame_packets - length ps) k rest some r)

-- "A frame of more than 512 packets is 12", and so is one with any byte after 512 packets
pub frame_long : (ps : List Packet) (rest : List ℕ) → Fine ps → length ps ≡ frame_packets → 0 < length rest → read_frame (joined ps ++ rest) ≡ refused 12
frame_long ps rest f l some =
    let none : frame_packets - length ps ≡ 0 = omega arith in
    frame_after ps rest f (omega arith) ∙ ap (λ n. after ps (packets_in n rest)) none ∙ ap (after ps) (packets_full rest some)

-- ---- what is read is written back

-- the packets fit and have good ends, and their bytes one after another are s
pub record Joins (s : List ℕ) (ps : List Packet) : Type 0 where
  pub fine : Fine ps
  pub bytes : joined ps ≡ s

ended : (s : List ℕ) (ps : List Packet) → length s ≡ 0 → given [] ≡ given ps → Joins s ps
unfolding joined
ended [] ps l e =
    let same : [] ≡ ps = cc in
    rw (← same) (record { fine = tt; bytes = refl })
ended (b ∷ s) ps l e = absurd (omega arith)

packets_read : (n : ℕ) (s : List ℕ) → Bytes s → (ps : List Packet) → packets_in n s ≡ given ps → Joins s ps
unfolding packets_in joined
packets_read zero s h ps = go (eqb (length s) 0) refl
  where
    go : (b : Bool) → eqb (length s) 0 ≡ b → cond b (given []) (refused 12) ≡ given ps → Joins s ps
    go true x e = ended s ps (eqb-true _ _ x) e
    go false x e = let z : ◌≡◌ {A = ℕ} 0 1 = cc in absurd (omega arith)
packets_read (suc n) s h ps = go (eqb (length s) 0) (read s) refl refl (λ used qs. packets_read n (drop used s) (bytes_drop used s h) qs)
  where
    go : (b : Bool) (r : Given Part) → eqb (length s) 0 ≡ b → read s ≡ r
        → ((used : ℕ) (qs : List Packet) → packets_in n (drop used s) ≡ given qs → Joins (drop used s) qs)
        → cond b (given []) (followed r (λ used. packets_in n (drop used s))) ≡ given ps → Joins s ps
    go true r x y k e = ended s ps (eqb-true _ _ x) e
    go false (refused m) x y k e = let z : ◌≡◌ {A = ℕ} 0 1 = cc in absurd (omega arith)
    go false (given q) x y k e = further (packets_in n (drop q.used s)) refl e
      where
        further : (r : Given (List Packet)) → packets_in n (drop q.used s) ≡ r → prefixed q.packet r ≡ given ps → Joins s ps
        further (refused m) g e = let z : ◌≡◌ {A = ℕ} 0 1 = cc in absurd (omega arith)
        further (given qs) g e =
            let same : q.packet ∷ qs ≡ ps = cc in
            let rest = k q.used qs g in
            let first = write_read wide s h q y in
            rw (← same) (record {
              fine = ((first.fits, first.ends), rest.fine);
              bytes = ap (λ l. bytes_of q.packet ++ l) rest.bytes ∙ read_rest wide s h q y;
            })

-- what a frame is read as, written again, is the frame
pub frame_read : (s : List ℕ) → Bytes s → (ps : List Packet) → read_frame s ≡ given ps → Joins s ps
frame_read s h ps e = packets_read frame_packets s h ps e

-- ---- how many, and by which number a frame is refused

packets_most : (n : ℕ) (s : List ℕ) (ps : List Packet) → packets_in n s ≡ given ps → length ps ≤ n
unfolding packets_in
packets_most zero s ps = go (eqb (length s) 0)
  where
    go : (b : Bool) → cond b (given []) (refused 12) ≡ given ps → length ps ≤ zero
    go true e =
        let same : [] ≡ ps = cc in
        rw (← same) (omega arith)
    go false e = let z : ◌≡◌ {A = ℕ} 0 1 = cc in absurd (omega arith)
packets_most (suc n) s ps = go (eqb (length s) 0) (read s) (λ used qs. packets_most n (drop used s) qs)
  where
    further : (p : Packet) (r : Given (List Packet)) → ((qs : List Packet) → r ≡ given qs → length qs ≤ n) → prefixed p r ≡ given ps → length ps ≤ suc n
    further p (refused m) k e = let z : ◌≡◌ {A = ℕ} 0 1 = cc in absurd (omega arith)
    further p (given qs) k e =
        let same : p ∷ qs ≡ ps = cc in
        rw (← same) (omega (arith, k qs refl))

    go : (b : Bool) (r : Given Part) → ((used : ℕ) (qs : List Packet) → packets_in n (drop used s) ≡ given qs → length qs ≤ n)
        → cond b (given []) (followed r (λ used. packets_in n (drop used s))) ≡ given ps → length ps ≤ suc n
    go true r k e =
        let same : [] ≡ ps = cc in
        rw (← same) (omega arith)
    go false (refused m) k e = let z : ◌≡◌ {A = ℕ} 0 1 = cc in absurd (omega arith)
    go false (given q) k e = further q.packet (packets_in n (drop q.used s)) (k q.used) e

-- the count that the frame reader gives is that of places it has
pub frame_count : (s : List ℕ) (n : ℕ) → (frame_of (read_frame s)).count ≡ given n → n ≤ frame_packets
frame_count s n = go (read_frame s) refl
  where
    go : (r : Given (List Packet)) → read_frame s ≡ r → (frame_of r).count ≡ given n → n ≤ frame_packets
    go (refused m) x e = let z : ◌≡◌ {A = ℕ} 0 1 = cc in absurd (omega arith)
    go (given ps) x e =
        let same : length ps ≡ n = cc in
        omega (arith, packets_most frame_packets s ps x)

packets_refused : (k n : ℕ) (s : List ℕ) → packets_in n s ≡ refused k → k ≡ 12
unfolding packets_in
packets_refused k zero s = go (eqb (length s) 0)
  where
    go : (b : Bool) → cond {A = Given (List Packet)} b (given []) (refused 12) ≡ refused k → k ≡ 12
    go true e = let z : ◌≡◌ {A = ℕ} 0 1 = cc in absurd (omega arith)
    go false e = cc
packets_refused k (suc n) s = go (eqb (length s) 0) (read s) (λ used. packets_refused k n (drop used s))
  where
    further : (p : Packet) (r : Given (List Packet)) → (r ≡ refused k → k ≡ 12) → prefixed p r ≡ refused k → k ≡ 12
    further p (given ps) h e = let z : ◌≡◌ {A = ℕ} 0 1 = cc in absurd (omega arith)
    further p (refused m) h e = h e

    go : (b : Bool) (r : Given Part) → ((used : ℕ) → packets_in n (drop used s) ≡ refused k → k ≡ 12)
        → cond b (given []) (followed r (λ used. packets_in n (drop used s))) ≡ refused k → k ≡ 12
    go true r h e = let z : ◌≡◌ {A = ℕ} 0 1 = cc in absurd (omega arith)
    go false (refused m) h e = cc
    go false (given q) h e = further q.packet (packets_in n (drop q.used s)) (h q.used) e

-- a frame is refused with no other number
pub frame_refused : (s : List ℕ) (k : ℕ) → read_frame s ≡ refused k → k ≡ 12
frame_refused s k e = packets_refused k frame_packets s e

-- ---- what the frame reader answers, for every frame: the count, and what is in every place

-- the answer has n packets, these: they are first, and in every place past them is the message 0 from 0 to 0, which is no packet
pub record Laid (f : Framed) (ps : List Packet) : Type 0 where
  pub places : length f.packets ≡ frame_packets
  pub first : (k : ℕ) (d : Packet) (p : Packet) → k < length ps → get_or f.packets k d ≡ get_or ps k p
  pub past : (k : ℕ) (d : Packet) → length ps ≤ k → k < frame_packets → get_or f.packets k d ≡ Message 0 0 0 0

laid : (ps : List Packet) → length ps ≤ frame_packets → Laid (frame_of (given ps)) ps
laid ps l = record {
  places =
      length-append ps rest
      ∙ ap (λ (b : ℕ). length ps + b) (length-replicate (frame_packets - length ps) no_packet) ∙ whole;
  first = λ k d p h. first ps k d p h;
  past = λ k d h m. past ps k d h (omega (arith, m, whole));
}
  where
    whole : length ps + (frame_packets - length ps) ≡ frame_packets
    whole = omega (arith, l)

    rest : List Packet
    rest = replicate (frame_packets - length ps) no_packet

    first : (qs : List Packet) (k : ℕ) (d : Packet) (p : Packet) → k < length qs → get_or (qs ++ rest) k d ≡ get_or qs k p
    first [] k d p h = absurd (omega (arith, h))
    first (q ∷ qs) zero d p h = refl
    first (q ∷ qs) (suc k) d p h = first qs k d p (omega (arith, h))

    past : (qs : List Packet) (k : ℕ) (d : Packet) → length qs ≤ k → k < length qs + (frame_packets - length ps)
        → get_or (qs ++ rest) k d ≡ Message 0 0 0 0
    past [] k d h m = get_or-replicate (frame_packets - length ps) k no_packet d (omega (arith, m))
    past (q ∷ qs) zero d h m = absurd (omega (arith, h))
    past (q ∷ qs) (suc k) d h m = past qs k d (omega (arith, h)) (omega (arith, m))

pub frame_given : (s : List ℕ) (ps : List Packet) → read_frame s ≡ given ps
    → ((frame_of (read_frame s)).count ≡ given (length ps)) × Laid (frame_of (read_frame s)) ps
frame_given s ps e = rw e (refl, laid ps (packets_most frame_packets s ps e))

-- "A frame with a bad packet anywhere is refused with 12 and yields no packet."
pub frame_declined : (s : List ℕ) (k : ℕ) → read_frame s ≡ refused k → ((frame_of (read_frame s)).count ≡ refused 12) × Laid (frame_of (read_frame s)) []
frame_declined s k e = rw e (
  ap refused (frame_refused s k e),
  record {
    places = length-replicate frame_packets no_packet;
    first = λ j d p h. absurd (omega (arith, h));
    past = λ j d h m. get_or-replicate frame_packets j no_packet d m;
  },
)
