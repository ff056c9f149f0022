-- Laws of packets and their bytes, for any width: what is written is read back, and what is read is written back. Those of the writer are of the
-- width that it writes. Assumes nothing.
use Rattle.std.specs.Prelude.{ℕ, suc, ◌+◌, ◌^◌, ◌≤◌, ◌<◌, Bool, not, ◌&&◌, ◌⊎◌, eqb, leb, ltb}
use Rattle.std.proofs.Math.Path.{◌≡◌, refl, sym, ap, ap₂}
use Rattle.std.proofs.Common.{◌∙◌, inl, inr, length-take, take-append-drop, length-take-le, drop-drop, take-add}
use Rattle.std.proofs.Math.Bool.{true, false, cond}
use mathlib.Core.List.{List, [], ◌∷◌, ◌++◌, append_assoc, append-nil}
use native.Mathlib.Omega.{arith}
use Rattle.std.proofs.Math.ListN.{length, take, drop, get_or, length-append}
use Rattle.std.proofs.Math.Seq.{take_at, drop_at}
use borrow.Author.Tests.{eqb-true, eqb-false, eq-eqb, ne_eqb, le-leb, lt-leb, leb-true, le-ltb, lt-ltb, ltb-true, not-true}
use Rattle.column.specs.laws.Cases.{and_left, and_right}
use Rattle.column.specs.Refusals.{Given, given, refused}
use Rattle.column.specs.Packets.{sender, receiver, number_of, doors_of, low_first, low_value, high_first, high_value, doors_size, wide, acknowledgement_size, message_size, bytes_in, bytes_of, good_ends, Wrote, padded, wrote, wrote_none, write, Part, part, number_in, message_in, acknowledgement_in, starts_as, read_in, read}
use Rattle.column.specs.laws.NumberLaws.{Bytes, part_length, part_bytes, length_low, length_high, low_value_first, low_first_value, low_value_lt, high_value_first, high_first_value, high_value_lt}
use Rattle.column.specs.declared.codec.Width.{Width}
use Rattle.column.specs.declared.packet.Packet.{Packet}
use Rattle.column.specs.declared.packet.Packet.TheVariants.{Message, Acknowledgement}

-- ---- what a reading says

-- at the start of the bytes s the packet p of a size and kind was read, which q answers
record StartsAs (s : List ℕ) (count kind : ℕ) (p : Packet) (q : Part) : Type 0 where
  size_is : count ≤ length s
  kind_is : get_or s 0 0 ≡ kind
  ends : good_ends p ≡ true
  same : part p count ≡ q

starts_as_lem : (s : List ℕ) (count kind : ℕ) (p : Packet) (q : Part) (other : Given Part)
    → starts_as s count kind p other ≡ given q → (StartsAs s count kind p q) ⊎ (other ≡ given q)
starts_as_lem s count kind p q other = go (eqb (get_or s 0 0) kind) (leb count (length s)) (good_ends p) refl refl refl
  where
    go : (a b g : Bool) → eqb (get_or s 0 0) kind ≡ a → leb count (length s) ≡ b → good_ends p ≡ g
        → cond a (cond (b && g) (given (part p count)) (refused 12)) other ≡ given q → (StartsAs s count kind p q) ⊎ (other ≡ given q)
    go true true true x y z e = inl (record { size_is = leb-true _ _ y; kind_is = eqb-true _ _ x; ends = z; same = cc })
    go true true false x y z e = let z : ◌≡◌ {A = ℕ} 0 1 = cc in absurd (omega arith)
    go true false g x y z e = let z : ◌≡◌ {A = ℕ} 0 1 = cc in absurd (omega arith)
    go false b g x y z e = inr e

-- the kind and the ends, then the rest
head_three : (s : List ℕ) (n : ℕ) → 3 ≤ length s → get_or s 0 0 ∷ get_or s 1 0 ∷ get_or s 2 0 ∷ take n (drop 3 s) ≡ take (suc (suc (suc n))) s
head_three [] n h = absurd (omega arith)
head_three (a ∷ []) n h = absurd (omega arith)
head_three (a ∷ b ∷ []) n h = absurd (omega arith)
head_three (a ∷ b ∷ c ∷ s) n h = refl

module _ (w : Width) where
  -- "order number" in the width's bytes, "doors (8 bytes)"
  pub record Fits (p : Packet) : Type 0 where
    pub number : number_of p < 256 ^ w.count
    pub doors : doors_of p < 256 ^ doors_size

  -- ---- what is written is read back, in any width whose kinds differ

  pub read_write : (w.acknowledgement ≡ w.message → ⊥) → (p : Packet) (rest : List ℕ) → Fits p → good_ends p ≡ true
      → read_in w (bytes_in w p ++ rest) ≡ given (part p (length (bytes_in w p)))
  unfolding read_in bytes_in
  read_write ne (Message from to number doors) rest f g =
      let k = w.count in
      let H = high_first k number in
      let D = low_first doors_size doors in
      let s = w.message ∷ from ∷ to ∷ ((H ++ D) ++ rest) in
      let lh : length H ≡ k = length_high k number in
      let ld : length D ≡ doors_size = length_low doors_size doors in
      let whole : (H ++ D) ++ rest ≡ H ++ (D ++ rest) = append_assoc H D rest in
      let num : number_in w s ≡ number =
      ap high_value (ap (take k) whole ∙ take_at H (D ++ rest) k lh) ∙ high_value_first k number f.number in
      let past : drop (3 + k) s ≡ D ++ rest = sym (drop-drop k 3 s) ∙ ap (drop k) whole ∙ drop_at H (D ++ rest) k lh in
      let word : low_value (take doors_size (drop (3 + k) s)) ≡ doors =
      ap low_value (ap (take doors_size) past ∙ take_at D rest doors_size ld) ∙ low_value_first doors_size doors f.doors in
      let size : message_size w ≤ length s = simp length-append (omega (arith, lh, ld)) in
      let same : message_size w ≡ length (bytes_in w (Message from to number doors)) = simp length-append (omega (arith, lh, ld)) in
      rw (eq-eqb w.message w.message refl, le-leb (message_size w) (length s) size, g)
      (ap₂ (λ n d. given (part (Message from to n d) (message_size w))) num word ∙ ap (λ z. given (part (Message from to number doors) z)) same)
  read_write ne (Acknowledgement from to number) rest f g =
      let k = w.count in
      let H = high_first k number in
      let s = w.acknowledgement ∷ from ∷ to ∷ (H ++ rest) in
      let lh : length H ≡ k = length_high k number in
      let num : number_in w s ≡ number = ap high_value (take_at H rest k lh) ∙ high_value_first k number f.number in
      let size : acknowledgement_size w ≤ length s = simp length-append (omega (arith, lh)) in
      let same : acknowledgement_size w ≡ length (bytes_in w (Acknowledgement from to number)) = omega (arith, lh) in
      rw (ne_eqb w.acknowledgement w.message ne, eq-eqb w.acknowledgement w.acknowledgement refl, le-leb (acknowledgement_size w) (length s) size, g)
      (ap₂ (λ n z. given (part (Acknowledgement from to n) z)) num same)

  -- ---- what is read is written back, in any width

  -- what a reading says of the bytes
  pub record Valid (s : List ℕ) (q : Part) : Type 0 where
    pub first : bytes_in w q.packet ≡ take q.used s
    pub among : q.used ≤ length s
    pub ends : good_ends q.packet ≡ true
    pub fits : Fits q.packet

  module _ (s : List ℕ) (h : Bytes s) where
    number_bytes : acknowledgement_size w ≤ length s → high_first w.count (number_in w s) ≡ take w.count (drop 3 s)
    number_bytes l =
        ap (λ (k : ℕ). high_first k (number_in w s)) (sym (part_length s h 3 w.count l)) ∙ high_first_value _ (part_bytes s h 3 w.count)

    doors_bytes : message_size w ≤ length s → low_first doors_size (doors_of (message_in w s)) ≡ take doors_size (drop (acknowledgement_size w) s)
    doors_bytes l =
        ap (λ (k : ℕ). low_first k (doors_of (message_in w s))) (sym (part_length s h (acknowledgement_size w) doors_size l))
        ∙ low_first_value _ (part_bytes s h (acknowledgement_size w) doors_size)

    number_fits : number_in w s < 256 ^ w.count
    number_fits = high_value_lt w.count (take w.count (drop 3 s)) (part_bytes s h 3 w.count) (simp length-take (omega arith))

    doors_fit : doors_of (message_in w s) < 256 ^ doors_size
    doors_fit = low_value_lt doors_size (take doors_size (drop (acknowledgement_size w) s)) (part_bytes s h (acknowledgement_size w) doors_size) (simp length-take (omega arith))

    three : (n : ℕ) → 3 ≤ length s → get_or s 0 0 ∷ get_or s 1 0 ∷ get_or s 2 0 ∷ take n (drop 3 s) ≡ take (3 + n) s
    three n l =
        let e : suc (suc (suc n)) ≡ 3 + n = omega arith in
        head_three s n l ∙ ap (λ k. take k s) e

    acknowledgement_bytes : {q : Part} → StartsAs s (acknowledgement_size w) w.acknowledgement (acknowledgement_in w s) q
        → bytes_in w (acknowledgement_in w s) ≡ take (acknowledgement_size w) s
    unfolding bytes_in
    acknowledgement_bytes r =
        let l : acknowledgement_size w ≤ length s = r.size_is in
        ap₂ (λ k t. k ∷ get_or s 1 0 ∷ get_or s 2 0 ∷ t) (sym r.kind_is) (number_bytes l) ∙ three w.count (omega arith)

    message_bytes_lem : {q : Part} → StartsAs s (message_size w) w.message (message_in w s) q → bytes_in w (message_in w s) ≡ take (message_size w) s
    unfolding bytes_in
    message_bytes_lem r =
        let l : message_size w ≤ length s = r.size_is in
        let k = w.count in
        let rest = ap₂ ◌++◌ (number_bytes (omega arith)) (doors_bytes l ∙ ap (take doors_size) (sym (drop-drop k 3 s)))
        ∙ sym (take-add k doors_size (drop 3 s)) in
        let e : 3 + (k + doors_size) ≡ 3 + k + doors_size = omega arith in
        ap₂ (λ k t. k ∷ get_or s 1 0 ∷ get_or s 2 0 ∷ t) (sym r.kind_is) rest ∙ three (k + doors_size) (omega arith) ∙ ap (λ k. take k s) e

    pub write_read : (q : Part) → read_in w s ≡ given q → Valid s q
    unfolding read_in
    write_read q e = message (starts_as_lem _ _ _ _ _ _ e)
      where
        acknowledgement : (StartsAs s (acknowledgement_size w) w.acknowledgement (acknowledgement_in w s) q) ⊎ (refused 12 ≡ given q) → Valid s q
        acknowledgement (inl r) =
            rw (← r.same)
            (record { first = acknowledgement_bytes r; among = r.size_is; ends = r.ends; fits = record { number = number_fits; doors = omega arith } })
        acknowledgement (inr n) = let z : ◌≡◌ {A = ℕ} 0 1 = cc in absurd (omega arith)

        message : (StartsAs s (message_size w) w.message (message_in w s) q)
            ⊎ (starts_as s (acknowledgement_size w) w.acknowledgement (acknowledgement_in w s) (refused 12) ≡ given q)
            → Valid s q
        message (inl r) =
            rw (← r.same)
            (record { first = message_bytes_lem r; among = r.size_is; ends = r.ends; fits = record { number = number_fits; doors = doors_fit } })
        message (inr o) = acknowledgement (starts_as_lem _ _ _ _ _ _ o)

    -- the bytes are those of the packet, followed by the rest
    pub read_rest : (q : Part) → read_in w s ≡ given q → bytes_in w q.packet ++ drop q.used s ≡ s
    read_rest q e = ap (λ l. l ++ drop q.used s) (write_read q e).first ∙ take-append-drop q.used s

    pub read_used : (q : Part) → read_in w s ≡ given q → length (bytes_in w q.packet) ≡ q.used
    read_used q e =
        let r = write_read q e in
        ap length r.first ∙ length-take-le q.used s r.among

  -- fewer bytes than any packet has
  pub read_short : (s : List ℕ) → length s < acknowledgement_size w → read_in w s ≡ refused 12
  unfolding read_in
  read_short s l =
      rw (lt-leb (message_size w) (length s) (omega arith), lt-leb (acknowledgement_size w) (length s) l)
      (go (eqb (get_or s 0 0) w.message) (eqb (get_or s 0 0) w.acknowledgement))
    where
      go : (a b : Bool) → cond {A = Given Part} a (refused 12) (cond b (refused 12) (refused 12)) ≡ refused 12
      go true b = refl
      go false true = refl
      go false false = refl

  -- what is used is among the bytes, and no less than the shortest packet
  pub read_sized : (s : List ℕ) (q : Part) → read_in w s ≡ given q → (acknowledgement_size w ≤ q.used) × (q.used ≤ length s)
  unfolding read_in
  read_sized s q e = message (starts_as_lem _ _ _ _ _ _ e)
    where
      acknowledgement : (StartsAs s (acknowledgement_size w) w.acknowledgement (acknowledgement_in w s) q) ⊎ (refused 12 ≡ given q)
          → (acknowledgement_size w ≤ q.used) × (q.used ≤ length s)
      acknowledgement (inl r) = rw (← r.same) (omega arith, r.size_is)
      acknowledgement (inr n) = let z : ◌≡◌ {A = ℕ} 0 1 = cc in absurd (omega arith)

      message : (StartsAs s (message_size w) w.message (message_in w s) q)
          ⊎ (starts_as s (acknowledgement_size w) w.acknowledgement (acknowledgement_in w s) (refused 12) ≡ given q)
          → (acknowledgement_size w ≤ q.used) × (q.used ≤ length s)
      message (inl r) = rw (← r.same) (omega arith, r.size_is)
      message (inr o) = acknowledgement (starts_as_lem _ _ _ _ _ _ o)

-- ---- the writer

pub wide_kinds : wide.acknowledgement ≡ wide.message → ⊥
wide_kinds e = omega arith

-- no packet that fits is longer than fifteen bytes
pub length_bytes : (w : Width) (p : Packet) → w.count ≤ wide.count → length (bytes_in w p) ≤ message_size wide
unfolding bytes_in
length_bytes w (Message from to number doors) l = simp length-append (omega (arith, length_high w.count number, length_low doors_size doors))
length_bytes w (Acknowledgement from to number) l = omega (arith, length_high w.count number)

-- a size says where the packet's bytes end
pub wrote_first : (r : Wrote) (b : List ℕ) (n : ℕ) → r ≡ wrote b → r.size ≡ given n → (length b ≡ n) × (take n r.bytes ≡ b)
wrote_first r b n e k =
    let s : given (length b) ≡ given n = sym (ap (λ (x : Wrote). x.size) e) ∙ k in
    let l : length b ≡ n = cc in
    (l, ap (λ (x : Wrote). take n x.bytes) e ∙ take_at b _ n l)

-- the packet is among the bytes
pub wrote_size : (b : List ℕ) (n : ℕ) → (wrote b).size ≡ given n → n ≤ length (wrote b).bytes
wrote_size b n e =
    let l : length b ≡ n = cc in
    simp length-append (omega (arith, l))

pub write_good : (p : Packet) → good_ends p ≡ true → write p ≡ wrote (bytes_of p)
unfolding write
write_good p g = rw g

-- a size is given only to a packet with good ends
pub write_ends : (p : Packet) (n : ℕ) → (write p).size ≡ given n → good_ends p ≡ true
unfolding write
write_ends p n = go (good_ends p)
  where
    go : (b : Bool) → (cond b (wrote (bytes_of p)) (wrote_none 12)).size ≡ given n → b ≡ true
    go true e = refl
    go false e = let z : ◌≡◌ {A = ℕ} 0 1 = cc in absurd (omega arith)

-- the size, where it is given, is that of the packet's bytes, which come first
pub write_first : (p : Packet) (n : ℕ) → (write p).size ≡ given n → take n (write p).bytes ≡ bytes_of p
write_first p n e = (wrote_first (write p) (bytes_of p) n (write_good p (write_ends p n e)) e).1

pub write_length : (p : Packet) (n : ℕ) → (write p).size ≡ given n → length (bytes_of p) ≡ n
write_length p n e = (wrote_first (write p) (bytes_of p) n (write_good p (write_ends p n e)) e).0

pub write_size : (p : Packet) (n : ℕ) → (write p).size ≡ given n → n ≤ length (write p).bytes
write_size p n e =
    let g = write_good p (write_ends p n e) in
    rw g (wrote_size (bytes_of p) n (rw g at e))

pub written_reads : (p : Packet) (n : ℕ) → Fits wide p → (write p).size ≡ given n → read (take n (write p).bytes) ≡ given (part p n)
written_reads p n f e =
    ap read (write_first p n e ∙ sym (append-nil (bytes_of p))) ∙ read_write wide wide_kinds p [] f (write_ends p n e)
    ∙ ap (λ k. given (part p k)) (write_length p n e)

pub read_writes : (s : List ℕ) → Bytes s → (q : Part) → read s ≡ given q → write q.packet ≡ record { size = given q.used; bytes = padded (take q.used s) }
read_writes s h q e =
    let r = write_read wide s h q e in
    write_good q.packet r.ends
    ∙ ap₂ (λ n b. record { size = given n; bytes = padded b }) (read_used wide s h q e) r.first

-- ---- "From and to are 0 to 15 and differ.": both of them, and of a packet to read as of one to write

pub ends_good : (p : Packet) → sender p < 16 → receiver p < 16 → (sender p ≡ receiver p → ⊥) → good_ends p ≡ true
ends_good p h l d = rw (lt-ltb (sender p) 16 h, lt-ltb (receiver p) 16 l, ne_eqb (sender p) (receiver p) d)

pub good_ends_lem : (p : Packet) → good_ends p ≡ true → (sender p < 16) × (receiver p < 16) × (sender p ≡ receiver p → ⊥)
good_ends_lem p e =
    let b = ltb (receiver p) 16 in
    let d = not (eqb (sender p) (receiver p)) in
    let rest = and_right (ltb (sender p) 16) (b && d) e in (
      ltb-true (sender p) 16 (and_left (ltb (sender p) 16) (b && d) e),
      ltb-true (receiver p) 16 (and_left b d rest),
      eqb-false (sender p) (receiver p) (not-true _ (and_right b d rest)),
    )

-- "ends above 15 or equal are refused with 12"
pub write_bad : (p : Packet) → (16 ≤ sender p) ⊎ ((16 ≤ receiver p) ⊎ (sender p ≡ receiver p)) → write p ≡ wrote_none 12
unfolding write
write_bad p (inl h) = rw (le-ltb (sender p) 16 h)
write_bad p (inr (inl h)) = go (ltb (sender p) 16)
  where
    go : (b : Bool) → cond (b && (ltb (receiver p) 16 && not (eqb (sender p) (receiver p)))) (wrote (bytes_of p)) (wrote_none 12) ≡ wrote_none 12
    go true = rw (le-ltb (receiver p) 16 h)
    go false = refl
write_bad p (inr (inr h)) = go (ltb (sender p) 16) (ltb (receiver p) 16)
  where
    go : (a b : Bool) → cond (a && (b && not (eqb (sender p) (receiver p)))) (wrote (bytes_of p)) (wrote_none 12) ≡ wrote_none 12
    go true true = rw (eq-eqb (sender p) (receiver p) h)
    go true false = refl
    go false b = refl

-- ---- bytes that begin with no packet

pub read_refused : (w : Width) (s : List ℕ) (n : ℕ) → refused n ≡ read_in w s → n ≡ 12
unfolding read_in
read_refused w s n e =
    go _ _ (eqb (get_or s 0 0) w.message) (leb (message_size w) (length s) && good_ends (message_in w s))
    (eqb (get_or s 0 0) w.acknowledgement) (leb (acknowledgement_size w) (length s) && good_ends (acknowledgement_in w s)) e
  where
    go : (x y : Part) (a b c d : Bool)
        → refused n ≡ cond a (cond b (given x) (refused 12)) (cond c (cond d (given y) (refused 12)) (refused 12)) → n ≡ 12
    go x y true true c d e = cc
    go x y true false c d e = cc
    go x y false b true true e = cc
    go x y false b true false e = cc
    go x y false b false d e = cc
