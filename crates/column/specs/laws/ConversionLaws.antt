-- Laws of the converter: what it answers for each packet of both widths, that an accepted conversion undoes itself, and that 18 is answered for nothing
-- but one new packet with a number above 65,535. Assumes nothing.
use Rattle.std.specs.Prelude.{ℕ, ◌≤◌, ◌<◌, ◌≡◌, refl, Bool, true, false, cond, List, [], eqb, ltb, length, take}
use Rattle.std.proofs.Common.{sym, ap, ◌∙◌, append-nil, arith, take_all, eq-eqb, eqb-true, le-ltb, lt-ltb, ltb-true, ltb-false}
use Rattle.column.specs.Refusals.{Given, given, refused}
use Rattle.column.specs.Packets.{number_of, narrow, wide, bytes_in, good_ends, Part, part, read_in, wrote, wrote_none}
use Rattle.column.specs.laws.NumberLaws.{Bytes}
use Rattle.column.specs.laws.PacketLaws.{Fits, read_write, write_read, wide_kinds, wrote_first, wrote_size}
use Rattle.column.specs.Conversions.{exactly, alone_in, narrow_highest, widened, narrowed, convert}
use Rattle.column.specs.declared.packet.Packet.{Packet}
use Rattle.column.specs.declared.packet.Packet.TheVariants.{Message, Acknowledgement}
use Rattle.column.specs.declared.codec.Width.{Width}

module _ (w : Width) where
  -- ---- one packet and nothing else

  pub record AloneIn (s : List ℕ) (p : Packet) : Type 0 where
    pub bytes_are : bytes_in w p ≡ s
    pub ends : good_ends p ≡ true
    pub fits : Fits w p

  pub alone_read : (s : List ℕ) → Bytes s → (p : Packet) → alone_in w s ≡ given p → AloneIn s p
  alone_read s h p = go (read_in w s) refl
    where
      go : (r : Given Part) → read_in w s ≡ r → exactly r (length s) ≡ given p → AloneIn s p
      go (refused n) y e = let z : ◌≡◌ {A = ℕ} 0 1 = cc in absurd (omega arith)
      go (given q) y e = further (eqb q.used (length s)) refl e
        where
          further : (b : Bool) → eqb q.used (length s) ≡ b → cond b (given q.packet) (refused 12) ≡ given p → AloneIn s p
          further true x e =
              let st = write_read w s h q y in
              let same : q.packet ≡ p = cc in
              let used : q.used ≡ length s = eqb-true _ _ x in
              rw (← same)
              (record { bytes_are = st.first ∙ take_all q.used s (omega (arith, used)); ends = st.ends; fits = st.fits })
          further false x e = let z : ◌≡◌ {A = ℕ} 0 1 = cc in absurd (omega arith)

  pub alone_written : (w.acknowledgement ≡ w.message → ⊥) → (p : Packet) → Fits w p → good_ends p ≡ true → alone_in w (bytes_in w p) ≡ given p
  alone_written ne p f g =
      let r : read_in w (bytes_in w p) ≡ given (part p (length (bytes_in w p))) =
      ap (read_in w) (sym (append-nil (bytes_in w p))) ∙ read_write w ne p [] f g in
      rw (r, eq-eqb (length (bytes_in w p)) (length (bytes_in w p)) refl)

-- ---- the converter

narrow_kinds : narrow.acknowledgement ≡ narrow.message → ⊥
narrow_kinds e = omega arith

fits_wide : (p : Packet) → Fits narrow p → Fits wide p
fits_wide p f = record { number = omega (arith, f.number); doors = f.doors }

-- the new kinds are none of the old
pub wide_not_narrow : (p : Packet) → alone_in narrow (bytes_in wide p) ≡ refused 12
unfolding read_in bytes_in
wide_not_narrow (Message from to number doors) = refl
wide_not_narrow (Acknowledgement from to number) = refl

-- a packet of the old kinds becomes the new one
pub widens : (p : Packet) → Fits narrow p → good_ends p ≡ true → convert (bytes_in narrow p) ≡ wrote (bytes_in wide p)
unfolding convert
widens p f g = rw (alone_written narrow narrow_kinds p f g)

-- a packet of the new kinds becomes the old one, where its number is not above 65,535
pub narrows : (p : Packet) → Fits narrow p → good_ends p ≡ true → convert (bytes_in wide p) ≡ wrote (bytes_in narrow p)
unfolding convert
narrows p f g =
    rw (wide_not_narrow p, alone_written wide wide_kinds p (fits_wide p f) g, le-ltb narrow_highest (number_of p) (omega (arith, f.number)))

-- "18 for narrowing a number above 65,535"
pub too_high : (p : Packet) → Fits wide p → good_ends p ≡ true → narrow_highest < number_of p → convert (bytes_in wide p) ≡ wrote_none 18
unfolding convert
too_high p f g l =
    rw (wide_not_narrow p, alone_written wide wide_kinds p f g, lt-ltb narrow_highest (number_of p) l)

-- what an accepted conversion is: of the one packet that the bytes are, its bytes in the other width
pub data Converted (s : List ℕ) : Type 0 where
  widening : (p : Packet) → AloneIn narrow s p → convert s ≡ wrote (bytes_in wide p) → Converted s
  narrowing : (p : Packet) → AloneIn wide s p → Fits narrow p → convert s ≡ wrote (bytes_in narrow p) → Converted s

pub converted : (s : List ℕ) → Bytes s → (n : ℕ) → (convert s).size ≡ given n → Converted s
unfolding convert
converted s h n = go (alone_in narrow s) (alone_in wide s) refl refl
  where
    go : (a b : Given Packet) → alone_in narrow s ≡ a → alone_in wide s ≡ b → (widened a (narrowed b)).size ≡ given n → Converted s
    go (given p) b x y e = widening p (alone_read narrow s h p x) (rw x)
    go (refused m) (refused k) x y e = let z : ◌≡◌ {A = ℕ} 0 1 = cc in absurd (omega arith)
    go (refused m) (given p) x y e = further (ltb narrow_highest (number_of p)) refl e
      where
        further : (b : Bool) → ltb narrow_highest (number_of p) ≡ b → (cond b (wrote_none 18) (wrote (bytes_in narrow p))).size ≡ given n → Converted s
        further true z e = let z : ◌≡◌ {A = ℕ} 0 1 = cc in absurd (omega arith)
        further false z e =
            let a = alone_read wide s h p y in
            narrowing p a (record { number = omega (arith, ltb-false narrow_highest (number_of p) z); doors = a.fits.doors }) (rw (x, y, z))

-- "What the converter widens, it narrows to the same bytes", and the other way round where it is not refused
pub convert_back : (s : List ℕ) → Bytes s → (n : ℕ) → (convert s).size ≡ given n → convert (take n (convert s).bytes) ≡ wrote s
convert_back s h n e = go (converted s h n e)
  where
    go : Converted s → convert (take n (convert s).bytes) ≡ wrote s
    go (widening p a c) =
        ap convert (wrote_first (convert s) (bytes_in wide p) n c e).1 ∙ narrows p a.fits a.ends ∙ ap wrote a.bytes_are
    go (narrowing p a f c) =
        ap convert (wrote_first (convert s) (bytes_in narrow p) n c e).1 ∙ widens p f a.ends ∙ ap wrote a.bytes_are

-- the two ways of it, by the kind of the bytes handed in
pub widen_narrow : (s : List ℕ) → Bytes s → (p : Packet) → alone_in narrow s ≡ given p → (convert s ≡ wrote (bytes_in wide p)) × (convert (bytes_in wide p) ≡ wrote s)
widen_narrow s h p e =
    let a = alone_read narrow s h p e in
    (ap convert (sym a.bytes_are) ∙ widens p a.fits a.ends, narrows p a.fits a.ends ∙ ap wrote a.bytes_are)

pub narrow_widen : (s : List ℕ) → Bytes s → (p : Packet) → alone_in wide s ≡ given p → number_of p ≤ narrow_highest
    → (convert s ≡ wrote (bytes_in narrow p)) × (convert (bytes_in narrow p) ≡ wrote s)
narrow_widen s h p e l =
    let a = alone_read wide s h p e in
    let f : Fits narrow p = record { number = omega arith; doors = a.fits.doors } in
    (ap convert (sym a.bytes_are) ∙ narrows p f a.ends, widens p f a.ends ∙ ap wrote a.bytes_are)

-- 18 is answered for nothing else: one wide packet whose number is above 65,535
pub too_high_only : (s : List ℕ) → Bytes s → (convert s).size ≡ refused 18 → (p : Packet) × ((AloneIn wide s p) × (narrow_highest < number_of p))
unfolding convert
too_high_only s h = go (alone_in narrow s) (alone_in wide s) refl refl
  where
    go : (a b : Given Packet) → alone_in narrow s ≡ a → alone_in wide s ≡ b → (widened a (narrowed b)).size ≡ refused 18
        → (p : Packet) × ((AloneIn wide s p) × (narrow_highest < number_of p))
    go (given p) b x y e = let z : ◌≡◌ {A = ℕ} 0 1 = cc in absurd (omega arith)
    go (refused m) (refused k) x y e =
        let z : ◌≡◌ {A = ℕ} 12 18 = cc in
        absurd (omega (arith, z))
    go (refused m) (given p) x y e = further (ltb narrow_highest (number_of p)) refl e
      where
        further : (b : Bool) → ltb narrow_highest (number_of p) ≡ b → (cond b (wrote_none 18) (wrote (bytes_in narrow p))).size ≡ refused 18
            → (p : Packet) × ((AloneIn wide s p) × (narrow_highest < number_of p))
        further true z e = (p, (alone_read wide s h p y, ltb-true narrow_highest (number_of p) z))
        further false z e = let z : ◌≡◌ {A = ℕ} 0 1 = cc in absurd (omega arith)

-- the packet is among the bytes
pub convert_size : (s : List ℕ) (n : ℕ) → (convert s).size ≡ given n → n ≤ length (convert s).bytes
unfolding convert
convert_size s n = go (alone_in narrow s) (alone_in wide s)
  where
    go : (a b : Given Packet) → (widened a (narrowed b)).size ≡ given n → n ≤ length (widened a (narrowed b)).bytes
    go (given p) b e = wrote_size (bytes_in wide p) n e
    go (refused m) (refused k) e = let z : ◌≡◌ {A = ℕ} 0 1 = cc in absurd (omega arith)
    go (refused m) (given p) e = further (ltb narrow_highest (number_of p)) e
      where
        further : (b : Bool) → (cond b (wrote_none 18) (wrote (bytes_in narrow p))).size ≡ given n
            → n ≤ length (cond b (wrote_none 18) (wrote (bytes_in narrow p))).bytes
        further true e = let z : ◌≡◌ {A = ℕ} 0 1 = cc in absurd (omega arith)
        further false e = wrote_size (bytes_in narrow p) n e

-- bytes that are not one packet are 12
pub alone_refused : (w : Width) (s : List ℕ) (n : ℕ) → refused n ≡ alone_in w s → n ≡ 12
alone_refused w s n e = go (read_in w s) e
  where
    tested : (p : Packet) (b : Bool) → refused n ≡ cond b (given p) (refused 12) → n ≡ 12
    tested p true e = cc
    tested p false e = cc

    go : (g : Given Part) → refused n ≡ exactly g (length s) → n ≡ 12
    go (given q) e = tested q.packet (eqb q.used (length s)) e
    go (refused m) e = cc
