-- What a writer leaves, and the laws by which writers follow one another.
use Rattle.std.specs.Prelude.{ℕ, zero, suc, ◌+◌, ◌-◌, ◌≤◌, ◌<◌, min, ◌≡◌, refl, Bool, true, false, List, [], ◌∷◌, ◌++◌, leb, length, get_or, set, take, drop}
use Rattle.std.proofs.Common.{sym, ap, ap₂, ◌∙◌, append_assoc, append-nil, add-zero, add_assoc, add-one, arith, length-take, length-drop, length-append, take-append-drop, drop_of_length-le, take_at, drop-drop, length-take-le, take_all, take-suc, leb-true, leb-false}
use Rattle.std.proofs.lemmas.List.{set_split}
use Rattle.std.proofs.Math.Seq.{take-nil, drop-append-add}
use Rattle.text.specs.Text.{written, Writes, Puts, fitting}

-- ---- what is written

pub written_none : (old : List ℕ) (at : ℕ) → written old at [] ≡ old
unfolding written
written_none old at = simp add-zero (take-append-drop at old)

pub written_one : (old : List ℕ) (at b : ℕ) → at < length old → set old at b ≡ written old at (b ∷ [])
unfolding written
written_one old at b h = rw (set_split old at b h, add-one at)

pub written_length : (old : List ℕ) (at : ℕ) (w : List ℕ) → at + length w ≤ length old → length (written old at w) ≡ length old
unfolding written
written_length old at w h = simp (length-append, length-take, length-drop) (omega arith)

-- two texts, one after the other
pub written_more : (old : List ℕ) (at : ℕ) (v w : List ℕ) → at + (length v + length w) ≤ length old
    → written (written old at v) (at + length v) w ≡ written old at (v ++ w)
unfolding written
written_more old at v w h =
    let X = take at old ++ v in
    let R = drop (at + length v) old in
    let n : length X ≡ at + length v = simp (length-append, length-take) (omega arith) in
    let whole : take at old ++ (v ++ R) ≡ X ++ R = sym (append_assoc (take at old) v R) in
    let rest : drop (at + length v + length w) (X ++ R) ≡ drop (at + (length v + length w)) old =
    ap (λ k. drop (k + length w) (X ++ R)) (sym n)
    ∙ drop-append-add X R (length w)
    ∙ drop-drop (length w) (at + length v) old
    ∙ ap (λ k. drop k old) (add_assoc at (length v) (length w)) in
    rw (whole, take_at X R (at + length v) n, rest, length-append v w)
    (simp append_assoc)

-- one byte more of a text
pub written_next : (old : List ℕ) (at : ℕ) (w : List ℕ) (i : ℕ) → i < length w → at + i < length old
    → set (written old at (take i w)) (at + i) (get_or w i 0) ≡ written old at (take (i + 1) w)
written_next old at w i h l =
    let n : length (take i w) ≡ i = length-take-le i w (omega arith) in
    let L : length (written old at (take i w)) ≡ length old = written_length old at (take i w) (omega arith) in
    written_one (written old at (take i w)) (at + i) (get_or w i 0) (omega arith)
    ∙ ap (λ k. written (written old at (take i w)) (at + k) (get_or w i 0 ∷ [])) (sym n)
    ∙ written_more old at (take i w) (get_or w i 0 ∷ []) (omega arith)
    ∙ ap (λ x. written old at x) (sym (rw add-one (take-suc w i 0 h)))

-- what is first after a text was written at 0
pub written_taken : (old w : List ℕ) → take (length w) (written old 0 w) ≡ w
unfolding written
written_taken old w = take_at w (drop (0 + length w) old) (length w) refl

-- what is written into the part from a place on, said of the whole
pub written_part : (old : List ℕ) (at : ℕ) (w : List ℕ)
    → take at old ++ (written (take (length old - at) (drop at old)) 0 w ++ drop (length old - at) (drop at old)) ≡ written old at w
unfolding written
written_part old at w =
    let k : length (drop at old) ≤ length old - at = simp length-drop (omega arith) in
    let z : 0 + length w ≡ length w = omega arith in
    rw (take_all (length old - at) (drop at old) k, drop_of_length-le (drop at old) k, z, drop-drop (length w) at old)
    (simp append-nil)

-- ---- writers

pub writes_none : (old : List ℕ) (at : ℕ) → Writes at old old at []
writes_none old at = record { place = sym (add-zero at); left = sym (written_none old at) }

-- a text that is written from a place within the buffer ends within it
pub writes_within : {r : ℕ} {new old : List ℕ} {at : ℕ} {w : List ℕ} → at ≤ length old → Writes r new old at w → r ≤ length new
unfolding written
writes_within {old} {at} {w} room h =
    let rest = w ++ drop (at + length w) old in
    omega (
      arith,
      room,
      h.place,
      ap length h.left,
      length-append (take at old) rest,
      length-append w (drop (at + length w) old),
      length-take-le at old room,
    )

-- a writer that begins where another ended
pub writes_more : {m r : ℕ} {new mid old : List ℕ} {at : ℕ} (v w : List ℕ) → at + length (v ++ w) ≤ length old
    → Writes m mid old at v → Writes r new mid m w → Writes r new old at (v ++ w)
writes_more {m} {r} {new} {mid} {old} {at} v w room first next = record {
  place = omega (arith, first.place, next.place, length-append v w);
  left =
      next.left
      ∙ ap₂ (λ l k. written l k w) first.left first.place
      ∙ written_more old at v w (omega (arith, room, length-append v w));
}

-- one byte more, stored after what was written
pub writes_byte : {r : ℕ} {new old : List ℕ} {at : ℕ} (w : List ℕ) (b : ℕ) → at + length w < length old → Writes r new old at w
    → Writes (r + 1) (set new r b) old at (w ++ (b ∷ []))
writes_byte {r} {new} {old} {at} w b room h =
    let kept : length new ≡ length old = ap length h.left ∙ written_length old at w (omega (arith, room)) in
    let within : r < length new = omega (arith, room, kept, h.place) in
    writes_more w (b ∷ []) (omega (arith, room, length-append w (b ∷ []))) h (record { place = refl; left = written_one new r b within })

-- ---- writers that stop where the room ends

take_both : (n : ℕ) (v w : List ℕ) → take n (v ++ w) ≡ take n v ++ take (n - length v) w
take_both zero v w = let none : 0 - length v ≡ 0 = omega arith in sym (ap (λ k. take k w) none)
take_both (suc n) [] w = let whole : suc n - 0 ≡ suc n = omega arith in ap (λ k. take k w) (sym whole)
take_both (suc n) (x ∷ v) w =
    let fewer : suc n - suc (length v) ≡ n - length v = omega arith in
    ap (λ (l : List ℕ). x ∷ l) (take_both n v w) ∙ ap (λ k. x ∷ (take n v ++ take k w)) (sym fewer)

-- where all has room, all is written
pub puts_all : {r : ℕ} {new old : List ℕ} {at : ℕ} (w : List ℕ) → at + length w ≤ length old → Puts r new old at w → Writes r new old at w
puts_all {old} {at} w room h = rw (take_all (length old - at) w (omega (arith, room))) at h

pub writes_puts : {r : ℕ} {new old : List ℕ} {at : ℕ} (w : List ℕ) → at + length w ≤ length old → Writes r new old at w → Puts r new old at w
writes_puts {old} {at} w room h = rw (take_all (length old - at) w (omega (arith, room))) h

pub puts_none : (old : List ℕ) (at : ℕ) → Puts at old old at []
puts_none old at = rw (take-nil (length old - at)) (writes_none old at)

-- from the end of the buffer on nothing is written
module _ (old : List ℕ) (at : ℕ) (full : length old ≤ at) (w : List ℕ) where
  none_fits : fitting old at w ≡ []
  none_fits = let none : length old - at ≡ 0 = omega (arith, full) in ap (λ k. take k w) none

  pub puts_past : Puts at old old at w
  puts_past = rw none_fits (writes_none old at)

  past_puts : {r : ℕ} {new : List ℕ} → Puts r new old at w → (r ≡ at) × (new ≡ old)
  past_puts h = let e = rw none_fits at h in (e.place ∙ add-zero at, e.left ∙ written_none old at)

pub puts_length : {r : ℕ} {new old : List ℕ} {at : ℕ} (w : List ℕ) → Puts r new old at w → length new ≡ length old
unfolding written
puts_length w h = ap length h.left ∙ simp (length-append, length-take, length-drop) (omega arith)

-- a writer that begins where another ended
pub puts_more : {m r : ℕ} {new mid old : List ℕ} {at : ℕ} (v w : List ℕ)
    → Puts m mid old at v → Puts r new mid m w → Puts r new old at (v ++ w)
puts_more {m} {r} {new} {mid} {old} {at} v w first next = go (leb at (length old)) refl
  where
    kept : length mid ≡ length old
    kept = puts_length v first

    ended : m ≡ at + min (length old - at) (length v)
    ended = first.place ∙ ap (λ k. at + k) (length-take (length old - at) v)

    text : fitting old at (v ++ w) ≡ fitting old at v ++ fitting mid m w
    text =
        let left : length old - at - length v ≡ length mid - m = omega (arith, kept, ended) in
        take_both (length old - at) v w ∙ ap (λ k. fitting old at v ++ take k w) left

    go : (b : Bool) → leb at (length old) ≡ b → Puts r new old at (v ++ w)
    go true h =
        let within = leb-true at (length old) h in
        rw text
        (writes_more (fitting old at v) (fitting mid m w)
        (omega (arith, within, kept, ended, length-append (fitting old at v) (fitting mid m w), length-take (length old - at) v, length-take (length mid - m) w))
        first next)
    go false h =
        let past : length old ≤ at = omega (arith, leb-false at (length old) h) in
        let one = past_puts old at past v first in
        let two = past_puts mid m (omega (arith, kept, one.0, past)) w next in
        rw (two.0 ∙ one.0, two.1 ∙ one.1) (puts_past old at past (v ++ w))
