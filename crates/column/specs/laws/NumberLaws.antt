-- Laws of numbers in any count of bytes, on which the readings of every width of packet rest: what is written is read back, what is read is written
-- back, and a door's bit in the word is its bit in the bytes. Assumes nothing.
use Rattle.std.specs.Prelude.{ℕ, zero, suc, ◌+◌, ◌-◌, ◌*◌, ◌/◌, ◌%◌, ◌^◌, ◌≤◌, ◌<◌, ◌≡◌, refl, eqb, length, take, drop, get_or}
use Rattle.std.proofs.Common.{sym, ap, ap₂, ◌∙◌, pow-suc, arith, le-leb, length-drop, shr-shr, length-take-le, get_or-drop}
use mathlib.Core.List.{List, [], ◌∷◌, reverse, reverse_aux, reverse-reverse}
use Rattle.std.proofs.Math.Nat.{one-le-pow}
use Rattle.std.proofs.lemmas.List.{length-reverse}
use Rattle.std.proofs.Math.Pow.{field, mod-mod-pow}
use Rattle.column.specs.Sets.{digit, has}
use Rattle.column.specs.Packets.{low_first, low_value, high_first, high_value, word, occupied}

-- ---- lists of bytes

-- every element is a byte; past the end is 0
abbrev pub Bytes : List ℕ → Type 0
Bytes s = (i : ℕ) → get_or s i 0 < 256

pub bytes_take : (n : ℕ) (s : List ℕ) → Bytes s → Bytes (take n s)
bytes_take zero s h i = omega arith
bytes_take (suc n) [] h i = omega arith
bytes_take (suc n) (b ∷ s) h zero = h 0
bytes_take (suc n) (b ∷ s) h (suc i) = bytes_take n s (λ j. h (suc j)) i

pub bytes_drop : (n : ℕ) (s : List ℕ) → Bytes s → Bytes (drop n s)
bytes_drop n s h i = rw get_or-drop (h (n + i))

bytes_reverse : (s : List ℕ) → Bytes s → Bytes (reverse s)
bytes_reverse s h = onto s [] h (λ i. omega arith)
  where
    more : (b : ℕ) (r : List ℕ) → b < 256 → Bytes r → Bytes (b ∷ r)
    more b r l k zero = l
    more b r l k (suc i) = k i

    onto : (s r : List ℕ) → Bytes s → Bytes r → Bytes (reverse_aux s r)
    onto [] r h k = k
    onto (b ∷ s) r h k = onto s (b ∷ r) (λ i. h (suc i)) (more b r (h 0) k)

-- the bytes of a part
module _ (s : List ℕ) (h : Bytes s) where
  pub part_length : (at count : ℕ) → at + count ≤ length s → length (take count (drop at s)) ≡ count
  part_length at count l = length-take-le count (drop at s) (simp length-drop (omega arith))

  pub part_bytes : (at count : ℕ) → Bytes (take count (drop at s))
  part_bytes at count = bytes_take count (drop at s) (bytes_drop at s h)

-- ---- numbers in any count of bytes

pub length_low : (k n : ℕ) → length (low_first k n) ≡ k
unfolding low_first
length_low zero n = refl
length_low (suc k) n = ap suc (length_low k _)

pub length_high : (k n : ℕ) → length (high_first k n) ≡ k
length_high k n = length-reverse (low_first k n) ∙ length_low k n

pub low_value_first : (k n : ℕ) → n < 256 ^ k → low_value (low_first k n) ≡ n
unfolding low_first low_value
low_value_first zero n h = omega arith
low_value_first (suc k) n h = omega (arith, low_value_first k (n / 256) (omega (arith, pow-suc 256 k)))

pub low_first_value : (s : List ℕ) → Bytes s → low_first (length s) (low_value s) ≡ s
unfolding low_first low_value
low_first_value [] h = refl
low_first_value (b ∷ s) h =
    let low : (b + 256 * low_value s) % 256 ≡ b = omega (arith, h 0) in
    let high : (b + 256 * low_value s) / 256 ≡ low_value s = omega (arith, h 0) in
    ap₂ ◌∷◌ low (ap (low_first (length s)) high ∙ low_first_value s (λ i. h (suc i)))

pub low_value_lt : (k : ℕ) (s : List ℕ) → Bytes s → length s ≤ k → low_value s < 256 ^ k
unfolding low_value
low_value_lt k [] h l = one-le-pow k 256 (omega arith)
low_value_lt zero (b ∷ s) h l = absurd (omega arith)
low_value_lt (suc k) (b ∷ s) h l = omega (arith, h 0, low_value_lt k s (λ i. h (suc i)) (omega arith), pow-suc 256 k)

pub high_value_first : (k n : ℕ) → n < 256 ^ k → high_value (high_first k n) ≡ n
high_value_first k n h = ap low_value (reverse-reverse (low_first k n)) ∙ low_value_first k n h

pub high_first_value : (s : List ℕ) → Bytes s → high_first (length s) (high_value s) ≡ s
high_first_value s h =
    ap reverse (ap (λ (k : ℕ). low_first k (high_value s)) (sym (length-reverse s)) ∙ low_first_value (reverse s) (bytes_reverse s h))
    ∙ reverse-reverse s

pub high_value_lt : (k : ℕ) (s : List ℕ) → Bytes s → length s ≤ k → high_value s < 256 ^ k
high_value_lt k s h l = low_value_lt k (reverse s) (bytes_reverse s h) (omega (arith, length-reverse s))

-- what a word can hold
pub word_is : (value : List ℕ → ℕ) (s : List ℕ) → length s ≤ 8 → word value s ≡ value s
word_is value s h = rw (le-leb (length s) 8 h)

-- ---- doors: "Door d, 1 to 64, is occupied when bit (d−1) mod 8, lowest bit 0, of byte (d−1)/8 rounded down is 1"

digit_mod : (k m i : ℕ) → i < k → digit (m % 2 ^ k) i ≡ digit m i
digit_mod k m i h =
    let j = k - 1 - i in
    let e : k ≡ j + 1 + i = omega arith in
    ap (λ (x : ℕ). m % 2 ^ x / 2 ^ i % 2) e ∙ ap (λ (x : ℕ). x % 2) (field m (j + 1) i) ∙ mod-mod-pow (m / 2 ^ i) j 1

door_digit : (k w byte bit : ℕ) → byte < k → bit < 8 → digit (get_or (low_first k w) byte 0) bit ≡ digit w (8 * byte + bit)
unfolding low_first
door_digit zero w byte bit h l = absurd (omega arith)
door_digit (suc k) w zero bit h l =
    let e : bit ≡ 8 * 0 + bit = omega arith in
    digit_mod 8 w bit l ∙ ap (digit w) e
door_digit (suc k) w (suc byte) bit h l =
    let e : 8 + (8 * byte + bit) ≡ 8 * suc byte + bit = omega arith in
    door_digit k (w / 256) byte bit (omega arith) l ∙ ap (λ (x : ℕ). x % 2) (shr-shr w 8 (8 * byte + bit)) ∙ ap (digit w) e

pub door_bit : (k w d : ℕ) → 1 ≤ d → d ≤ 8 * k → occupied (low_first k w) d ≡ has w (d - 1)
door_bit k w d h l =
    let e : 8 * ((d - 1) / 8) + (d - 1) % 8 ≡ d - 1 = omega arith in
    ap (λ (x : ℕ). eqb x 1) (door_digit k w ((d - 1) / 8) ((d - 1) % 8) (omega arith) (omega arith) ∙ ap (digit w) e)
