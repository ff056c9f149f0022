-- The library's numbers of 2, 4 and 8 bytes are those of the blocks. Assumes nothing.
use Rattle.std.specs.Prelude.{ℕ, zero, suc, ◌+◌, ◌/◌, ◌%◌, ◌^◌, ◌≡◌, refl, List, [], ◌∷◌, ◌++◌, length, Bool, true, false}
use Rattle.std.specs.Int.{w16, w32, w64, byte_at, bytes_low_first, from_be_bytes, from_le_bytes, to_be_bytes, to_le_bytes}
use Rattle.std.proofs.Common.{sym, ap, ap₂, ◌∙◌, arith}
use native.Mathlib.Numerals.{unary_clauses}
use mir.Val.{bool_byte}
use Rattle.std.proofs.Math.Nat.{div-one, div-div-eq-div-mul}
use Rattle.column.specs.Packets.{low_first, low_value, high_first, high_value}
use Rattle.column.specs.laws.NumberLaws.{length_high, length_low}
use Rattle.text.specs.Text.{written}
use Rattle.firmware.specs.Blocks.{bit}
use Rattle.firmware.specs.laws.FillLaws.{Begun, more}

-- ---- read

pub high_value_2 : (s : List ℕ) → length s ≡ 2 → from_be_bytes w16 s ≡ high_value s
unfolding low_value
high_value_2 (a ∷ b ∷ []) l = omega arith
high_value_2 [] l = absurd (omega arith)
high_value_2 (a ∷ []) l = absurd (omega arith)
high_value_2 (a ∷ b ∷ c ∷ s) l = absurd (omega arith)

pub high_value_4 : (s : List ℕ) → length s ≡ 4 → from_be_bytes w32 s ≡ high_value s
unfolding low_value
high_value_4 (a ∷ b ∷ c ∷ d ∷ []) l = omega arith
high_value_4 [] l = absurd (omega arith)
high_value_4 (a ∷ []) l = absurd (omega arith)
high_value_4 (a ∷ b ∷ []) l = absurd (omega arith)
high_value_4 (a ∷ b ∷ c ∷ []) l = absurd (omega arith)
high_value_4 (a ∷ b ∷ c ∷ d ∷ e ∷ s) l = absurd (omega arith)

pub low_value_8 : (s : List ℕ) → length s ≡ 8 → from_le_bytes w64 s ≡ low_value s
unfolding low_value
low_value_8 (a ∷ b ∷ c ∷ d ∷ e ∷ f ∷ g ∷ h ∷ []) l = omega arith
low_value_8 [] l = absurd (omega arith)
low_value_8 (a ∷ []) l = absurd (omega arith)
low_value_8 (a ∷ b ∷ []) l = absurd (omega arith)
low_value_8 (a ∷ b ∷ c ∷ []) l = absurd (omega arith)
low_value_8 (a ∷ b ∷ c ∷ d ∷ []) l = absurd (omega arith)
low_value_8 (a ∷ b ∷ c ∷ d ∷ e ∷ []) l = absurd (omega arith)
low_value_8 (a ∷ b ∷ c ∷ d ∷ e ∷ f ∷ []) l = absurd (omega arith)
low_value_8 (a ∷ b ∷ c ∷ d ∷ e ∷ f ∷ g ∷ []) l = absurd (omega arith)
low_value_8 (a ∷ b ∷ c ∷ d ∷ e ∷ f ∷ g ∷ h ∷ i ∷ s) l = absurd (omega arith)

-- ---- written

one_byte : (i n : ℕ) → byte_at i n ≡ (n / 256 ^ i) % 256
one_byte zero n = ap (λ (k : ℕ). k % 256) (sym (div-one n))
one_byte (suc i) n = refl

bytes_first : (k i n : ℕ) → bytes_low_first i k n ≡ low_first k (n / 256 ^ i)
unfolding low_first
bytes_first zero i n = refl
bytes_first (suc k) i n =
    let next : n / 256 ^ suc i ≡ n / 256 ^ i / 256 = simp unary_clauses (sym (div-div-eq-div-mul n (256 ^ i) 256)) in
    ap₂ (λ (b : ℕ) (s : List ℕ). b ∷ s) (one_byte i n) (bytes_first k (suc i) n ∙ ap (low_first k) next)

pub low_first_8 : (n : ℕ) → to_le_bytes w64 n ≡ low_first 8 n
low_first_8 n = bytes_first 8 0 n ∙ ap (low_first 8) (div-one n)

pub high_first_2 : (n : ℕ) → to_be_bytes w16 n ≡ high_first 2 n
unfolding low_first
high_first_2 n = refl

pub high_first_4 : (n : ℕ) → to_be_bytes w32 n ≡ high_first 4 n
unfolding low_first
high_first_4 n =
    let second : n / 256 ^ 2 ≡ n / 256 / 256 = sym (div-div-eq-div-mul n 256 256) in
    let third : n / 256 ^ 3 ≡ n / 256 / 256 / 256 = sym (ap (λ (k : ℕ). k / 256) (div-div-eq-div-mul n 256 256) ∙ div-div-eq-div-mul n 65536 256) in
    ap₂ (λ (x y : ℕ). x % 256 ∷ y % 256 ∷ n / 256 % 256 ∷ n % 256 ∷ []) third second

pub ruleset read_numbers = (high_value_2, high_value_4, low_value_8)

-- ---- and put behind what is filled already

module _ {now new done old w : List ℕ} {k : ℕ} (n : ℕ) (b : Begun now done k old) where
  pub doors_more : w ≡ to_le_bytes w64 n → new ≡ written now k w → Begun new (done ++ low_first 8 n) (k + 8) old
  doors_more e put = more (low_first 8 n) 8 b (put ∙ ap (written now k) (e ∙ low_first_8 n)) (length_low 8 n)

  pub number_more : w ≡ to_be_bytes w32 n → new ≡ written now k w → Begun new (done ++ high_first 4 n) (k + 4) old
  number_more e put = more (high_first 4 n) 4 b (put ∙ ap (written now k) (e ∙ high_first_4 n)) (length_high 4 n)

  pub set_more : w ≡ to_be_bytes w16 n → new ≡ written now k w → Begun new (done ++ high_first 2 n) (k + 2) old
  set_more e put = more (high_first 2 n) 2 b (put ∙ ap (written now k) (e ∙ high_first_2 n)) (length_high 2 n)

-- ---- a flag

pub one_bit : (b : Bool) → bool_byte b ≡ bit b
one_bit true = refl
one_bit false = refl
