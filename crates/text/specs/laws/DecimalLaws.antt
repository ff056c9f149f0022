-- The digits of a number, as `io` makes them and as `decimal` says them.
-- Assumes nothing.
use Rattle.std.specs.Prelude.{ℕ, zero, suc, ◌+◌, ◌-◌, ◌/◌, ◌%◌, ◌^◌, ◌≤◌, ◌<◌, ◌≡◌, Bool, true, false, cond, [], ◌∷◌, ◌++◌, ltb, length}
use Rattle.std.proofs.Common.{ap, ap₂, pow-suc, mod-eq_of_lt, zero-lt-suc, le_of_suc-le-suc, lt_of_not-le, sub-one, arith, length-append, lt-ltb, le-ltb}
use Rattle.std.proofs.Math.Nat.{one-le-pow, pow-le-pow_right}
use Rattle.io.specs.Digits.{hex_digit_ascii, last_digits, IsDigitCount}
use Rattle.text.specs.Text.{decimal_in, decimal, refused_text}

glyph_small : (n : ℕ) → n < 10 → hex_digit_ascii n ≡ 48 + n
glyph_small n h = rw (lt-ltb n 10 h)

-- twenty digits hold every number of 64 bits
pub few_digits : (n k : ℕ) → n < 2 ^ 64 → IsDigitCount 10 1 n k → k ≤ 20
few_digits n k h f = le_of_suc-le-suc (lt_of_not-le large)
  where
    large : 21 ≤ k → ⊥
    large l =
        let le : 20 ≤ k - 1 = omega arith in
        let high : 10 ^ 20 ≤ 10 ^ (k - 1) = pow-le-pow_right (zero-lt-suc 9) le in
        omega (arith, f.2 (omega arith))

-- as few digits as hold the number are the digits that `decimal_in` gives it, where its width has room for them
pub digits_decimal : (width k n : ℕ) → k ≤ width → IsDigitCount 10 1 n k → last_digits 10 k n ≡ decimal_in width n
unfolding decimal_in
digits_decimal width zero n h f = absurd (omega (arith, f.0))
digits_decimal zero (suc k) n h f = absurd (omega arith)
digits_decimal (suc width) (suc zero) n h f =
    let small : n < 10 = omega (arith, f.1) in
    rw (lt-ltb n 10 small, mod-eq_of_lt small) (ap (λ d. d ∷ []) (glyph_small n small))
digits_decimal (suc width) (suc (suc k)) n h f =
    let low : 10 ^ suc k ≤ n = rw (sub-one (suc (suc k))) at (f.2 (omega arith)) in
    let large : 10 ≤ n = omega (arith, pow-suc 10 k, one-le-pow k 10 (zero-lt-suc 9)) in
    let less : n / 10 < 10 ^ suc k = omega (arith, f.1, pow-suc 10 (suc k)) in
    let more : 1 < suc k → 10 ^ (suc k - 1) ≤ n / 10 = λ l. rw (sub-one (suc k)) (omega (arith, pow-suc 10 k)) in
    let front = digits_decimal width (suc k) (n / 10) (omega arith) (omega arith, less, more) in
    rw (le-ltb n 10 large) (ap₂ (λ l d. l ++ (d ∷ [])) front (glyph_small (n % 10) (omega arith)))

-- ---- short numbers

pub decimal_one : (n : ℕ) → n < 10 → decimal n ≡ (48 + n) ∷ []
unfolding decimal_in
decimal_one n h = rw (lt-ltb n 10 h)

pub decimal_two : (n : ℕ) → 10 ≤ n → n < 100 → decimal n ≡ ((48 + n / 10) ∷ []) ++ ((48 + n % 10) ∷ [])
unfolding decimal_in
decimal_two n low high = rw (le-ltb n 10 low, lt-ltb (n / 10) 10 (omega arith))

-- ---- how many digits

pub decimal_length : (width k n : ℕ) → n < 10 ^ suc k → length (decimal_in width n) ≤ suc k
unfolding decimal_in
decimal_length zero k n h = omega arith
decimal_length (suc width) zero n h = rw (lt-ltb n 10 (omega arith)) (omega arith)
decimal_length (suc width) (suc k) n h = go (ltb n 10) (decimal_length width k (n / 10) (omega (arith, pow-suc 10 (suc k))))
  where
    go : (b : Bool) → length (decimal_in width (n / 10)) ≤ suc k
        → length (cond b ((48 + n) ∷ []) (decimal_in width (n / 10) ++ ((48 + n % 10) ∷ []))) ≤ suc (suc k)
    go true ih = omega arith
    go false ih = simp length-append (omega (arith, ih))

pub decimal_short : (n : ℕ) → n < 100 → length (decimal n) ≤ 2
decimal_short n h = decimal_length 20 1 n (omega (arith, h))

pub decimal_some : (n : ℕ) → 1 ≤ length (decimal n)
unfolding decimal_in
decimal_some n = go (ltb n 10)
  where
    go : (b : Bool) → 1 ≤ length (cond b ((48 + n) ∷ []) (decimal_in 19 (n / 10) ++ ((48 + n % 10) ∷ [])))
    go true = omega arith
    go false = simp length-append (omega arith)

pub refused_length : (n : ℕ) → n < 256 → length (refused_text n) ≤ 12
refused_length n h = simp length-append (omega (arith, decimal_length 20 2 n (omega arith)))
