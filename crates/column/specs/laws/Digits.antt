-- Laws of the binary digits of a number, over any width, and of the lowest that is 1. `omega` reads a digit as a number, so that most goals on sets
-- fall to it. Assumes nothing.
use Rattle.std.specs.Prelude.{ℕ, zero, suc, ◌/◌, ◌%◌, ◌^◌, ◌≤◌, ◌<◌, min, max, ◌≡◌, refl, true, false, ◌⊎◌}
use Rattle.std.proofs.Common.{sym, ap, ◌∙◌, inl, inr, ⊎_elim, pow-suc, div-one, lt_of_lt_of_le, one-add, arith, pow_pos, pow_mono, shr-shr, eq-eqb, ne_eqb, eqb-true}
use Rattle.std.proofs.Math.Nat.{div-eq_of_lt}
use Rattle.std.specs.Int.Bits.{bit_and, bit_or, bit_xor, differ, and_step, or_step, xor_step}
use Rattle.std.proofs.lemmas.Nat.{and_shr, or_shr, xor_shr}
use Rattle.std.specs.Int.Count.{count_trailing_zeros, under}
use Rattle.std.proofs.lemmas.Bool.{eqb-false}
use Rattle.column.specs.Sets.{digit, has, lowest_in}
use Rattle.column.specs.laws.Cases.{compare_cases}

-- ---- one digit

pub digit_lt : (m i : ℕ) → digit m i < 2
digit_lt m i = omega arith

pub digit_cases : (m i : ℕ) → (digit m i ≡ 0) ⊎ (digit m i ≡ 1)
digit_cases m i = go (digit m i) (digit_lt m i)
  where
    go : (b : ℕ) → b < 2 → (b ≡ 0) ⊎ (b ≡ 1)
    go zero h = inl refl
    go (suc zero) h = inr refl
    go (suc (suc b)) h = absurd (omega arith)

pub digit_zero : (m : ℕ) → digit m 0 ≡ m % 2
digit_zero m = ap (λ (x : ℕ). x % 2) (div-one m)

pub digit_suc : (m i : ℕ) → digit m (suc i) ≡ digit (m / 2) i
digit_suc m i = ap (λ (x : ℕ). x % 2) (ap (λ (k : ℕ). m / 2 ^ k) (sym (one-add i)) ∙ sym (shr-shr m 1 i))

pub digit_none : (i : ℕ) → digit 0 i ≡ 0
digit_none i = ap (λ (x : ℕ). x % 2) (div-eq_of_lt (pow_pos i))

pub digit_above : (k m i : ℕ) → m < 2 ^ k → k ≤ i → digit m i ≡ 0
digit_above k m i h le = ap (λ (x : ℕ). x % 2) (div-eq_of_lt (lt_of_lt_of_le h (pow_mono le)))

half_pow : (i : ℕ) → 2 ^ suc i / 2 ≡ 2 ^ i
half_pow i = omega (arith, pow-suc 2 i)

pub digit_single : (i : ℕ) → digit (2 ^ i) i ≡ 1
digit_single zero = refl
digit_single (suc i) = digit_suc (2 ^ suc i) i ∙ ap (λ (x : ℕ). digit x i) (half_pow i) ∙ digit_single i

pub digit_other : (i j : ℕ) → (i ≡ j → ⊥) → digit (2 ^ i) j ≡ 0
digit_other zero zero h = absurd (h refl)
digit_other zero (suc j) h = digit_suc 1 j ∙ digit_none j
digit_other (suc i) zero h = digit_zero (2 ^ suc i) ∙ omega (arith, pow-suc 2 i)
digit_other (suc i) (suc j) h =
    digit_suc (2 ^ suc i) j ∙ ap (λ (x : ℕ). digit x j) (half_pow i) ∙ digit_other i j (λ e. h (ap suc e))

-- ---- the digits of what is joined, shared and flipped

half_or : (x y : ℕ) → bit_or x y % 2 ≡ max (x % 2) (y % 2)
half_or x y = omega (arith, or_step x y)

pub digit_or : (a b i : ℕ) → digit (bit_or a b) i ≡ max (digit a i) (digit b i)
digit_or a b i = ap (λ (x : ℕ). x % 2) (or_shr a b i) ∙ half_or (a / 2 ^ i) (b / 2 ^ i)

half_and : (x y : ℕ) → bit_and x y % 2 ≡ min (x % 2) (y % 2)
half_and x y = omega (arith, and_step x y)

pub digit_and : (a b i : ℕ) → digit (bit_and a b) i ≡ min (digit a i) (digit b i)
digit_and a b i = ap (λ (x : ℕ). x % 2) (and_shr a b i) ∙ half_and (a / 2 ^ i) (b / 2 ^ i)

differ_lt : (x y : ℕ) → x < 2 → y < 2 → differ x y < 2
differ_lt zero zero h k = omega arith
differ_lt zero (suc zero) h k = omega arith
differ_lt (suc zero) zero h k = omega arith
differ_lt (suc zero) (suc zero) h k = omega arith
differ_lt zero (suc (suc e)) h k = absurd (omega arith)
differ_lt (suc zero) (suc (suc e)) h k = absurd (omega arith)
differ_lt (suc (suc d)) e h k = absurd (omega arith)

half_xor : (x y : ℕ) → bit_xor x y % 2 ≡ differ (x % 2) (y % 2)
half_xor x y = omega (arith, xor_step x y, differ_lt (x % 2) (y % 2) (omega arith) (omega arith))

pub or_half : (a b : ℕ) → bit_or a b / 2 ≡ bit_or (a / 2) (b / 2)
or_half a b = omega (arith, or_step a b)

pub xor_half : (a b : ℕ) → bit_xor a b / 2 ≡ bit_xor (a / 2) (b / 2)
xor_half a b = omega (arith, xor_step a b, differ_lt (a % 2) (b % 2) (omega arith) (omega arith))

pub digit_xor : (a b i : ℕ) → digit (bit_xor a b) i ≡ differ (digit a i) (digit b i)
digit_xor a b i = ap (λ (x : ℕ). x % 2) (xor_shr a b i) ∙ half_xor (a / 2 ^ i) (b / 2 ^ i)

-- ---- the same digits, the same number

pub same_digits : (k a b : ℕ) → a < 2 ^ k → b < 2 ^ k → ((i : ℕ) → i < k → digit a i ≡ digit b i) → a ≡ b
same_digits zero a b ha hb e = omega arith
same_digits (suc k) a b ha hb e =
    let low : a % 2 ≡ b % 2 = sym (digit_zero a) ∙ e 0 (omega arith) ∙ digit_zero b in
    let high : a / 2 ≡ b / 2 =
    same_digits k (a / 2) (b / 2) (omega (arith, pow-suc 2 k)) (omega (arith, pow-suc 2 k)) (λ i l. sym (digit_suc a i) ∙ e (suc i) (omega arith) ∙ digit_suc b i) in
    omega arith

-- ---- between a digit and the test

pub has_true : (m i : ℕ) → digit m i ≡ 1 → has m i ≡ true
has_true m i e = eq-eqb (digit m i) 1 e

pub has_false : (m i : ℕ) → digit m i ≡ 0 → has m i ≡ false
has_false m i e = ne_eqb (digit m i) 1 (λ q. omega arith)

pub true_has : (m i : ℕ) → has m i ≡ true → digit m i ≡ 1
true_has m i e = eqb-true (digit m i) 1 e

pub false_has : (m i : ℕ) → has m i ≡ false → digit m i ≡ 0
false_has m i e = ⊎_elim (λ z. z) (λ o. absurd (eqb-false (digit m i) 1 e o)) (digit_cases m i)

lowest_digits : (k m j : ℕ) → j < lowest_in k m → digit m j ≡ 0
unfolding count_trailing_zeros
lowest_digits zero m j h = absurd (omega arith)
lowest_digits (suc k) m j h = go (λ j l. lowest_digits k (m / 2) j l) (m % 2) refl j h
  where
    go : ((j : ℕ) → j < count_trailing_zeros k (m / 2) → digit (m / 2) j ≡ 0)
        → (d : ℕ) → m % 2 ≡ d → (j : ℕ) → j < under d (count_trailing_zeros k (m / 2)) → digit m j ≡ 0
    go ih zero e zero h = digit_zero m ∙ e
    go ih zero e (suc j) h = digit_suc m j ∙ ih j (omega arith)
    go ih (suc d) e j h = absurd (omega arith)

pub lowest_none : (k m j : ℕ) → j < lowest_in k m → has m j ≡ false
lowest_none k m j h = has_false m j (lowest_digits k m j h)

lowest_digit : (k m : ℕ) → lowest_in k m < k → digit m (lowest_in k m) ≡ 1
unfolding count_trailing_zeros
lowest_digit zero m h = absurd (omega arith)
lowest_digit (suc k) m h = go (λ l. lowest_digit k (m / 2) l) (m % 2) refl h
  where
    go : (count_trailing_zeros k (m / 2) < k → digit (m / 2) (count_trailing_zeros k (m / 2)) ≡ 1)
        → (d : ℕ) → m % 2 ≡ d → under d (count_trailing_zeros k (m / 2)) < suc k → digit m (under d (count_trailing_zeros k (m / 2))) ≡ 1
    go ih zero e h = digit_suc m (count_trailing_zeros k (m / 2)) ∙ ih (omega arith)
    go ih (suc d) e h = digit_zero m ∙ omega arith

pub lowest_lt : (k m : ℕ) → m < 2 ^ k → 0 < m → lowest_in k m < k
unfolding count_trailing_zeros
lowest_lt zero m h p = absurd (omega arith)
lowest_lt (suc k) m h p = go (λ a b. lowest_lt k (m / 2) a b) (m % 2) refl
  where
    go : (m / 2 < 2 ^ k → 0 < m / 2 → count_trailing_zeros k (m / 2) < k)
        → (d : ℕ) → m % 2 ≡ d → under d (count_trailing_zeros k (m / 2)) < suc k
    go ih zero e =
        let l : count_trailing_zeros k (m / 2) < k = ih (omega (arith, pow-suc 2 k)) (omega arith) in
        omega arith
    go ih (suc d) e = omega arith

pub lowest_member : (k m : ℕ) → m < 2 ^ k → 0 < m → has m (lowest_in k m) ≡ true
lowest_member k m h p = has_true m (lowest_in k m) (lowest_digit k m (lowest_lt k m h p))

pub lowest_le : (k m j : ℕ) → has m j ≡ true → lowest_in k m ≤ j
lowest_le k m j e = go (compare_cases (lowest_in k m) j)
  where
    go : (lowest_in k m < j) ⊎ ((lowest_in k m ≡ j) ⊎ (j < lowest_in k m)) → lowest_in k m ≤ j
    go (inl p) = omega arith
    go (inr (inl p)) = omega arith
    go (inr (inr p)) = absurd (omega (arith, true_has m j e, false_has m j (lowest_none k m j p)))
