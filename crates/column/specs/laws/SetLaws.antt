-- Laws of sets of columns, over any width: who is a member after each operation, and how many there are.
-- Assumes nothing.
use Prim.Native.Nat.{ℕ, zero, suc, ◌+◌, ◌/◌, ◌%◌, ◌^◌, ◌≤◌, ◌<◌, max}
use Rattle.std.specs.Prelude.{◌≡◌, Bool, not, ◌&&◌, ◌||◌, ◌⊎◌, eqb}
use Rattle.std.proofs.Math.Path.{refl}
use Rattle.std.proofs.Common.{sym, ap, ap₂, ◌∙◌, inl, inr, pow-suc, div-lt_iff_lt-mul, le_refl, lt_of_lt_of_le, arith, pow_mono, eq-eqb, ne_eqb, eqb-true}
use Rattle.std.proofs.Math.Bool.{true, false, cond, and-true, and-false, or-true, or-false, and-or_distrib_left}
use Rattle.std.proofs.Math.Nat.{div-eq_of_lt}
use Rattle.std.specs.Int.Bits.{bit_and, bit_or, bit_xor, differ, or_zero_l, or_zero_r, xor_zero_r, or_add_and}
use Rattle.std.proofs.lemmas.Nat.{and_le_l, and_le_r, or_lt, xor_lt, or_shr}
use Rattle.std.specs.Int.Count.{ones, ones_step}
use Rattle.std.proofs.Math.Pow.{pow_pos, pow-lt}
use Rattle.column.specs.laws.Cases.{compare_cases, equal_cases}
use Rattle.column.specs.Sets.{digit, has, single, join, insert, without, minus, within, selected}
use Rattle.column.specs.laws.Digits.{digit_lt, digit_cases, digit_zero, digit_suc, digit_none, digit_above, digit_single, digit_other, digit_and, digit_or, digit_xor, or_half, xor_half, same_digits, has_true, has_false, true_has, false_has}

-- ---- who is a member

pub has_none : (i : ℕ) → has 0 i ≡ false
has_none i = has_false 0 i (digit_none i)

pub has_above : (k m i : ℕ) → m < 2 ^ k → k ≤ i → has m i ≡ false
has_above k m i h l = has_false m i (digit_above k m i h l)

pub has_join : (a b i : ℕ) → has (join a b) i ≡ (has a i || has b i)
has_join a b i = go (digit_cases a i) (digit_cases b i)
  where
    go : (digit a i ≡ 0) ⊎ (digit a i ≡ 1) → (digit b i ≡ 0) ⊎ (digit b i ≡ 1) → has (join a b) i ≡ (has a i || has b i)
    go (inr p) q = rw (has_true a i p) (has_true (join a b) i (omega (arith, digit_or a b i, digit_lt b i)))
    go (inl p) (inr q) = rw (has_false a i p, has_true b i q) (has_true (join a b) i (omega (arith, digit_or a b i)))
    go (inl p) (inl q) = rw (has_false a i p, has_false b i q) (has_false (join a b) i (omega (arith, digit_or a b i)))

pub has_and : (a b i : ℕ) → has (bit_and a b) i ≡ (has a i && has b i)
has_and a b i = go (digit_cases a i) (digit_cases b i)
  where
    go : (digit a i ≡ 0) ⊎ (digit a i ≡ 1) → (digit b i ≡ 0) ⊎ (digit b i ≡ 1) → has (bit_and a b) i ≡ (has a i && has b i)
    go (inl p) q = rw (has_false a i p) (has_false (bit_and a b) i (omega (arith, digit_and a b i)))
    go (inr p) (inl q) = rw (has_true a i p, has_false b i q) (has_false (bit_and a b) i (omega (arith, digit_and a b i)))
    go (inr p) (inr q) = rw (has_true a i p, has_true b i q) (has_true (bit_and a b) i (omega (arith, digit_and a b i)))

pub has_single : (i j : ℕ) → has (single i) j ≡ eqb j i
has_single i j = go (equal_cases j i)
  where
    go : (j ≡ i) ⊎ (j ≡ i → ⊥) → has (single i) j ≡ eqb j i
    go (inl e) = rw e (has_true (single i) i (digit_single i) ∙ sym (eq-eqb i i refl))
    go (inr n) = has_false (single i) j (digit_other i j (λ e. n (sym e))) ∙ sym (ne_eqb j i n)

pub has_insert : (m i j : ℕ) → has (insert m i) j ≡ (has m j || eqb j i)
has_insert m i j = has_join m (single i) j ∙ ap (λ (b : Bool). has m j || b) (has_single i j)

flipped : (d : ℕ) → d < 2 → differ (max d 0) 0 ≡ d
flipped zero h = refl
flipped (suc zero) h = refl
flipped (suc (suc d)) h = absurd (omega arith)

struck : (d : ℕ) → d < 2 → differ (max d 1) 1 ≡ 0
struck zero h = refl
struck (suc zero) h = refl
struck (suc (suc d)) h = absurd (omega arith)

digit_without : (m i j d : ℕ) → digit (2 ^ i) j ≡ d → digit (without m i) j ≡ differ (max (digit m j) d) d
digit_without m i j d e =
    digit_xor (insert m i) (2 ^ i) j ∙ ap (λ (x : ℕ). differ x (digit (2 ^ i) j)) (digit_or m (2 ^ i) j) ∙ ap (λ (x : ℕ). differ (max (digit m j) x) x) e

digit_without_other : (m i j : ℕ) → (j ≡ i → ⊥) → digit (without m i) j ≡ digit m j
digit_without_other m i j n = digit_without m i j 0 (digit_other i j (λ e. n (sym e))) ∙ flipped (digit m j) (digit_lt m j)

pub has_without : (m i j : ℕ) → has (without m i) j ≡ (has m j && not (eqb j i))
has_without m i j = go (equal_cases j i)
  where
    here : (j ≡ i) → digit (2 ^ i) j ≡ 1
    here e = ap (λ (x : ℕ). digit (2 ^ i) x) e ∙ digit_single i

    go : (j ≡ i) ⊎ (j ≡ i → ⊥) → has (without m i) j ≡ (has m j && not (eqb j i))
    go (inl e) =
        has_false (without m i) j (digit_without m i j 1 (here e) ∙ struck (digit m j) (digit_lt m j))
        ∙ sym (and-false (has m j)) ∙ ap (λ (b : Bool). has m j && not b) (sym (eq-eqb j i e))
    go (inr n) =
        ap (λ (x : ℕ). eqb x 1) (digit_without_other m i j n)
        ∙ sym (and-true (has m j)) ∙ ap (λ (b : Bool). has m j && not b) (sym (ne_eqb j i n))

pub has_minus : (a b j : ℕ) → has (minus a b) j ≡ (has a j && not (has b j))
has_minus a b j = go (digit_cases a j) (digit_cases b j)
  where
    is : digit (minus a b) j ≡ differ (max (digit a j) (digit b j)) (digit b j)
    is = digit_xor (join a b) b j ∙ ap (λ (x : ℕ). differ x (digit b j)) (digit_or a b j)

    at : (x y : ℕ) → digit a j ≡ x → digit b j ≡ y → digit (minus a b) j ≡ differ (max x y) y
    at x y e k = is ∙ ap₂ (λ (u v : ℕ). differ (max u v) v) e k

    go : (digit a j ≡ 0) ⊎ (digit a j ≡ 1) → (digit b j ≡ 0) ⊎ (digit b j ≡ 1) → has (minus a b) j ≡ (has a j && not (has b j))
    go (inl x) (inl y) = has_false _ j (at 0 0 x y) ∙ sym (ap (λ (u : Bool). u && not (has b j)) (has_false a j x))
    go (inl x) (inr y) = has_false _ j (at 0 1 x y) ∙ sym (ap (λ (u : Bool). u && not (has b j)) (has_false a j x))
    go (inr x) (inl y) = has_true _ j (at 1 0 x y) ∙ sym (ap₂ (λ (u v : Bool). u && not v) (has_true a j x) (has_false b j y))
    go (inr x) (inr y) = has_false _ j (at 1 1 x y) ∙ sym (ap₂ (λ (u v : Bool). u && not v) (has_true a j x) (has_true b j y))

pub has_without_self : (m i : ℕ) → has (without m i) i ≡ false
has_without_self m i = has_without m i i ∙ ap (λ (b : Bool). has m i && not b) (eq-eqb i i refl) ∙ and-false (has m i)

pub has_without_other : (m i j : ℕ) → (j ≡ i → ⊥) → has (without m i) j ≡ has m j
has_without_other m i j n = has_without m i j ∙ ap (λ (b : Bool). has m j && not b) (ne_eqb j i n) ∙ and-true (has m j)

-- ---- sets of columns below a width

pub single_lt : {k i : ℕ} → i < k → single i < 2 ^ k
single_lt h = pow-lt h

pub join_lt : (k a b : ℕ) → a < 2 ^ k → b < 2 ^ k → join a b < 2 ^ k
join_lt k a b ha hb = or_lt k a b ha hb

pub insert_lt : (k m i : ℕ) → m < 2 ^ k → i < k → insert m i < 2 ^ k
insert_lt k m i h l = or_lt k m (2 ^ i) h (pow-lt l)

pub without_lt : (k m i : ℕ) → m < 2 ^ k → i < k → without m i < 2 ^ k
without_lt k m i h l = xor_lt k (insert m i) (2 ^ i) (insert_lt k m i h l) (pow-lt l)

pub within_lt : (m n : ℕ) → within m n ≡ true → m < 2 ^ n
within_lt m n e =
    let z : m / 2 ^ n ≡ 0 = eqb-true (m / 2 ^ n) 0 e in
    let h : m / 2 ^ n < 1 = omega arith in
    omega (arith, (div-lt_iff_lt-mul (pow_pos n)).0 h)

pub lt_within : (m n : ℕ) → m < 2 ^ n → within m n ≡ true
lt_within m n h = eq-eqb (m / 2 ^ n) 0 (div-eq_of_lt h)

or_none : (a b : ℕ) → eqb (bit_or a b) 0 ≡ (eqb a 0 && eqb b 0)
or_none zero b = ap (λ (x : ℕ). eqb x 0) (or_zero_l b)
or_none (suc a) b =
    ne_eqb (bit_or (suc a) b) 0 (λ e. omega (arith, or_add_and (suc a) b, and_le_r (suc a) b))
    ∙ ap (λ (x : Bool). x && eqb b 0) (sym (ne_eqb (suc a) 0 (λ e. omega arith)))

pub within_join : (a b n : ℕ) → within (join a b) n ≡ (within a n && within b n)
within_join a b n = ap (λ (x : ℕ). eqb x 0) (or_shr a b n) ∙ or_none (a / 2 ^ n) (b / 2 ^ n)

pub member_lt : (n m i : ℕ) → m < 2 ^ n → has m i ≡ true → i < n
member_lt n m i h e = go (compare_cases i n)
  where
    go : (i < n) ⊎ ((i ≡ n) ⊎ (n < i)) → i < n
    go (inl p) = p
    go (inr (inl p)) = absurd (omega (arith, true_has m i e, digit_above n m i h (omega arith)))
    go (inr (inr p)) = absurd (omega (arith, true_has m i e, digit_above n m i h (omega arith)))

pub member_pos : (m i : ℕ) → has m i ≡ true → 0 < m
member_pos zero i e = absurd (omega (arith, true_has 0 i e, digit_none i))
member_pos (suc m) i e = omega arith

-- the same members, the same set
pub same_members : (k a b : ℕ) → a < 2 ^ k → b < 2 ^ k → ((i : ℕ) → i < k → has a i ≡ has b i) → a ≡ b
same_members k a b ha hb e = same_digits k a b ha hb (λ i l. go i l (digit_cases b i))
  where
    go : (i : ℕ) → i < k → (digit b i ≡ 0) ⊎ (digit b i ≡ 1) → digit a i ≡ digit b i
    go i l (inl p) = false_has a i (e i l ∙ has_false b i p) ∙ sym p
    go i l (inr p) = true_has a i (e i l ∙ has_true b i p) ∙ sym p

pub no_members : (k m : ℕ) → m < 2 ^ k → ((i : ℕ) → i < k → has m i ≡ false) → m ≡ 0
no_members k m h e = same_members k m 0 h (pow_pos k) (λ i l. e i l ∙ sym (has_none i))

-- striking out one that is no member changes nothing
pub without_none : (k m i : ℕ) → m < 2 ^ k → has m i ≡ false → without m i ≡ m
without_none k m i h e =
    let wide = k + i + 1 in
    let below : k ≤ wide = omega arith in
    let l : m < 2 ^ wide = lt_of_lt_of_le h (pow_mono below) in
    same_members wide (without m i) m (without_lt wide m i l (omega arith)) l (λ j _. go j (equal_cases j i))
  where
    go : (j : ℕ) → (j ≡ i) ⊎ (j ≡ i → ⊥) → has (without m i) j ≡ has m j
    go j (inl z) = ap (has (without m i)) z ∙ has_without_self m i ∙ sym (ap (has m) z ∙ e)
    go j (inr z) = has_without_other m i j z

-- a member that is struck out and comes in again
pub insert_without : (k m i : ℕ) → m < 2 ^ k → i < k → has m i ≡ true → insert (without m i) i ≡ m
insert_without k m i h l e =
    same_members k (insert (without m i) i) m (insert_lt k (without m i) i (without_lt k m i h l) l) h (λ j _. has_insert (without m i) i j ∙ go j (equal_cases j i))
  where
    go : (j : ℕ) → (j ≡ i) ⊎ (j ≡ i → ⊥) → (has (without m i) j || eqb j i) ≡ has m j
    go j (inl z) =
        ap (λ (b : Bool). has (without m i) j || b) (eq-eqb j i z) ∙ or-true (has (without m i) j) ∙ sym (ap (has m) z ∙ e)
    go j (inr z) = ap (λ (b : Bool). has (without m i) j || b) (ne_eqb j i z) ∙ or-false (has (without m i) j) ∙ has_without_other m i j z

-- what is below a width and has its members below a smaller one is below that
pub members_lt : (k n m : ℕ) → m < 2 ^ k → ((i : ℕ) → has m i ≡ true → i < n) → m < 2 ^ n
members_lt k zero m h f =
    let z : m ≡ 0 = no_members k m h (λ i l. none i) in
    omega arith
  where
    none : (i : ℕ) → has m i ≡ false
    none i = go (has m i) refl
      where
        go : (b : Bool) → has m i ≡ b → b ≡ false
        go true e = absurd (omega (arith, f i e))
        go false e = refl
members_lt zero (suc n) m h f = omega (arith, pow_pos (suc n))
members_lt (suc k) (suc n) m h f =
    let half : m / 2 < 2 ^ n = members_lt k n (m / 2) (omega (arith, pow-suc 2 k)) (λ i e. omega (arith, f (suc i) (ap (λ (x : ℕ). eqb x 1) (digit_suc m i) ∙ e))) in
    omega (arith, pow-suc 2 n)

-- what a shares with m and i: what it shares with m, and i where it has i
pub and_insert : (k a m i : ℕ) → a < 2 ^ k → bit_and a (insert m i) ≡ cond (has a i) (insert (bit_and a m) i) (bit_and a m)
and_insert k a m i h = go (has a i) refl
  where
    lt : (b : ℕ) → bit_and a b < 2 ^ k
    lt b = omega (arith, and_le_l a b)

    at_i : (b : Bool) → has a i ≡ b → (j : ℕ) (z : Bool) → eqb j i ≡ z → (has a j && z) ≡ (b && z)
    at_i b p j true e = and-true (has a j) ∙ ap (has a) (eqb-true j i e) ∙ p ∙ sym (and-true b)
    at_i b p j false e = and-false (has a j) ∙ sym (and-false b)

    shared : (b : Bool) → has a i ≡ b → (j : ℕ) → has (bit_and a (insert m i)) j ≡ (has (bit_and a m) j || b && eqb j i)
    shared b p j =
        has_and a (insert m i) j ∙ ap (λ (x : Bool). has a j && x) (has_insert m i j)
        ∙ and-or_distrib_left (has a j) (has m j) (eqb j i)
        ∙ ap₂ (λ (x y : Bool). x || y) (sym (has_and a m j)) (at_i b p j (eqb j i) refl)

    go : (b : Bool) → has a i ≡ b → bit_and a (insert m i) ≡ cond b (insert (bit_and a m) i) (bit_and a m)
    go true p =
        same_members k _ _ (lt (insert m i)) (insert_lt k (bit_and a m) i (lt m) (member_lt k a i h p))
        (λ j l. shared true p j ∙ sym (has_insert (bit_and a m) i j))
    go false p = same_members k _ _ (lt (insert m i)) (lt m) (λ j l. shared false p j ∙ or-false (has (bit_and a m) j))

-- ---- how many members: striking one out leaves one less

half_without : (m i : ℕ) → without m (suc i) / 2 ≡ without (m / 2) i
half_without m i = xor_half (insert m (suc i)) (2 ^ suc i) ∙ ap₂ bit_xor (or_half m (2 ^ suc i) ∙ ap (bit_or (m / 2)) (half_pow i)) (half_pow i)
  where
    half_pow : (i : ℕ) → 2 ^ suc i / 2 ≡ 2 ^ i
    half_pow i = omega (arith, pow-suc 2 i)

pub ones_without : (i m : ℕ) → has m i ≡ true → ones (without m i) + 1 ≡ ones m
ones_without zero m e =
    let b : m % 2 ≡ 1 = sym (digit_zero m) ∙ true_has m 0 e in
    let l : without m 0 % 2 ≡ 0 = sym (digit_zero (without m 0)) ∙ false_has (without m 0) 0 (has_without_self m 0) in
    let h : without m 0 / 2 ≡ m / 2 = xor_half (insert m 0) 1 ∙ ap (λ (x : ℕ). bit_xor x 0) (or_half m 1 ∙ or_zero_r (m / 2)) ∙ xor_zero_r (m / 2) in
    omega (arith, ones_step m, ones_step (without m 0), ap ones h)
ones_without (suc i) m e =
    let b : has (m / 2) i ≡ true = ap (λ (x : ℕ). eqb x 1) (sym (digit_suc m i)) ∙ e in
    let l : without m (suc i) % 2 ≡ m % 2 =
    sym (digit_zero (without m (suc i))) ∙ digit_without_other m (suc i) 0 (λ q. omega arith) ∙ digit_zero m in
    omega (arith, ones_step m, ones_step (without m (suc i)), ap ones (half_without m i), ones_without i (m / 2) b)

-- ---- those below n that pass a test

module _ (f : ℕ → Bool) where
  pub selected_lt : (n k : ℕ) → n ≤ k → selected f n < 2 ^ k
  unfolding selected
  selected_lt zero k h = pow_pos k
  selected_lt (suc n) k h = go (f n) (selected_lt n k (omega arith))
    where
      go : (b : Bool) → selected f n < 2 ^ k → cond b (insert (selected f n) n) (selected f n) < 2 ^ k
      go true ih = insert_lt k (selected f n) n ih h
      go false ih = ih

  pub selected_has : (n j : ℕ) → j < n → has (selected f n) j ≡ f j
  unfolding selected
  selected_has zero j h = absurd (omega arith)
  selected_has (suc n) j h = go (λ l. selected_has n j l) (f n) refl (equal_cases j n)
    where
      last : has (selected f n) n ≡ false
      last = has_above n (selected f n) n (selected_lt n n (le_refl n)) (le_refl n)

      go : (j < n → has (selected f n) j ≡ f j) → (b : Bool) → f n ≡ b → (j ≡ n) ⊎ (j ≡ n → ⊥)
          → has (cond b (insert (selected f n) n) (selected f n)) j ≡ f j
      go ih true e (inl p) = rw p (has_insert (selected f n) n n ∙ ap (λ (x : Bool). has (selected f n) n || x) (eq-eqb n n refl) ∙ ap (λ (x : Bool). x || true) last ∙ sym e)
      go ih true e (inr q) =
          has_insert (selected f n) n j ∙ ap (λ (x : Bool). has (selected f n) j || x) (ne_eqb j n q) ∙ or-false (has (selected f n) j) ∙ ih (omega arith)
      go ih false e (inl p) = rw p (last ∙ sym e)
      go ih false e (inr q) = ih (omega arith)
