-- How many numbers below a bound pass a test. Assumes nothing.
use Rattle.std.specs.Prelude.{ℕ, zero, suc, ◌+◌, ◌≤◌, ◌<◌, ◌≡◌, refl, Bool, true, false, not, ◌&&◌, ◌⊎◌, eqb}
use Rattle.std.proofs.Common.{sym, ap, subst, ◌∙◌, true≢false, inl, inr, arith, eq-eqb, ne_eqb}
use Rattle.column.specs.laws.Cases.{equal_cases, truth}
use Rattle.fastest.specs.Schedules.{count}

-- ---- one test at a time

pub count_yes : (p : ℕ → Bool) (n : ℕ) → p n ≡ true → count p (suc n) ≡ suc (count p n)
unfolding count
count_yes p n e = rw e (omega arith)

pub count_no : (p : ℕ → Bool) (n : ℕ) → p n ≡ false → count p (suc n) ≡ count p n
unfolding count
count_no p n e = rw e (omega arith)

pub count_zero : (p : ℕ → Bool) → count p 0 ≡ 0
unfolding count
count_zero p = refl

-- ---- bounds

pub count_most : (p : ℕ → Bool) (n : ℕ) → count p n ≤ n
count_most p zero = omega (arith, count_zero p)
count_most p (suc n) = go (truth (p n)) (count_most p n)
  where
    go : (p n ≡ true) ⊎ (p n ≡ false) → count p n ≤ n → count p (suc n) ≤ suc n
    go (inl e) ih = omega (arith, count_yes p n e)
    go (inr e) ih = omega (arith, count_no p n e)

pub count_all : (p : ℕ → Bool) (n : ℕ) → ((i : ℕ) → i < n → p i ≡ true) → count p n ≡ n
count_all p zero h = count_zero p
count_all p (suc n) h =
    let ih : count p n ≡ n = count_all p n (λ i l. h i (omega arith)) in
    omega (arith, count_yes p n (h n (omega arith)))

pub count_none : (p : ℕ → Bool) (n : ℕ) → ((i : ℕ) → i < n → p i ≡ false) → count p n ≡ 0
count_none p zero h = count_zero p
count_none p (suc n) h = count_no p n (h n (omega arith)) ∙ count_none p n (λ i l. h i (omega arith))

pub count_missing : (p : ℕ → Bool) (n v : ℕ) → v < n → p v ≡ false → count p n < n
count_missing p zero v l e = absurd (omega arith)
count_missing p (suc n) v l e = go (truth (p n)) (equal_cases v n) (λ m. count_missing p n v m e)
  where
    go : (p n ≡ true) ⊎ (p n ≡ false) → (v ≡ n) ⊎ (v ≡ n → ⊥) → (v < n → count p n < n) → count p (suc n) < suc n
    go (inr y) q ih = omega (arith, count_no p n y, count_most p n)
    go (inl y) (inl q) ih = absurd (true≢false (sym y ∙ ap p (sym q) ∙ e))
    go (inl y) (inr q) ih = omega (arith, count_yes p n y, ih (omega arith))

-- those that pass q as well, and those that do not
pub count_parts : (p q : ℕ → Bool) (n : ℕ) → count p n ≡ count (λ i. p i && q i) n + count (λ i. p i && not (q i)) n
count_parts p q zero = omega (arith, count_zero p, count_zero (λ i. p i && q i), count_zero (λ i. p i && not (q i)))
count_parts p q (suc n) = go (truth (p n)) (truth (q n)) (count_parts p q n)
  where
    both : ℕ → Bool
    both i = p i && q i

    rest : ℕ → Bool
    rest i = p i && not (q i)

    go : (p n ≡ true) ⊎ (p n ≡ false) → (q n ≡ true) ⊎ (q n ≡ false) → count p n ≡ count both n + count rest n
        → count p (suc n) ≡ count both (suc n) + count rest (suc n)
    go (inl x) (inl y) ih = omega (arith, count_yes p n x, count_yes both n (rw (x, y)), count_no rest n (rw (x, y)))
    go (inl x) (inr y) ih = omega (arith, count_yes p n x, count_no both n (rw (x, y)), count_yes rest n (rw (x, y)))
    go (inr x) (inl y) ih = omega (arith, count_no p n x, count_no both n (rw x), count_no rest n (rw x))
    go (inr x) (inr y) ih = omega (arith, count_no p n x, count_no both n (rw x), count_no rest n (rw x))

-- ---- injections

-- the test q without the number v
abbrev pub besides : (ℕ → Bool) → ℕ → ℕ → Bool
besides q v i = q i && not (eqb i v)

besides_other : (q : ℕ → Bool) (v i : ℕ) → (i ≡ v → ⊥) → besides q v i ≡ q i
besides_other q v i ne = rw (ne_eqb i v ne) (go (q i))
  where
    go : (b : Bool) → (b && true) ≡ b
    go true = refl
    go false = refl

besides_own : (q : ℕ → Bool) (v : ℕ) → besides q v v ≡ false
besides_own q v = rw (eq-eqb v v refl) (go (q v))
  where
    go : (b : Bool) → (b && false) ≡ false
    go true = refl
    go false = refl

count_above : (q : ℕ → Bool) (v n : ℕ) → n ≤ v → count (besides q v) n ≡ count q n
count_above q v zero l = count_zero (besides q v) ∙ sym (count_zero q)
count_above q v (suc n) l = go (truth (q n)) (besides_other q v n (λ e. omega arith)) (count_above q v n (omega arith))
  where
    go : (q n ≡ true) ⊎ (q n ≡ false) → besides q v n ≡ q n → count (besides q v) n ≡ count q n → count (besides q v) (suc n) ≡ count q (suc n)
    go (inl y) e ih = omega (arith, count_yes q n y, count_yes (besides q v) n (e ∙ y))
    go (inr y) e ih = omega (arith, count_no q n y, count_no (besides q v) n (e ∙ y))

count_besides : (q : ℕ → Bool) (v n : ℕ) → v < n → q v ≡ true → count q n ≡ suc (count (besides q v) n)
count_besides q v zero l y = absurd (omega arith)
count_besides q v (suc n) l y = go (equal_cases n v) (truth (q n)) (λ m. count_besides q v n m y)
  where
    go : (n ≡ v) ⊎ (n ≡ v → ⊥) → (q n ≡ true) ⊎ (q n ≡ false) → (v < n → count q n ≡ suc (count (besides q v) n))
        → count q (suc n) ≡ suc (count (besides q v) (suc n))
    go (inl e) t ih =
        omega (arith, count_yes q n (ap q e ∙ y), count_no (besides q v) n (ap (besides q v) e ∙ besides_own q v), count_above q v n (omega arith))
    go (inr e) (inl t) ih = omega (arith, ih (omega arith), count_yes q n t, count_yes (besides q v) n (besides_other q v n e ∙ t))
    go (inr e) (inr t) ih = omega (arith, ih (omega arith), count_no q n t, count_no (besides q v) n (besides_other q v n e ∙ t))

-- where each that passes p below m has a partner that passes q below n, and no two have the same, there are at least as many partners
pub count_matched : (p : ℕ → Bool) (m : ℕ) (R : ℕ → ℕ → Type 0) (q : ℕ → Bool) (n : ℕ)
    → ((i : ℕ) → i < m → p i ≡ true → (j : ℕ) × (j < n) × (q j ≡ true) × R i j)
    → ((i k j : ℕ) → i < k → k < m → p i ≡ true → p k ≡ true → R i j → R k j → ⊥)
    → count p m ≤ count q n
count_matched p zero R q n partner apart = omega (arith, count_zero p)
count_matched p (suc m) R q n partner apart = go (truth (p m)) (count_matched p m R)
  where
    go : (p m ≡ true) ⊎ (p m ≡ false)
        → ((q : ℕ → Bool) (n : ℕ) → ((i : ℕ) → i < m → p i ≡ true → (j : ℕ) × (j < n) × (q j ≡ true) × R i j)
        → ((i k j : ℕ) → i < k → k < m → p i ≡ true → p k ≡ true → R i j → R k j → ⊥) → count p m ≤ count q n)
        → count p (suc m) ≤ count q n
    go (inr e) ih =
        let h : count p m ≤ count q n = ih q n (λ i l. partner i (omega arith)) (λ i k j l b. apart i k j l (omega arith)) in
        omega (arith, count_no p m e)
    go (inl e) ih = with (partner m (omega arith) e)
      where
        others : (own : (j : ℕ) × (j < n) × (q j ≡ true) × R m j) (i : ℕ) → i < m → p i ≡ true
            → (j : ℕ) × (j < n) × (besides q own.0 j ≡ true) × R i j
        others own i l y =
            let other = partner i (omega arith) y in (
              other.0,
              other.1,
              besides_other q own.0 other.0 (λ s. apart i m own.0 l (omega arith) y e (subst (R i) s other.3) own.3) ∙ other.2,
              other.3,
            )

        with : (j : ℕ) × (j < n) × (q j ≡ true) × R m j → count p (suc m) ≤ count q n
        with own =
            let h : count p m ≤ count (besides q own.0) n = ih (besides q own.0) n (others own) (λ i k j l b. apart i k j l (omega arith)) in
            omega (arith, count_yes p m e, count_besides q own.0 n own.1 own.2)

-- fewer pass a test that implies the other
pub count_fewer : (p q : ℕ → Bool) (n : ℕ) → ((i : ℕ) → i < n → p i ≡ true → q i ≡ true) → count p n ≤ count q n
count_fewer p q n h =
    count_matched p n (λ i j. i ≡ j) q n (λ i l y. (i, l, h i l y, refl)) (λ i k j l b y z e f. omega arith)

-- as many pass two tests that agree
pub count_same : (p q : ℕ → Bool) (n : ℕ) → ((i : ℕ) → i < n → p i ≡ q i) → count p n ≡ count q n
count_same p q n h =
    omega
    (arith, count_fewer p q n (λ i l e. sym (h i l) ∙ e), count_fewer q p n (λ i l e. h i l ∙ e))
