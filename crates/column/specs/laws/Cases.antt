-- Case analysis on numbers and on tests.
-- Assumes nothing.
use Rattle.std.specs.Prelude.{ℕ, zero, suc, ◌<◌, ◌≡◌, refl, Bool, true, false, not, ◌&&◌, ◌||◌, cond, ◌⊎◌}
use Rattle.std.proofs.Common.{sym, ap, true≢false, inl, inr, arith}

-- ---- numbers

pub compare_cases : (a b : ℕ) → (a < b) ⊎ ((a ≡ b) ⊎ (b < a))
compare_cases zero zero = inr (inl refl)
compare_cases zero (suc b) = inl (omega arith)
compare_cases (suc a) zero = inr (inr (omega arith))
compare_cases (suc a) (suc b) = go (compare_cases a b)
  where
    go : (a < b) ⊎ ((a ≡ b) ⊎ (b < a)) → (suc a < suc b) ⊎ ((suc a ≡ suc b) ⊎ (suc b < suc a))
    go (inl p) = inl (omega arith)
    go (inr (inl p)) = inr (inl (ap suc p))
    go (inr (inr p)) = inr (inr (omega arith))

pub equal_cases : (a b : ℕ) → (a ≡ b) ⊎ (a ≡ b → ⊥)
equal_cases a b = go (compare_cases a b)
  where
    go : (a < b) ⊎ ((a ≡ b) ⊎ (b < a)) → (a ≡ b) ⊎ (a ≡ b → ⊥)
    go (inl p) = inr (λ e. omega arith)
    go (inr (inl p)) = inl p
    go (inr (inr p)) = inr (λ e. omega arith)

-- ---- tests

pub truth : (b : Bool) → (b ≡ true) ⊎ (b ≡ false)
truth true = inl refl
truth false = inr refl

pub or_cases : (a b : Bool) → (a || b) ≡ true → (a ≡ true) ⊎ (b ≡ true)
or_cases true b e = inl refl
or_cases false b e = inr e

pub or_none : (a b : Bool) → (a || b) ≡ false → b ≡ false
or_none true b e = absurd (true≢false e)
or_none false b e = e

pub and_left : (a b : Bool) → (a && b) ≡ true → a ≡ true
and_left true b e = refl
and_left false b e = e

pub and_right : (a b : Bool) → (a && b) ≡ true → b ≡ true
and_right true b e = e
and_right false b e = absurd (true≢false (sym e))

pub and_none : (a b : Bool) → (a && b) ≡ false → a ≡ true → b ≡ false
and_none true b e h = e
and_none false b e h = absurd (true≢false (sym h))

pub none_and : (a b : Bool) → (a ≡ true → b ≡ false) → (a && b) ≡ false
none_and true b h = h refl
none_and false b h = refl

pub same_truth : (a b : Bool) → (a ≡ true → b ≡ true) → (b ≡ true → a ≡ true) → a ≡ b
same_truth true b f g = sym (f refl)
same_truth false true f g = g refl
same_truth false false f g = refl

-- two tests of which either gives the same
pub cond_and : {A : Type 0} (a b : Bool) (x y : A) → cond (not (a && b)) x y ≡ cond (not a) x (cond (not b) x y)
cond_and true b x y = refl
cond_and false b x y = refl
