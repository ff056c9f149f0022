-- Sets counted by tests: of tests of which one holds of each, and of a test that holds of one. Assumes nothing.
use Prim.Native.Nat.{ℕ, zero, suc, ◌+◌, ◌^◌, ◌<◌}
use mathlib.Core.Path.{◌≡◌, refl, sym, ap, ◌∙◌}
use mathlib.Core.Logic.{◌⊎◌, inl, inr}
use mathlib.Core.Bool.{Bool, true, false, ◌&&◌, true≢false}
use native.Mathlib.Omega.{arith}
use lib.Pow.{pow_pos}
use Rattle.column.specs.laws.Cases.{truth}
use Rattle.column.specs.Sets.{has, whole}
use Rattle.column.specs.laws.SetLaws.{same_members}
use Rattle.column.specs.laws.SequenceLaws.{whole_has}
use Rattle.column.specs.Trees.{every}
use Rattle.column.specs.laws.TreeLaws.{every_at, every_all}
use Rattle.losses.specs.Losses.{one_if, counted}

-- a test that fails somewhere
pub fails_somewhere : (f : ℕ → Bool) (n : ℕ) → every f n ≡ false → (j : ℕ) × (j < n) × (f j ≡ false)
unfolding every
fails_somewhere f zero e = absurd (true≢false e)
fails_somewhere f (suc n) e = go (every f n) refl e (λ h. fails_somewhere f n h)
  where
    go : (b : Bool) → every f n ≡ b → (b && f n) ≡ false → (every f n ≡ false → (j : ℕ) × (j < n) × (f j ≡ false)) → (j : ℕ) × (j < suc n) × (f j ≡ false)
    go true p h ih = (n, omega arith, h)
    go false p h ih = let z = ih p in (z.0, omega (arith, z.1), z.2)

-- ---- one of three tests holds of each

pub counted_three : (f g h : ℕ → Bool) (n : ℕ) → ((m : ℕ) → m < n → one_if (f m) + one_if (g m) + one_if (h m) ≡ 1)
    → counted f n + counted g n + counted h n ≡ n
unfolding counted
counted_three f g h zero e = refl
counted_three f g h (suc n) e = omega (arith, counted_three f g h n (λ m l. e m (omega (arith, l))), e n (omega arith))

-- ---- a test that holds of the last alone

counted_none : (f : ℕ → Bool) (n : ℕ) → ((m : ℕ) → m < n → f m ≡ false) → counted f n ≡ 0
unfolding counted
counted_none f zero e = refl
counted_none f (suc n) e = omega (arith, counted_none f n (λ m l. e m (omega (arith, l))), ap one_if (e n (omega arith)))

counted_last : (f : ℕ → Bool) (n : ℕ) → ((m : ℕ) → m < n → f m ≡ false) → f n ≡ true → counted f (suc n) ≡ 1
unfolding counted
counted_last f n e h = omega (arith, counted_none f n e, ap one_if h)

-- of the sets below 2 to the power n, one has every member
full_only : (n m : ℕ) → m < whole n → every (has m) n ≡ false
full_only n m l = go (truth (every (has m) n))
  where
    go : (every (has m) n ≡ true) ⊎ (every (has m) n ≡ false) → every (has m) n ≡ false
    go (inl e) =
        let same : m ≡ whole n =
        same_members n m (whole n) (omega (arith, l, pow_pos n)) (omega (arith, pow_pos n)) (λ i h. every_at (has m) n i e h ∙ sym (whole_has n i h)) in
        absurd (omega (arith, l, same))
    go (inr e) = e

pub counted_full : (f : ℕ → Bool) (n : ℕ) → ((m : ℕ) → m < 2 ^ n → f m ≡ every (has m) n) → counted f (2 ^ n) ≡ 1
counted_full f n e =
    let more : 2 ^ n ≡ suc (whole n) = omega (arith, pow_pos n) in
    ap (counted f) more
    ∙ counted_last f (whole n) (λ m l. e m (omega (arith, l)) ∙ full_only n m l)
    (e (whole n) (omega (arith, pow_pos n)) ∙ every_all (has (whole n)) n (λ j h. whole_has n j h))
