-- The members of a set, lowest first: the lowest comes before those of the set without it.
-- Assumes nothing.
use Prim.Native.Nat.{ℕ, zero, suc, ◌^◌, ◌<◌}
use mathlib.Core.Path.{◌≡◌, refl, sym, ap₂, ◌∙◌}
use mathlib.Core.Bool.{Bool, true, false, cond}
use mathlib.Core.List.{List, [], ◌∷◌, ◌++◌}
use mathlib.Core.Logic.{◌⊎◌, inl, inr}
use native.Mathlib.Omega.{arith}
use Rattle.column.specs.Sets.{has, without, lowest}
use Rattle.column.specs.laws.Cases.{compare_cases}
use Rattle.column.specs.laws.SetLaws.{has_none, has_without_self, has_without_other}
use Rattle.column.specs.laws.Digits.{lowest_none, lowest_lt, lowest_member}
use Rattle.figure.specs.Figure.{members_below}

-- the column n, where a test says so
abbrev also : ℕ → Bool → List ℕ
also n b = cond b (n ∷ []) []

members_none : (s n : ℕ) → ((j : ℕ) → j < n → has s j ≡ false) → members_below s n ≡ []
unfolding members_below
members_none s zero h = refl
members_none s (suc n) h = ap₂ (λ (l : List ℕ) (b : Bool). l ++ also n b) (members_none s n (λ j l. h j (omega arith))) (h n (omega arith))

pub members_empty : (n : ℕ) → members_below 0 n ≡ []
members_empty n = members_none 0 n (λ j l. has_none j)

module _ (s l : ℕ) (member : has s l ≡ true) (lower : (j : ℕ) → j < l → has s j ≡ false) where
  members_from : (n : ℕ) → l < n → members_below s n ≡ l ∷ members_below (without s l) n
  unfolding members_below
  members_from zero h = absurd (omega arith)
  members_from (suc n) h = go (compare_cases l n) (λ m. members_from n m)
    where
      first : members_below s l ++ also l (has s l) ≡ l ∷ (members_below (without s l) l ++ also l (has (without s l) l))
      first =
          ap₂ (λ (m : List ℕ) (b : Bool). m ++ also l b) (members_none s l lower) member
          ∙ sym (ap₂ (λ (m : List ℕ) (b : Bool). l ∷ (m ++ also l b))
          (members_none (without s l) l (λ j m. has_without_other s l j (λ e. omega arith) ∙ lower j m)) (has_without_self s l))

      go : (l < n) ⊎ ((l ≡ n) ⊎ (n < l)) → (l < n → members_below s n ≡ l ∷ members_below (without s l) n)
          → members_below s n ++ also n (has s n) ≡ l ∷ (members_below (without s l) n ++ also n (has (without s l) n))
      go (inl m) ih = ap₂ (λ (x : List ℕ) (b : Bool). x ++ also n b) (ih m) (sym (has_without_other s l n (λ e. omega arith)))
      go (inr (inl e)) ih = rw (← e) first
      go (inr (inr m)) ih = absurd (omega arith)

pub members_lowest : (s : ℕ) → s < 2 ^ 16 → 0 < s → members_below s 16 ≡ lowest s ∷ members_below (without s (lowest s)) 16
members_lowest s h p = members_from s (lowest s) (lowest_member 16 s h p) (λ j l. lowest_none 16 s j l) 16 (lowest_lt 16 s h p)
