-- The places of a bank with the columns of a set rewritten: in one pass, or in several. Assumes nothing.
use Prim.Native.Nat.{ℕ, zero, suc, ◌+◌, ◌<◌, ◌^◌}
use Rattle.std.specs.Prelude.{◌≡◌, ◌⊎◌, Bool, ◌&&◌, ◌||◌, ltb, length, get_or, set}
use Rattle.std.proofs.Math.Path.{refl, sym, ap, ap₂}
use Rattle.std.proofs.Common.{◌∙◌, inl, inr, ⊎_elim, eq-eqb, ne_eqb, eqb-true, lt-ltb, le-ltb, ltb-true, ltb-false}
use Rattle.std.proofs.Math.Bool.{true, false, cond, and-false, or-true, or-false}
use mathlib.Core.List.{List, [], ◌∷◌}
use native.Mathlib.Omega.{arith}
use Rattle.column.specs.laws.Cases.{truth, equal_cases, and_right}
use Rattle.column.specs.Sets.{has}
use Rattle.column.specs.laws.SetLaws.{member_lt}
use Rattle.column.specs.declared.state.Column.{Column}
use Rattle.bank.specs.Banks.{no_column}
use Rattle.bank.specs.Networks.{only}
use Rattle.bank.specs.Steps.{rewriting}

module _ (f : Column → Column) where
  -- a column that both passes meet must be one that the second leaves as it is
  pub rewriting_twice : (p q : ℕ → Bool) → ((j : ℕ) (c : Column) → p j ≡ true → q j ≡ true → f (f c) ≡ f c)
      → (k : ℕ) (l : List Column) → rewriting f q k (rewriting f p k l) ≡ rewriting f (λ j. p j || q j) k l
  unfolding rewriting
  rewriting_twice p q again k [] = refl
  rewriting_twice p q again k (c ∷ l) =
      ap₂ (λ (x : Column) (m : List Column). x ∷ m) (go (p k) (q k) (again k c)) (rewriting_twice p q again (suc k) l)
    where
      go : (a b : Bool) → (a ≡ true → b ≡ true → f (f c) ≡ f c) → cond b (f (cond a (f c) c)) (cond a (f c) c) ≡ cond (a || b) (f c) c
      go true true h = h refl refl
      go true false h = refl
      go false true h = refl
      go false false h = refl

  pub rewriting_none : (k : ℕ) (l : List Column) → rewriting f (λ j. false) k l ≡ l
  unfolding rewriting
  rewriting_none k [] = refl
  rewriting_none k (c ∷ l) = ap (λ (m : List Column). c ∷ m) (rewriting_none (suc k) l)

  rewriting_past : (i k : ℕ) (l : List Column) → i < k → rewriting f (only i) k l ≡ l
  unfolding rewriting
  rewriting_past i k [] h = refl
  rewriting_past i k (c ∷ l) h =
      ap₂ (λ (b : Bool) (m : List Column). cond b (f c) c ∷ m) (ne_eqb k i (λ e. omega arith)) (rewriting_past i (suc k) l (omega arith))

  pub rewriting_one : (i k : ℕ) (l : List Column) → rewriting f (only (k + i)) k l ≡ set l i (f (get_or l i no_column))
  unfolding rewriting
  rewriting_one i k [] = refl
  rewriting_one zero k (c ∷ l) =
      ap₂ (λ (b : Bool) (m : List Column). cond b (f c) c ∷ m) (eq-eqb k (k + 0) (omega arith)) (rewriting_past (k + 0) (suc k) l (omega arith))
  rewriting_one (suc i) k (c ∷ l) =
      let e : k + suc i ≡ suc k + i = omega arith in
      ap₂ (λ (b : Bool) (m : List Column). cond b (f c) c ∷ m) (ne_eqb k (k + suc i) (λ z. omega arith))
      (ap (λ n. rewriting f (only n) (suc k) l) e ∙ rewriting_one i (suc k) l)

  pub rewriting_length : (p : ℕ → Bool) (k : ℕ) (l : List Column) → length (rewriting f p k l) ≡ length l
  unfolding rewriting
  rewriting_length p k [] = refl
  rewriting_length p k (c ∷ l) = ap suc (rewriting_length p (suc k) l)

  -- past the places there is no column, so that f must not make one
  pub rewriting_at : f no_column ≡ no_column → (p : ℕ → Bool) (k : ℕ) (l : List Column) (j : ℕ)
      → get_or (rewriting f p k l) j no_column ≡ cond (p (k + j)) (f (get_or l j no_column)) (get_or l j no_column)
  unfolding rewriting
  rewriting_at none p k [] j = go (p (k + j))
    where
      go : (b : Bool) → no_column ≡ cond b (f no_column) no_column
      go true = sym none
      go false = refl
  rewriting_at none p k (c ∷ l) zero = let e : k ≡ k + 0 = omega arith in ap (λ n. cond (p n) (f c) c) e
  rewriting_at none p k (c ∷ l) (suc j) =
      let e : suc k + j ≡ k + suc j = omega arith in
      rewriting_at none p (suc k) l j ∙ ap (λ n. cond (p n) (f (get_or l j no_column)) (get_or l j no_column)) e

-- ---- the loop over the places

-- the members below n
abbrev pub upto : (ℕ → Bool) → ℕ → ℕ → Bool
upto p n j = p j && ltb j n

module _ (p : ℕ → Bool) (n : ℕ) where
  later : (j : ℕ) → (j ≡ n → ⊥) → ltb j n ≡ ltb j (n + 1)
  later j z = ⊎_elim (λ t. t ∙ sym (lt-ltb j (n + 1) (omega (arith, ltb-true j n t))))
      (λ t. t ∙ sym (le-ltb j (n + 1) (omega (arith, ltb-false j n t, z)))) (truth (ltb j n))

  upto_yes : p n ≡ true → (j : ℕ) → (upto p n j || only n j) ≡ upto p (n + 1) j
  upto_yes e j = go (equal_cases j n)
    where
      go : (j ≡ n) ⊎ (j ≡ n → ⊥) → (upto p n j || only n j) ≡ upto p (n + 1) j
      go (inl z) = ap (λ (b : Bool). upto p n j || b) (eq-eqb j n z) ∙ or-true (upto p n j)
          ∙ sym (ap₂ ◌&&◌ (ap p z ∙ e) (lt-ltb j (n + 1) (omega (arith, z))))
      go (inr z) = ap (λ (b : Bool). upto p n j || b) (ne_eqb j n z) ∙ or-false (upto p n j) ∙ ap (◌&&◌ (p j)) (later j z)

  upto_no : p n ≡ false → (j : ℕ) → upto p n j ≡ upto p (n + 1) j
  upto_no e j = go (equal_cases j n)
    where
      go : (j ≡ n) ⊎ (j ≡ n → ⊥) → upto p n j ≡ upto p (n + 1) j
      go (inl z) = ap (λ (b : Bool). b && ltb j n) (ap p z ∙ e) ∙ sym (ap (λ (b : Bool). b && ltb j (n + 1)) (ap p z ∙ e))
      go (inr z) = ap (◌&&◌ (p j)) (later j z)

  module _ (f : Column → Column) (l : List Column) where
    pub rewrite_yes : p n ≡ true
        → set (rewriting f (upto p n) 0 l) n (f (get_or (rewriting f (upto p n) 0 l) n no_column)) ≡ rewriting f (upto p (n + 1)) 0 l
    rewrite_yes e =
        let z : 0 + n ≡ n = omega arith in
        sym (rewriting_one f n 0 (rewriting f (upto p n) 0 l)) ∙ ap (λ k. rewriting f (only k) 0 (rewriting f (upto p n) 0 l)) z
        ∙ rewriting_twice f (upto p n) (only n) (λ j c before now. absurd (omega (arith, ltb-true j n (and_right (p j) (ltb j n) before), eqb-true j n now))) 0 l
        ∙ ap (λ (q : ℕ → Bool). rewriting f q 0 l) (λ k j. upto_yes e j k)

    pub rewrite_no : p n ≡ false → rewriting f (upto p n) 0 l ≡ rewriting f (upto p (n + 1)) 0 l
    rewrite_no e = ap (λ (q : ℕ → Bool). rewriting f q 0 l) (λ k j. upto_no e j k)

module _ (f : Column → Column) where
  pub rewrite_start : (p : ℕ → Bool) (l : List Column) → rewriting f (upto p 0) 0 l ≡ l
  rewrite_start p l =
      ap (λ (q : ℕ → Bool). rewriting f q 0 l) (λ k j. (ap (◌&&◌ (p j)) (le-ltb j 0 (omega arith)) ∙ and-false (p j)) k) ∙ rewriting_none f 0 l

  -- a set of columns below n
  pub rewrite_end : (n m : ℕ) → m < 2 ^ n → (l : List Column) → rewriting f (upto (has m) n) 0 l ≡ rewriting f (has m) 0 l
  rewrite_end n m h l = ap (λ (q : ℕ → Bool). rewriting f q 0 l) (λ k j. go j (has m j) refl k)
    where
      go : (j : ℕ) (b : Bool) → has m j ≡ b → (b && ltb j n) ≡ b
      go j true e = lt-ltb j n (member_lt n m j h e)
      go j false e = refl
