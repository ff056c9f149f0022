-- What it says that no condition of a list holds, and conditions taken one after the other.
-- Assumes nothing.
use Rattle.std.specs.Prelude.{ℕ, zero, suc, ◌≡◌, refl, Bool, true, false, ◌&&◌, cond, List, [], ◌∷◌, T, eqb}
use Rattle.std.proofs.Common.{sym, ap, ◌∙◌, arith, ne_eqb, eqb-true}
use Rattle.std.proofs.lemmas.Bool.{eqb-false}
use Rattle.column.specs.Refusals.{first, earlier}

-- no condition of the list holds
abbrev pub Passed : List (ℕ × Bool) → Type 0
Passed [] = Unit {0}
Passed (x ∷ l) = (x.1 ≡ false) × Passed l

-- no number of the list is 0
abbrev pub positive : ℕ → Bool
positive zero = false
positive (suc n) = true

abbrev pub numbered : List (ℕ × Bool) → Bool
numbered [] = true
numbered (x ∷ l) = positive x.0 && numbered l

pub passed : (l : List (ℕ × Bool)) → T (numbered l) → first l ≡ 0 → Passed l
passed [] h e = tt
passed (x ∷ l) h e = go x.0 x.1 refl h e (λ k z. passed l k z)
  where
    go : (n : ℕ) (b : Bool) → x.1 ≡ b → T (positive n && numbered l) → cond b n (first l) ≡ 0
        → (T (numbered l) → first l ≡ 0 → Passed l) → (x.1 ≡ false) × Passed l
    go zero b p h e rest = absurd h
    go (suc n) true p h e rest = absurd (omega arith)
    go (suc n) false p h e rest = (p, rest h e)

pub passes : (l : List (ℕ × Bool)) → Passed l → first l ≡ 0
passes [] h = refl
passes (x ∷ l) h = rw h.0 (passes l h.1)

pub earlier_none : (n m : ℕ) → earlier n m ≡ 0 → (n ≡ 0) × (m ≡ 0)
earlier_none n m e = go (eqb n 0) refl e
  where
    go : (b : Bool) → eqb n 0 ≡ b → cond b m n ≡ 0 → (n ≡ 0) × (m ≡ 0)
    go true p e = (eqb-true n 0 p, e)
    go false p e = absurd (eqb-false n 0 p e)

-- ---- conditions one after the other: each gives its number where none before it did

earlier_suc : (n m : ℕ) → earlier (suc n) m ≡ suc n
earlier_suc n m = rw (ne_eqb (suc n) 0 (λ e. omega arith))

pub earlier_zero : (n : ℕ) → earlier n 0 ≡ n
earlier_zero zero = refl
earlier_zero (suc n) = earlier_suc n 0

pub earlier_assoc : (n m k : ℕ) → earlier (earlier n m) k ≡ earlier n (earlier m k)
earlier_assoc zero m k = refl
earlier_assoc (suc n) m k = rw (earlier_suc n m, earlier_suc n k, earlier_suc n (earlier m k))

abbrev pub following : ℕ → List (ℕ × Bool) → ℕ
following n [] = n
following n (x ∷ l) = following (earlier n (first (x ∷ []))) l

pub in_turn : (n : ℕ) (l : List (ℕ × Bool)) → T (numbered l) → following n l ≡ earlier n (first l)
in_turn n [] h = sym (earlier_zero n)
in_turn n (x ∷ l) h = go x.0 x.1 h (λ m k. in_turn m l k)
  where
    go : (k : ℕ) (b : Bool) → T (positive k && numbered l) → ((m : ℕ) → T (numbered l) → following m l ≡ earlier m (first l))
        → following (earlier n (cond b k 0)) l ≡ earlier n (cond b k (first l))
    go zero b h rest = absurd h
    go (suc k) true h rest = rest (earlier n (suc k)) h ∙ earlier_assoc n (suc k) (first l) ∙ ap (earlier n) (earlier_suc k (first l))
    go (suc k) false h rest = rest (earlier n 0) h ∙ earlier_assoc n 0 (first l)
