-- The owner's sequence: a list of as many columns as there are that misses none repeats none; for any n + 1 numbers below n have two equal ones among
-- them. Assumes nothing.
use Prim.Native.Nat.{ℕ, zero, suc, ◌+◌, ◌-◌, ◌/◌, ◌^◌, ◌<◌, ◌≤◌}
use Rattle.std.specs.Prelude.{◌≡◌, Bool, false, ◌||◌, cond, ◌⊎◌, List, eqb, ltb, get_or}
use Rattle.std.proofs.Math.Path.{sym, ap}
use Rattle.std.proofs.Common.{◌∙◌, true≢false, inl, inr, pow-suc, pow_pos}
use Rattle.std.proofs.Math.Bool.{true, or-true, or-false}
use native.Mathlib.Omega.{arith}
use borrow.Author.Tests.{eq-eqb, eqb-true, ne_eqb, lt-ltb, le-ltb}
use Rattle.column.specs.laws.Cases.{equal_cases, truth}
use Rattle.column.specs.Sets.{has, whole}
use Rattle.column.specs.laws.Digits.{digit_zero, digit_suc, has_true}
use Rattle.column.specs.laws.SetLaws.{has_none, has_insert, insert_lt, same_members}
use Rattle.column.specs.Trees.{rising_from, ascending, listed_in}

-- two equal values of f, at places up to n
pub record Twice (f : ℕ → ℕ) (n : ℕ) : Type 0 where
  pub one : ℕ
  pub other : ℕ
  pub before : one < other
  pub within : other ≤ n
  pub equal : f one ≡ f other

-- v is a value of f below n, or it is none
abbrev Found : (ℕ → ℕ) → ℕ → ℕ → Type 0
Found f v n = ((i : ℕ) × (i < n) × (f i ≡ v)) ⊎ ((i : ℕ) → i < n → f i ≡ v → ⊥)

search_below : (f : ℕ → ℕ) (v n : ℕ) → Found f v n
search_below f v zero = inr (λ i l e. omega arith)
search_below f v (suc n) = go (search_below f v n) (equal_cases (f n) v)
  where
    go : Found f v n → (f n ≡ v) ⊎ (f n ≡ v → ⊥) → Found f v (suc n)
    go (inl r) q = inl (r.0, omega arith, r.2)
    go (inr none) (inl e) = inl (n, omega arith, e)
    go (inr none) (inr ne) = inr (λ i l e. last i e l (equal_cases i n))
      where
        last : (i : ℕ) → f i ≡ v → i < suc n → (i ≡ n) ⊎ (i ≡ n → ⊥) → ⊥
        last i e l (inl p) = ne (ap f (sym p) ∙ e)
        last i e l (inr p) = none i (omega arith) e

-- where the last value v is met nowhere before, the value n can give way to it
module _ (f : ℕ → ℕ) (n v : ℕ) where
  swapped : ℕ → ℕ
  swapped i = cond (eqb (f i) n) v (f i)

  swapped_lt : (i : ℕ) → f i < suc n → v < suc n → (f i ≡ v → ⊥) → swapped i < n
  unfolding swapped
  swapped_lt i l h ne = go (equal_cases (f i) n)
    where
      go : (f i ≡ n) ⊎ (f i ≡ n → ⊥) → swapped i < n
      go (inl p) = rw (eq-eqb (f i) n p) (below (equal_cases v n))
        where
          below : (v ≡ n) ⊎ (v ≡ n → ⊥) → v < n
          below (inl e) = absurd (ne (p ∙ sym e))
          below (inr e) = omega arith
      go (inr p) = rw (ne_eqb (f i) n p) (omega arith)

  swapped_equal : (i j : ℕ) → (f i ≡ v → ⊥) → (f j ≡ v → ⊥) → swapped i ≡ swapped j → f i ≡ f j
  unfolding swapped
  swapped_equal i j ni nj e = go (equal_cases (f i) n) (equal_cases (f j) n)
    where
      go : (f i ≡ n) ⊎ (f i ≡ n → ⊥) → (f j ≡ n) ⊎ (f j ≡ n → ⊥) → f i ≡ f j
      go (inl p) (inl q) = p ∙ sym q
      go (inl p) (inr q) = absurd (nj (sym (rw (eq-eqb (f i) n p, ne_eqb (f j) n q) at e)))
      go (inr p) (inl q) = absurd (ni (rw (ne_eqb (f i) n p, eq-eqb (f j) n q) at e))
      go (inr p) (inr q) = rw (ne_eqb (f i) n p, ne_eqb (f j) n q) at e

pub pigeonhole : (n : ℕ) (f : ℕ → ℕ) → ((i : ℕ) → i ≤ n → f i < n) → Twice f n
pigeonhole zero f h = absurd (omega (arith, h 0 (omega arith)))
pigeonhole (suc n) f h = go (search_below f (f (suc n)) (suc n)) (pigeonhole n (swapped f n (f (suc n))))
  where
    go : Found f (f (suc n)) (suc n)
        → (((i : ℕ) → i ≤ n → swapped f n (f (suc n)) i < n) → Twice (swapped f n (f (suc n))) n)
        → Twice f (suc n)
    go (inl r) ih = record { one = r.0; other = suc n; before = r.1; within = omega arith; equal = r.2 }
    go (inr none) ih =
        let w : Twice (swapped f n (f (suc n))) n =
        ih (λ i l. swapped_lt f n (f (suc n)) i (h i (omega arith)) (h (suc n) (omega arith)) (none i (omega arith))) in
        record {
          one = w.one;
          other = w.other;
          before = w.before;
          within = omega arith;
          equal = swapped_equal f n (f (suc n)) w.one w.other (none w.one (omega arith)) (none w.other (omega arith)) w.equal;
        }

-- each number below n is the value of f at its place
module _ (n : ℕ) (f place : ℕ → ℕ) (below : (c : ℕ) → c < n → place c < n) (back : (c : ℕ) → c < n → f (place c) ≡ c) where
  -- the places, and after them d
  places_and : ℕ → ℕ → ℕ
  places_and d i = cond (ltb i n) (place i) d

  -- no d is left over: n + 1 places below n would differ
  none_left : (d : ℕ) → d < n → ((c : ℕ) → c < n → place c ≡ d → ⊥) → ⊥
  unfolding places_and
  none_left d h left = go (pigeonhole n (places_and d) (λ i l. under i (equal_cases i n) l))
    where
      placed : (i : ℕ) → i < n → places_and d i ≡ place i
      placed i l = rw (lt-ltb i n l)

      last : places_and d n ≡ d
      last = rw (le-ltb n n (omega arith))

      under : (i : ℕ) → (i ≡ n) ⊎ (i ≡ n → ⊥) → i ≤ n → places_and d i < n
      under i (inl e) l = rw e (rw last h)
      under i (inr e) l = rw (placed i (omega arith)) (below i (omega arith))

      go : Twice (places_and d) n → ⊥
      go w = apart (equal_cases w.other n)
        where
          one_lt : w.one < n
          one_lt = omega (arith, w.before, w.within)

          apart : (w.other ≡ n) ⊎ (w.other ≡ n → ⊥) → ⊥
          apart (inl e) = left w.one one_lt (sym (placed w.one one_lt) ∙ w.equal ∙ ap (places_and d) e ∙ last)
          apart (inr e) =
              let l : w.other < n = omega (arith, w.within) in
              let same : place w.one ≡ place w.other = sym (placed w.one one_lt) ∙ w.equal ∙ placed w.other l in
              let equal : w.one ≡ w.other = sym (back w.one one_lt) ∙ ap f same ∙ back w.other l in
              omega (arith, w.before)

  place_is : (d : ℕ) → d < n → f d < n → place (f d) ≡ d
  place_is d h l = go (equal_cases (place (f d)) d)
    where
      go : (place (f d) ≡ d) ⊎ (place (f d) ≡ d → ⊥) → place (f d) ≡ d
      go (inl e) = e
      go (inr e) = absurd (none_left d h (λ c k z. e (ap place (ap f (sym z) ∙ back c k) ∙ z)))

  pub onto_once : (k m : ℕ) → k < n → m < n → f k < n → f k ≡ f m → k ≡ m
  onto_once k m h l b e = sym (place_is k h b) ∙ ap place e ∙ place_is m l (omega arith)

-- ---- ascending numbers

rising_at : (n k j : ℕ) → j < k → get_or (rising_from n k) j 0 ≡ n + j
rising_at n zero j h = absurd (omega arith)
rising_at n (suc k) zero h = omega arith
rising_at n (suc k) (suc j) h = rising_at (suc n) k j (omega arith) ∙ omega arith

pub ascending_at : (k : ℕ) → k < 16 → get_or ascending k 0 ≡ k
ascending_at k h = rising_at 0 16 k h ∙ omega arith

-- ---- all columns below n

pub whole_has : (n c : ℕ) → c < n → has (whole n) c ≡ true
whole_has zero c h = absurd (omega arith)
whole_has (suc n) zero h = has_true (whole (suc n)) 0 (digit_zero (whole (suc n)) ∙ omega (arith, pow-suc 2 n, pow_pos n))
whole_has (suc n) (suc c) h =
    let half : (2 ^ suc n - 1) / 2 ≡ 2 ^ n - 1 = omega (arith, pow-suc 2 n, pow_pos n) in
    ap (λ (x : ℕ). eqb x 1) (digit_suc (whole (suc n)) c) ∙ ap (λ (m : ℕ). has m c) half ∙ whole_has n c (omega arith)

whole_lt : (n : ℕ) → whole n < 2 ^ n
whole_lt n = omega (arith, pow_pos n)

-- ---- who is in a sequence, and where

module _ (first : List ℕ) where
  abbrev at : ℕ → ℕ
  at k = get_or first k 0

  -- the last of n places that holds c
  place_in : ℕ → ℕ → ℕ
  place_in zero c = 0
  place_in (suc n) c = cond (eqb c (at n)) n (place_in n c)

  listed_place : (n c : ℕ) → has (listed_in first n) c ≡ true → (place_in n c < n) × (at (place_in n c) ≡ c)
  unfolding place_in
  listed_place zero c e = absurd (true≢false (sym e ∙ has_none c))
  listed_place (suc n) c e = go (listed_place n c) (truth (eqb c (at n)))
    where
      go : (has (listed_in first n) c ≡ true → (place_in n c < n) × (at (place_in n c) ≡ c))
          → (eqb c (at n) ≡ true) ⊎ (eqb c (at n) ≡ false)
          → (place_in (suc n) c < suc n) × (at (place_in (suc n) c) ≡ c)
      go ih (inl p) = rw p (omega arith, sym (eqb-true c (at n) p))
      go ih (inr p) =
          let h : has (listed_in first n) c ≡ true =
          sym (or-false (has (listed_in first n) c)) ∙ ap (λ (b : Bool). has (listed_in first n) c || b) (sym p)
          ∙ sym (has_insert (listed_in first n) (at n) c) ∙ e in
          let r = ih h in
          rw p (omega (arith, r.0), r.1)

  place_listed : (n k : ℕ) → k < n → has (listed_in first n) (at k) ≡ true
  place_listed zero k h = absurd (omega arith)
  place_listed (suc n) k h = has_insert (listed_in first n) (at n) (at k) ∙ go (place_listed n k) (equal_cases k n)
    where
      go : (k < n → has (listed_in first n) (at k) ≡ true) → (k ≡ n) ⊎ (k ≡ n → ⊥)
          → (has (listed_in first n) (at k) || eqb (at k) (at n)) ≡ true
      go ih (inl e) =
          ap (λ (b : Bool). has (listed_in first n) (at k) || b) (eq-eqb (at k) (at n) (ap at e))
          ∙ or-true (has (listed_in first n) (at k))
      go ih (inr e) = ap (λ (b : Bool). b || eqb (at k) (at n)) (ih (omega arith))

  listed_lt : (n w : ℕ) → ((k : ℕ) → k < n → at k < w) → listed_in first n < 2 ^ w
  listed_lt zero w h = pow_pos w
  listed_lt (suc n) w h = insert_lt w (listed_in first n) (at n) (listed_lt n w (λ k l. h k (omega arith))) (h n (omega arith))

  -- ---- n places that hold each column below n

  module _ (n : ℕ) (below : (k : ℕ) → k < n → at k < n) where
    module _ (e : listed_in first n ≡ whole n) where
      found : (c : ℕ) → c < n → (place_in n c < n) × (at (place_in n c) ≡ c)
      found c h = listed_place n c (ap (λ (m : ℕ). has m c) e ∙ whole_has n c h)

      pub each_listed : (c : ℕ) → c < n → (k : ℕ) × (k < n) × (at k ≡ c)
      each_listed c h = (place_in n c, (found c h).0, (found c h).1)

      pub listed_once : (k m : ℕ) → k < n → m < n → at k ≡ at m → k ≡ m
      listed_once k m h l = onto_once n at (place_in n) (λ c h. (found c h).0) (λ c h. (found c h).1) k m h l (below k h)

    pub lists_whole : ((c : ℕ) → c < n → (k : ℕ) × (k < n) × (at k ≡ c)) → listed_in first n ≡ whole n
    lists_whole each = same_members n (listed_in first n) (whole n) (listed_lt n n below) (whole_lt n) (λ c h.
        let r = each c h in
        ap (has (listed_in first n)) (sym r.2) ∙ place_listed n r.0 r.1 ∙ sym (whole_has n c h))
