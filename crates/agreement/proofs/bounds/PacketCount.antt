-- Whoever is watched: a network of n columns has (n - 1) * (2 * n - 3) packets at most. Assumes nothing.
use Prim.Native.Nat.{ℕ, zero, suc, ◌+◌, ◌-◌, ◌*◌, ◌≤◌, ◌<◌}
use native.Mathlib.Nat.{suc-mul, mul-add, mul_left_comm}
use native.Mathlib.Omega.{arith}
use mathlib.Core.Path.{◌≡◌, refl, sym, ap, subst, ◌∙◌}
use mathlib.Core.Logic.{◌≢◌, ◌⊎◌, ⊎_elim, inl, inr}
use mathlib.Core.Bool.{Bool, true, false, cond}
use lib.Dec.{eqb}
use lib.ListN.{length}
use borrow.Author.Tests.{eq-eqb, ne_eqb}
use Rattle.column.specs.laws.Cases.{equal_cases, truth}
use Rattle.column.specs.declared.tree.Tree.{Tree}
use Rattle.agreement.proofs.relation.Model.{State}
use Rattle.agreement.proofs.invariant.Validity.{Validity}
use Rattle.agreement.proofs.bounds.TokenLaws.{many, every, tokens, any, many_every}
use Rattle.agreement.proofs.bounds.Sums.{sum, sum_le, sum_add, sum_swap, sum_drop, sum_rise, sum_but, square, square_add, of, many_pairs, of_between, none_alone}
use Rattle.agreement.proofs.bounds.Potential.{one_few}
use Rattle.agreement.proofs.bounds.Bounded.{Bounded}
use Rattle.agreement.proofs.bounds.HaltCounts.{charged, charged_other, charged_root, charged_none, charged_self, charged_for_root, charged_sum}

-- ---- numbers for pairs, of which those with x have one at most

abbrev changed : (ℕ → ℕ) → ℕ → ℕ → ℕ → ℕ
changed f x e q = cond (eqb q x) e (f q)

-- nothing at p, one at most at x, and four everywhere else
row_most : (f : ℕ → ℕ) (n p x : ℕ) → p < n → x < n → x ≢ p → f p ≤ 0 → f x ≤ 1 → ((q : ℕ) → q < n → q ≢ p → q ≢ x → f q ≤ 4) → sum f n + 7 ≤ n * 4
row_most f n p x lp lx ne hp hx h = omega (
  arith,
  sum_drop f (changed f x 4) n x 3 lx (omega (arith, hx, here)) (λ q l. ⊎_elim
      (λ e. omega (arith, subst (λ (y : ℕ). f y ≤ 1) (sym e) hx, ap (λ (b : Bool). cond b 4 (f q)) (eq-eqb q x e)))
      (λ z. omega (arith, there q z)) (equal_cases q x)),
  sum_but (changed f x 4) n p 0 4 lp (omega (arith, hp, there p (λ e. ne (sym e)))) (λ q l z. ⊎_elim
      (λ e. omega (arith, ap (λ (b : Bool). cond b 4 (f q)) (eq-eqb q x e))) (λ y. omega (arith, there q y, h q l z y)) (equal_cases q x)),
)
  where
    here : changed f x 4 x ≡ 4
    here = ap (λ (b : Bool). cond b 4 (f x)) (eq-eqb x x refl)

    there : (q : ℕ) → q ≢ x → changed f x 4 q ≡ f q
    there q z = ap (λ (b : Bool). cond b 4 (f q)) (ne_eqb q x z)

-- what both orders of a pair have together bounds the square
square_halves : (f : ℕ → ℕ → ℕ) (n x : ℕ) → x < n → ((p : ℕ) → p < n → f p p ≡ 0) → ((q : ℕ) → q < n → q ≢ x → f x q + f q x ≤ 1) →
    ((p q : ℕ) → p < n → q < n → q ≢ p → f p q + f q p ≤ 4) → square f n + square f n + (n * 4 - 7) ≤ n * (n * 4 - 7) + (n - 1)
square_halves f n x lx h hx r = omega (
  arith,
  square_add f (λ p q. f q p) n,
  sum_swap f n n,
  sum_but (λ p. sum (both p) n) n x (n - 1) (n * 4 - 7) lx
      (omega (arith, sum_but (both x) n x 0 1 lx (omega (arith, h x lx)) (λ q l z. hx q l z)))
      (λ p l z. omega (arith, row_most (both p) n p x l lx (λ e. z (sym e)) (omega (arith, h p l)) (omega (arith, hx p l z)) (λ q k y _. r p q l k y))),
)
  where
    both : ℕ → ℕ → ℕ
    both p q = f p q + f q p

formula : (n : ℕ) → 0 < n → n * (n * 4 - 7) + (n - 1) ≡ 2 * ((n - 1) * (2 * n - 3)) + (n * 4 - 7)
formula zero l = absurd (omega (arith, l))
formula (suc zero) l = omega arith
formula (suc (suc n)) l =
    let a : suc (suc n) * 4 - 7 ≡ 4 * n + 1 = omega arith in
    let b : 2 * suc (suc n) - 3 ≡ 2 * n + 1 = omega arith in
    let c : suc (suc n) * (4 * n + 1) + suc n ≡ 2 * (suc n * (2 * n + 1)) + (4 * n + 1) = omega (
      arith,
      suc-mul (suc n) (4 * n + 1),
      suc-mul n (4 * n + 1),
      mul-add n (4 * n) 1,
      mul_left_comm n 4 n,
      suc-mul n (2 * n + 1),
      mul-add n (2 * n) 1,
      mul_left_comm n 2 n,
    ) in
    let d : suc (suc n) - 1 ≡ suc n = omega arith in
    rw (a, b, d) c

module _ (t : Tree) {s : State} (v : Validity t s) (w : Bounded t s) where
  abbrev before : ℕ → ℕ → Bool
  before = w.halt_history.before

  abbrev packets : ℕ → ℕ → ℕ
  packets p q = many (of every p q) s.network

  -- those to the root and back are charged to the halts
  abbrev others : ℕ → ℕ → ℕ
  others p q = cond (eqb q t.root) 0 (packets p q)

  abbrev halts : ℕ → ℕ → ℕ
  halts p q = charged t w 2 p q

  abbrev paid : ℕ → ℕ → ℕ
  paid p q = others p q + halts p q

  packets_most : (p q : ℕ) → packets p q ≤ tokens any s p q
  packets_most p q = omega (arith, of_between every p q s.network)

  packets_self : (p : ℕ) → packets p p ≡ 0
  packets_self p = none_alone every p s.network (λ x m. (v.packets x m).acceptable.apart)

  others_other : (p q : ℕ) → q ≢ t.root → others p q ≡ packets p q
  others_other p q n = ap (λ (b : Bool). cond b 0 (packets p q)) (ne_eqb q t.root n)

  others_root : (p q : ℕ) → q ≡ t.root → others p q ≡ 0
  others_root p q e = ap (λ (b : Bool). cond b 0 (packets p q)) (eq-eqb q t.root e)

  others_most : (p q k : ℕ) → (q ≢ t.root → tokens any s p q ≤ k) → others p q ≤ k
  others_most p q k f = ⊎_elim (λ e. omega (arith, others_root p q e)) (λ n. omega (arith, others_other p q n, packets_most p q, f n)) (equal_cases q t.root)

  root_paid : (p : ℕ) → packets p t.root ≤ sum (halts p) t.columns
  root_paid p = ⊎_elim (λ e. omega (arith, subst (λ (x : ℕ). packets x t.root ≡ 0) (sym e) (packets_self t.root)))
      (λ n. omega (arith, packets_most p t.root, w.halt_history.history.to_root p n, charged_sum t w 2 p n)) (equal_cases p t.root)

  row_paid : (p : ℕ) → sum (packets p) t.columns ≤ sum (paid p) t.columns
  row_paid p = omega (
    arith,
    sum_rise (packets p) (others p) t.columns t.root (packets p t.root) (omega arith) (λ q _ n. omega (arith, others_other p q n)),
    root_paid p,
    sum_add (others p) (halts p) t.columns,
  )

  self_paid : (p : ℕ) → paid p p ≡ 0
  self_paid p = omega (arith, others_none, charged_self t w 2 p)
    where
      others_none : others p p ≡ 0
      others_none = ⊎_elim (others_root p p) (λ n. others_other p p n ∙ packets_self p) (equal_cases p t.root)

  -- of the root and another: what the root sent
  root_pair : (q : ℕ) → q ≢ t.root → paid t.root q + paid q t.root ≤ 1
  root_pair q n = omega (
    arith,
    others_most t.root q 1 (w.root_row q),
    charged_root t w 2 t.root q refl,
    others_root q t.root refl,
    charged_for_root t w 2 q,
  )

  pair_paid : (p q : ℕ) → paid p q + paid q p ≤ 4
  pair_paid p q = go (truth (before p q)) (truth (before q p))
    where
      apart : (x y : ℕ) → (before x y ≡ true) ⊎ (before y x ≡ true) → others x y ≤ 1
      apart x y z = others_most x y 1 (λ n. w.halt_history.history.apart x y n z)

      halts_most : (x y : ℕ) → halts x y ≤ 2
      halts_most x y = ⊎_elim (λ e. omega (arith, charged_root t w 2 x y e)) (λ n. omega (arith, charged_other t w 2 x y n, one_few (before x y))) (equal_cases x t.root)

      go : (before p q ≡ true) ⊎ (before p q ≡ false) → (before q p ≡ true) ⊎ (before q p ≡ false) → paid p q + paid q p ≤ 4
      go (inl e) (inl f) = absurd (w.halt_history.history.one_way p q e f)
      go (inl e) (inr f) = omega (arith, apart p q (inl e), apart q p (inr e), halts_most p q, charged_none t w 2 q p f)
      go (inr e) (inl f) = omega (arith, apart p q (inr f), apart q p (inl f), charged_none t w 2 p q e, halts_most q p)
      go (inr e) (inr f) = omega (
        arith,
        others_most p q 2 (w.two p q),
        others_most q p 2 (w.two q p),
        charged_none t w 2 p q e,
        charged_none t w 2 q p f,
      )

  pub packets_bounded : t.root < t.columns → length s.network ≤ (t.columns - 1) * (2 * t.columns - 3)
  packets_bounded l = omega (
    arith,
    many_every s.network,
    many_pairs t.columns every s.network (λ x m. let z = (v.packets x m).acceptable in (z.sender_below, z.receiver_below)),
    sum_le (λ p. sum (packets p) t.columns) (λ p. sum (paid p) t.columns) t.columns (λ p _. row_paid p),
    square_halves paid t.columns t.root l (λ p _. self_paid p) (λ q _ n. root_pair q n) (λ p q _ _ _. pair_paid p q),
    formula t.columns (omega (arith, l)),
  )
