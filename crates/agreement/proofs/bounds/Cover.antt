-- The cover of a column: whom it has still to reach. Those in the subtrees of whom it is to send to and those below whom it awaits, but
-- who took over the bank need not serve its own subtree again. Assumes nothing.
use Prim.Native.Nat.{ℕ, zero, suc, ◌<◌}
use native.Mathlib.Omega.{arith}
use mathlib.Core.Path.{◌≡◌, sym, ap, ap₂, subst, ◌∙◌}
use mathlib.Core.Logic.{◌≢◌, ◌⊎◌, ⊎_elim, inl, inr}
use mathlib.Core.Bool.{Bool, true, false, not, ◌&&◌, ◌||◌, or-true, true≢false}
use lib.Dec.{eqb}
use borrow.Author.Tests.{ne_eqb, eqb-false, not-true}
use Rattle.column.specs.laws.Cases.{equal_cases, truth, or_cases, and_left, and_right}
use Rattle.column.specs.Sets.{has}
use Rattle.column.specs.Trees.{subtree}
use Rattle.column.specs.declared.tree.Tree.{Tree}
use Rattle.column.specs.declared.state.Column.{Column}
use Rattle.agreement.proofs.relation.Members.{Below}
use Rattle.agreement.proofs.invariant.Invariant.{Local}
use Rattle.agreement.proofs.bounds.SpreadLaws.{ToServe, to_send, to_await}

-- ---- a test that some number below n passes

unfoldable pub exists : (ℕ → Bool) → ℕ → Bool
exists f zero = false
exists f (suc n) = exists f n || f n

exists_here : (f : ℕ → Bool) (n x : ℕ) → x < n → f x ≡ true → exists f n ≡ true
unfolding exists
exists_here f zero x l e = absurd (omega arith)
exists_here f (suc n) x l e = ⊎_elim
    (λ (z : x ≡ n). ap (λ (b : Bool). exists f n || b) (subst (λ (y : ℕ). f y ≡ true) z e) ∙ or-true (exists f n))
    (λ (z : x ≢ n). ap (λ (b : Bool). b || f n) (exists_here f n x (omega (arith, z)) e))
    (equal_cases x n)

exists_where : (f : ℕ → Bool) (n : ℕ) → exists f n ≡ true → (x : ℕ) × (f x ≡ true)
unfolding exists
exists_where f zero e = absurd (true≢false (sym e))
exists_where f (suc n) e = ⊎_elim (λ z. exists_where f n z) (λ z. (n, z)) (or_cases (exists f n) (f n) e)

-- ---- the proper descendants of a column

abbrev pub is_below : Tree → ℕ → ℕ → Bool
is_below t a q = has (subtree t a) q && not (eqb q a)

module _ (t : Tree) (a q : ℕ) where
  pub below_true : Below t a q → is_below t a q ≡ true
  below_true b = ap₂ (λ (x y : Bool). x && not y) b.under (ne_eqb q a b.other)

  pub true_below : is_below t a q ≡ true → Below t a q
  true_below e = record {
    under = and_left (has (subtree t a) q) _ e;
    other = eqb-false q a (not-true (eqb q a) (and_right (has (subtree t a) q) _ e));
  }

-- ---- the cover

-- q is to be served for the sake of x
abbrev pub serves : Tree → Column → ℕ → ℕ → Bool
serves t c q x = (has c.send x && has (subtree t x) q) || (has c.awaited x && is_below t x q)

-- q was served before column p, which is c, took over the bank
abbrev pub passed : Tree → ℕ → Column → ℕ → Bool
passed t p c q = c.whole && (not (eqb p t.root) && is_below t p q)

unfoldable pub cover : Tree → ℕ → Column → ℕ → Bool
cover t p c q = exists (serves t c q) t.columns && not (passed t p c q)

-- the same as a statement
abbrev pub Passed : Tree → ℕ → Column → ℕ → Type 0
Passed t p c q = (c.whole ≡ true) × (p ≢ t.root) × Below t p q

module _ (t : Tree) (p : ℕ) (c : Column) (q : ℕ) where
  passed_in : passed t p c q ≡ true → Passed t p c q
  passed_in e =
      let r = and_right c.whole _ e in (
        and_left c.whole _ e,
        eqb-false p t.root (not-true (eqb p t.root) (and_left (not (eqb p t.root)) _ r)),
        true_below t p q (and_right (not (eqb p t.root)) _ r),
      )

  in_passed : Passed t p c q → passed t p c q ≡ true
  in_passed z = ap₂ (λ (x y : Bool). x && y) z.0 (ap₂ (λ (x y : Bool). not x && y) (ne_eqb p t.root z.1) (below_true t p q z.2))

  pub cover_serves : cover t p c q ≡ true → ToServe t c q
  unfolding cover
  cover_serves e =
      let z = exists_where (serves t c q) t.columns (and_left _ _ e) in
      let x = z.0 in
      ⊎_elim
      (λ h. to_send x (record { holds = and_left (has c.send x) _ h }) (and_right (has c.send x) _ h))
      (λ h. to_await x (record { holds = and_left (has c.awaited x) _ h }) (true_below t x q (and_right (has c.awaited x) _ h)))
      (or_cases (has c.send x && has (subtree t x) q) _ z.1)

  pub cover_passed : cover t p c q ≡ true → Passed t p c q → ⊥
  unfolding cover
  cover_passed e z = true≢false (sym (in_passed z) ∙ not-true (passed t p c q) (and_right (exists (serves t c q) t.columns) _ e))

  pub serves_cover : Local t p c → ToServe t c q → (Passed t p c q → ⊥) → cover t p c q ≡ true
  unfolding cover
  serves_cover l k n = ap₂ (λ (x y : Bool). x && not y) (found k) (unpassed (truth (passed t p c q)))
    where
      found : ToServe t c q → exists (serves t c q) t.columns ≡ true
      found (to_send x m u) = exists_here _ t.columns x (l.members x (inl m))
          (ap₂ (λ (y z : Bool). (y && z) || (has c.awaited x && is_below t x q)) m.holds u)
      found (to_await x m b) = exists_here _ t.columns x (l.members x (inr m))
          (ap₂ (λ (y z : Bool). (has c.send x && has (subtree t x) q) || (y && z)) m.holds (below_true t x q b)
          ∙ or-true (has c.send x && has (subtree t x) q))

      unpassed : (passed t p c q ≡ true) ⊎ (passed t p c q ≡ false) → passed t p c q ≡ false
      unpassed (inl e) = absurd (n (passed_in e))
      unpassed (inr e) = e
