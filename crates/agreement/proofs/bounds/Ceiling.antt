-- The potential of a reached bank of N columns is at most 9 N (N - 1), whoever is watched: 9 for each pair of columns, 5 for each of the root
-- and another, and 4 for each column alone but the root. The tokens of a column p and the root, two for each column that halted before p, count
-- 6 for each. A column q that halted has nothing to do any more, and 3 at most under way with p: that leaves 6 of the 9 of q and p. Assumes nothing.
use Prim.Native.Nat.{ℕ, ◌+◌, ◌-◌, ◌*◌, ◌≤◌, ◌<◌}
use native.Mathlib.Nat.{mul-sub, mul_assoc}
use native.Mathlib.Omega.{arith}
use mathlib.Core.Path.{◌≡◌, refl, sym, ap, subst, ◌∙◌}
use mathlib.Core.Logic.{◌≢◌, ◌⊎◌, ⊎_elim, inl, inr}
use mathlib.Core.Bool.{Bool, true, false, cond, not, ◌&&◌}
use mathlib.Core.List.{[], ◌∷◌}
use lib.Dec.{eqb, ltb}
use lib.ListN.{replicate}
use lib.Count.{count_trailing_zeros}
use borrow.Author.Tests.{eq-eqb, ne_eqb, le-ltb}
use Rattle.column.specs.laws.Cases.{truth, equal_cases}
use Rattle.column.specs.Trees.{IsTree, tree_of, every, climb, climbs_in, tree_refusal, subtree_in, subtrees_in}
use Rattle.column.specs.Sets.{has, selected}
use Rattle.column.specs.Columns.{state_refusal}
use Rattle.column.specs.Steps as core
use Rattle.column.specs.declared.tree.Tree.{Tree}
use Rattle.column.specs.declared.state.Column.{Column}
use Rattle.bank.specs.Words.{packet_of}
use Rattle.bank.specs.Networks.{closed_up, keeping, padded, put, puts}
use Rattle.bank.specs.Banks.{places, fresh_place, bank_refusal}
use Rattle.bank.specs.laws.NetworkLaws.{packets_meant}
use Rattle.bank.specs.Steps.{fitting, acted}
use Rattle.bank.specs.Performs.{perform}
use Rattle.bank.specs.declared.bank.Step.TheVariants.{Order}
use Rattle.agreement.proofs.relation.Model.{State, In, Runs, count}
use Rattle.agreement.proofs.invariant.Invariant.{Invariant, running_cases}
use Rattle.agreement.proofs.invariant.Validity.{Validity}
use Rattle.agreement.proofs.bounds.TokenLaws.{one, tokens, stale, current, many}
use Rattle.agreement.proofs.bounds.Sums.{sum, sum_le, sum_add, sum_swap, sum_rise, sum_but, square_add}
use Rattle.agreement.proofs.bounds.Bounded.{Bounded}
use Rattle.agreement.proofs.bounds.HaltCounts.{charged, charged_other, charged_root, charged_none, charged_self, charged_for_root, charged_sum}
use Rattle.agreement.proofs.bounds.Potential.{potential, own_part, other_part, beside, one_few, parts, debts}
use Rattle.agreement.proofs.bounds.PairValues.{own, value, potential_pairs, carried_tokens, alone, own_self, own_few, value_halted, value_other, carried_halted, own_below, current_none, split}
use Rattle.agreement.specs.Dispatching.{step_bound}
use Rattle.agreement.specs.History.{World, run, told}
use Rattle.agreement.specs.examples.Runs.{from_fresh}
use Rattle.agreement.proofs.bounds.PairTokens.{zero_cases}
use Rattle.agreement.proofs.bounds.Cover.{is_below, cover, exists}
use Rattle.agreement.proofs.relation.View.{model_of}

module _ (t : Tree) (tree : IsTree t) {s : State} (inv : Invariant t s) (st : Validity t s) (bounded : Bounded t s) where
  abbrev c : Column
  c = s.columns t.root

  newest : Runs s t.root → one (ltb c.number (count s)) ≡ 0
  newest r = ap one (le-ltb c.number (count s) (omega (arith, inv.root_newest r)))

  goal : Runs s t.root → c.whole ≡ true
  goal r = (inv.locals t.root r).root_whole refl

  pub root_alone : own t s t.root t.root ≡ 0
  root_alone = go c.running refl
    where
      nobody : Runs s t.root → one (cover t t.root c t.root) ≡ 0
      nobody r = ⊎_elim (λ k. absurd ((own_below t tree inv st bounded t.root t.root r (inr refl) k).other refl)) (λ k. ap one k)
          (truth (cover t t.root c t.root))

      go : (b : Bool) → c.running ≡ b →
          cond b (beside t.root (own_part t (count s) t.root c) (other_part t (count s) t.root c) t.root) 0 ≡ 0
      go true r = omega (
        arith,
        nobody r,
        newest r,
        ap (λ (x : Bool). one (not x)) (goal r),
        ap (λ (x : Bool). cond x (own_part t (count s) t.root c) (other_part t (count s) t.root c t.root)) (eq-eqb t.root t.root refl),
      )
      go false r = refl

  pub root_other : (q : ℕ) → q ≢ t.root → value t s t.root q ≤ 5
  root_other q n = ⊎_elim running stopped (running_cases s t.root)
    where
      stopped : ¬ Runs s t.root → value t s t.root q ≤ 5
      stopped h = omega (arith, value_halted t tree inv st bounded t.root q h, bounded.root_row q n)

      running : Runs s t.root → value t s t.root q ≤ 5
      running r = ⊎_elim none some (zero_cases (tokens (current c.number) s t.root q))
        where
          part : own t s t.root q ≡ one (not (has c.noted q)) + 4 * one (cover t t.root c q)
          part = omega (
            arith,
            newest r,
            ap (λ (x : Bool). one (not x && not (is_below t t.root q))) (goal r),
            ap (λ (b : Bool). cond b (beside t.root (own_part t (count s) t.root c) (other_part t (count s) t.root c) q) 0) r,
            ap (λ (x : Bool). cond x (own_part t (count s) t.root c) (other_part t (count s) t.root c q)) (ne_eqb q t.root n),
          )

          some : 0 < tokens (current c.number) s t.root q → value t s t.root q ≤ 5
          some h = omega (
            arith,
            part,
            current_none t tree inv st bounded t.root q r n h,
            carried_tokens t tree inv st bounded t.root q,
            bounded.root_row q n,
            one_few (not (has c.noted q)),
          )

          none : tokens (current c.number) s t.root q ≡ 0 → value t s t.root q ≤ 5
          none e = ⊎_elim
              (λ k. omega (
                arith,
                part,
                e,
                k,
                split t tree inv st bounded t.root q r n,
                carried_tokens t tree inv st bounded t.root q,
                one_few (not (has c.noted q)),
                one_few (cover t t.root c q),
              ))
              (λ k. ⊎_elim noted (λ z. absurd (z.0 r)) ((bounded.pair_tokens t.root q r).stale_held n k))
              (zero_cases (tokens (stale c.number) s t.root q))
            where
              noted : In c.noted q × (tokens (current c.number) s t.root q ≡ 0) → value t s t.root q ≤ 5
              noted z = omega (
                arith,
                part,
                carried_halted t tree inv st bounded t.root q ((inv.coverages t.root r).noted_halted q z.0),
                bounded.root_row q n,
                ap (λ (x : Bool). one (not x)) z.0.holds,
                one_few (cover t t.root c q),
              )

module _ (t : Tree) (tree : IsTree t) {s : State} (inv : Invariant t s) (st : Validity t s) (bounded : Bounded t s) where
  abbrev before : ℕ → ℕ → Bool
  before = bounded.halt_history.before

  -- but for the tokens of a column and the root
  abbrev main : ℕ → ℕ → ℕ
  main p q = cond (eqb q t.root) (own t s p q) (value t s p q)

  abbrev halts : ℕ → ℕ → ℕ
  halts p q = charged t bounded 6 p q

  main_other : (p q : ℕ) → q ≢ t.root → main p q ≡ value t s p q
  main_other p q n = ap (λ (b : Bool). cond b (own t s p q) (value t s p q)) (ne_eqb q t.root n)

  main_root : (p q : ℕ) → q ≡ t.root → main p q ≡ own t s p q
  main_root p q e = ap (λ (b : Bool). cond b (own t s p q) (value t s p q)) (eq-eqb q t.root e)

  -- the halts pay for the tokens of p and the root
  root_paid : (p : ℕ) → value t s p t.root ≤ main p t.root + sum (halts p) t.columns
  root_paid p = ⊎_elim
      (λ e. subst (λ (x : ℕ). value t s x t.root ≤ main x t.root + sum (halts x) t.columns) (sym e)
      (omega (arith, alone t tree inv st bounded t.root tree.root_below, main_root t.root t.root refl)))
      (λ n. omega (
        arith,
        carried_tokens t tree inv st bounded p t.root,
        bounded.halt_history.history.to_root p n,
        charged_sum t bounded 6 p n,
        main_root p t.root refl,
      ))
      (equal_cases p t.root)

  row_paid : (p : ℕ) → sum (value t s p) t.columns ≤ sum (main p) t.columns + sum (halts p) t.columns
  row_paid p = sum_rise (value t s p) (main p) t.columns t.root (sum (halts p) t.columns) (root_paid p)
      (λ q _ n. omega (arith, main_other p q n))

  -- what q and p count, with what is left to pay for the tokens of q and the root
  abbrev paid : ℕ → ℕ → ℕ
  paid p q = main p q + halts q p

  self_paid : (p : ℕ) → p < t.columns → paid p p ≤ 4
  self_paid p l = omega (
    arith,
    own_self t tree inv st bounded p,
    alone t tree inv st bounded p l,
    ⊎_elim (λ e. main_root p p e) (λ n. main_other p p n ∙ alone t tree inv st bounded p l) (equal_cases p t.root),
    charged_self t bounded 6 p,
  )

  pair_paid : (p q : ℕ) → q ≢ p → paid p q ≤ 9
  pair_paid p q e = ⊎_elim
      (λ z. omega (arith, main_root p q z, charged_root t bounded 6 q p z, own_few t tree inv st bounded p q e))
      (λ n. other n (truth (before q p))) (equal_cases q t.root)
    where
      other : q ≢ t.root → (before q p ≡ true) ⊎ (before q p ≡ false) → paid p q ≤ 9
      other n (inl h) = omega (
        arith,
        main_other p q n,
        charged_other t bounded 6 q p n,
        ap one h,
        value_halted t tree inv st bounded p q (bounded.halt_history.history.stopped q p h),
        bounded.halt_history.history.apart p q n (inr h),
      )
      other n (inr h) = omega (arith, main_other p q n, charged_none t bounded 6 q p h, value_other t tree inv st bounded p q e n)

  -- the root's row
  root_row : sum (paid t.root) t.columns + 5 ≤ t.columns * 5
  root_row = omega (arith, sum_but (paid t.root) t.columns t.root 0 5 tree.root_below self others)
    where
      self : paid t.root t.root ≤ 0
      self = omega (arith, main_root t.root t.root refl, charged_self t bounded 6 t.root, root_alone t tree inv st bounded)

      others : (q : ℕ) → q < t.columns → q ≢ t.root → paid t.root q ≤ 5
      others q _ n = omega (arith, main_other t.root q n, charged_for_root t bounded 6 q, root_other t tree inv st bounded q n)

  -- every other row
  other_row : (p : ℕ) → p < t.columns → sum (paid p) t.columns ≤ t.columns * 9 - 5
  other_row p l = omega (arith, tree.some, sum_but (paid p) t.columns p 4 9 l (self_paid p l) (λ q _ n. pair_paid p q n))

  pub ceiling : potential t s ≤ step_bound t.columns
  ceiling = omega (
    arith,
    potential_pairs t s st,
    sum_le (λ p. sum (value t s p) t.columns) (λ p. sum (main p) t.columns + sum (halts p) t.columns) t.columns (λ p _. row_paid p),
    sum_add (λ p. sum (main p) t.columns) (λ p. sum (halts p) t.columns) t.columns,
    sum_swap halts t.columns t.columns,
    square_add main (λ p q. halts q p) t.columns,
    sum_but (λ p. sum (paid p) t.columns) t.columns t.root (t.columns * 5 - 5) (t.columns * 9 - 5) tree.root_below
        (omega (arith, root_row)) (λ p l _. other_row p l),
    sym (mul_assoc t.columns t.columns 9),
    mul-sub t.columns (t.columns * 9) 5,
    mul-sub t.columns t.columns 1,
    tree.some,
  )

-- the root of a star of n columns has an order
abbrev ordered : ℕ → World
ordered n = run (from_fresh (tree_of n 0 (replicate 16 0))) (Order 513 ∷ [])

abbrev left : World → ℕ
left w = potential w.state.bank.tree (model_of w.state w.orders)

pub ceiling_met : (left (ordered 2) ≡ step_bound 2) × (left (ordered 3) ≡ step_bound 3)
unfolding run told perform every closed_up keeping padded places fresh_place bank_refusal packet_of put puts fitting acted climb climbs_in tree_refusal state_refusal selected count_trailing_zeros subtree_in subtrees_in core.order_refusal core.order_effect packets_meant sum many exists cover parts debts
ceiling_met = (refl, refl)
