-- The children of a column as a set. Assumes nothing.
use Rattle.std.specs.Prelude.{ℕ, ◌^◌, ◌≤◌, ◌<◌, ◌≡◌, refl, Bool, true, false, not, ◌&&◌, eqb, ltb}
use Rattle.std.proofs.Common.{sym, ap, ◌∙◌, ⊎_elim, le_refl, arith, pow_pos, eq-eqb, ne_eqb, eqb-true, ltb-true, ltb-false}
use Rattle.std.proofs.Math.Bool.{and-true}
use Rattle.std.specs.Int.Bits.{bit_and}
use Rattle.std.proofs.lemmas.Nat.{and_le_l, and_le_r}
use Rattle.std.proofs.lemmas.Bool.{eqb-false, not-true}
use Rattle.column.specs.laws.Cases.{truth, and_left, and_right}
use Rattle.column.specs.Sets.{has, without, whole, selected}
use Rattle.column.specs.laws.SetLaws.{has_above, has_and, has_without, member_lt, same_members, without_lt, selected_lt, selected_has}
use Rattle.column.specs.laws.SequenceLaws.{whole_has}
use Rattle.column.specs.Trees.{parent, is_child, children}
use Rattle.column.specs.inner.TreePasses.{names}
use Rattle.column.specs.declared.tree.Tree.{Tree}

module _ (t : Tree) (c : ℕ) where
  pub children_lt : children t c < 2 ^ t.columns
  children_lt = selected_lt (is_child t c) t.columns t.columns (le_refl t.columns)

  pub children_has : (j : ℕ) → j < t.columns → has (children t c) j ≡ is_child t c j
  children_has j h = selected_has (is_child t c) t.columns j h

  pub child_below : (q : ℕ) → has (children t c) q ≡ true → q < t.columns
  child_below q e = member_lt t.columns (children t c) q children_lt e

  pub child_parent : (q : ℕ) → has (children t c) q ≡ true → parent t q ≡ c
  child_parent q e =
      eqb-true (parent t q) c (and_left (eqb (parent t q) c) (not (eqb q t.root)) (sym (children_has q (child_below q e)) ∙ e))

  pub child_other : (q : ℕ) → has (children t c) q ≡ true → q ≡ t.root → ⊥
  child_other q e =
      eqb-false q t.root (not-true _ (and_right (eqb (parent t q) c) (not (eqb q t.root)) (sym (children_has q (child_below q e)) ∙ e)))

  pub child_has : (q : ℕ) → q < t.columns → parent t q ≡ c → (q ≡ t.root → ⊥) → has (children t c) q ≡ true
  child_has q h e ne = children_has q h ∙ rw (eq-eqb (parent t q) c e, ne_eqb q t.root ne)

  -- "the root names itself, but is nobody's child"
  pub root_no_child : has (children t c) t.root ≡ false
  root_no_child = ⊎_elim (λ e. absurd (child_other t.root e refl)) (λ e. e) (truth (has (children t c) t.root))

-- ---- the children among those of all sixteen places that name a column

module _ (t : Tree) (c : ℕ) (few : t.columns ≤ 16) where
  abbrev pub naming : ℕ
  naming = bit_and (selected (names t.up c) 16) (whole t.columns)

  naming_below : naming < 2 ^ t.columns
  naming_below = omega (arith, and_le_r (selected (names t.up c) 16) (whole t.columns), pow_pos t.columns)

  naming_lt : naming < 2 ^ 16
  naming_lt = omega (arith, and_le_l (selected (names t.up c) 16) (whole t.columns), selected_lt (names t.up c) 16 16 (le_refl 16))

  naming_has : (j : ℕ) → j < t.columns → has naming j ≡ eqb (parent t j) c
  naming_has j h =
      has_and (selected (names t.up c) 16) (whole t.columns) j
      ∙ ap (λ (b : Bool). has (selected (names t.up c) 16) j && b) (whole_has t.columns j h)
      ∙ and-true (has (selected (names t.up c) 16) j)
      ∙ selected_has (names t.up c) 16 j (omega arith)

  naming_same : (j : ℕ) → (has naming j && not (eqb j t.root)) ≡ has (children t c) j
  naming_same j = ⊎_elim within_it past_it (truth (ltb j t.columns))
    where
      within_it : ltb j t.columns ≡ true → (has naming j && not (eqb j t.root)) ≡ has (children t c) j
      within_it e =
          let h = ltb-true j t.columns e in
          ap (λ (b : Bool). b && not (eqb j t.root)) (naming_has j h) ∙ sym (children_has t c j h)

      past_it : ltb j t.columns ≡ false → (has naming j && not (eqb j t.root)) ≡ has (children t c) j
      past_it e =
          let h = ltb-false j t.columns e in
          ap (λ (b : Bool). b && not (eqb j t.root)) (has_above t.columns naming j naming_below h)
          ∙ sym (has_above t.columns (children t c) j (children_lt t c) h)

  pub naming_children : t.root < 16 → without naming t.root ≡ children t c
  naming_children h =
      same_members 16 _ _ (without_lt 16 naming t.root naming_lt h) (selected_lt (is_child t c) t.columns 16 few)
      (λ j l. has_without naming t.root j ∙ naming_same j)

  -- where the root is no place
  pub naming_all : 16 ≤ t.root → naming ≡ children t c
  naming_all h =
      same_members 16 _ _ naming_lt (selected_lt (is_child t c) t.columns 16 few)
      (λ j l.
      sym (and-true (has naming j))
      ∙ ap (λ (b : Bool). has naming j && not b) (sym (ne_eqb j t.root (λ e. omega (arith, e))))
      ∙ naming_same j)
