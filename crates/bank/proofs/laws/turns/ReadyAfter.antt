-- Who can do anything after a step of one column. Assumes nothing.
use Rattle.std.specs.Prelude.{ℕ, ◌^◌, ◌<◌, ◌≡◌, refl, ◌⊎◌, Bool, true, false, not, ◌||◌, cond}
use Rattle.std.proofs.Common.{sym, ap, ap₂, ◌∙◌, inl, inr, true≢false, arith, get_or-set_other, eq-eqb, ne_eqb}
use Rattle.std.specs.Bool.{beq}
use Rattle.std.proofs.Math.Bool.{or-true}
use Rattle.column.specs.laws.Cases.{equal_cases}
use Rattle.column.specs.Sets.{has, insert, without}
use Rattle.column.specs.laws.SetLaws.{has_insert, has_without_self, has_without_other, insert_lt, without_lt, same_members, selected_lt}
use Rattle.column.specs.declared.tree.Tree.{Tree}
use Rattle.column.specs.declared.state.Column.{Column}
use Rattle.bank.specs.Banks.{no_column, column_at, runs, halted_of}
use Rattle.bank.specs.inner.Changes.{stored}
use Rattle.bank.proofs.laws.ChangeLaws.{stored_at, halted_on}
use Rattle.bank.specs.inner.Turning.{is_full, is_ready, ready_of}
use Rattle.bank.specs.laws.turns.LowestReady.{ready, ready_has}
use Rattle.bank.specs.declared.bank.Bank.{Bank}
use Rattle.bank.specs.declared.settling.Change.{Change}

module _ (b : Bank) (i : ℕ) (r : Change) (below : i < b.tree.columns) (acts : runs b i ≡ true)
    (same : (j : ℕ) → runs (stored b i r) j ≡ runs b j) (as-full : not (beq (is_full b) (is_full (stored b i r))) ≡ false) where
  full : is_full (stored b i r) ≡ is_full b
  full = equal (is_full b) (is_full (stored b i r)) as-full
    where
      equal : (x y : Bool) → not (beq x y) ≡ false → y ≡ x
      equal true true e = refl
      equal true false e = absurd (true≢false e)
      equal false true e = absurd (true≢false e)
      equal false false e = refl

  abbrev own : Bool
  own = is_ready b.tree (is_full b) (halted_of b) i r.column

  told : (j : ℕ) (c : Column) → column_at (stored b i r) j ≡ c → ready (stored b i r) j ≡ is_ready b.tree (is_full b) (halted_of b) j c
  told j c e =
      ap (λ (x : Bool). is_ready b.tree x (halted_of (stored b i r)) j (column_at (stored b i r) j)) full
      ∙ ap₂ (λ (h : ℕ) (c : Column). is_ready b.tree (is_full b) h j c) (halted_on b (stored b i r) refl same) e

  mine : (x : Bool) → own ≡ x → has (cond x (insert (ready_of b) i) (without (ready_of b) i)) i ≡ ready (stored b i r) i
  mine x e = go x ∙ sym (told i r.column (stored_at b i r acts) ∙ e)
    where
      go : (x : Bool) → has (cond x (insert (ready_of b) i) (without (ready_of b) i)) i ≡ x
      go true = has_insert (ready_of b) i i ∙ ap (λ (y : Bool). has (ready_of b) i || y) (eq-eqb i i refl) ∙ or-true (has (ready_of b) i)
      go false = has_without_self (ready_of b) i

  other : (x : Bool) (j : ℕ) → j < b.tree.columns → (j ≡ i → ⊥)
      → has (cond x (insert (ready_of b) i) (without (ready_of b) i)) j ≡ ready (stored b i r) j
  other x j h ne =
      go x ∙ ready_has b j h ∙ sym (told j (column_at b j) (get_or-set_other b.columns i j r.column no_column ne))
    where
      or-false : (y : Bool) → (y || false) ≡ y
      or-false true = refl
      or-false false = refl

      go : (x : Bool) → has (cond x (insert (ready_of b) i) (without (ready_of b) i)) j ≡ has (ready_of b) j
      go true = has_insert (ready_of b) i j ∙ ap (λ (y : Bool). has (ready_of b) j || y) (ne_eqb j i ne) ∙ or-false (has (ready_of b) j)
      go false = has_without_other (ready_of b) i j ne

  ready_stored : cond own (insert (ready_of b) i) (without (ready_of b) i) ≡ ready_of (stored b i r)
  ready_stored =
      same_members b.tree.columns _ _ (small own) (selected_lt (ready (stored b i r)) b.tree.columns b.tree.columns (omega arith))
      (λ j h. go j h (equal_cases j i) ∙ sym (ready_has (stored b i r) j h))
    where
      all : ready_of b < 2 ^ b.tree.columns
      all = selected_lt (ready b) b.tree.columns b.tree.columns (omega arith)

      small : (x : Bool) → cond x (insert (ready_of b) i) (without (ready_of b) i) < 2 ^ b.tree.columns
      small true = insert_lt b.tree.columns (ready_of b) i all below
      small false = without_lt b.tree.columns (ready_of b) i all below

      go : (j : ℕ) → j < b.tree.columns → (j ≡ i) ⊎ (j ≡ i → ⊥)
          → has (cond own (insert (ready_of b) i) (without (ready_of b) i)) j ≡ ready (stored b i r) j
      go j h (inl e) =
          ap (has (cond own (insert (ready_of b) i) (without (ready_of b) i))) e ∙ mine own refl ∙ ap (ready (stored b i r)) (sym e)
      go j h (inr e) = other own j h e

  -- the set as it is kept
  pub ready_kept : {t : Tree} {halted set next : ℕ} → b.tree ≡ t → halted ≡ halted_of b → set ≡ ready_of b
      → next ≡ cond (is_ready t (is_full b) halted i r.column) (insert set i) (without set i) → next ≡ ready_of (stored b i r)
  ready_kept {halted = halted} {set = set} tree_is halted_is set_is e =
      e
      ∙ ap (λ (t : Tree). cond (is_ready t (is_full b) halted i r.column) (insert set i) (without set i)) (sym tree_is)
      ∙ ap₂ (λ (h m : ℕ). cond (is_ready b.tree (is_full b) h i r.column) (insert m i) (without m i)) halted_is set_is
      ∙ ready_stored
