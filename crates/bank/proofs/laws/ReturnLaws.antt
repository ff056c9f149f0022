-- A return as the bank's code does it, from what a survey answers; and what is in each place after it. Assumes nothing.
use Rattle.std.specs.Prelude.{ℕ, ◌+◌, ◌≤◌, ◌<◌, ◌≡◌, Bool, not, ◌&&◌, leb, ltb, length}
use Rattle.std.proofs.Math.Path.{refl, ap}
use Rattle.std.proofs.Common.{ap₂, ◌∙◌, arith}
use Rattle.std.proofs.Math.Bool.{true, false, cond}
use Rattle.std.proofs.Math.Dec.{eqb}
use Rattle.std.proofs.Math.ListN.{length-set}
use Rattle.std.proofs.Math.Seq.{get_or-set_same, get_or-set_other}
use borrow.Author.Tests.{eqb-true, eqb-false, lt-ltb, le-ltb, leb-false, not-false}
use Rattle.column.specs.Refusals.{first}
use Rattle.column.specs.laws.RefusalLaws.{passed, earlier_none}
use Rattle.column.specs.Sets.{has, without, lowest}
use Rattle.column.specs.laws.SetLaws.{has_none, without_none, selected_has}
use Rattle.column.specs.Returns.{rejoined, struck}
use Rattle.column.specs.declared.state.Column.{Column}
use Rattle.bank.specs.Banks.{State, no_column, column_at, runs, running_of, bank_refusal}
use Rattle.bank.specs.laws.ValidityLaws.{Valid, valid}
use Rattle.bank.specs.laws.SurveyLaws.{others_halted}
use Rattle.bank.specs.laws.strips.Rewriting.{rewriting_at, rewriting_length}
use Rattle.bank.specs.Rest.{AtRest, is_at_rest}
use Rattle.bank.specs.inner.Returning.{columns_rest, returning_conditions, returning_refusal, rejoining}
use Rattle.bank.proofs.laws.RestLaws.{rest_columns, rest_exact}
use Rattle.bank.specs.Returns.{back_conditions, back_refusal, lowest_running, come_back, with_struck, returned}
use Rattle.bank.specs.declared.bank.Bank.{Bank}

-- ---- the refusal where n is the bank's and those in `running` run: the words are not looked at

module _ (s : State) (j : ℕ) where
  abbrev b : Bank
  b = s.bank

  rests : bank_refusal s ≡ 0 → (eqb b.count 0 && columns_rest b) ≡ is_at_rest s
  unfolding is_at_rest
  rests good = go (eqb b.count 0) refl
    where
      go : (x : Bool) → eqb b.count 0 ≡ x → (x && columns_rest b) ≡ is_at_rest s
      go true e = rest_columns s (eqb-true b.count 0 e) good
      go false e = rw e

  -- a column that the bank has not is refused before it is asked whether it runs
  below_runs : (beyond : Bool) (rest : ℕ) → leb b.tree.columns j ≡ beyond
      → ◌≡◌ {A = ℕ} (cond beyond 4 (cond (has (running_of b) j) 6 rest)) (cond beyond 4 (cond (runs b j) 6 rest))
  below_runs true rest e = refl
  below_runs false rest e =
      ap (λ (x : Bool). cond x 6 rest) (selected_has (runs b) b.tree.columns j (leb-false b.tree.columns j e))

  both_fourteen : (none quiet : Bool) (rest : ℕ)
      → ◌≡◌ {A = ℕ} (cond (not none) 14 (cond (not quiet) 14 rest)) (cond (not (none && quiet)) 14 rest)
  both_fourteen true quiet rest = refl
  both_fourteen false quiet rest = refl

  conditions_alike : bank_refusal s ≡ 0 → first (returning_conditions b (running_of b) j) ≡ first (back_conditions s j)
  conditions_alike good =
      below_runs (leb b.tree.columns j) _ refl
      ∙ ap (λ (k : ℕ). cond (leb b.tree.columns j) 4 (cond (runs b j) 6 (cond (eqb j b.tree.root) 15 k)))
      (both_fourteen (eqb b.count 0) (columns_rest b) _
      ∙ ap (λ (x : Bool). cond (not x) 14 (cond (eqb (running_of b) 0) 16 0)) (rests good))

  -- what the code answers is the refusal
  pub returning_refusal_lem : {n running : ℕ} → n ≡ bank_refusal s → (n ≡ 0 → running ≡ running_of b)
      → returning_refusal n b running j ≡ back_refusal s j
  unfolding returning_refusal back_refusal
  returning_refusal_lem {n} {running} e running_is = ap (λ (k : ℕ). returning_refusal k b running j) e ∙ go (eqb (bank_refusal s) 0) refl
    where
      go : (x : Bool) → eqb (bank_refusal s) 0 ≡ x
          → cond x (first (returning_conditions b running j)) (bank_refusal s) ≡ cond x (first (back_conditions s j)) (bank_refusal s)
      go true z =
          let good = eqb-true (bank_refusal s) 0 z in
          ap (λ (r : ℕ). first (returning_conditions b r j)) (running_is (e ∙ good)) ∙ conditions_alike good
      go false z = refl

-- ---- what is known where a return is accepted

pub record Returning (s : State) (j : ℕ) : Type 0 where
  pub valid : Valid s
  pub below : j < s.bank.tree.columns
  pub halted : runs s.bank j ≡ false
  pub not_root : j ≡ s.bank.tree.root → ⊥
  pub at_rest : AtRest s
  pub some_run : running_of s.bank ≡ 0 → ⊥

pub returning : (s : State) (j : ℕ) → back_refusal s j ≡ 0 → Returning s j
unfolding back_refusal
returning s j e =
    let q = earlier_none (bank_refusal s) (first (back_conditions s j)) e in
    let p = passed (back_conditions s j) tt q.1 in
    record {
      valid = valid s q.0;
      below = leb-false s.bank.tree.columns j p.0;
      halted = p.1.0;
      not_root = eqb-false j s.bank.tree.root p.1.1.0;
      at_rest = (rest_exact s).0 (not-false (is_at_rest s) p.1.1.1.0);
      some_run = eqb-false (running_of s.bank) 0 p.1.1.1.1.0;
    }

-- ---- the places after it

module _ (b : Bank) (j : ℕ) where
  abbrev strike : Column → Column
  strike c = struck c j

  none_struck : strike no_column ≡ no_column
  none_struck = rw (without_none 0 0 j (omega arith) (has_none j))

  pub struck_at : (k : ℕ) → column_at (with_struck b j) k ≡ cond (ltb k b.tree.columns) (strike (column_at b k)) (column_at b k)
  struck_at k =
      let z : 0 + k ≡ k = omega arith in
      rewriting_at strike none_struck (λ i. ltb i b.tree.columns) 0 b.columns k
      ∙ ap (λ i. cond (ltb i b.tree.columns) (strike (column_at b k)) (column_at b k)) z

  -- the column that comes back is found among those struck: a record and a page are left as they were
  pub rejoining_struck : {running : ℕ} → running ≡ running_of b → b.tree.root < b.tree.columns
      → rejoining b.tree running (column_at (with_struck b j) j) (column_at (with_struck b j) (lowest running)) j ≡ come_back b j
  rejoining_struck {running} e below =
      let t = b.tree in
      let l = lowest_running b in
      ap (λ (r : ℕ). rejoining t r (column_at (with_struck b j) j) (column_at (with_struck b j) (lowest r)) j) e
      ∙ ap₂ (λ (own copied : Column). rejoining t (running_of b) own copied j) (struck_at j) (struck_at l)
      ∙ kept (ltb j t.columns) (ltb l t.columns)
      ∙ ap₂ (λ (others : ℕ) (run : Bool). rejoined (column_at b j) (column_at b l) (without others j) (not run) l)
      (others_halted b) (selected_has (runs b) t.columns t.root below)
    where
      kept : (x y : Bool) → let l = lowest_running b in
          rejoining b.tree (running_of b) (cond x (strike (column_at b j)) (column_at b j)) (cond y (strike (column_at b l)) (column_at b l)) j
          ≡ rejoining b.tree (running_of b) (column_at b j) (column_at b l) j
      kept true true = refl
      kept true false = refl
      kept false true = refl
      kept false false = refl

  struck_length : length (with_struck b j).columns ≡ length b.columns
  struck_length = rewriting_length strike (λ i. ltb i b.tree.columns) 0 b.columns

  pub returned_length : length (returned b j).columns ≡ length b.columns
  unfolding returned
  returned_length = length-set (with_struck b j).columns j (come_back b j) ∙ struck_length

  pub place_mine : j < length b.columns → column_at (returned b j) j ≡ come_back b j
  unfolding returned
  place_mine h = get_or-set_same (with_struck b j).columns j (come_back b j) no_column (omega (arith, h, struck_length))

  module _ (k : ℕ) (other : k ≡ j → ⊥) where
    place_other : column_at (returned b j) k ≡ column_at (with_struck b j) k
    unfolding returned
    place_other = get_or-set_other (with_struck b j).columns j k (come_back b j) no_column other

    pub place_struck : k < b.tree.columns → column_at (returned b j) k ≡ strike (column_at b k)
    place_struck h = place_other ∙ struck_at k ∙ rw (lt-ltb k b.tree.columns h)

    pub place_unused : b.tree.columns ≤ k → column_at (returned b j) k ≡ column_at b k
    place_unused h = place_other ∙ struck_at k ∙ rw (le-ltb k b.tree.columns h)
