-- The lines of a script that rewrite the place of one column at most, for a caller that has tested its bank. Assumes nothing.
use Rattle.std.specs.Prelude.{ℕ, ◌%◌, ◌≤◌, ◌<◌, ◌≡◌, Bool, true, false, List}
use Rattle.std.proofs.Common.{sym, ap, subst, ◌∙◌, arith, eq-eqb, ne_eqb, le-leb}
use Rattle.std.proofs.lemmas.Bool.{lt-leb}
use Rattle.column.specs.laws.TreeLaws.{tree_sixteen}
use Rattle.column.specs.declared.state.Column.{Column}
use Rattle.text.specs.Text.{refused_text, Writes}
use Rattle.list.specs.Closing.{list_text}
use Rattle.bank.specs.Banks.{State, column_at, runs, bank_refusal}
use Rattle.bank.specs.laws.ValidityLaws.{valid}
use Rattle.script.specs.Scripts.{listed_text}

-- ---- which text it is

pub same_text : {r at : ℕ} {new old w w' : List ℕ} → w ≡ w' → Writes r new old at w → Writes r new old at w'
same_text {r} {at} {new} {old} e = subst (λ (w : List ℕ). Writes r new old at w) e

module _ (s : State) (i : ℕ) where
  pub listed_bank : {n : ℕ} → n ≡ bank_refusal s → (n ≡ 0 → ⊥) → refused_text n ≡ listed_text s i
  listed_bank {n} e some =
      let other : bank_refusal s ≡ 0 → ⊥ = λ z. some (e ∙ z) in
      ap refused_text e ∙ sym (simp (ne_eqb (bank_refusal s) 0 other))

  module _ (good : bank_refusal s ≡ 0) where
    pub listed_none : s.bank.tree.columns ≤ i → refused_text 4 ≡ listed_text s i
    listed_none h = sym (simp (eq-eqb (bank_refusal s) 0 good, le-leb s.bank.tree.columns i h))

    module _ (below : i < s.bank.tree.columns) where
      here : i % 16 ≡ i
      here = omega (arith, below, tree_sixteen s.bank.tree (valid s good).tree)

      module _ (c : Column) (place : column_at s.bank (i % 16) ≡ c) where
        at_place : column_at s.bank i ≡ c
        at_place = ap (column_at s.bank) (sym here) ∙ place

        running_is : (b : Bool) → c.running ≡ b → runs s.bank i ≡ b
        running_is b e = ap (λ (d : Column). d.running) at_place ∙ e

        pub listed_halted : c.running ≡ false → refused_text 5 ≡ listed_text s i
        listed_halted e =
            sym (simp (eq-eqb (bank_refusal s) 0 good, lt-leb s.bank.tree.columns i below, running_is false e))

        pub listed_runs : c.running ≡ true → list_text (i % 16) c ≡ listed_text s i
        listed_runs e =
            ap (λ (k : ℕ). list_text k c) here
            ∙ ap (list_text i) (sym at_place)
            ∙ sym (simp (eq-eqb (bank_refusal s) 0 good, lt-leb s.bank.tree.columns i below, running_is true e))
