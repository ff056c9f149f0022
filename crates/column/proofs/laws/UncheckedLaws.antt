-- A send for a caller that has tested rows 2 to 4 is the send itself where those let pass; and its effect alone is, where it is accepted.
use Rattle.std.specs.Prelude.{ℕ, ◌≡◌}
use Rattle.std.proofs.Common.{◌∙◌, arith}
use borrow.Author.Tests.{eqb-false}
use Rattle.column.specs.laws.RefusalLaws.{passed, earlier_none}
use Rattle.column.specs.laws.UncheckedLaws.{within, unchecked_same, bounds_unchecked}
use Rattle.column.specs.Trees.{choose}
use Rattle.column.specs.Columns.{validity_refusal}
use Rattle.column.specs.Steps.{send_conditions, send_refusal, send_effect, send}
use Rattle.column.specs.Unchecked.{bounded_send, send_unchecked}
use Rattle.column.specs.declared.tree.Tree.{Tree}
use Rattle.column.specs.declared.state.Column.{Column}
use Rattle.column.proofs.laws.ChoiceLaws.{validity_refusal_choice}

module _ (t : Tree) (i : ℕ) (c : Column) (good : validity_refusal t i c ≡ 0) where
  pub send_unchecked_lem : send_unchecked t i c ≡ send t i c
  unfolding send_refusal
  send_unchecked_lem =
      unchecked_same (send_conditions t i c) t i (choose t c.send) (validity_refusal t i c) c (send_effect t i c) good
      (λ e.
      let p = passed (send_conditions t i c) tt e in
      within t i c good (choose t c.send) (validity_refusal_choice t i c good (omega (arith, eqb-false c.send 0 p.1.0))))

  pub send_bounded : send_refusal t i c ≡ 0 → bounded_send t i c ≡ send t i c
  unfolding send_refusal
  send_bounded z =
      bounds_unchecked (send_conditions t i c) t i (choose t c.send) (earlier_none (validity_refusal t i c) _ z).1 c (send_effect t i c) ∙ send_unchecked_lem
