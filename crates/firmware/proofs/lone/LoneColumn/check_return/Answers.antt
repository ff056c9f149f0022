use Rattle.std.proofs.Common.{◌≡◌, ◌^◌, ◌<◌, ◌≤◌, ◌/◌, sym, ap, ◌∙◌, arith, ℕ}
use Rattle.std.proofs.Math.Pow.{pow_mono}
use borrow.Author.Tests.{eq-eqb}
use Rattle.column.specs.Columns.{validity_refusal}
use Rattle.column.specs.laws.SetLaws.{within_lt}
use Rattle.column.specs.laws.StateLaws.{validity_refusal_sixteen}
use Rattle.firmware.proofs.lone.LoneColumn.check_return.Goals as goal

pub overflow_cast-halted : goal.overflow_cast-halted
overflow_cast-halted c =
    let a = c.args.self.now in
    let h = c.args.back.halted in
    let valid : validity_refusal a.tree a.own a.column ≡ 0 =
    ap (λ (i : ℕ). validity_refusal a.tree i a.column) (sym c.from-i.ensures) ∙ sym c.in_ok-check_validity.ensures in
    let below : h < 2 ^ a.tree.columns = within_lt h a.tree.columns (eq-eqb (h / 2 ^ a.tree.columns) 0 c.if-back-self-ne0.false) in
    let small : 2 ^ a.tree.columns ≤ 2 ^ 16 = pow_mono (validity_refusal_sixteen a.tree a.own a.column valid) in
    omega (arith, below, small)
