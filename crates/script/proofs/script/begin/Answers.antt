use Rattle.std.proofs.Common.{true, false, sym, ap, ◌∙◌}
use Rattle.std.proofs.lemmas.Result.{err_from_is_err_and}
use Rattle.column.specs.Refusals.{refusal_number}
use Rattle.bank.specs.Banks.{state}
use Rattle.bank.specs.Steps.{accepted, refused}
use Rattle.bank.specs.declared.bank.Bank.{Bank}
use Rattle.text.specs.Text.{table_ok}
use Rattle.table.specs.Tables.{placed_at, no_tree}
use Rattle.script.specs.Advances.{progress, table_advance}
use Rattle.script.specs.laws.ScriptLaws.{first_long, first_read, fresh_bank_lem, fresh_not_refused}
use Rattle.script.proofs.script.begin.Goals as goal

pub returns-then-input-gt-LIMIT : goal.returns-then-input-gt-LIMIT
returns-then-input-gt-LIMIT c p = sym (first_long c.args.input.now p c.if-input-gt-LIMIT.true)

pub returns-in_err-table : goal.returns-in_err-table
unfolding table_advance
returns-in_err-table c =
    let e = err_from_is_err_and c.from_residual.result c.from_residual.ensures.1 in
    λ p.
    let n = refusal_number c.in_err-table.field-0.0 in
    rw (e.1, e.2) (sym (first_read c.args.input.now p (refused n no_tree) c.if-input-gt-LIMIT.false c.in_err-table.ensures))

pub returns-in_err-bank : goal.returns-in_err-bank
returns-in_err-bank c =
    let t = c.in_ok-table.table in
    absurd (fresh_not_refused c.args.input.now (placed_at t.tree t.end) c.in_ok-table.ensures _ c.in_err-bank.ensures)

pub returns : goal.returns
unfolding table_advance
returns c p =
    let t = c.in_ok-table.table in
    let b = c.in_ok-bank.bank in
    let same = fresh_bank_lem c.args.input.now (placed_at t.tree t.end) c.in_ok-table.ensures b c.in_ok-bank.ensures in
    ap (λ (x : Bank). progress (state x p.state.heads p.state.doors) t.end true false table_ok) same
    ∙ sym (first_read c.args.input.now p (accepted (placed_at t.tree t.end)) c.if-input-gt-LIMIT.false c.in_ok-table.ensures)
