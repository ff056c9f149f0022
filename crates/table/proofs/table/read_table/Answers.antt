use Rattle.std.proofs.Common.{◌≡◌, Some, None, sym, ◌∙◌, arith}
use Rattle.std.proofs.lemmas.Result.{err_from_is_err_and}
use Rattle.column.specs.declared.error.Refusal.TheVariants.{MalformedTable}
use Rattle.table.specs.Tables.{table_of}
use Rattle.table.specs.laws.TableLaws.{lines_refused, tree_given, tree_refused}
use Rattle.table.proofs.table.read_table.Goals as goal

pub returns-in_err-lines : goal.returns-in_err-lines
returns-in_err-lines c =
    let none : None ≡ c.read_lines.result = grind arith in
    let p = err_from_is_err_and c.from_residual.result c.from_residual.ensures.1 in
    let given = rw (← none) at c.in_err-lines.ensures.value in
    let form : c.in_err-lines.field-0.0 ≡ MalformedTable = cc given in
    rw (p.1, p.2, form, lines_refused (table_of c.args.input.now) (none ∙ c.read_lines.ensures))

pub returns-in_err-check_counted : goal.returns-in_err-check_counted
returns-in_err-check_counted c =
    let some : Some c.in_ok-lines.lines ≡ c.read_lines.result = grind arith in
    let p = err_from_is_err_and c.from_residual-in_err-check_counted.result c.from_residual-in_err-check_counted.ensures.1 in
    rw (p.1, p.2, tree_refused (table_of c.args.input.now) c.in_ok-lines.lines (some ∙ c.read_lines.ensures) _ (rw (c.tree-tree.ensures, c.listed_count.ensures) at c.in_err-check_counted.ensures))

pub returns : goal.returns
returns c =
    let some : Some c.in_ok-lines.lines ≡ c.read_lines.result = grind arith in
    rw c.tree-tree.ensures
    (sym (tree_given (table_of c.args.input.now) c.in_ok-lines.lines (some ∙ c.read_lines.ensures) (rw (c.tree-tree.ensures, c.listed_count.ensures) at c.in_ok-check_counted.ensures)))
