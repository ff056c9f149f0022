use Rattle.text.specs.Text.{up_key}
use Rattle.text.specs.Pieces.{numbers}
use Rattle.table.specs.Tables.{further_lines, joined, table_in}
use Rattle.table.specs.inner.NumberLists.{list_of}
use Rattle.table.specs.inner.HeldTables.{further_held}
use Rattle.table.specs.laws.HeldLaws.{nothing_read, was_read}
use Rattle.table.specs.laws.TableLaws.{three, rest, table_found, lines_are}
use Rattle.table.proofs.table.read_lines.Goals as goal

pub returns-in_err-ends : goal.returns-in_err-ends
unfolding table_in
returns-in_err-ends c = rw (← c.in_err-ends.ensures.input_value) c.from_residual.ensures

pub returns-in_err-columns : goal.returns-in_err-columns
unfolding joined
returns-in_err-columns c =
    let k = c.in_ok-ends.ensures in
    rw (table_found c.args.input.now c.in_ok-ends.ends k.rising k.input_value, ← c.in_err-columns.ensures) c.from_residual-in_err-columns.ensures

pub returns-in_err-root : goal.returns-in_err-root
unfolding joined
returns-in_err-root c =
    let k = c.in_ok-ends.ensures in
    rw (table_found c.args.input.now c.in_ok-ends.ends k.rising k.input_value, ← c.in_ok-columns.ensures, ← c.in_err-root.ensures)
    c.from_residual-in_err-root.ensures

pub returns-in_err-parents : goal.returns-in_err-parents
unfolding joined
returns-in_err-parents c =
    let k = c.in_ok-ends.ensures in
    let up = nothing_read list_of (numbers up_key (three c.args.input.now c.in_ok-ends.ends)) c.in_err-parents.ensures in
    rw (table_found c.args.input.now c.in_ok-ends.ends k.rising k.input_value, ← c.in_ok-columns.ensures, ← c.in_ok-root.ensures, up)
    c.from_residual-in_err-parents.ensures

pub returns-in_err-further : goal.returns-in_err-further
unfolding joined
returns-in_err-further c =
    let k = c.in_ok-ends.ensures in
    let up = was_read list_of (numbers up_key (three c.args.input.now c.in_ok-ends.ends)) _ c.in_ok-parents.ensures in
    let after = nothing_read further_held (further_lines (rest c.args.input.now c.in_ok-ends.ends)) c.in_err-further.ensures.lines in
    rw (table_found c.args.input.now c.in_ok-ends.ends k.rising k.input_value, ← c.in_ok-columns.ensures, ← c.in_ok-root.ensures, up.1, after)
    c.from_residual-in_err-further.ensures

pub returns : goal.returns
returns c =
    let k = c.in_ok-ends.ensures in
    rw (table_found c.args.input.now c.in_ok-ends.ends k.rising k.input_value)
    (lines_are _ _ _ _ _ _ _ _ _ c.in_ok-columns.ensures c.in_ok-root.ensures c.in_ok-parents.ensures c.in_ok-further.ensures.lines)
