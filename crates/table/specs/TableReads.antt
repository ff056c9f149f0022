-- What the reader of a table answers, after document 01, "The bank and its table".
use Rattle.std.specs.Prelude.{Result, Ok, Err}
use Rattle.column.specs.Refusals.{refusal_number}
use Rattle.column.specs.declared.error.Refusal.{Refusal}
use Rattle.bank.specs.Steps as steps
use Rattle.table.specs.Tables.{Placed, placed_at, no_tree}
use Rattle.table.specs.declared.table.Table.{Table}

-- a tree and the place after its table; or the number of the refusal, beside which there is no tree
abbrev pub table_meant : Result Table Refusal → steps.Result Placed
table_meant (Ok t) = steps.accepted (placed_at t.tree t.end)
table_meant (Err r) = steps.refused (refusal_number r) no_tree
