-- What is asked of a tree and of an input, as a value or a refusal, and how long the text of the counts can be.
use Rattle.std.specs.Prelude.{ℕ, List, cond, eqb, ltb, length, drop}
use Rattle.column.specs.Refusals.{Given, given, refused}
use Rattle.column.specs.declared.tree.Tree.{Tree}
use Rattle.text.specs.Text.{Reading, read, unread}
use Rattle.bank.specs.Steps as steps
use Rattle.table.specs.Tables.{Placed, read_table, limit}
use Rattle.losses.specs.Losses.{losses_refusal, losses_of}
use Rattle.losses.specs.declared.count.Losses.{Losses}
use Rattle.losses_text.specs.LossTexts.{step_count}

-- room for three lines of the longest number that is counted
abbrev pub longest_counts : ℕ
longest_counts = 27

-- "another form being 13"
abbrev pub steps_given : Tree → Reading ℕ → Given Losses
steps_given t (read steps) = given (losses_of t steps)
steps_given t unread = refused 13

-- "23 .., after the table's own and before 13"
abbrev pub asked_given : Tree → List ℕ → Given Losses
asked_given t rest = cond (eqb (losses_refusal t) 0) (steps_given t (step_count rest)) (refused (losses_refusal t))

abbrev pub table_given : List ℕ → steps.Result Placed → Given Losses
table_given input (steps.accepted p) = asked_given p.tree (drop p.end input)
table_given input (steps.refused n p) = refused n

-- "Input past the limit prints `refused=13` alone."
abbrev pub losses_in : List ℕ → Given Losses
losses_in input = cond (ltb limit (length input)) (refused 13) (table_given input (read_table input))
