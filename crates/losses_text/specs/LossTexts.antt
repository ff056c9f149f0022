-- A table with a step count as text, and the text that answers it, after document 02, Point 13.
use Rattle.std.specs.Prelude.{ℕ, cond, List, ◌++◌, eqb, ltb, length, drop}
use Rattle.column.specs.declared.tree.Tree.{Tree}
use Rattle.text.specs.Text.{bytes, field, Reading, read, unread, refused_text}
use Rattle.text.specs.Pieces.{Cut, ended, unended, cut, keyed}
use Rattle.bank.specs.Steps.{Result, accepted, refused}
use Rattle.table.specs.Tables.{Placed, read_table, limit}
use Rattle.losses.specs.Losses.{losses_refusal, losses_of}
use Rattle.losses.specs.declared.count.Losses.{Losses}

-- ---- what is asked

abbrev pub step_count_key : List ℕ
step_count_key = bytes "after="

-- "a line `after=` with the step count in one to three digits"; nothing follows it
unfoldable pub steps_in : Cut → Reading ℕ
steps_in (ended line rest) = cond (eqb (length rest) 0) (keyed step_count_key 3 line) unread
steps_in unended = unread

abbrev pub step_count : List ℕ → Reading ℕ
step_count s = steps_in (cut s)

-- ---- what is answered

abbrev pub kept_key : List ℕ
kept_key = bytes "kept="

abbrev pub lost_key : List ℕ
lost_key = bytes "lost="

abbrev pub none_key : List ℕ
none_key = bytes "none="

-- "It prints `kept=`, `lost=` and `none=`"
unfoldable pub counts_text : Losses → List ℕ
counts_text l = field kept_key l.kept ++ (field lost_key l.lost ++ field none_key l.none)

-- "another form being 13"
unfoldable pub counted_text : Tree → Reading ℕ → List ℕ
counted_text t (read steps) = counts_text (losses_of t steps)
counted_text t unread = refused_text 13

-- "23 .., after the table's own and before 13": of what follows the table
unfoldable pub asked_text : Tree → List ℕ → List ℕ
asked_text t rest = cond (eqb (losses_refusal t) 0) (counted_text t (step_count rest)) (refused_text (losses_refusal t))

-- "Refusals print as in the script."
unfoldable pub table_text : List ℕ → Result Placed → List ℕ
table_text input (accepted p) = asked_text p.tree (drop p.end input)
table_text input (refused n p) = refused_text n

-- "Input past the limit prints `refused=13` alone."
unfoldable pub losses_text : List ℕ → List ℕ
losses_text input = cond (ltb limit (length input)) (refused_text 13) (table_text input (read_table input))
