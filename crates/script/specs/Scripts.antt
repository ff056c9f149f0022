-- What a script prints, after document 01, "The script program".
use Rattle.std.specs.Prelude.{ℕ, zero, suc, cond, List, [], ◌∷◌, ◌++◌, eqb, ltb, length, drop, replicate}
use Rattle.text.specs.Text.{steps_key, table_ok, step_ok, rest_yes, rest_no, field, Reading, read, unread, refused_text}
use Rattle.text.specs.Pieces.{Cut, ended, unended, cut}
use Rattle.list.specs.Closing.{list_text}
use Rattle.bank.specs.Banks.{State, state, column_at, capacity, fresh_bank}
use Rattle.bank.specs.Steps.{Result, accepted, refused, after}
use Rattle.bank.specs.Performs.{perform}
use Rattle.bank.specs.Rest.{is_at_rest}
use Rattle.bank.specs.Dispatch.{dispatched, dispatch_outcome}
use Rattle.table.specs.Tables.{Placed, read_table, limit}
use Rattle.script.specs.BankLists.{list_refusal}
use Rattle.script.specs.Lines as lines
use Rattle.script.specs.Lines.{Command, command_of}

-- ---- a line

-- what is printed, and the bank after it
pub record Printed : Type 0 where
  pub text : List ℕ
  pub state : State

abbrev pub printed : List ℕ → State → Printed
printed text s = record { text = text; state = s }

-- "for each step `step=ok` or `refused=` with the number"
unfoldable pub step_text : Result State → List ℕ
step_text (accepted s) = step_ok
step_text (refused n s) = refused_text n

-- "for a list its four lines"
abbrev pub listed_text : State → ℕ → List ℕ
listed_text s i = cond (eqb (list_refusal s i) 0) (list_text i (column_at s.bank i)) (refused_text (list_refusal s i))

-- "The script prints `steps=` with the steps taken and then `step=ok`."
abbrev pub steps_text : ℕ → List ℕ
steps_text steps = field steps_key steps ++ step_ok

unfoldable pub dispatch_text : ℕ → Result State → List ℕ
dispatch_text steps (accepted s) = steps_text steps
dispatch_text steps (refused n s) = refused_text n

abbrev pub dispatch_printed : ℕ → Result State → Printed
dispatch_printed steps o = printed (dispatch_text steps o) (after o)

-- row 13: "script line of no form above"
unfoldable pub answered : State → Reading Command → Printed
answered s (read (lines.perform x)) = printed (step_text (perform s x)) (after (perform s x))
answered s (read (lines.list i)) = printed (listed_text s i) s
answered s (read (lines.dispatch limit)) = dispatch_printed (length (dispatched limit s)) (dispatch_outcome limit s)
answered s unread = printed (refused_text 13) s

-- ---- the lines of a script

-- "last `rest=yes` or `rest=no`"
abbrev pub rest_text : State → List ℕ
rest_text s = cond (is_at_rest s) rest_yes rest_no

-- "a refused line prints its refusal and the next line is read"; "unended" is 13
unfoldable pub cut_text : (State → List ℕ → List ℕ) → State → Cut → List ℕ
cut_text more s (ended line rest) =
    let p = answered s (command_of line) in
    p.text ++ more p.state rest
cut_text more s unended = refused_text 13 ++ rest_text s

-- a line takes a byte at least, so that as many lines as bytes are enough
unfoldable pub lines_text : ℕ → State → List ℕ → List ℕ
lines_text zero s l = rest_text s
lines_text (suc most) s [] = rest_text s
lines_text (suc most) s (b ∷ l) = cut_text (lines_text most) s (cut (b ∷ l))

-- ---- a whole script

-- the fresh bank of a table, with the words of an empty network
abbrev pub fresh_of : Placed → State
fresh_of p = state (fresh_bank p.tree) (replicate capacity 0) (replicate capacity 0)

-- "A refused table prints its refusal and ends the run"
unfoldable pub judged_text : List ℕ → Result Placed → List ℕ
judged_text input (accepted p) = table_ok ++ lines_text (length input) (fresh_of p) (drop p.end input)
judged_text input (refused n p) = refused_text n

-- "Input past the limit prints `refused=13` alone."
unfoldable pub script_text : List ℕ → List ℕ
script_text input = cond (ltb limit (length input)) (refused_text 13) (judged_text input (read_table input))
