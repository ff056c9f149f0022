-- A script's run, after document 01, "The script program", one text at a time: the table's answer, then each line's, last whether the bank is at
-- rest; and as many texts at a time as surely fit into a buffer.
use Rattle.std.specs.Prelude.{ℕ, zero, suc, ◌+◌, ◌-◌, ◌≡◌, Bool, true, false, cond, ◌||◌, List, [], ◌++◌, leb, ltb, length, take, drop, replicate}
use Rattle.text.specs.Text.{table_ok, written, refused_text}
use Rattle.text.specs.Pieces.{Cut, ended, unended, cut}
use Rattle.list.specs.Closing.{longest_list}
use Rattle.bank.specs.Banks.{State, state, capacity, fresh_bank, no_bank}
use Rattle.bank.specs.Steps.{Result, accepted, refused}
use Rattle.table.specs.Tables.{Placed, no_tree, read_table, limit}
use Rattle.script.specs.Lines.{command_of}
use Rattle.script.specs.Scripts.{rest_text, answered}
use Rattle.script.specs.declared.script.Run.{Run}

-- how far a run has come, and what was printed last
pub record Progress : Type 0 where
  pub state : State
  pub position : ℕ
  -- the table is read
  pub begun : Bool
  -- nothing more is printed
  pub over : Bool
  pub text : List ℕ

abbrev pub progress : State → ℕ → Bool → Bool → List ℕ → Progress
progress s position begun over text = record { state = s; position = position; begun = begun; over = over; text = text }

-- "Input past the limit prints `refused=13` alone"; "A refused table prints its refusal and ends the run"
unfoldable pub table_advance : Progress → Result Placed → Progress
table_advance p (accepted t) =
    progress (state (fresh_bank t.tree) p.state.heads p.state.doors) t.end true false table_ok
table_advance p (refused n t) = progress p.state p.position true true (refused_text n)

unfoldable pub first_advance : List ℕ → Progress → Progress
first_advance input p =
    cond (ltb limit (length input)) (progress p.state p.position true true (refused_text 13)) (table_advance p (read_table input))

-- a line, or a last piece without byte 10
unfoldable pub line_advance : List ℕ → Progress → Cut → Progress
line_advance input p (ended line rest) =
    let a = answered p.state (command_of line) in
    progress a.state (p.position + (length line + 1)) true false a.text
line_advance input p unended = progress p.state (length input) true false (refused_text 13)

-- "last `rest=yes` or `rest=no`"
unfoldable pub later_advance : List ℕ → Progress → Progress
later_advance input p =
    cond (leb (length input) p.position)
    (progress p.state p.position true true (rest_text p.state))
    (line_advance input p (cut (drop p.position input)))

unfoldable pub advance : List ℕ → Progress → Progress
advance input p =
    cond p.over (progress p.state p.position p.begun true [])
    (cond p.begun (later_advance input p) (first_advance input p))

-- ---- as many texts as surely fit

-- the bytes that a run is lent for its texts
abbrev pub buffer_size : ℕ
buffer_size = 16384

-- up to here the longest list fits, and no other text is longer
abbrev pub room : ℕ
room = buffer_size - longest_list

-- a run with another text
abbrev pub saying : List ℕ → Progress → Progress
saying text p = progress p.state p.position p.begun p.over text

-- one text more, after those before it
abbrev pub onward : List ℕ → Progress → Progress
onward input p = let q = advance input p in saying (p.text ++ q.text) q

-- at most so many texts more
unfoldable pub filled : ℕ → List ℕ → Progress → Progress
filled zero input p = p
filled (suc most) input p = cond (p.over || ltb room (length p.text)) p (filled most input (onward input p))

-- the table, the lines, of which each takes a byte at least, and the rest: no more texts than this are left
abbrev pub most_texts : List ℕ → ℕ
most_texts input = length input + 2

abbrev pub fill : List ℕ → Progress → Progress
fill input p = filled (most_texts input) input (saying [] p)

-- ---- the run as the code holds it

-- the text is the first `length` bytes of the lent buffer
abbrev pub progress_of : Run → List ℕ → List ℕ → List ℕ → Progress
progress_of r heads doors out = progress (state r.bank heads doors) r.position r.begun r.over (take r.length out)

-- what a call leaves: the next progress, and of the buffer nothing else touched
pub record Advanced (r : Run) (heads doors out old : List ℕ) (next : Progress) : Type 0 where
  pub progress_is : progress_of r heads doors out ≡ next
  pub length_is : r.length ≡ length next.text
  pub buffer_is : out ≡ written old 0 next.text

-- before the table is read there is no bank
abbrev pub start_run : Run
start_run = record { bank = no_bank no_tree.tree; position = 0; begun = false; over = false; length = 0 }

-- ---- what a run prints

-- the network's words are 0 at first
abbrev pub start : Progress
start = progress_of start_run (replicate capacity 0) (replicate capacity 0) []

-- the run after so many calls that fill the buffer
unfoldable pub filled_by : ℕ → List ℕ → Progress → Progress
filled_by zero input p = p
filled_by (suc calls) input p = filled_by calls input (fill input p)

-- what these calls leave in it, joined
unfoldable pub printed_by : ℕ → List ℕ → Progress → List ℕ
printed_by zero input p = []
printed_by (suc calls) input p = let q = fill input p in q.text ++ printed_by calls input q
