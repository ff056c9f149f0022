-- What a call of the script's run leaves: a line read, a step, a dispatch and a list written, a buffer filled.
use Rattle.std.specs.Prelude.{ℕ, ◌≤◌, ◌%◌, ◌≡◌, true, false, Bool, List, Option, Some, None, Result, Ok, Err, length, drop}
use Rattle.column.specs.Refusals.{refusal_number}
use Rattle.column.specs.declared.error.Refusal.{Refusal}
use Rattle.column.specs.declared.state.Column.{Column}
use Rattle.text.specs.Text.{table_ok, step_ok, refused_text, Writes}
use Rattle.text.specs.Pieces.{cut}
use Rattle.bank.specs.Banks.{State, state, column_at}
use Rattle.bank.specs.Parts.{Tells}
use Rattle.bank.specs.declared.bank.Bank.{Bank}
use Rattle.bank.specs.declared.dispatch.Dispatched.{Dispatched}
use Rattle.script.specs.Advances.{Progress, progress, filled, most_texts, room, Advanced, line_advance, progress_of, first_advance}
use Rattle.script.specs.Lines.{parsed_meant}
use Rattle.script.specs.Scripts.{listed_text, Printed, answered, steps_text}
use Rattle.script.specs.declared.script.Run.{Run}
use Rattle.script.specs.declared.script.Begun.{Begun}
use Rattle.script.specs.declared.script.NextLine.{NextLine}

-- the texts so far are written over `old`, and from here the run is filled as from p
pub record Carried (input : List ℕ) (p : Progress) (s : State) (position at : ℕ) (out old : List ℕ) : Type 0 where
  pub text : List ℕ
  pub left : Writes at out old 0 text
  pub same : filled (most_texts input) input p ≡ filled (most_texts input) input (progress s position true false text)

-- whatever texts are before those of this call
abbrev pub Carries : List ℕ → State → ℕ → ℕ → List ℕ → State → ℕ → ℕ → List ℕ → Type 0
Carries input s₀ position₀ at₀ out₀ s position at out =
    (old text : List ℕ) → Writes at₀ out₀ old 0 text → length out₀ ≡ length old
    → Carried input (progress s₀ position₀ true false text) s position at out old

-- a run whose table is read
abbrev pub run_to : Bank → ℕ → Bool → ℕ → Run
run_to b position over length = record { bank = b; position = position; begun = true; over = over; length = length }

-- the run q goes on from r until the buffer is filled or all lines are read
pub record Reaches (q : Run) (heads doors out input : List ℕ) (r : Run) (s : State) (before : List ℕ) : Type 0 where
  pub run_is : q ≡ run_to q.bank q.position false q.length
  pub carries : Carries input s r.position r.length before (state q.bank heads doors) q.position q.length out
  pub all_read : q.length ≤ room → length input ≤ q.position

-- the run q goes on from r until the buffer is filled
abbrev pub Fills : Run → List ℕ → List ℕ → List ℕ → List ℕ → Run → State → List ℕ → Type 0
Fills q heads doors out input r s before =
    (old text : List ℕ) → Writes r.length before old 0 text → length before ≡ length old
    → Advanced q heads doors out old (filled (most_texts input) input (progress s r.position true false text))

-- what is known of a bank, if anything, is so
abbrev pub Knows : Option (Result ℕ Refusal) → State → Type 0
Knows (Some known) s = Tells known s
Knows None s = Unit {0}

-- what is known once the bank is tested where nothing is known of it, whatever doors the packets carry
abbrev pub TellsOf : Result ℕ Refusal → Option (Result ℕ Refusal) → Bank → List ℕ → Type 0
TellsOf told known b heads = (doors : List ℕ) → Knows known (state b heads doors) → Tells told (state b heads doors)

-- the text of a list, of every bank of which this is known and whose place is c
abbrev pub WritesColumn : ℕ → List ℕ → List ℕ → ℕ → Result ℕ Refusal → ℕ → ℕ → Column → Type 0
WritesColumn r new old at known columns i c =
    (s : State) → Tells known s → s.bank.tree.columns ≡ columns → column_at s.bank (i % 16) ≡ c → Writes r new old at (listed_text s i)

-- after a line that ends before `next`
abbrev pub replied : ℕ → Printed → Progress
replied next a = progress a.state next true false a.text

-- the text of a step's answer
abbrev pub WritesStep : {A : Type 0} → ℕ → List ℕ → List ℕ → ℕ → Result A Refusal → Type 0
WritesStep r new old at (Ok a) = Writes r new old at step_ok
WritesStep r new old at (Err n) = Writes r new old at (refused_text (refusal_number n))

-- the text of a dispatch
abbrev pub WritesDispatch : {A : Type 0} → ℕ → List ℕ → List ℕ → ℕ → ℕ → Result A Refusal → Type 0
WritesDispatch r new old at taken (Ok a) = Writes r new old at (steps_text taken)
WritesDispatch r new old at taken (Err n) = Writes r new old at (refused_text (refusal_number n))

-- the bank that a dispatch leaves
abbrev pub bank_left : Bank → Result Dispatched Refusal → Bank
bank_left before (Ok d) = d.bank
bank_left before (Err n) = before

-- the advance of the line that begins where the run has come to
abbrev pub next_line : List ℕ → Progress → Progress
next_line input p = line_advance input p (cut (drop p.position input))

-- the line that begins at `start`, and where the one after it begins, whatever the bank
abbrev pub ReadsLine : NextLine → List ℕ → ℕ → Type 0
ReadsLine r input start =
    (p : Progress) → p.position ≡ start → next_line input p ≡ replied r.next (answered p.state (parsed_meant r.command))

-- the table's advance by what was begun
abbrev pub begun_advance : Result Begun Refusal → Progress → Progress
begun_advance (Ok b) p = progress (state b.bank p.state.heads p.state.doors) b.position true false table_ok
begun_advance (Err r) p = progress p.state p.position true true (refused_text (refusal_number r))

abbrev pub Begins : Result Begun Refusal → List ℕ → Type 0
Begins r input = (p : Progress) → begun_advance r p ≡ first_advance input p

-- the table's advance, whatever the network's words, which it leaves
abbrev pub AdvancedFirst : Run → List ℕ → List ℕ → List ℕ → Run → Type 0
AdvancedFirst q out old input r =
    (heads doors : List ℕ) → Advanced q heads doors out old (first_advance input (progress_of r heads doors old))

-- its text from `at` on, and the bank after it
pub record Answers (a : Printed) (b : Bank) (heads doors : List ℕ) (r : ℕ) (new old : List ℕ) (at : ℕ) : Type 0 where
  pub state_is : a.state ≡ state b heads doors
  pub text_is : Writes r new old at a.text
