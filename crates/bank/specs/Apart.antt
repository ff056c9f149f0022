-- What a host reads of a bank and what demand 3 is about stay apart (document 02, Point 12): the statement that no step but a write goes by a
-- mask or by what is pending, so that a write changes no answer but a page's.
use Rattle.std.specs.Prelude.{ℕ, ◌≡◌, List, [], ◌∷◌, map}
use Rattle.column.specs.Columns.{plain}
use Rattle.bank.specs.Banks.{State, state}
use Rattle.bank.specs.Steps.{Result, accepted, refused, after}
use Rattle.bank.specs.Performs.{perform}
use Rattle.bank.specs.declared.bank.Bank.{Bank}
use Rattle.bank.specs.declared.bank.Step.{Step}

-- a bank without its masks and what is pending, in all sixteen places
abbrev pub plain_bank : Bank → Bank
plain_bank b = record { tree = b.tree; columns = map plain b.columns; count = b.count }

abbrev pub plain_state : State → State
plain_state s = state (plain_bank s.bank) s.heads s.doors

abbrev pub plain_outcome : Result State → Result State
plain_outcome (accepted s) = accepted (plain_state s)
plain_outcome (refused n s) = refused n (plain_state s)

-- two banks that differ in masks and in what is pending alone
abbrev pub Alike : State → State → Type 0
Alike s s' = plain_state s ≡ plain_state s'

-- what a step answers: 0 where it is accepted
abbrev pub answer_of : Result State → ℕ
answer_of (accepted s) = 0
answer_of (refused n s) = n

-- what each step of a list answers
unfoldable pub answers : State → List Step → List ℕ
answers s [] = []
answers s (x ∷ xs) = answer_of (perform s x) ∷ answers (after (perform s x)) xs

-- every step of two such banks: the same answer, and banks that are alike again
abbrev pub Apart : Type 0
Apart = (s s' : State) → Alike s s' → (x : Step) → plain_outcome (perform s x) ≡ plain_outcome (perform s' x)

-- every list of steps answers the same
abbrev pub SameAnswers : Type 0
SameAnswers = (s s' : State) → Alike s s' → (xs : List Step) → answers s xs ≡ answers s' xs
