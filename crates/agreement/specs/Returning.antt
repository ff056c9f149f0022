-- Document 02, Point 7: what a return leaves, in any bank and after every list of commands from fresh.
use Rattle.std.specs.Prelude.{ℕ, ◌<◌, ◌≡◌, true, List, ◌∷◌, map, length}
use Rattle.column.specs.Sets.{single}
use Rattle.column.specs.Columns.{halt_noted, with_pending, numbers}
use Rattle.column.specs.declared.state.Column.{Column}
use Rattle.bank.specs.Banks.{State, column_at, Whole}
use Rattle.bank.specs.Steps.{accepted}
use Rattle.bank.specs.Performs.{perform}
use Rattle.bank.specs.Rest.{Running, AtRest}
use Rattle.bank.specs.Strips.{among, Distinct}
use Rattle.bank.specs.declared.bank.Step.{Step}
use Rattle.bank.specs.declared.bank.Step.TheVariants.{Note, Halt, Back}
use Rattle.agreement.specs.History.{World, run}
use Rattle.agreement.specs.Agreement.{AfterEveryList}
use Rattle.agreement.specs.Dispatching.{all_accepted}

-- what the types say of a bank that is handed in: all places are there, and order numbers have 32 bits
pub record Formed (s : State) : Type 0 where
  pub places : length s.bank.columns ≡ 16
  pub whole : Whole s
  pub numbers_fit : (i : ℕ) → (column_at s.bank i).number < numbers

-- "The bank is at rest afterwards.": any bank in which a return is accepted, handed in or stepped from fresh, whatever it holds
abbrev pub RestsAfterAny : Type 0
RestsAfterAny = (s : State) → Formed s → (j : ℕ) (s' : State) → perform s (Back j) ≡ accepted s' → AtRest s'

-- the same of a bank stepped from fresh
abbrev pub StillRests : World → Type 0
StillRests w = (j : ℕ) (s : State) → perform w.state (Back j) ≡ accepted s → AtRest s

abbrev pub RestsAfter : Type 0
RestsAfter = AfterEveryList StillRests

-- "a back, then a halt of the same column and a note of it by each running one", the notes in whichever sequence
abbrev pub away_again : ℕ → List ℕ → List Step
away_again j noters = Back j ∷ Halt (single j) ∷ map (λ i. Note i j) noters

-- a column of which bit 1 is pending: "a halt noted"
abbrev pub noticed : Column → Column
noticed c = with_pending c halt_noted

-- "leave those columns' records, sets, noted halts and goals as before the back": each column whole, but for what is pending
pub record Restored (w : World) (j : ℕ) (noters : List ℕ) : Type 0 where
  pub none_refused : all_accepted w (away_again j noters) ≡ true
  pub as_before : (i : ℕ) → among noters i ≡ true → column_at (run w (away_again j noters)).state.bank i ≡ noticed (column_at w.state.bank i)

abbrev pub Undone : World → Type 0
Undone w = (j : ℕ) (s : State) → perform w.state (Back j) ≡ accepted s
    → (noters : List ℕ) → Distinct noters → ((i : ℕ) → among noters i ≡ true → Running w.state i) → Restored w j noters

abbrev pub Restores : Type 0
Restores = AfterEveryList Undone
