-- The dispatcher, after document 02, Point 2: "At each turn it takes the first accepted one among, for running columns from 0 up, note
-- (lowest j first), send, ack, all; if no column has any, the oldest packet is taken." And what it answers: "Dispatcher returns its count,
-- equal to the steps of the defined run and bounded by the formula", which is `few` of `RestsWithin` in agreement.
use Rattle.std.specs.Prelude.{ℕ, zero, suc, cond, List, [], ◌∷◌, ◌++◌, ◌≡◌, length, Ok, Err}
use Rattle.std.specs.Prelude as prelude
use Rattle.column.specs.Refusals.{refusal_number}
use Rattle.column.specs.declared.error.Refusal.{Refusal}
use Rattle.bank.specs.Banks.{State, runs, places, bank_refusal, state}
use Rattle.bank.specs.Steps.{Result, accepted, refused, unless}
use Rattle.bank.specs.Performs.{perform}
use Rattle.bank.specs.Rest.{is_refused}
use Rattle.bank.specs.declared.bank.Bank.{Bank}
use Rattle.bank.specs.declared.bank.Step.{Step}
use Rattle.bank.specs.declared.bank.Step.TheVariants.{Send, Take, Ack, All, Note}
use Rattle.bank.specs.declared.dispatch.Dispatched.{Dispatched}

-- what column i can be given to do
abbrev pub offers : ℕ → ℕ → List Step
offers columns i = places (λ j. Note i j) columns ++ (Send i ∷ Ack i ∷ All i ∷ [])

-- the same for the running columns below k
unfoldable pub offered : State → ℕ → List Step
offered s zero = []
offered s (suc k) = offered s k ++ cond (runs s.bank k) (offers s.bank.tree.columns k) []

-- the first step of a list that is accepted, and the other where none is
unfoldable pub first_accepted : State → List Step → Step → Step
first_accepted s [] other = other
first_accepted s (x ∷ xs) other = cond (is_refused (perform s x)) (first_accepted s xs other) x

-- the step of a turn
unfoldable pub turn : State → Step
turn s = first_accepted s (offered s s.bank.tree.columns) (Take 0)

-- what follows an accepted step, or a stop
abbrev pub onward : {A : Type 0} → Result State → A → (State → A) → A
onward (accepted s) stop next = next s
onward (refused n s) stop next = stop

-- "takes steps until rest, until the limit, or until the turn's step is refused": at rest it is refused, by `rest_stops` of DispatchLaws
unfoldable pub dispatched : ℕ → State → List Step
dispatched zero s = []
dispatched (suc limit) s = onward (perform s (turn s)) [] (λ next. turn s ∷ dispatched limit next)

-- the bank after them
unfoldable pub dispatch : ℕ → State → State
dispatch zero s = s
dispatch (suc limit) s = onward (perform s (turn s)) s (λ next. dispatch limit next)

-- a bank that 2, 3 or 4 refuses is refused as by every step; nothing else refuses a dispatch
abbrev pub dispatch_outcome : ℕ → State → Result State
dispatch_outcome limit s = unless (bank_refusal s) s (accepted (dispatch limit s))

-- how many steps were taken: none by a dispatch that is refused
abbrev pub steps_of : prelude.Result Dispatched Refusal → ℕ
steps_of (Ok d) = d.steps
steps_of (Err r) = 0

-- what a dispatch answered that was handed the bank `before`, with the words that it left
abbrev pub dispatched_meant : Bank → prelude.Result Dispatched Refusal → List ℕ → List ℕ → Result State
dispatched_meant before (Ok d) heads doors = accepted (state d.bank heads doors)
dispatched_meant before (Err r) heads doors = refused (refusal_number r) (state before heads doors)

pub record Dispatches (r : prelude.Result Dispatched Refusal) (heads doors : List ℕ) (limit : ℕ) (s : State) (o : Result State) : Type 0 where
  pub count_is : steps_of r ≡ length (dispatched limit s)
  pub outcome_is : dispatched_meant s.bank r heads doors ≡ o
