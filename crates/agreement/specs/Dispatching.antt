-- Document 02, Point 2: "From any state reached from fresh by accepted steps, a bank of N columns rests within 9 times N squared less 5
-- times N steps (2,224 for 16)." Point 9: "the packet and step limits of Points 2 and 3 are for watch=root only": the step limit holds whoever
-- is watched.
use Rattle.std.specs.Prelude.{ℕ, ◌-◌, ◌*◌, ◌≤◌, ◌<◌, ◌≡◌, ◌↔◌, Bool, true, not, ◌&&◌, ◌||◌, List, [], ◌∷◌, length}
use Rattle.bank.specs.StepKinds.{acting, taking, is}
use Rattle.bank.specs.Performs.{perform}
use Rattle.bank.specs.Rest.{is_refused, AtRest}
use Rattle.bank.specs.Dispatch.{dispatched, dispatch}
use Rattle.bank.specs.declared.bank.Step.{Step}
use Rattle.agreement.specs.History.{World, columns_of, told, run, dispatching, follow}
use Rattle.agreement.specs.Agreement.{AfterEveryList}

abbrev pub steps_within : ℕ → ℕ
steps_within columns = 9 * (columns * columns) - 5 * columns

-- a lower limit: 9 times N times (N−1)
abbrev pub step_bound : ℕ → ℕ
step_bound columns = 9 * (columns * (columns - 1))

-- a step that is neither an order nor a halt nor a return nor a write
abbrev pub is_settling : Step → Bool
is_settling x = is acting x || is taking x

unfoldable pub all_settling : List Step → Bool
all_settling [] = true
all_settling (x ∷ xs) = is_settling x && all_settling xs

-- no step of a list is refused
unfoldable pub all_accepted : World → List Step → Bool
all_accepted w [] = true
all_accepted w (x ∷ xs) = not (is_refused (perform w.state x)) && all_accepted (told w x (perform w.state x)) xs

-- "rests within": whichever steps are taken, and in whichever sequence, they are no more than `most`; and so many of the dispatcher's lead to rest
pub record RestsWithin (most : ℕ) (w : World) : Type 0 where
  pub any_steps : (xs : List Step) → all_settling xs ≡ true → all_accepted w xs ≡ true → length xs ≤ most
  -- the dispatcher's
  pub few : (limit : ℕ) → length (dispatched limit w.state) ≤ most
  pub rests : (limit : ℕ) → most ≤ limit → AtRest (dispatch limit w.state)

pub record Settles (w : World) : Type 0 where
  pub within : RestsWithin (steps_within (columns_of w)) w
  pub sooner : RestsWithin (step_bound (columns_of w)) w
  -- whoever chooses: the bank is at rest exactly where no such step is accepted any more
  pub none_left : ((x : Step) → is_settling x ≡ true → is_refused (perform w.state x) ≡ true) ↔ AtRest w.state
  -- "until rest, until the limit"
  pub until : (limit : ℕ) → length (dispatched limit w.state) < limit → AtRest (dispatch limit w.state)
  -- they are a list of accepted steps, to which demand 3 applies
  pub steps_accepted : (limit : ℕ) → all_accepted w (dispatched limit w.state) ≡ true
  pub steps_lead : (limit : ℕ) → (run w (dispatched limit w.state)).state ≡ dispatch limit w.state
  -- a command that dispatches leads where the dispatch does
  pub command_leads : (limit : ℕ) → (follow w (dispatching limit ∷ [])).state ≡ dispatch limit w.state

abbrev pub Rests : Type 0
Rests = AfterEveryList Settles

abbrev pub Within2224 : Type 0
Within2224 = AfterEveryList (RestsWithin 2224)

abbrev pub Within2160 : Type 0
Within2160 = AfterEveryList (RestsWithin 2160)
