-- Demand 3: at rest "all running columns hold the same record: the highest order number that any of them has received, with the doors given
-- under it, or number 0 and no doors"; and "at rest or not, if a running root neither sends nor awaits, every running column holds the root's
-- last order".
use Rattle.std.specs.Prelude.{ℕ, ◌≤◌, ◌≡◌, false, List, [], length}
use Rattle.column.specs.Trees.{tree_refusal}
use Rattle.column.specs.declared.tree.Tree.{Tree}
use Rattle.bank.specs.Banks.{State, state, column_at, fresh_bank, capacity}
use Rattle.bank.specs.Steps.{refused, send}
use Rattle.bank.specs.Rest.{Running, AtRest}
use Rattle.agreement.specs.History.{given, World, root_of, Command, follow}

-- a fresh bank, whatever the words in the free places of its network
abbrev pub begin : Tree → List ℕ → List ℕ → World
begin t heads doors =
    record { state = state (fresh_bank t) heads doors; orders = []; received = λ i. 0; awaits = λ q. false }

-- column i holds a number with the doors that were given under it, or number 0 and no doors
pub record Holds (w : World) (i number : ℕ) : Type 0 where
  pub was_given : number ≤ length w.orders
  pub number_is : (column_at w.state.bank i).number ≡ number
  pub doors_are : (column_at w.state.bank i).doors ≡ given w.orders number

-- "the highest order number that any of them has received": a bound, and attained
pub record HighestReceived (w : World) (number : ℕ) : Type 0 where
  pub bound : (j : ℕ) → Running w.state j → w.received j ≤ number
  pub attained : (j : ℕ) × Running w.state j × (w.received j ≡ number)

-- "A running root sends while send there isn't refused with 6"; a 9 or a 4 counts as sending
abbrev pub NeitherSends : State → Type 0
NeitherSends s = send s (root_of s) ≡ refused 6 s

abbrev pub NorAwaits : World → Type 0
NorAwaits w = (q : ℕ) → w.awaits q ≡ false

pub record Agreement (w : World) : Type 0 where
  pub at_rest : AtRest w.state → (i : ℕ) → Running w.state i → (number : ℕ) × Holds w i number × HighestReceived w number
  pub served : Running w.state (root_of w.state) → NeitherSends w.state → NorAwaits w →
      (i : ℕ) → Running w.state i → Holds w i (length w.orders)

-- ---- the statement

-- Of every list of steps and dispatches, with any numbers, refused ones included, and the empty one: from the fresh bank of every tree that the check
-- does not refuse, with any words in its two arrays of 512.
abbrev pub AfterEveryList : (World → Type 0) → Type 0
AfterEveryList P = (t : Tree) → tree_refusal t ≡ 0
    → (heads doors : List ℕ) → length heads ≡ capacity → length doors ≡ capacity
    → (commands : List Command) → P (follow (begin t heads doors) commands)

abbrev pub Agrees : Type 0
Agrees = AfterEveryList Agreement
