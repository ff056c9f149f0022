-- What is proved beside demand 3, so that a bank that refuses everything would not do.
use Rattle.std.specs.Prelude.{ℕ, suc, ◌≡◌, List, length}
use Rattle.column.specs.Trees.{tree_refusal}
use Rattle.column.specs.declared.tree.Tree.{Tree}
use Rattle.bank.specs.Banks.{State, column_at, capacity, bank_refusal}
use Rattle.bank.specs.Steps.{accepted}
use Rattle.bank.specs.Performs.{perform}
use Rattle.bank.specs.Rest.{Running, AtRest}
use Rattle.bank.specs.declared.bank.Step.TheVariants.{Order}
use Rattle.agreement.specs.History.{World, root_of, Command, follow}
use Rattle.agreement.specs.Agreement.{begin, AfterEveryList}

-- a bank passes rows 2, 3 and 4, its halted columns and the count of its packets included: a step is refused with 4 only for its own
-- parameters
abbrev pub Passes : Type 0
Passes = AfterEveryList (λ w. bank_refusal w.state ≡ 0)

-- "From fresh, the n-th accepted order gives number n and its doors."
pub record Ordered (w : World) : Type 0 where
  pub gives : (doors : ℕ) (s : State) → perform w.state (Order doors) ≡ accepted s
      → ((column_at s.bank (root_of s)).number ≡ suc (length w.orders)) × ((column_at s.bank (root_of s)).doors ≡ doors)

abbrev pub OrdersCount : Type 0
OrdersCount = AfterEveryList Ordered

-- "A bank with every column halted is at rest."
abbrev pub HaltedRests : Type 0
HaltedRests = AfterEveryList (λ w. ((i : ℕ) → Running w.state i → ⊥) → AtRest w.state)

-- the tree of the bank is the one that it was made from, so that N is the count of its table: no list of commands changes it
abbrev pub KeepsTree : Type 0
KeepsTree = (t : Tree) → tree_refusal t ≡ 0 → (heads doors : List ℕ) → length heads ≡ capacity → length doors ≡ capacity → (commands : List Command)
    → (follow (begin t heads doors) commands).state.bank.tree ≡ t
