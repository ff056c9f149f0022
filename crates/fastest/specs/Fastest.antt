-- What document 02, Point 8, says of the strategy's tree.
use Rattle.std.specs.Prelude.{ℕ, ◌+◌, ◌-◌, ◌*◌, ◌≤◌, ◌<◌, ◌≡◌, eqb}
use Rattle.column.specs.Trees.{parent, IsTree}
use Rattle.column.specs.declared.tree.Tree.{Tree}
use Rattle.fastest.specs.Schedules.{count, arrival, Keeps, CompleteBy, Follows}
use Rattle.fastest.specs.Strategy.{fastest_tree, fastest_sent}
use Rattle.fastest.specs.Formula.{sum, Formula}

-- when column j of the strategy's tree has the message
abbrev pub fastest_arrival : ℕ → ℕ → ℕ → ℕ → ℕ
fastest_arrival columns delay gap j = arrival delay (fastest_tree columns delay gap) (fastest_sent delay gap) j

-- "complete at time 4": when the last column has it
abbrev pub completion : ℕ → ℕ → ℕ → ℕ
completion columns delay gap = fastest_arrival columns delay gap (columns - 1)

-- "The number of columns arriving at each time"
abbrev pub arrived_at : (ℕ → ℕ) → ℕ → ℕ → ℕ
arrived_at arrival columns time = count (λ j. eqb (arrival j) time) columns

abbrev pub arrivals : ℕ → ℕ → ℕ → ℕ → ℕ
arrivals columns delay gap time = arrived_at (fastest_arrival columns delay gap) columns time

-- ---- the statements, of every bank and every line; that delay and gap are at most 255 none of them needs

pub record Possible (columns delay gap : ℕ) : Type 0 where
  pub some : 0 < columns
  pub few : columns ≤ 16
  pub delays : 0 < delay
  pub gaps : 0 < gap

abbrev pub ForEvery : (ℕ → ℕ → ℕ → Type 0) → Type 0
ForEvery P = (columns delay gap : ℕ) → Possible columns delay gap → P columns delay gap

-- the strategy's tree is a tree, with a schedule that keeps to D and E and is as the words say
pub record Scheduled (columns delay gap : ℕ) : Type 0 where
  pub is_tree : IsTree (fastest_tree columns delay gap)
  pub keeps : Keeps delay gap (fastest_tree columns delay gap) (fastest_sent delay gap)
  pub completes : CompleteBy delay (fastest_tree columns delay gap) (fastest_sent delay gap) (completion columns delay gap)
  pub follows : Follows delay gap (fastest_tree columns delay gap) (fastest_sent delay gap)
  -- a column sends to its children in ascending numbers, as it does by a table that names no sequence
  pub ascends : (i j : ℕ) → 0 < i → i < j → j < columns → parent (fastest_tree columns delay gap) i ≡ parent (fastest_tree columns delay gap) j
      → fastest_sent delay gap i + gap ≤ fastest_sent delay gap j

abbrev pub IsScheduled : Type 0
IsScheduled = ForEvery Scheduled

-- nothing else is as the words say
abbrev pub IsOnly : Type 0
IsOnly = ForEvery (λ columns delay gap. (t : Tree) (sent : ℕ → ℕ) → IsTree t → t.columns ≡ columns → Follows delay gap t sent
    → (j : ℕ) → 0 < j → j < columns → (parent t j ≡ parent (fastest_tree columns delay gap) j) × (sent j ≡ fastest_sent delay gap j))

-- "No tree and schedule that keep to D and E complete earlier."
abbrev pub NoneEarlier : Type 0
NoneEarlier = ForEvery (λ columns delay gap. (t : Tree) (sent : ℕ → ℕ) (time : ℕ) → IsTree t → t.columns ≡ columns
    → Keeps delay gap t sent → CompleteBy delay t sent time → completion columns delay gap ≤ time)

-- nor do they where times are counted in parts of a unit
abbrev pub NoneEarlierInParts : Type 0
NoneEarlierInParts = ForEvery (λ columns delay gap. (parts : ℕ) → 0 < parts → (t : Tree) (sent : ℕ → ℕ) (time : ℕ) → IsTree t → t.columns ≡ columns
    → Keeps (delay * parts) (gap * parts) t sent → CompleteBy (delay * parts) t sent time → completion columns delay gap * parts ≤ time)

-- "The number of columns arriving at each time before the last is formula 4.1's"
abbrev pub BeforeTheLast : Type 0
BeforeTheLast = ForEvery (λ columns delay gap. (R : ℕ → ℕ) → Formula delay gap R
    → (time : ℕ) → time < completion columns delay gap → arrivals columns delay gap time ≡ R time)

-- "and at the last time it is what remains, at most the formula's."
abbrev pub AtTheLast : Type 0
AtTheLast = ForEvery (λ columns delay gap. (R : ℕ → ℕ) → Formula delay gap R → let last = completion columns delay gap in
    (sum R last + arrivals columns delay gap last ≡ columns) × (arrivals columns delay gap last ≤ R last))
