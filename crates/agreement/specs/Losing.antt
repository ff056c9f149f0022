-- Document 02, Point 13: what the counts of `losses` say. Every set is halted, ends at rest and is counted once.
use Rattle.std.specs.Prelude.{ℕ, ◌+◌, ◌^◌, ◌<◌, ◌≡◌, ◌⊎◌, not, replicate}
use Rattle.column.specs.Sets.{has}
use Rattle.column.specs.declared.tree.Tree.{Tree}
use Rattle.bank.specs.Banks.{State, state, column_at, runs, capacity, fresh_bank}
use Rattle.bank.specs.Steps.{accepted, order, halt_refusal}
use Rattle.bank.specs.Rest.{Running, AtRest}
use Rattle.losses.specs.Losses.{losses_refusal, ordered, begun, ended, losses_of}

-- the end e of the set m
pub record Ends (t : Tree) (e : State) (m : ℕ) : Type 0 where
  -- "dispatch to rest"
  pub rests : AtRest e
  -- "halt the set": who runs is who is not in it
  pub others_run : (i : ℕ) → i < t.columns → runs e.bank i ≡ not (has m i)
  -- "with record 1", "with record 0": the running columns hold one of the two, with clear doors, and all the same
  pub one_or_none : (i : ℕ) → Running e i
      → (((column_at e.bank i).number ≡ 0) ⊎ ((column_at e.bank i).number ≡ 1)) × ((column_at e.bank i).doors ≡ 0)
  pub alike : (i j : ℕ) → Running e i → Running e j → (column_at e.bank i).number ≡ (column_at e.bank j).number

pub record Counts (t : Tree) (steps : ℕ) : Type 0 where
  -- "give order 1 with clear doors to a fresh bank": it is accepted, under number 1
  pub order_given : order (state (fresh_bank t) (replicate capacity 0) (replicate capacity 0)) 0 ≡ accepted (ordered t)
  pub order_one : (column_at (ordered t).bank t.root).number ≡ 1
  -- no set is refused
  pub halts : (m : ℕ) → m < 2 ^ t.columns → halt_refusal (begun t steps) m ≡ 0
  pub ends : (m : ℕ) → m < 2 ^ t.columns → Ends t (ended (begun t steps) m) m
  -- "The three add to 2 to the power N."
  pub sum : let l = losses_of t steps in l.kept + l.lost + l.none ≡ 2 ^ t.columns
  -- "how many with no column running (always 1)"
  pub one : (losses_of t steps).none ≡ 1

abbrev pub Losing : Type 0
Losing = (t : Tree) → losses_refusal t ≡ 0 → (steps : ℕ) → Counts t steps
