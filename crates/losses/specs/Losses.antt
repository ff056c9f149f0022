-- How many halts lose the order, after document 02, Point 13.
use Rattle.std.specs.Prelude.{ℕ, zero, suc, ◌+◌, ◌^◌, Bool, true, false, not, ◌&&◌, ◌||◌, cond, List, [], ◌∷◌, eqb, ltb, replicate}
use Rattle.column.specs.Refusals.{first, earlier, Given, given_unless}
use Rattle.column.specs.Trees.{every, tree_refusal}
use Rattle.column.specs.declared.tree.Tree.{Tree}
use Rattle.bank.specs.Banks.{State, state, column_at, runs, capacity, fresh_bank}
use Rattle.bank.specs.Steps.{after, order, halt}
use Rattle.bank.specs.Dispatch.{dispatch_outcome}
use Rattle.bank.specs.declared.bank.Bank.{Bank}
use Rattle.losses.specs.declared.count.Losses.{Losses}

-- "of up to 8 columns"
abbrev pub most_columns : ℕ
most_columns = 8

-- "23 for more than 8 columns or for watch=sender, after the table's own"
abbrev pub losses_conditions : Tree → List (ℕ × Bool)
losses_conditions t = (23, ltb most_columns t.columns) ∷ (23, t.watch) ∷ []

unfoldable pub losses_refusal : Tree → ℕ
losses_refusal t = earlier (tree_refusal t) (first (losses_conditions t))

-- ---- the halt of one set

-- "give order 1 with clear doors to a fresh bank": with the words of an empty network
unfoldable pub ordered : Tree → State
ordered t = after (order (state (fresh_bank t) (replicate capacity 0) (replicate capacity 0)) 0)

-- "and dispatch that many steps or to rest"
unfoldable pub begun : Tree → ℕ → State
begun t steps = after (dispatch_outcome steps (ordered t))

-- Point 2's 9 times N squared less 5 times N steps for 8 columns: every set rests within them, by `Counts` of agreement
abbrev pub to_rest : ℕ
to_rest = 536

-- "halt the set and dispatch to rest"
unfoldable pub ended : State → ℕ → State
ended s m = after (dispatch_outcome to_rest (after (halt s m)))

-- ---- what the running columns hold

-- "with no column running"
abbrev pub nobody_runs : Bank → Bool
nobody_runs b = every (λ i. not (runs b i)) b.tree.columns

-- every column that runs has this number
abbrev pub all_hold : ℕ → Bank → Bool
all_hold number b = every (λ i. not (runs b i) || eqb (column_at b i).number number) b.tree.columns

-- "end with record 1", "with record 0": some column runs, and all that do have the number
abbrev pub ends_with : ℕ → Bank → Bool
ends_with number b = not (nobody_runs b) && all_hold number b

-- ---- the counts

abbrev pub one_if : Bool → ℕ
one_if true = 1
one_if false = 0

-- how many sets of the first k pass a test; set m has column i where bit i of m is 1, and 0 is the empty set
unfoldable pub counted : (ℕ → Bool) → ℕ → ℕ
counted f zero = 0
counted f (suc k) = counted f k + one_if (f k)

abbrev pub losses : ℕ → ℕ → ℕ → Losses
losses kept lost none = record { kept = kept; lost = lost; none = none }

-- "how many sets end with record 1, how many with record 0, and how many with no column running", of the first sets
abbrev pub counted_to : State → ℕ → Losses
counted_to s sets =
    losses (counted (λ m. ends_with 1 (ended s m).bank) sets) (counted (λ m. ends_with 0 (ended s m).bank) sets)
    (counted (λ m. nobody_runs (ended s m).bank) sets)

-- "for every set of columns"
abbrev pub counted_of : State → Losses
counted_of s = counted_to s (2 ^ s.bank.tree.columns)

-- where the losses are refused no set is counted
abbrev pub no_losses : Losses
no_losses = losses 0 0 0

unfoldable pub losses_of : Tree → ℕ → Losses
losses_of t steps = cond (eqb (losses_refusal t) 0) (counted_of (begun t steps)) no_losses

-- the counts, or by which number they are refused
abbrev pub losses_given : Tree → ℕ → Given Losses
losses_given t steps = given_unless (losses_refusal t) (losses_of t steps)
