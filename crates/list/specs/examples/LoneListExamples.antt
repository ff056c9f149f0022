-- Worked examples of the list of a lone column: "the call answers the list's length", "other bytes keep their values", and "lists 4, 5, 11", 2 and 3 before these.
-- Assumes nothing.
use Rattle.std.specs.Prelude.{ℕ, ◌≡◌, refl, Bool, true, false, List, [], ◌∷◌, ◌++◌, map, replicate}
use Rattle.std.specs.Int.Count.{ones}
use Rattle.column.specs.Refusals.{given, refused}
use Rattle.column.specs.Trees.{tree_of, every, climbs_in, tree_refusal}
use Rattle.column.specs.Columns.{state_refusal}
use Rattle.column.specs.declared.tree.Tree.{Tree}
use Rattle.column.specs.declared.state.Column.{Column}
use Rattle.text.specs.Text.{bytes, decimal_in, written, divided, more_divided}
use Rattle.list.specs.Closing.{doors_up_to, list_text, placed, lone_refusal, lone_list}

-- columns=3, root=0, up=0,0,1
abbrev three : Tree
three = tree_of 3 0 (0 ∷ 0 ∷ 1 ∷ replicate 13 0)

-- a column with order 4 and doors 1 and 10, which owes these
abbrev column : Bool → ℕ → Column
column running owed = record { running = running; number = 4; doors = 513; send = 0; awaited = 0; owed = owed; noted = 0; whole = false; sender = 0; mask = 0; pending = 0 }

abbrev refusals : List (ℕ × ℕ)
refusals =
    (lone_refusal three 1 (column true 0), 0)
    ∷ (lone_refusal three 1 (column false 0), 5)
    -- a column that owes itself, and a column that the tree has not
    ∷ (lone_refusal three 1 (column false 2), 4)
    ∷ (lone_refusal three 3 (column false 0), 4)
    ∷ (lone_refusal (tree_of 3 0 (0 ∷ 7 ∷ 1 ∷ replicate 13 0)) 3 (column false 2), 3)
    ∷ (lone_refusal (tree_of 17 0 (replicate 16 0)) 99 (column false 2), 2)
    ∷ []

pub every_refusal : map (λ r. r.0) refusals ≡ map (λ r. r.1) refusals
unfolding state_refusal tree_refusal every climbs_in
every_refusal = refl

-- 40 bytes, and four past them
pub list_left : lone_list three 1 (column true 0) (replicate 44 9) ≡ record { answer = given 40; buffer = bytes "column=1\nnumber=4\noccupied=2\ndoors=1,10\n" ++ replicate 4 9 }
unfolding lone_list placed written list_text ones doors_up_to divided more_divided decimal_in state_refusal tree_refusal every climbs_in
list_left = refl

pub list_short : lone_list three 1 (column true 0) (replicate 39 9) ≡ record { answer = refused 11; buffer = replicate 39 9 }
unfolding lone_list placed list_text ones doors_up_to divided more_divided decimal_in state_refusal tree_refusal every climbs_in
list_short = refl

-- 5 before 11
pub list_halted : lone_list three 1 (column false 0) [] ≡ record { answer = refused 5; buffer = [] }
unfolding lone_list state_refusal tree_refusal every climbs_in
list_halted = refl
