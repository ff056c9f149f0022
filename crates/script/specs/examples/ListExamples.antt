-- Worked examples of the closing list of a bank's column, after document 01, "The closing list": "from a given place on; other bytes keep their values", and
-- "lists 4, 5, 11". Assumes nothing.
use Rattle.std.specs.Prelude.{ℕ, ◌≡◌, refl, List, [], ◌∷◌, ◌++◌, map, replicate}
use Rattle.std.specs.Int.Count.{ones}
use Rattle.column.specs.Refusals.{Given, given, refused}
use Rattle.column.specs.Trees.{tree_of, every, climbs_in, tree_refusal}
use Rattle.column.specs.Columns.{state_refusal}
use Rattle.column.specs.declared.tree.Tree.{Tree}
use Rattle.text.specs.Text.{bytes, decimal_in, written, divided, more_divided}
use Rattle.list.specs.Closing.{doors_up_to, list_text, placed}
use Rattle.bank.specs.Banks.{State, state, capacity, fresh_bank, fresh_place, places, bank_refusal}
use Rattle.bank.specs.Networks.{keeping, padded, vanished}
use Rattle.bank.specs.Steps.{after, halt, halted, halt_refusal, rewriting}
use Rattle.script.specs.BankLists.{list}

-- the fresh bank of a tree
abbrev fresh : Tree → State
fresh t = state (fresh_bank t) (replicate capacity 0) (replicate capacity 0)

-- columns=3, root=0, up=0,0,1
abbrev three : State
three = fresh (tree_of 3 0 (0 ∷ 0 ∷ 1 ∷ replicate 13 0))

abbrev lent : ℕ → List ℕ
lent size = replicate size 9

-- two bytes before the list and three after it
pub list_placed : list three 1 (lent 41) 2 ≡ record { answer = given 36; buffer = 9 ∷ 9 ∷ bytes "column=1\nnumber=0\noccupied=0\ndoors=\n" ++ lent 3 }
unfolding list placed written list_text doors_up_to divided more_divided decimal_in ones fresh_place places bank_refusal state_refusal tree_refusal every climbs_in
list_placed = refl

-- 38 bytes hold it from place 2 on, 37 don't
pub list_fits : (list three 1 (lent 38) 2).answer ≡ given 36
unfolding list placed list_text doors_up_to divided more_divided decimal_in ones fresh_place places bank_refusal state_refusal tree_refusal every climbs_in
list_fits = refl

pub list_short : list three 1 (lent 37) 2 ≡ record { answer = refused 11; buffer = lent 37 }
unfolding list placed list_text doors_up_to divided more_divided decimal_in ones fresh_place places bank_refusal state_refusal tree_refusal every climbs_in
list_short = refl

-- column 2 halted: 5 before 11, 4 before 5, and 2 and 3 before these
abbrev refusals : List (Given ℕ × Given ℕ)
refusals =
    ((list (after (halt three 4)) 2 [] 0).answer, refused 5)
    ∷ ((list (after (halt three 4)) 3 [] 0).answer, refused 4)
    ∷ ((list (fresh (tree_of 17 0 (replicate 16 0))) 99 [] 0).answer, refused 2)
    ∷ ((list (fresh (tree_of 3 0 (0 ∷ 7 ∷ 1 ∷ replicate 13 0))) 9 [] 0).answer, refused 3)
    ∷ []

pub list_refused : map (λ r. r.0) refusals ≡ map (λ r. r.1) refusals
unfolding list halted halt_refusal rewriting vanished keeping padded fresh_place places bank_refusal state_refusal tree_refusal every climbs_in
list_refused = refl
