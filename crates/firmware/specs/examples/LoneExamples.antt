-- Worked examples of the steps that a maker has beside the core's own: which step is next, whether a column rests, and by which number a return is refused, each
-- alone and against its neighbours in document 02's order. Assumes nothing.
use Rattle.std.specs.Prelude.{ℕ, ◌≡◌, refl, Bool, true, false, List, [], ◌∷◌, map, replicate}
use Rattle.std.specs.Int.Count.{count_trailing_zeros}
use Rattle.column.specs.Trees.{ascending, tree_by, tree_of, every, climbs_in, tree_refusal}
use Rattle.column.specs.Columns.{state_refusal}
use Rattle.column.specs.Steps.{Result, accepted, refused, send, send_refusal, send_effect, ack, ack_refusal, ack_effect, all, all_refusal, all_effect}
use Rattle.column.specs.declared.tree.Tree.{Tree}
use Rattle.column.specs.declared.state.Column.{Column}
use Rattle.firmware.specs.LoneSteps.{or_else, next, is_refused, rests, rejoin_refusal, rejoin_effect, rejoin, strike_refusal, strike}

-- columns=3, root=0, up=0,0,1
abbrev three : Tree
three = tree_of 3 0 (0 ∷ 0 ∷ 1 ∷ replicate 13 0)

-- the same, and columns watch who sent their record
abbrev watching : Tree
watching = tree_by 3 0 (0 ∷ 0 ∷ 1 ∷ replicate 13 0) ascending true

abbrev many : Tree
many = tree_of 17 0 (replicate 16 0)

abbrev astray : Tree
astray = tree_of 3 0 (0 ∷ 7 ∷ 1 ∷ replicate 13 0)

-- a column by its sets to send to, awaited, owed and noted; order number 4, doors 9, sent by 1, mask 160, and pending bits 3 and 7
abbrev column : Bool → ℕ → ℕ → ℕ → ℕ → Bool → Column
column running s a o n whole = record { running = running; number = 4; doors = 9; send = s; awaited = a; owed = o; noted = n; whole = whole; sender = 1; mask = 160; pending = 136 }

-- ---- next: "the first accepted of send, ack and all"

-- who may do all three, in turn: column 1 with goal whole bank sends before it acknowledges; with its subtree served it acknowledges before it takes over
abbrev sends : Column
sends = column true 4 0 1 1 true

abbrev acknowledges : Column
acknowledges = column true 0 0 1 1 false

abbrev takes_over : Column
takes_over = column true 0 0 0 1 false

pub sends_first : next three 1 sends ≡ send three 1 sends
unfolding or_else send_refusal send_effect state_refusal tree_refusal every climbs_in
sends_first = refl

pub then_acknowledges : next three 1 acknowledges ≡ ack three 1 acknowledges
unfolding or_else send_refusal ack_refusal ack_effect state_refusal tree_refusal every climbs_in count_trailing_zeros
then_acknowledges = refl

pub then_takes_over : next three 1 takes_over ≡ all three 1 takes_over
unfolding or_else send_refusal ack_refusal all_refusal all_effect state_refusal tree_refusal every climbs_in
then_takes_over = refl

-- the number by which it is refused, 0 where it is accepted
abbrev number_of : Result → ℕ
number_of (accepted c ps left) = 0
number_of (refused n c) = n

-- a tree, a column's number and the column, and by which number its next step is refused; whether it rests
abbrev nexts : List (ℕ × ℕ)
nexts =
    (number_of (next three 1 sends), 0)
    ∷ (number_of (next three 1 acknowledges), 0)
    ∷ (number_of (next three 1 takes_over), 0)
    ∷ (number_of (next three 1 (column true 0 0 0 0 false)), 6)
    ∷ (number_of (next three 1 (column true 0 4 1 1 false)), 6)
    ∷ (number_of (next three 1 (column false 4 0 1 1 true)), 5)
    ∷ (number_of (next three 1 (column false 8 0 1 1 true)), 4)
    ∷ (number_of (next three 9 sends), 4)
    ∷ (number_of (next astray 9 sends), 3)
    ∷ (number_of (next many 99 sends), 2)
    ∷ []

pub every_next : map (λ r. r.0) nexts ≡ map (λ r. r.1) nexts
unfolding or_else send_refusal send_effect ack_refusal ack_effect all_refusal all_effect state_refusal tree_refusal every climbs_in count_trailing_zeros
every_next = refl

-- ---- rest of one column: a halted one rests whatever it holds, and a running one where none of the three is accepted; who is only awaited is none of its work
abbrev resting : List (Bool × Bool)
resting =
    (rests three 1 sends, false)
    ∷ (rests three 1 acknowledges, false)
    ∷ (rests three 1 takes_over, false)
    ∷ (rests three 1 (column true 0 0 0 0 false), true)
    ∷ (rests three 1 (column true 0 4 1 1 false), true)
    ∷ (rests three 1 (column false 4 0 1 1 true), true)
    -- where senders are watched: column 2 had its record from 1, and has noted it
    ∷ (rests watching 2 (column true 0 0 0 2 false), false)
    ∷ (rests watching 2 (column true 0 0 0 1 false), true)
    ∷ []

pub every_rest : map (λ r. r.0) resting ≡ map (λ r. r.1) resting
unfolding is_refused send_refusal send_effect ack_refusal ack_effect all_refusal all_effect state_refusal tree_refusal every climbs_in count_trailing_zeros
every_rest = refl

-- ---- rejoin: "order 4, then 6 for a running column, then 15, 14, 16"

abbrev gone : Column
gone = column false 4 1 1 7 false

abbrev gone_root : Column
gone_root = column false 4 1 2 7 true

-- by which number the return of column i, which is c, is refused: the column to copy from, and the set of those that remain halted
abbrev rejoins : List (ℕ × ℕ)
rejoins =
    -- column 2 with nobody else halted copies column 0, with 0 halted column 1
    (rejoin_refusal three 2 gone 0 0, 0)
    ∷ (rejoin_refusal three 2 gone 1 1, 0)
    ∷ (rejoin_refusal three 1 gone 2 1, 0)
    -- not "the lowest running column"
    ∷ (rejoin_refusal three 2 gone 1 0, 4)
    ∷ (rejoin_refusal three 2 gone 2 0, 4)
    ∷ (rejoin_refusal three 2 gone 0 1, 4)
    ∷ (rejoin_refusal three 2 gone 16 0, 4)
    -- halted is one that the tree has not, or the column itself
    ∷ (rejoin_refusal three 2 gone 0 8, 4)
    ∷ (rejoin_refusal three 2 gone 0 4, 4)
    -- rows 2 to 4 before all else
    ∷ (rejoin_refusal many 99 gone 0 0, 2)
    ∷ (rejoin_refusal astray 9 gone 0 0, 3)
    ∷ (rejoin_refusal three 9 gone 0 0, 4)
    ∷ (rejoin_refusal three 2 (column false 0 0 0 8 false) 0 0, 4)
    -- "then 6 for a running column", after 4 and before 15 and 16
    ∷ (rejoin_refusal three 2 (column true 0 0 0 0 false) 0 0, 6)
    ∷ (rejoin_refusal three 2 (column true 0 0 0 0 false) 1 0, 4)
    ∷ (rejoin_refusal three 0 (column true 0 0 0 0 true) 1 0, 6)
    ∷ (rejoin_refusal three 2 (column true 0 0 0 0 false) 0 3, 6)
    -- "15 the root", before "16 no column runs"
    ∷ (rejoin_refusal three 0 gone_root 1 0, 15)
    ∷ (rejoin_refusal three 0 gone_root 1 6, 15)
    -- nobody runs, whom to copy is not asked
    ∷ (rejoin_refusal three 2 gone 0 3, 16)
    ∷ (rejoin_refusal three 2 gone 99 3, 16)
    ∷ []

pub every_rejoin : map (λ r. r.0) rejoins ≡ map (λ r. r.1) rejoins
unfolding rejoin_refusal state_refusal tree_refusal every climbs_in count_trailing_zeros
every_rejoin = refl

-- "The column runs with the record of the lowest running column and empty sets. It has noted exactly the columns that remain halted": "its own subtree if the root
-- runs, the whole bank if not"; its page is as it was
pub rejoined_whole : rejoin three 2 gone 0 7 513 2
    ≡ accepted (record { running = true; number = 7; doors = 513; send = 0; awaited = 0; owed = 0; noted = 2; whole = false; sender = 0; mask = 160; pending = 136 }) [] false
unfolding rejoin_refusal rejoin_effect state_refusal tree_refusal every climbs_in count_trailing_zeros
rejoined_whole = refl

pub rejoined_rootless : rejoin three 2 gone 1 7 513 1
    ≡ accepted (record { running = true; number = 7; doors = 513; send = 0; awaited = 0; owed = 0; noted = 1; whole = true; sender = 1; mask = 160; pending = 136 }) [] false
unfolding rejoin_refusal rejoin_effect state_refusal tree_refusal every climbs_in count_trailing_zeros
rejoined_rootless = refl

-- ---- strike: "all others strike it from those noted"

abbrev strikes : List (ℕ × ℕ)
strikes =
    -- one that has nothing to do; one that awaits; a halted one, whatever it holds
    (strike_refusal three 1 (column true 0 0 0 4 false) 2, 0)
    ∷ (strike_refusal three 1 (column true 0 4 0 4 false) 2, 0)
    ∷ (strike_refusal three 1 (column false 4 0 1 5 true) 2, 0)
    -- who has not noted it strikes nothing
    ∷ (strike_refusal three 1 (column true 0 0 0 0 false) 2, 0)
    -- "14 not at rest": it could send, acknowledge or take over
    ∷ (strike_refusal three 1 sends 2, 14)
    ∷ (strike_refusal three 1 acknowledges 2, 14)
    ∷ (strike_refusal three 1 takes_over 2, 14)
    -- 4 before 14: a column that the tree has not, and itself; rows 2 to 4 before these
    ∷ (strike_refusal three 1 sends 3, 4)
    ∷ (strike_refusal three 1 sends 1, 4)
    ∷ (strike_refusal three 1 (column true 0 0 0 8 false) 2, 4)
    ∷ (strike_refusal astray 9 sends 3, 3)
    ∷ (strike_refusal many 99 sends 3, 2)
    ∷ []

pub every_strike : map (λ r. r.0) strikes ≡ map (λ r. r.1) strikes
unfolding strike_refusal is_refused send_refusal send_effect ack_refusal ack_effect all_refusal all_effect state_refusal tree_refusal every climbs_in count_trailing_zeros
every_strike = refl

pub struck_alone : strike three 1 (column true 0 4 0 5 false) 2 ≡ accepted (column true 0 4 0 1 false) [] false
unfolding strike_refusal is_refused send_refusal ack_refusal all_refusal state_refusal tree_refusal every climbs_in
struck_alone = refl
