-- Worked examples of the register page: each refusal of a read and a write, at a halted column too, the eight bytes, and what a write alters.
use Rattle.std.specs.Prelude.{ℕ, ◌≡◌, refl, Bool, true, false, List, [], ◌∷◌, map, replicate}
use Rattle.std.specs.Int.Count.{ones_in, ones}
use Rattle.column.specs.Refusals.{given}
use Rattle.column.specs.Trees.{tree_of, every, climbs_in, tree_refusal}
use Rattle.column.specs.Columns.{fresh, state_refusal}
use Rattle.column.specs.Steps.{accepted}
use Rattle.column.specs.Pages.{page, read_refusal, read_byte, write_refusal, written, write, line_up}
use Rattle.column.specs.declared.tree.Tree.{Tree}
use Rattle.column.specs.declared.state.Column.{Column}

-- columns=3, root=0, up=0,0,1
abbrev three : Tree
three = tree_of 3 0 (0 ∷ 0 ∷ 1 ∷ replicate 13 0)

-- column 1, which is to send to one, awaits two and owes none; its mask and what is pending
abbrev column : Bool → ℕ → ℕ → Column
column running mask pending =
    record { running = running; number = 4; doors = 9; send = 4; awaited = 5; owed = 0; noted = 1; whole = true; sender = 0; mask = mask; pending = pending }

-- a refusal, and its number; 0 where the byte is read or written
abbrev refusals : List (ℕ × ℕ)
refusals =
    (read_refusal three 1 (column true 0 0) 0, 0)
    ∷ (read_refusal three 1 (column true 0 0) 7, 0)
    ∷ (read_refusal three 1 (column true 0 0) 8, 22)
    ∷ (read_refusal three 9 (column true 0 0) 8, 4)
    ∷ (read_refusal three 1 (column false 0 0) 7, 0)
    ∷ (read_refusal three 1 (column false 0 0) 8, 22)
    ∷ (write_refusal three 1 (column true 0 0) 4, 22)
    ∷ (write_refusal three 1 (column true 0 0) 5, 0)
    ∷ (write_refusal three 1 (column true 0 0) 6, 22)
    ∷ (write_refusal three 1 (column true 0 0) 7, 0)
    ∷ (write_refusal three 1 (column true 0 0) 8, 22)
    ∷ (write_refusal three 9 (column true 0 0) 6, 4)
    ∷ (write_refusal three 1 (column false 0 0) 5, 0)
    ∷ (write_refusal three 1 (column false 0 0) 7, 0)
    ∷ (write_refusal three 1 (column false 0 0) 0, 22)
    -- any mask, and anything pending, is accepted
    ∷ (write_refusal three 1 (column true 255 255) 5, 0)
    ∷ []

pub every_refusal : map (λ r. r.0) refusals ≡ map (λ r. r.1) refusals
unfolding read_refusal write_refusal state_refusal tree_refusal every climbs_in
every_refusal = refl

-- ---- the eight bytes

pub page_running : page 1 (column true 160 7) ≡ 1 ∷ 3 ∷ 1 ∷ 2 ∷ 0 ∷ 160 ∷ 7 ∷ 0 ∷ []
unfolding ones ones_in
page_running = refl

-- "other bits 0": a halted column's goal stays, and its counts
pub page_halted : page 1 (column false 160 7) ≡ 1 ∷ 2 ∷ 1 ∷ 2 ∷ 0 ∷ 160 ∷ 7 ∷ 0 ∷ []
unfolding ones ones_in
page_halted = refl

-- "Fresh pages have both clear."
pub page_fresh : page 2 (fresh three 2) ≡ 2 ∷ 1 ∷ 0 ∷ 0 ∷ 0 ∷ 0 ∷ 0 ∷ 0 ∷ []
unfolding ones ones_in
page_fresh = refl

pub read_pending : read_byte three 1 (column false 160 7) 6 ≡ given 7
unfolding read_refusal state_refusal tree_refusal every climbs_in
read_pending = refl

-- ---- a write

-- "Byte 5 keeps all eight bits written", at a halted column too
pub mask_whole : write three 1 (column false 160 7) 5 255 ≡ accepted (column false 255 7) [] false
unfolding write_refusal written state_refusal tree_refusal every climbs_in
mask_whole = refl

-- "a write there clears the pending bits that are 1 in it", and no other; bits that no step sets too
pub clears_one : write three 1 (column true 160 135) 7 1 ≡ accepted (column true 160 134) [] false
unfolding write_refusal written state_refusal tree_refusal every climbs_in
clears_one = refl

pub clears_all : write three 1 (column false 160 135) 7 255 ≡ accepted (column false 160 0) [] false
unfolding write_refusal written state_refusal tree_refusal every climbs_in
clears_all = refl

pub clears_none : write three 1 (column true 160 135) 7 0 ≡ accepted (column true 160 135) [] false
unfolding write_refusal written state_refusal tree_refusal every climbs_in
clears_none = refl

-- ---- "The line is up exactly when a bit is set in both 5 and 6."

pub lines : map line_up (column true 6 1 ∷ column true 6 2 ∷ column false 4 4 ∷ column true 0 7 ∷ column true 128 128 ∷ []) ≡ false ∷ true ∷ true ∷ false ∷ true ∷ []
lines = refl
