-- "Edges; those marked P are proved": the ten cases as rows of one table, each with what must come out, and one theorem for all.
use Rattle.std.specs.Prelude.{ℕ, ◌≡◌, refl, true, false, List, [], ◌∷◌, replicate, take}
use Rattle.std.specs.Int.Count.{count_trailing_zeros}
use Rattle.column.specs.Refusals.{given, refused}
use Rattle.column.specs.Sets.{selected}
use Rattle.column.specs.Trees.{tree_of, every, climbs_in, tree_refusal}
use Rattle.column.specs.Columns.{state_refusal}
use Rattle.column.specs.Packets as packets
use Rattle.column.specs.Steps as core
use Rattle.column.specs.declared.tree.Tree.{Tree}
use Rattle.column.specs.declared.packet.Packet.TheVariants.{Message, Acknowledgement}
use Rattle.text.specs.Text.{bytes, all_digits, value_from, leading_zero, numeral, starts_with, after_key}
use Rattle.text.specs.Pieces.{with_first, cut, longer, pieces, with_number, numerals, numeral_in, numbers_in, third_line, second_line, first_line}
use Rattle.bank.specs.Words.{packet_of}
use Rattle.bank.specs.Networks.{closed_up, put, puts, with_packet}
use Rattle.bank.specs.Banks.{State, state, column_at, packet_at, capacity, places, fresh_place, fresh_bank, bank_refusal}
use Rattle.bank.specs.Steps as bank
use Rattle.bank.specs.Steps.{Result, accepted, after, with_column, fitting, acted, delivered}
use Rattle.bank.specs.Performs.{perform}
use Rattle.bank.specs.Rest.{AtRest}
use Rattle.bank.proofs.laws.RestLaws.{fresh_rests}
use Rattle.bank.specs.declared.bank.Step.TheVariants.{Order, Take}
use Rattle.table.specs.Tables.{listed_line, sequence_in, sequence_line, watch_line, with_watch, further_in, joined, table_in, table_refusal, placed_at, no_tree, judged, read_table}

-- ---- banks of the cases

abbrev one : Tree
one = tree_of 1 0 (replicate 16 0)

abbrev two : Tree
two = tree_of 2 0 (replicate 16 0)

abbrev fresh_state : Tree → State
fresh_state t = state (fresh_bank t) (replicate capacity 0) (replicate capacity 0)

-- the root of one column holds a number
abbrev root_at : ℕ → State
root_at number =
    with_column (fresh_state one) 0
    (record { running = true; number = number; doors = 0; send = 0; awaited = 0; owed = 0; noted = 0; whole = true; sender = 0; mask = 0; pending = 0 })

-- column 1 of two holds a number, and a message from the root is under way
abbrev message_to : ℕ → ℕ → State
message_to number sent =
    with_packet
    (with_column (fresh_state two) 1
    (record { running = true; number = number; doors = 7; send = 0; awaited = 0; owed = 0; noted = 0; whole = false; sender = 0; mask = 0; pending = 0 }))
    (Message 0 1 sent 9)

-- a message's fifteen bytes: 0 to 1, number 16,909,060, doors bytes 1 to 8
abbrev fifteen : List ℕ
fifteen = 3 ∷ 0 ∷ 1 ∷ 1 ∷ 2 ∷ 3 ∷ 4 ∷ 1 ∷ 2 ∷ 3 ∷ 4 ∷ 5 ∷ 6 ∷ 7 ∷ 8 ∷ []

-- ---- the table

pub data Case : Type 0 where
  table_of_one : Case
  cycle : Case
  fresh_bank_lem : Case
  two_orders : Case
  second_order : Case
  highest_number : Case
  last_door : Case
  message_bytes_lem : Case
  equal_number : Case
  lower_number : Case

-- the number and the doors of column i after a step
abbrev record_of : Result State → ℕ → ℕ × ℕ
record_of o i = ((column_at (after o).bank i).number, (column_at (after o).bank i).doors)

-- what must come out
abbrev pub Says : Case → Type 0
-- "`columns=1`, `up=0` is a tree"
Says table_of_one = read_table (bytes "columns=1\nroot=0\nup=0\n") ≡ accepted (placed_at one 22)
-- "`up=0,2,1` is none"
Says cycle = read_table (bytes "columns=3\nroot=0\nup=0,2,1\n") ≡ bank.refused 3 no_tree
-- "fresh bank is at rest"
Says fresh_bank_lem = (t : Tree) → tree_refusal t ≡ 0 → (heads doors : List ℕ) → AtRest (state (fresh_bank t) heads doors)
-- "one column: two orders running are accepted"
Says two_orders = record_of (perform (after (perform (fresh_state one) (Order 5))) (Order 6)) 0 ≡ (2, 6)
-- "two columns: the second is 7"
Says second_order =
    let s = after (perform (fresh_state two) (Order 5)) in
    perform s (Order 6) ≡ bank.refused 7 s
-- "number 65,534 admits an order, 65,535 doesn't", moved "to the new limit"
Says highest_number =
    (record_of (perform (root_at 4294967294) (Order 6)) 0 ≡ (4294967295, 6))
    × (perform (root_at 4294967295) (Order 6) ≡ bank.refused 8 (root_at 4294967295))
-- "doors byte 7 = 128 is door 64"
Says last_door =
    let doors : List ℕ = 0 ∷ 0 ∷ 0 ∷ 0 ∷ 0 ∷ 0 ∷ 0 ∷ 128 ∷ [] in
    (packets.occupied doors 64 ≡ true) × (packets.occupied doors 63 ≡ false) × (packets.occupied doors 1 ≡ false)
-- "message of 13 bytes read, 12 refused", moved "to the new .. size"
Says message_bytes_lem =
    (packets.read fifteen ≡ given (packets.part (Message 0 1 16909060 578437695752307201) 15)) × (packets.read (take 14 fifteen) ≡ refused 12)
-- "take of an equal number adds to those owed"
Says equal_number =
    column_at (after (perform (message_to 4 4) (Take 0))).bank 1
    ≡ record { running = true; number = 4; doors = 7; send = 0; awaited = 0; owed = 1; noted = 0; whole = false; sender = 0; mask = 0; pending = 0 }
-- "a lower number is answered with that lower number"
Says lower_number =
    let s = after (perform (message_to 4 3) (Take 0)) in
    (s.bank.count ≡ 1) × (packet_at s 0 ≡ Acknowledgement 1 0 3)

pub every_case : (c : Case) → Says c
unfolding all_digits value_from leading_zero numeral starts_with after_key with_first cut longer pieces with_number numerals numeral_in numbers_in listed_line sequence_in sequence_line watch_line with_watch further_in joined third_line second_line first_line table_in table_refusal judged every climbs_in tree_refusal selected count_trailing_zeros state_refusal packet_of closed_up places fresh_place bank_refusal put puts perform fitting acted delivered core.order_refusal core.packet_refusal core.take_refusal core.order_effect core.receive_effect core.message_effect packets.low_value packets.read_in
every_case table_of_one = refl
every_case cycle = refl
every_case fresh_bank_lem = fresh_rests
every_case two_orders = refl
every_case second_order = refl
every_case highest_number = (refl, refl)
every_case last_door = (refl, refl, refl)
every_case message_bytes_lem = (refl, refl)
every_case equal_number = refl
every_case lower_number = (refl, refl)
