-- Worked examples of the calls from C: what each answers, accepted and refused by each of its numbers, and every byte that an accepted one leaves. Assumes nothing.
use Rattle.std.specs.Prelude.{ℕ, ◌≡◌, refl, Bool, true, false, List, [], ◌∷◌, ◌++◌, map, replicate}
use Rattle.std.specs.Int.Count.{ones, ones_in, count_trailing_zeros}
use Rattle.column.specs.Sets.{selected}
use Rattle.column.specs.Trees.{tree_of, every, climbs_in, tree_refusal}
use Rattle.column.specs.Columns.{state_refusal}
use Rattle.column.specs.Packets.{low_first, low_value, bytes_in, bytes_of, write, read_in, read}
use Rattle.column.specs.Frames.{packets_in}
use Rattle.column.specs.Pages.{read_refusal, write_refusal, written}
use Rattle.column.specs.Steps as core
use Rattle.column.specs.Steps.{order_refusal, order_effect, send_refusal, send_effect, ack_refusal, all_refusal, packet_refusal, take_refusal, receive_effect, message_effect, acknowledgement_effect}
use Rattle.column.specs.declared.tree.Tree.{Tree}
use Rattle.column.specs.declared.state.Column.{Column}
use Rattle.column.specs.declared.packet.Packet.TheVariants.{Message, Acknowledgement}
use Rattle.text.specs.Text.{bytes, decimal_in, all_digits, value_from, leading_zero, numeral, starts_with, after_key, divided, more_divided}
use Rattle.text.specs.Text as text
use Rattle.text.specs.Pieces.{with_first, cut, longer, pieces, with_number, numerals, numeral_in, numbers_in, third_line, second_line, first_line}
use Rattle.list.specs.Closing.{doors_up_to, list_text, placed, lone_list}
use Rattle.table.specs.Tables.{listed_line, sequence_in, sequence_line, watch_line, with_watch, further_in, joined, table_in, table_refusal, judged}
use Rattle.journals.specs.Journals.{line_text}
use Rattle.firmware.specs.Blocks.{tree_bytes, column_bytes}
use Rattle.firmware.specs.LoneSteps.{is_refused, rejoin_refusal, rejoin_effect}
use Rattle.firmware.specs.Calls.{answer_of, filled_meant, tree_call, table_call, fresh_call, packet_call, rewritten, doors_call, packet_count, joined_at, join_call, list_call, owner_call, line_left, sent_call, got_call, byte_call, line_up_call, idle_call, quiet_call, doors_over, order_call, write_call, rejoin_call, called_meant, step_call, take_call}

-- columns=3, root=0, up=0,0,1
abbrev three : Tree
three = tree_of 3 0 (0 ∷ 0 ∷ 1 ∷ replicate 13 0)

abbrev tree : List ℕ
tree = tree_bytes three

-- trees that 2 and 3 refuse, and a block of another size
abbrev many : List ℕ
many = tree_bytes (tree_of 17 0 (replicate 16 0))

abbrev astray : List ℕ
astray = tree_bytes (tree_of 3 0 (0 ∷ 7 ∷ 1 ∷ replicate 13 0))

abbrev longer_tree : List ℕ
longer_tree = tree ++ (0 ∷ [])

-- a column by its sets to send to, awaited, owed and noted; order number 4, doors 1 and 10, mask 160, and pending bits 3 and 7
abbrev held : Bool → ℕ → ℕ → ℕ → ℕ → Bool → Column
held running s a o n whole = record { running = running; number = 4; doors = 513; send = s; awaited = a; owed = o; noted = n; whole = whole; sender = 0; mask = 160; pending = 136 }

-- column 1: it has 2 to send to; it has nothing to do; it is halted; it owes itself, which is 4
abbrev sending : List ℕ
sending = column_bytes 1 (held true 4 0 1 0 false)

abbrev idle : List ℕ
idle = column_bytes 1 (held true 0 0 0 0 false)

abbrev halted : List ℕ
halted = column_bytes 1 (held false 0 0 0 0 false)

abbrev owing : List ℕ
owing = column_bytes 1 (held true 0 0 2 0 false)

-- the root with nothing to do
abbrev root : List ℕ
root = column_bytes 0 (held true 0 0 0 0 true)

-- what was never written
abbrev blank : List ℕ
blank = replicate 25 0

-- order 7 from 0 to 1 with doors 1 and 10, and its acknowledgement
abbrev message : List ℕ
message = bytes_of (Message 0 1 7 513)

abbrev acknowledgement : List ℕ
acknowledgement = bytes_of (Acknowledgement 1 0 7)

abbrev doors : List ℕ
doors = 1 ∷ 2 ∷ replicate 6 0

-- bytes that are lent to be written
abbrev lent : ℕ → List ℕ
lent size = replicate size 9

-- ---- trees and fresh columns

abbrev tables : List (ℕ × ℕ)
tables =
    (tree_call tree, 0)
    ∷ (tree_call many, 1002)
    ∷ (tree_call astray, 1003)
    ∷ (tree_call (replicate 35 0), 1024)
    ∷ (tree_call longer_tree, 1024)
    ∷ ((table_call (bytes "columns=3\nroot=0\nup=0,0,1\nsend=0\n") (lent 35)).answer, 26)
    ∷ ((table_call (bytes "columns=03\nroot=0\nup=0,0,1\n") (lent 35)).answer, 1001)
    ∷ ((table_call (bytes "columns=17\nroot=0\nup=0,0,1\n") (lent 35)).answer, 1002)
    ∷ ((table_call (bytes "columns=3\nroot=0\nup=0,2,1\n") (lent 35)).answer, 1003)
    ∷ ((table_call (bytes "columns=03\nroot=0\nup=0,0,1\n") (lent 34)).answer, 1024)
    ∷ ((fresh_call tree 2 (lent 25)).answer, 0)
    ∷ ((fresh_call tree 3 (lent 25)).answer, 1004)
    ∷ ((fresh_call many 99 (lent 25)).answer, 1002)
    ∷ ((fresh_call astray 3 (lent 25)).answer, 1003)
    ∷ ((fresh_call (replicate 35 0) 3 (lent 25)).answer, 1024)
    ∷ ((fresh_call tree 3 (lent 26)).answer, 1024)
    ∷ []

pub every_table : map (λ r. r.0) tables ≡ map (λ r. r.1) tables
unfolding tree_call table_call fresh_call tree_refusal every climbs_in with_first cut longer pieces with_number numerals numeral_in numbers_in listed_line sequence_in sequence_line watch_line with_watch further_in joined third_line second_line first_line
    table_in table_refusal judged all_digits value_from leading_zero numeral starts_with after_key low_first low_value
every_table = refl

pub table_left : table_call (bytes "columns=3\nroot=0\nup=0,0,1\n") (lent 35) ≡ filled_meant 26 tree
unfolding table_call tree_refusal every climbs_in with_first cut longer pieces with_number numerals numeral_in numbers_in listed_line sequence_in sequence_line watch_line with_watch further_in joined third_line second_line first_line table_in
    table_refusal judged all_digits value_from leading_zero numeral starts_with after_key
table_left = refl

pub fresh_left : fresh_call tree 2 (lent 25) ≡ filled_meant 0 (34 ∷ 2 ∷ replicate 20 0 ++ (1 ∷ 0 ∷ 0 ∷ []))
unfolding fresh_call tree_refusal every climbs_in low_first low_value
fresh_left = refl

-- ---- packets and frames

abbrev packets : List (ℕ × ℕ)
packets =
    ((packet_call (write (Message 0 1 7 513)) (lent 15)).answer, 15)
    ∷ ((packet_call (write (Acknowledgement 1 0 7)) (lent 15)).answer, 7)
    ∷ ((packet_call (write (Acknowledgement 1 1 7)) (lent 15)).answer, 1012)
    ∷ ((packet_call (write (Acknowledgement 1 1 7)) (lent 14)).answer, 1024)
    ∷ ((packet_call (rewritten (read (acknowledgement ++ message))) (lent 15)).answer, 7)
    ∷ ((packet_call (rewritten (read (1 ∷ acknowledgement))) (lent 15)).answer, 1012)
    ∷ ((doors_call (λ d. write (Message 0 1 7 d)) doors (lent 15)).answer, 15)
    ∷ ((doors_call (λ d. write (Message 0 16 7 d)) doors (lent 15)).answer, 1012)
    ∷ ((doors_call (λ d. write (Message 0 16 7 d)) (0 ∷ doors) (lent 15)).answer, 1024)
    ∷ ((doors_call (λ d. write (Message 0 16 7 d)) (replicate 7 0) (lent 15)).answer, 1024)
    ∷ (answer_of (packet_count []), 0)
    ∷ (answer_of (packet_count (acknowledgement ++ message)), 2)
    ∷ (answer_of (packet_count (acknowledgement ++ (4 ∷ []))), 1012)
    -- joined to no packet and to one; the last place of the buffer, and one short; bytes before the place that are no frame; no packet, which goes before these
    ∷ ((join_call message (lent 15) 0).answer, 15)
    ∷ ((join_call acknowledgement (acknowledgement ++ lent 7) 7).answer, 7)
    ∷ ((join_call acknowledgement (acknowledgement ++ lent 6) 7).answer, 1011)
    ∷ ((join_call acknowledgement acknowledgement 99).answer, 1011)
    ∷ ((join_call acknowledgement (acknowledgement ++ lent 6) 8).answer, 1012)
    ∷ ((join_call (1 ∷ []) (lent 0) 0).answer, 1012)
    ∷ []

pub every_packet : map (λ r. r.0) packets ≡ map (λ r. r.1) packets
unfolding packet_call doors_call joined_at write bytes_in read_in packets_in low_first low_value text.written
every_packet = refl

pub message_left : doors_call (λ d. write (Message 0 1 7 d)) doors (lent 15) ≡ filled_meant 15 (3 ∷ 0 ∷ 1 ∷ 0 ∷ 0 ∷ 0 ∷ 7 ∷ doors)
unfolding packet_call doors_call write bytes_in low_first low_value
message_left = refl

pub read_left : packet_call (rewritten (read (acknowledgement ++ message))) (lent 15) ≡ filled_meant 7 (acknowledgement ++ replicate 8 0)
unfolding packet_call write bytes_in read_in low_first low_value
read_left = refl

pub join_left : join_call acknowledgement (acknowledgement ++ lent 9) 7 ≡ filled_meant 7 (acknowledgement ++ acknowledgement ++ lent 2)
unfolding joined_at bytes_in read_in packets_in low_first low_value text.written
join_left = refl

-- ---- texts

-- refused before anything of the list is looked at
abbrev lists : List (ℕ × ℕ)
lists =
    ((list_call tree halted (lent 0)).answer, 1005)
    ∷ ((list_call tree owing (lent 0)).answer, 1004)
    ∷ ((list_call astray halted (lent 0)).answer, 1003)
    ∷ ((list_call many halted (lent 0)).answer, 1002)
    ∷ ((list_call tree blank (lent 0)).answer, 1024)
    ∷ ((list_call longer_tree idle (lent 0)).answer, 1024)
    ∷ []

pub every_list : map (λ r. r.0) lists ≡ map (λ r. r.1) lists
unfolding list_call lone_list low_first low_value state_refusal tree_refusal every climbs_in
every_list = refl

pub list_refused : list_call tree idle (lent 39) ≡ filled_meant 1011 (lent 39)
unfolding list_call lone_list placed list_text ones doors_up_to divided more_divided decimal_in low_first low_value state_refusal tree_refusal every climbs_in
list_refused = refl

pub list_left : list_call tree idle (lent 44) ≡ filled_meant 40 (bytes "column=1\nnumber=4\noccupied=2\ndoors=1,10\n" ++ lent 4)
unfolding list_call lone_list placed list_text ones doors_up_to divided more_divided decimal_in text.written low_first low_value state_refusal tree_refusal every climbs_in
list_left = refl

abbrev lines : List (ℕ × ℕ)
lines =
    ((owner_call halted (lent 9)).answer, 9)
    ∷ ((owner_call halted (lent 8)).answer, 1011)
    ∷ ((owner_call blank (lent 8)).answer, 1024)
    -- a packet of other columns is 4, before 11 and after 12
    ∷ ((sent_call idle acknowledgement (lent 11)).answer, 11)
    ∷ ((sent_call idle acknowledgement (lent 10)).answer, 1011)
    ∷ ((sent_call idle message (lent 0)).answer, 1004)
    ∷ ((sent_call idle (1 ∷ []) (lent 0)).answer, 1012)
    ∷ ((sent_call blank (1 ∷ []) (lent 0)).answer, 1024)
    ∷ ((got_call idle message (lent 10)).answer, 10)
    ∷ ((got_call idle message (lent 9)).answer, 1011)
    ∷ ((got_call idle acknowledgement (lent 0)).answer, 1004)
    ∷ ((got_call idle (1 ∷ []) (lent 0)).answer, 1012)
    ∷ ((got_call blank (1 ∷ []) (lent 0)).answer, 1024)
    ∷ []

pub every_line : map (λ r. r.0) lines ≡ map (λ r. r.1) lines
unfolding owner_call sent_call got_call line_left placed line_text decimal_in bytes_in read_in low_first low_value
every_line = refl

pub sent_left : sent_call idle acknowledgement (lent 13) ≡ filled_meant 11 (bytes "sent=2,0,7\n" ++ lent 2)
unfolding sent_call line_left placed line_text decimal_in text.written bytes_in read_in low_first low_value
sent_left = refl

pub got_left : got_call idle message (lent 12) ≡ filled_meant 10 (bytes "got=1,0,7\n" ++ lent 2)
unfolding got_call line_left placed line_text decimal_in text.written bytes_in read_in low_first low_value
got_left = refl

-- ---- the page, rest

abbrev pages : List (ℕ × ℕ)
pages =
    (byte_call tree sending 2, 1)
    ∷ (byte_call tree halted 6, 136)
    ∷ (byte_call tree halted 8, 1022)
    ∷ (byte_call tree owing 8, 1004)
    ∷ (byte_call many owing 8, 1002)
    ∷ (byte_call tree blank 8, 1024)
    ∷ (line_up_call halted, 1)
    ∷ (line_up_call (column_bytes 1 (record { running = true; number = 4; doors = 513; send = 0; awaited = 0; owed = 0; noted = 0; whole = false; sender = 0; mask = 119; pending = 136 })), 0)
    ∷ (line_up_call (34 ∷ []), 1024)
    ∷ (idle_call tree idle, 1)
    ∷ (idle_call tree sending, 0)
    ∷ (idle_call tree halted, 1)
    ∷ (idle_call tree owing, 1004)
    ∷ (idle_call astray idle, 1003)
    ∷ (idle_call longer_tree idle, 1024)
    ∷ []

pub every_page : map (λ r. r.0) pages ≡ map (λ r. r.1) pages
unfolding byte_call line_up_call idle_call ones ones_in read_refusal is_refused send_refusal send_effect ack_refusal all_refusal state_refusal tree_refusal every climbs_in low_first low_value
every_page = refl

-- ---- steps: the column's block and the packet

abbrev steps : List (ℕ × ℕ)
steps =
    ((order_call tree root doors).answer, 0)
    ∷ ((order_call tree idle doors).answer, 1004)
    ∷ ((order_call tree idle (0 ∷ doors)).answer, 1024)
    ∷ ((order_call tree root (replicate 7 0)).answer, 1024)
    ∷ ((order_call tree blank doors).answer, 1024)
    ∷ ((write_call tree halted 5 7).answer, 0)
    ∷ ((write_call tree halted 6 7).answer, 1022)
    ∷ ((rejoin_call tree halted 0 7 doors 0).answer, 0)
    ∷ ((rejoin_call tree idle 0 7 doors 0).answer, 1006)
    ∷ ((rejoin_call tree idle 0 7 (0 ∷ doors) 0).answer, 1024)
    ∷ ((step_call core.send tree sending (lent 15)).answer, 15)
    ∷ ((step_call core.send tree idle (lent 15)).answer, 1006)
    ∷ ((step_call core.send tree idle (lent 14)).answer, 1024)
    ∷ ((step_call core.send tree blank (lent 15)).answer, 1024)
    -- a higher number while somebody is owed: 7 bytes are put, and 100 says that the packet is left in its place
    ∷ ((take_call tree sending message (lent 15)).answer, 107)
    ∷ ((take_call tree idle (message ++ message) (lent 15)).answer, 0)
    ∷ ((take_call tree idle (1 ∷ []) (lent 15)).answer, 1012)
    ∷ ((take_call tree idle acknowledgement (lent 15)).answer, 1004)
    ∷ ((take_call tree halted message (lent 15)).answer, 1005)
    ∷ ((take_call tree idle (1 ∷ []) (lent 14)).answer, 1024)
    ∷ []

pub every_step : map (λ r. r.0) steps ≡ map (λ r. r.1) steps
unfolding quiet_call doors_over step_call take_call order_refusal order_effect write_refusal written rejoin_refusal rejoin_effect send_refusal send_effect packet_refusal take_refusal receive_effect message_effect acknowledgement_effect bytes_in read_in low_first low_value
    state_refusal tree_refusal every climbs_in selected count_trailing_zeros
every_step = refl

pub order_left : order_call tree root doors
    ≡ filled_meant 0 (column_bytes 0 (record { running = true; number = 5; doors = 513; send = 2; awaited = 0; owed = 0; noted = 0; whole = true; sender = 0; mask = 160; pending = 137 }))
unfolding quiet_call doors_over order_refusal order_effect low_first low_value state_refusal tree_refusal every climbs_in selected
order_left = refl

pub send_left : step_call core.send tree sending (lent 15)
    ≡ called_meant 15 (column_bytes 1 (held true 0 4 1 0 false)) (3 ∷ 1 ∷ 2 ∷ 0 ∷ 0 ∷ 0 ∷ 4 ∷ doors)
unfolding step_call send_refusal send_effect bytes_in low_first low_value state_refusal tree_refusal every climbs_in
send_left = refl

-- it owes column 0, which is acknowledged its present number, 4
pub take_left : take_call tree sending message (lent 15)
    ≡ called_meant 107 (column_bytes 1 (held true 4 0 0 0 false)) (4 ∷ 1 ∷ 0 ∷ 0 ∷ 0 ∷ 0 ∷ 4 ∷ replicate 8 0)
unfolding take_call packet_refusal take_refusal message_effect bytes_in read_in low_first low_value state_refusal tree_refusal every climbs_in count_trailing_zeros
take_left = refl
