-- Worked examples of the steps of a lone column: each refusal alone and against its neighbours in document 01's order, and the effects
-- that are easily got wrong.
use Rattle.std.specs.Prelude.{ℕ, ◌≡◌, refl, Bool, true, false, List, [], ◌∷◌, map, replicate}
use Rattle.std.specs.Int.Count.{count_trailing_zeros}
use Rattle.column.specs.Sets.{selected}
use Rattle.column.specs.Trees.{ascending, tree_by, tree_in_sequence, tree_of, every, climbs_in, tree_refusal}
use Rattle.column.specs.Columns.{state_refusal, validity_refusal, with_registers}
use Rattle.column.specs.Steps.{accepted, packet_refusal, order_refusal, order_effect, send_refusal, send_effect, take_refusal, acknowledgement_effect, receive_effect, message_effect, ack_refusal, ack_effect, ack, all_refusal, all_effect, note_refusal, note_effect, halt_refusal, halt_effect}
use Rattle.column.specs.declared.tree.Tree.{Tree}
use Rattle.column.specs.declared.state.Column.{Column}
use Rattle.column.specs.declared.packet.Packet.TheVariants.{Message, Acknowledgement}

-- columns=3, root=0, up=0,0,1
abbrev pub three : Tree
three = tree_of 3 0 (0 ∷ 0 ∷ 1 ∷ replicate 13 0)

-- the same, the farthest served first
abbrev pub farthest : Tree
farthest = tree_in_sequence 3 0 (0 ∷ 0 ∷ 1 ∷ replicate 13 0) (2 ∷ 1 ∷ 0 ∷ replicate 13 0)

-- the same, and columns watch who sent their record
abbrev watching : Tree
watching = tree_by 3 0 (0 ∷ 0 ∷ 1 ∷ replicate 13 0) ascending true

-- columns=3, root=2, up=2,2,2: a root that is not the lowest
abbrev topmost : Tree
topmost = tree_of 3 2 (2 ∷ 2 ∷ 2 ∷ replicate 13 0)

abbrev many : Tree
many = tree_of 17 0 (replicate 16 0)

abbrev astray : Tree
astray = tree_of 3 0 (0 ∷ 7 ∷ 1 ∷ replicate 13 0)

-- a column by its sets to send to, awaited, owed and noted; order number 4, doors 9, mask 160; pending are bits 3 and 7, which no step sets
abbrev pub column : Bool → ℕ → ℕ → ℕ → ℕ → Bool → Column
column running s a o n whole = record { running = running; number = 4; doors = 9; send = s; awaited = a; owed = o; noted = n; whole = whole; sender = 0; mask = 160; pending = 136 }

abbrev numbered : ℕ → Column → Column
numbered k c = record { running = c.running; number = k; doors = c.doors; send = c.send; awaited = c.awaited; owed = c.owed; noted = c.noted; whole = c.whole; sender = c.sender; mask = c.mask; pending = c.pending }

abbrev sent_by : ℕ → Column → Column
sent_by k c = record { running = c.running; number = c.number; doors = c.doors; send = c.send; awaited = c.awaited; owed = c.owed; noted = c.noted; whole = c.whole; sender = k; mask = c.mask; pending = c.pending }

-- a root and another column, running and halted, with nothing to do
abbrev root : Column
root = column true 0 0 0 0 true

abbrev halted_root : Column
halted_root = column false 0 0 0 0 true

abbrev other : Column
other = column true 0 0 0 0 false

abbrev halted_other : Column
halted_other = column false 0 0 0 0 false

-- a refusal, and the number that document 01 gives it; 0 where the step is accepted
abbrev refusals : List (ℕ × ℕ)
refusals =
    -- 2 and 3 before 4 and 5
    (send_refusal many 99 halted_other, 2)
    ∷ (send_refusal astray 9 halted_other, 3)
    -- 4: "column number or set member not below columns": each of the four sets, and 4 before 5
    ∷ (send_refusal three 9 halted_other, 4)
    ∷ (send_refusal three 2 (column false 8 0 0 0 false), 4)
    ∷ (send_refusal three 2 (column false 0 8 0 0 false), 4)
    ∷ (send_refusal three 2 (column false 0 0 8 0 false), 4)
    ∷ (send_refusal three 2 (column false 0 0 0 8 false), 4)
    -- "a column owing itself"; to send to, await or note oneself is not 4
    ∷ (ack_refusal three 2 (column true 0 0 4 0 false), 4)
    ∷ (validity_refusal three 2 (column true 4 4 0 4 false), 0)
    -- "a root with a goal other than the whole bank", halted or not
    ∷ (halt_refusal three 0 other, 4)
    ∷ (halt_refusal three 0 halted_other, 4)
    -- who sent a record is a column number, whoever is watched
    ∷ (send_refusal three 2 (sent_by 3 halted_other), 4)
    ∷ (send_refusal watching 2 (sent_by 3 halted_other), 4)
    ∷ (send_refusal watching 2 (sent_by 2 halted_other), 5)
    -- "also an order to a lone core that isn't the root": before 5
    ∷ (order_refusal three 1 halted_other, 4)
    -- "any packet with an end not below columns, equal ends, .. another addressee .., or a message to the root": before 5
    ∷ (take_refusal three 1 halted_other (Message 3 1 5 0), 4)
    ∷ (take_refusal three 1 halted_other (Message 0 3 5 0), 4)
    ∷ (take_refusal three 1 halted_other (Acknowledgement 1 1 5), 4)
    ∷ (take_refusal three 1 halted_other (Message 0 2 5 0), 4)
    ∷ (take_refusal three 0 halted_root (Message 1 0 5 0), 4)
    ∷ (take_refusal three 0 root (Acknowledgement 1 0 5), 0)
    -- "both are tested in note": before 5 and 6
    ∷ (note_refusal three 1 halted_other 9, 4)
    ∷ (note_refusal three 9 other 9, 4)
    -- 5 before 6, 7 and 8, and for each step
    ∷ (send_refusal three 1 halted_other, 5)
    ∷ (ack_refusal three 1 halted_other, 5)
    ∷ (all_refusal three 1 halted_other, 5)
    ∷ (note_refusal three 1 halted_other 1, 5)
    ∷ (take_refusal three 1 halted_other (Message 0 1 5 0), 5)
    ∷ (halt_refusal three 1 halted_other, 5)
    ∷ (order_refusal three 0 (column false 2 0 0 0 true), 5)
    ∷ (order_refusal three 0 (numbered 4294967295 halted_root), 5)
    -- 6: nothing to send; nobody owed; owed, and sends or awaits with goal own subtree
    ∷ (send_refusal three 0 root, 6)
    ∷ (ack_refusal three 1 other, 6)
    ∷ (ack_refusal three 1 (column true 4 0 1 0 false), 6)
    ∷ (ack_refusal three 1 (column true 0 4 1 0 false), 6)
    ∷ (ack_refusal three 1 (column true 4 4 1 1 true), 0)
    -- 6: all of the root; the root not noted; goal whole bank; sends; awaits
    ∷ (all_refusal three 0 (column true 0 0 0 1 true), 6)
    ∷ (all_refusal three 1 other, 6)
    ∷ (all_refusal three 1 (column true 0 0 0 1 true), 6)
    ∷ (all_refusal three 1 (column true 4 0 0 1 false), 6)
    ∷ (all_refusal three 1 (column true 0 4 0 1 false), 6)
    ∷ (all_refusal three 1 (column true 0 0 0 1 false), 0)
    -- 6: note of oneself, and of one already noted
    ∷ (note_refusal three 1 other 1, 6)
    ∷ (note_refusal three 1 (column true 0 0 0 1 false) 0, 6)
    ∷ (note_refusal three 1 other 0, 0)
    -- 7: the root sends, or awaits; before 8. "number 65,534 admits an order, 65,535 doesn't", which "move to the new limit"
    ∷ (order_refusal three 0 (column true 2 0 0 0 true), 7)
    ∷ (order_refusal three 0 (numbered 4294967295 (column true 0 2 0 0 true)), 7)
    ∷ (order_refusal three 0 (numbered 4294967295 root), 8)
    ∷ (order_refusal three 0 (numbered 4294967294 root), 0)
    -- "Under sender, `all` asks that this sender is noted, in place of the root."
    ∷ (all_refusal watching 2 (sent_by 1 (column true 0 0 0 1 false)), 6)
    ∷ (all_refusal watching 2 (sent_by 1 (column true 0 0 0 2 false)), 0)
    ∷ (all_refusal three 2 (sent_by 1 (column true 0 0 0 2 false)), 6)
    -- "a running root may also be sent a message, which is then not 4"
    ∷ (take_refusal watching 0 root (Message 1 0 5 0), 0)
    ∷ (take_refusal watching 0 halted_root (Message 1 0 5 0), 5)
    -- "its `ack` is 6 while it sends or awaits": the root's, and nobody else's
    ∷ (ack_refusal watching 0 (column true 2 0 2 0 true), 6)
    ∷ (ack_refusal watching 0 (column true 0 2 2 0 true), 6)
    ∷ (ack_refusal watching 0 (column true 0 0 2 0 true), 0)
    ∷ (ack_refusal watching 1 (column true 4 4 1 1 true), 0)
    ∷ (ack_refusal three 0 (column true 2 2 2 0 true), 0)
    -- "an order is 7 while it owes anyone": before 8
    ∷ (order_refusal watching 0 (column true 0 0 2 0 true), 7)
    ∷ (order_refusal watching 0 (numbered 4294967295 (column true 0 0 2 0 true)), 7)
    ∷ (order_refusal watching 0 root, 0)
    ∷ (order_refusal three 0 (column true 0 0 2 0 true), 0)
    -- another root than column 0: an order, a goal, a message and a takeover go by the tree's root
    ∷ (order_refusal topmost 2 root, 0)
    ∷ (order_refusal topmost 0 other, 4)
    ∷ (halt_refusal topmost 2 other, 4)
    ∷ (halt_refusal topmost 0 other, 0)
    ∷ (take_refusal topmost 2 root (Message 0 2 5 0), 4)
    ∷ (take_refusal topmost 0 other (Message 2 0 5 0), 0)
    ∷ (all_refusal topmost 0 (column true 0 0 0 4 false), 0)
    ∷ (all_refusal topmost 0 (column true 0 0 0 2 false), 6)
    ∷ (all_refusal topmost 2 (column true 0 0 0 4 true), 6)
    ∷ []

pub every_refusal : map (λ r. r.0) refusals ≡ map (λ r. r.1) refusals
unfolding order_refusal send_refusal packet_refusal take_refusal ack_refusal all_refusal note_refusal halt_refusal state_refusal tree_refusal every climbs_in
every_refusal = refl

-- ---- effects, from good states of column 1 or of the root

-- an order leaves those awaited, owed and noted as they are
order_owing : order_effect three 0 (column true 0 0 2 4 true) 77
    ≡ accepted (record { running = true; number = 5; doors = 77; send = 2; awaited = 0; owed = 2; noted = 4; whole = true; sender = 0; mask = 160; pending = 137 }) [] false
unfolding order_effect selected
order_owing = refl

-- "If i has noted c, c's children join the set"
send_noted : send_effect three 0 (column true 2 0 0 2 true) ≡ accepted (column true 4 0 0 2 true) [] false
unfolding send_effect selected
send_noted = refl

-- "Ack still serves the lowest owed."
ack_lowest : ack farthest 0 (column true 0 0 6 0 true) ≡ accepted (column true 0 0 4 0 true) (Acknowledgement 0 1 4 ∷ []) false
unfolding ack_effect ack_refusal state_refusal tree_refusal every climbs_in count_trailing_zeros
ack_lowest = refl

-- "another number changes nothing", a higher one too
acknowledgement_higher : acknowledgement_effect (column true 0 6 0 0 true) 1 5 ≡ accepted (column true 0 6 0 0 true) [] false
unfolding acknowledgement_effect
acknowledgement_higher = refl

-- "take of an equal number adds to those owed", and the packet's doors are not looked at
take_equal : message_effect three 1 (column true 4 0 4 0 false) 0 4 77 ≡ accepted (column true 4 0 5 0 false) [] false
unfolding message_effect
take_equal = refl

-- "a lower number is answered with that lower number"
take_lower : message_effect three 1 (column true 4 0 1 0 false) 2 3 77 ≡ accepted (column true 4 0 1 0 false) (Acknowledgement 1 2 3 ∷ []) false
unfolding message_effect
take_lower = refl

-- a higher number is received: those noted stay
take_received : message_effect three 1 (column true 0 4 0 1 true) 0 5 77
    ≡ accepted (record { running = true; number = 5; doors = 77; send = 4; awaited = 0; owed = 1; noted = 1; whole = false; sender = 0; mask = 160; pending = 137 }) [] false
unfolding message_effect receive_effect selected
take_received = refl

-- "a higher number leaves its goal the whole bank": the root's
take_received_root : message_effect watching 0 root 2 5 77
    ≡ accepted (record { running = true; number = 5; doors = 77; send = 2; awaited = 0; owed = 4; noted = 0; whole = true; sender = 2; mask = 160; pending = 137 }) [] false
unfolding message_effect receive_effect selected
take_received_root = refl

-- "goal own subtree": below a root that is not the lowest
take_received_below : message_effect topmost 0 (column true 0 2 0 1 true) 2 5 77
    ≡ accepted (record { running = true; number = 5; doors = 77; send = 0; awaited = 0; owed = 4; noted = 1; whole = false; sender = 2; mask = 160; pending = 137 }) [] false
unfolding message_effect receive_effect selected
take_received_below = refl

-- "Goal becomes the whole bank; the root alone is to be sent to."
all_root : all_effect three (column true 0 0 0 1 false) ≡ accepted (with_registers (column true 1 0 0 1 true) 160 140) [] false
unfolding all_effect
all_root = refl

all_topmost : all_effect topmost (column true 0 0 0 4 false) ≡ accepted (with_registers (column true 4 0 0 4 true) 160 140) [] false
unfolding all_effect
all_topmost = refl

-- "if awaited, it is no longer, and its children join the set to send to", and only then
note_awaited : note_effect three (column true 0 6 0 0 true) 1 ≡ accepted (with_registers (column true 4 4 0 2 true) 160 138) [] false
unfolding note_effect selected
note_awaited = refl

note_other : note_effect three (column true 0 4 0 0 true) 1 ≡ accepted (with_registers (column true 0 4 0 2 true) 160 138) [] false
unfolding note_effect
note_other = refl

-- a halted column keeps its record, sets, those noted and goal
halt_keeps : halt_effect (column true 4 2 1 4 true) ≡ accepted (column false 4 2 1 4 true) [] false
unfolding halt_effect
halt_keeps = refl

halt_keeps_sender : halt_effect (sent_by 2 (column true 5 2 1 3 true)) ≡ accepted (sent_by 2 (column false 5 2 1 3 true)) [] false
unfolding halt_effect
halt_keeps_sender = refl
