-- The steps of a lone column, after document 01, "Steps" and "Refused, and by which number".
-- A step is its refusal, the first condition that holds, and its effect where there is none.
use Rattle.std.specs.Prelude.{ℕ, ◌+◌, Bool, true, false, not, ◌&&◌, cond, List, [], ◌∷◌, eqb, leb, ltb, Ok, Err}
use Rattle.std.specs.Prelude as prelude
use Rattle.column.specs.Refusals.{first, earlier, refusal_number}
use Rattle.column.specs.Sets.{has, single, join, insert, without, lowest}
use Rattle.column.specs.Trees.{choose, children}
use Rattle.column.specs.Packets.{is_message, sender, receiver}
use Rattle.column.specs.Columns.{highest, validity_refusal, idle, watched, may_acknowledge, record_received, halt_noted, took_over, pending_with, stopped, with_sets}
use Rattle.column.specs.declared.tree.Tree.{Tree}
use Rattle.column.specs.declared.state.Column.{Column}
use Rattle.column.specs.declared.packet.Packet.{Packet}
use Rattle.column.specs.declared.packet.Packet.TheVariants.{Message, Acknowledgement}
use Rattle.column.specs.declared.error.Refusal.{Refusal}
use Rattle.column.specs.declared.outcome.Answer.{Answer}
use Rattle.column.specs.declared.outcome.Answer.TheVariants.{Done, Put, Left}
use Rattle.column.specs.declared.outcome.Outcome.{Outcome}

-- ---- what a step gives

pub data Result : Type 0 where
  -- accepted: the column after it, the packets to put, and whether the packet taken is left in its place
  accepted : Column → List Packet → Bool → Result
  -- refused: document 01's number, and the column as it was
  refused : ℕ → Column → Result

-- the values of each case of `Answer`
abbrev pub answered : Column → Answer → Result
answered c Done = accepted c [] false
answered c (Put p) = accepted c (p ∷ []) false
answered c (Left p) = accepted c (p ∷ []) true

abbrev pub stepped : Outcome → Result
stepped o = answered o.column o.answer

-- the outcome of a step of the column c, or the number of the refusal and c as it was
abbrev pub outcome_meant : Column → prelude.Result Outcome Refusal → Result
outcome_meant c (Ok o) = stepped o
outcome_meant c (Err r) = refused (refusal_number r) c

-- "A refusal returns its number" and the column keeps its value
abbrev pub unless : ℕ → Column → Result → Result
unless n c effect = cond (eqb n 0) effect (refused n c)

-- ---- order (doors): "at the running root with both 'send' and 'await' sets empty"

-- 4: "also an order to a lone core that isn't the root"; row 7: "order while the root sends or awaits", and under sender "7 while it owes anyone"; row 8: "order
-- with the root at number 65,535", the highest, which document 02, Point 10, moves to 4,294,967,295
abbrev pub order_conditions : Tree → ℕ → Column → List (ℕ × Bool)
order_conditions t i c =
    (4, not (eqb i t.root))
    ∷ (5, not c.running)
    ∷ (7, not (idle c))
    ∷ (7, t.watch && not (eqb c.owed 0))
    ∷ (8, eqb c.number highest)
    ∷ []

unfoldable pub order_refusal : Tree → ℕ → Column → ℕ
order_refusal t i c = earlier (validity_refusal t i c) (first (order_conditions t i c))

-- "Its number rises by one, it takes the doors, and its children become the set to send to."
unfoldable pub order_effect : Tree → ℕ → Column → ℕ → Result
order_effect t i c doors =
    accepted
    (record {
      running = c.running;
      number = c.number + 1;
      doors = doors;
      send = children t i;
      awaited = c.awaited;
      owed = c.owed;
      noted = c.noted;
      whole = c.whole;
      sender = c.sender;
      mask = c.mask;
      pending = pending_with c record_received;
    })
    []
    false

abbrev pub order : Tree → ℕ → Column → ℕ → Result
order t i c doors = unless (order_refusal t i c) c (order_effect t i c doors)

-- ---- send (i): "i's set to send to, which isn't empty"

abbrev pub send_conditions : Tree → ℕ → Column → List (ℕ × Bool)
send_conditions t i c =
    (5, not c.running)
    ∷ (6, eqb c.send 0)
    ∷ []

unfoldable pub send_refusal : Tree → ℕ → Column → ℕ
send_refusal t i c = earlier (validity_refusal t i c) (first (send_conditions t i c))

-- "takes the .. column c out of i's set", the earliest in the tree's sequence. "If c is i, no more. If i has noted c, c's children join the set. Otherwise c is
-- awaited and a message with i's record is put."
unfoldable pub send_effect : Tree → ℕ → Column → Result
send_effect t i c =
    let k = choose t c.send in
    let rest = without c.send k in
    cond (eqb k i)
    (accepted (with_sets c rest c.awaited c.owed) [] false)
    (cond (has c.noted k)
    (accepted (with_sets c (join rest (children t k)) c.awaited c.owed) [] false)
    (accepted (with_sets c rest (insert c.awaited k) c.owed) (Message i k c.number c.doors ∷ []) false))

abbrev pub send : Tree → ℕ → Column → Result
send t i c = unless (send_refusal t i c) c (send_effect t i c)

-- ---- take (a packet)

-- "any packet with an end not below columns, equal ends, .. or a message to the root"; "Under sender a running root may also be sent a message, which is
-- then not 4"
abbrev pub packet_conditions : Tree → Packet → List (ℕ × Bool)
packet_conditions t p =
    (4, leb t.columns (sender p))
    ∷ (4, leb t.columns (receiver p))
    ∷ (4, eqb (sender p) (receiver p))
    ∷ (4, is_message p && (eqb (receiver p) t.root && not t.watch))
    ∷ []

unfoldable pub packet_refusal : Tree → Packet → ℕ
packet_refusal t p = first (packet_conditions t p)

-- "another addressee than the lone core it is given to"
abbrev pub take_conditions : Tree → ℕ → Column → Packet → List (ℕ × Bool)
take_conditions t i c p =
    (4, not (eqb (receiver p) i))
    ∷ (5, not c.running)
    ∷ []

unfoldable pub take_refusal : Tree → ℕ → Column → Packet → ℕ
take_refusal t i c p = earlier (validity_refusal t i c) (earlier (packet_refusal t p) (first (take_conditions t i c p)))

-- "An acknowledgement with the receiver's number ends the wait for its sender; another number changes nothing."
unfoldable pub acknowledgement_effect : Column → ℕ → ℕ → Result
acknowledgement_effect c from number =
    cond (eqb number c.number)
    (accepted (with_sets c c.send (without c.awaited from) c.owed) [] false)
    (accepted c [] false)

-- "only acknowledges the receiver's present number to the lowest owed, strikes that one out"; the packet is left in its place, or not
abbrev pub acknowledge_lowest : ℕ → Column → Bool → Result
acknowledge_lowest i c left =
    accepted
    (with_sets c c.send c.awaited (without c.owed (lowest c.owed)))
    (Acknowledgement i (lowest c.owed) c.number ∷ [])
    left

-- "Otherwise a higher number is received: record replaced, goal own subtree, owed only the sender, nobody awaited, children to send to."
unfoldable pub receive_effect : Tree → ℕ → Column → ℕ → ℕ → ℕ → Result
receive_effect t i c from number doors =
    accepted
    (record {
      running = c.running;
      number = number;
      doors = doors;
      send = children t i;
      awaited = 0;
      owed = single from;
      noted = c.noted;
      whole = eqb i t.root;
      sender = from;
      mask = c.mask;
      pending = pending_with c record_received;
    })
    []
    false

-- "A message with an equal number adds the sender to those owed. A lower number is answered with an acknowledgement of that lower
-- number. A higher number, where someone is still owed, only acknowledges the receiver's present number to the lowest owed, strikes
-- that one out, and leaves the packet in its place."
unfoldable pub message_effect : Tree → ℕ → Column → ℕ → ℕ → ℕ → Result
message_effect t i c from number doors =
    cond (eqb number c.number)
    (accepted (with_sets c c.send c.awaited (insert c.owed from)) [] false)
    (cond (ltb number c.number)
    (accepted c (Acknowledgement i from number ∷ []) false)
    (cond (eqb c.owed 0)
    (receive_effect t i c from number doors)
    (acknowledge_lowest i c true)))

abbrev pub take_effect : Tree → ℕ → Column → Packet → Result
take_effect t i c (Message from to number doors) = message_effect t i c from number doors
take_effect t i c (Acknowledgement from to number) = acknowledgement_effect c from number

abbrev pub take : Tree → ℕ → Column → Packet → Result
take t i c p = unless (take_refusal t i c p) c (take_effect t i c p)

-- ---- ack (i): "someone is owed, and the goal is the whole bank or both other sets are empty"

abbrev pub ack_conditions : Tree → ℕ → Column → List (ℕ × Bool)
ack_conditions t i c =
    (5, not c.running)
    ∷ (6, eqb c.owed 0)
    ∷ (6, not (may_acknowledge t i c))
    ∷ []

unfoldable pub ack_refusal : Tree → ℕ → Column → ℕ
ack_refusal t i c = earlier (validity_refusal t i c) (first (ack_conditions t i c))

-- "The lowest owed gets an acknowledgement of i's number and is struck out."
unfoldable pub ack_effect : ℕ → Column → Result
ack_effect i c = acknowledge_lowest i c false

abbrev pub ack : Tree → ℕ → Column → Result
ack t i c = unless (ack_refusal t i c) c (ack_effect i c)

-- ---- all (i): "i is not the root, has noted the root, has goal own subtree, and neither sends nor awaits"; under sender it has noted who sent
-- its record

abbrev pub all_conditions : Tree → ℕ → Column → List (ℕ × Bool)
all_conditions t i c =
    (5, not c.running)
    ∷ (6, eqb i t.root)
    ∷ (6, not (has c.noted (watched t c)))
    ∷ (6, c.whole)
    ∷ (6, not (idle c))
    ∷ []

unfoldable pub all_refusal : Tree → ℕ → Column → ℕ
all_refusal t i c = earlier (validity_refusal t i c) (first (all_conditions t i c))

-- "Goal becomes the whole bank; the root alone is to be sent to."
unfoldable pub all_effect : Tree → Column → Result
all_effect t c =
    accepted
    (record {
      running = c.running;
      number = c.number;
      doors = c.doors;
      send = single t.root;
      awaited = c.awaited;
      owed = c.owed;
      noted = c.noted;
      whole = true;
      sender = c.sender;
      mask = c.mask;
      pending = pending_with c took_over;
    })
    []
    false

abbrev pub all : Tree → ℕ → Column → Result
all t i c = unless (all_refusal t i c) c (all_effect t c)

-- ---- note (i, j): "j is halted, differs from i and is not yet noted by i"; alone, "the core believes note's caller that j is halted"

abbrev pub note_conditions : Tree → ℕ → Column → ℕ → List (ℕ × Bool)
note_conditions t i c j =
    (4, leb t.columns j)
    ∷ (5, not c.running)
    ∷ (6, eqb j i)
    ∷ (6, has c.noted j)
    ∷ []

unfoldable pub note_refusal : Tree → ℕ → Column → ℕ → ℕ
note_refusal t i c j = earlier (validity_refusal t i c) (first (note_conditions t i c j))

-- "It is noted; if awaited, it is no longer, and its children join the set to send to."
unfoldable pub note_effect : Tree → Column → ℕ → Result
note_effect t c j =
    accepted
    (record {
      running = c.running;
      number = c.number;
      doors = c.doors;
      send = cond (has c.awaited j) (join c.send (children t j)) c.send;
      awaited = cond (has c.awaited j) (without c.awaited j) c.awaited;
      owed = c.owed;
      noted = insert c.noted j;
      whole = c.whole;
      sender = c.sender;
      mask = c.mask;
      pending = pending_with c halt_noted;
    })
    []
    false

abbrev pub note : Tree → ℕ → Column → ℕ → Result
note t i c j = unless (note_refusal t i c j) c (note_effect t c j)

-- ---- halt (i): "i stops"

abbrev pub halt_conditions : Tree → ℕ → Column → List (ℕ × Bool)
halt_conditions t i c =
    (5, not c.running)
    ∷ []

unfoldable pub halt_refusal : Tree → ℕ → Column → ℕ
halt_refusal t i c = earlier (validity_refusal t i c) (first (halt_conditions t i c))

unfoldable pub halt_effect : Column → Result
halt_effect c = accepted (stopped c) [] false

abbrev pub halt : Tree → ℕ → Column → Result
halt t i c = unless (halt_refusal t i c) c (halt_effect c)
