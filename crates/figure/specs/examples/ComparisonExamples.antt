-- The premises of the step comparison hold: for each guard a column for which it holds and one for which it fails, and what the
-- comparison then says. Assumes nothing.
use Rattle.std.specs.Prelude.{ℕ, ◌≡◌, refl, Bool, true, false, List, [], ◌∷◌, replicate}
use Rattle.std.proofs.Common.{arith}
use Rattle.std.specs.Int.Count.{count_trailing_zeros}
use Rattle.column.specs.Trees.{tree_of, tree_by, ascending, every, climbs_in, tree_refusal}
use Rattle.column.specs.Columns.{state_refusal}
use Rattle.column.specs.Steps as steps
use Rattle.column.specs.declared.tree.Tree.{Tree}
use Rattle.column.specs.declared.state.Column.{Column}
use Rattle.column.specs.declared.packet.Packet.TheVariants.{Message, Acknowledgement}
use Rattle.figure.specs.Figure.{Variables, aborts, with_sets, send_guard, send_command, failed_command, acknowledgement_command, takeover_command, message_command, ack_command, broadcast_command}
use Rattle.figure.specs.Comparison.{variables_of, number_of, Makes, repeat_take, repeat_ack, RepeatMakes, takeover_guard_of, ack_guard_of, broadcast_guard_of, Comparison, StaysApart, Apartness}

-- columns=3, root=0, up=0,0,1
abbrev three : Tree
three = tree_of 3 0 (0 ∷ 0 ∷ 1 ∷ replicate 13 0)

-- the same where senders are watched
abbrev watching : Tree
watching = tree_by 3 0 (0 ∷ 0 ∷ 1 ∷ replicate 13 0) ascending true

-- a running column by its sets to send to, awaited, owed and noted, and its goal; order number 4, doors 9
abbrev column : ℕ → ℕ → ℕ → ℕ → Bool → Column
column s a o n whole = record { running = true; number = 4; doors = 9; send = s; awaited = a; owed = o; noted = n; whole = whole; sender = 0; mask = 0; pending = 0 }

-- column 2 with its record from column 1, by whom it has noted
abbrev relayed : ℕ → Column
relayed n = record { running = true; number = 4; doors = 9; send = 0; awaited = 0; owed = 0; noted = n; whole = false; sender = 1; mask = 0; pending = 0 }

-- the root with nothing to do, with column 1 to send to, and awaiting column 1
abbrev idle : Column
idle = column 0 0 0 0 true

abbrev sending : Column
sending = column 2 0 0 0 true

abbrev awaiting : Column
awaiting = column 0 2 0 0 true

-- column 1 that owes column 2 and has noted the root; and one that has column 2 to send to besides
abbrev owing : Column
owing = column 0 0 4 1 false

abbrev hindered : Column
hindered = column 4 0 4 1 false

-- the root that owes column 2, and awaits column 1 besides
abbrev owing_root : Column
owing_root = column 0 0 4 0 true

abbrev awaiting_root : Column
awaiting_root = column 0 2 4 0 true

abbrev root : Column → Variables
root = variables_of three 0

abbrev first : Column → Variables
first = variables_of three 1

-- ---- a guard, and the number by which its step is refused, 0 where it is not

abbrev sends : Tree → ℕ → Column → Bool × ℕ
sends t i c = (send_guard (variables_of t i c), number_of (steps.send t i c))

abbrev takes_over : Tree → ℕ → Column → Bool × ℕ
takes_over t i c = (takeover_guard_of t i c, number_of (steps.all t i c))

abbrev acknowledges : Tree → ℕ → Column → Bool × ℕ
acknowledges t i c = (ack_guard_of t i c, number_of (steps.ack t i c))

abbrev broadcasts : Tree → ℕ → Column → Bool × ℕ
broadcasts t i c = (broadcast_guard_of t i c, number_of (steps.order t i c 5))

abbrev guards : List (Bool × ℕ)
guards =
    sends three 0 sending
    ∷ sends three 0 idle
    ∷ takes_over three 1 owing
    ∷ takes_over three 1 hindered
    ∷ acknowledges three 1 owing
    ∷ acknowledges three 1 hindered
    ∷ broadcasts three 0 idle
    ∷ broadcasts three 0 awaiting
    ∷ []

pub every_guard : guards ≡ (true, 0) ∷ (false, 6) ∷ (true, 0) ∷ (false, 6) ∷ (true, 0) ∷ (false, 6) ∷ (true, 0) ∷ (false, 7) ∷ []
unfolding every climbs_in tree_refusal state_refusal count_trailing_zeros steps.order_refusal steps.send_refusal steps.ack_refusal steps.all_refusal steps.order_effect steps.send_effect steps.ack_effect steps.all_effect
every_guard = refl

-- ---- the three guards that go by the watch: each where the root is watched, and where senders are

abbrev by_watch : List ((Bool × ℕ) × (Bool × ℕ))
by_watch =
    -- the sender has halted and the root runs; the root has halted and the sender runs
    (takes_over three 2 (relayed 2), takes_over watching 2 (relayed 2))
    ∷ (takes_over three 2 (relayed 1), takes_over watching 2 (relayed 1))
    -- the root acknowledges while it awaits, and when it no longer does
    ∷ (acknowledges three 0 awaiting_root, acknowledges watching 0 awaiting_root)
    ∷ (acknowledges three 0 owing_root, acknowledges watching 0 owing_root)
    -- an order to a root that owes, and to one that does not
    ∷ (broadcasts three 0 owing_root, broadcasts watching 0 owing_root)
    ∷ (broadcasts three 0 idle, broadcasts watching 0 idle)
    ∷ []

pub each_watch : by_watch
    ≡ ((false, 6), (true, 0)) ∷ ((true, 0), (false, 6)) ∷ ((true, 0), (false, 6)) ∷ ((true, 0), (true, 0)) ∷ ((true, 0), (false, 7)) ∷ ((true, 0), (true, 0)) ∷ []
unfolding every climbs_in tree_refusal state_refusal count_trailing_zeros steps.order_refusal steps.ack_refusal steps.all_refusal steps.order_effect steps.ack_effect steps.all_effect
each_watch = refl

-- ---- what the comparison says of these columns: each premise of each of its parts holds

pub record Compared : Type 0 where
  pub send : Makes three 0 0 (steps.send three 0 sending) (send_command three 0 0 (root sending))
  pub note : Makes three 0 2 (steps.note three 0 awaiting 1) (failed_command three 2 (root awaiting))
  pub note_another : Makes three 0 4 (steps.note three 0 awaiting 2) (record { variables = root awaiting; sent = [] })
  pub acknowledgement : Makes three 0 0 (steps.take three 0 awaiting (Acknowledgement 1 0 4))
      (record { variables = with_sets (root awaiting) 0 0 0; sent = [] })
  pub acknowledgement_lower : Makes three 0 0 (steps.take three 0 awaiting (Acknowledgement 1 0 3)) (record { variables = root awaiting; sent = [] })
  pub acknowledgement_higher : acknowledgement_command 1 5 (root awaiting) ≡ aborts
  pub takeover : Makes three 1 1 (steps.all three 1 owing) (takeover_command three (first owing))
  pub message : Makes three 1 1 (steps.take three 1 owing (Message 0 1 4 9)) (message_command three 1 0 4 9 (first owing))
  pub message_higher : RepeatMakes three 1 1 (repeat_take 17 three 1 owing (Message 0 1 5 7)) (message_command three 1 0 5 7 (first owing))
  pub ack : RepeatMakes three 1 1 (repeat_ack 16 three 1 owing) (ack_command 1 (first owing))
  pub broadcast : Makes three 0 0 (steps.order three 0 idle 5) (broadcast_command three 5 (root idle))
  pub sender_takeover : Makes watching 2 2 (steps.all watching 2 (relayed 2)) (takeover_command watching (variables_of watching 2 (relayed 2)))
  pub sender_ack : RepeatMakes watching 0 0 (repeat_ack 16 watching 0 owing_root) (ack_command 0 (variables_of watching 0 owing_root))
  pub sender_broadcast : Makes watching 0 0 (steps.order watching 0 idle 5) (broadcast_command watching 5 (variables_of watching 0 idle))
  pub sender_message : Makes watching 0 0 (steps.take watching 0 idle (Message 2 0 4 9)) (message_command watching 0 2 4 9 (variables_of watching 0 idle))

pub compared : Comparison → Compared
unfolding every climbs_in tree_refusal state_refusal steps.packet_refusal steps.note_refusal acknowledgement_command
compared compares =
    let at-idle = compares three 0 idle (record { good = refl; runs = refl }) in
    let at-sending = compares three 0 sending (record { good = refl; runs = refl }) in
    let at-awaiting = compares three 0 awaiting (record { good = refl; runs = refl }) in
    let at-owing = compares three 1 owing (record { good = refl; runs = refl }) in
    let at-relayed = compares watching 2 (relayed 2) (record { good = refl; runs = refl }) in
    let at-owing-root = compares watching 0 owing_root (record { good = refl; runs = refl }) in
    let at-watching-root = compares watching 0 idle (record { good = refl; runs = refl }) in
    record {
      send = at-sending.send.does refl;
      note = (at-awaiting.note 1 refl refl).does refl;
      note_another = (at-awaiting.note 2 refl refl).skips refl;
      acknowledgement = (at-awaiting.acknowledgement 1 4 (refl, refl)).does _ refl;
      acknowledgement_lower = (at-awaiting.acknowledgement 1 3 (refl, refl)).does _ refl;
      acknowledgement_higher = (at-awaiting.acknowledgement 1 5 (refl, refl)).higher (omega arith);
      takeover = at-owing.takeover.does refl;
      message = (at-owing.message 0 4 9 (refl, refl)).does (omega arith);
      message_higher = (at-owing.message 0 5 7 (refl, refl)).higher (omega arith);
      ack = at-owing.ack.does refl;
      broadcast = (at-idle.broadcast 5 refl).does refl (λ e. omega (arith, e));
      sender_takeover = at-relayed.takeover.does refl;
      sender_ack = at-owing-root.ack.does refl;
      sender_broadcast = (at-watching-root.broadcast 5 refl).does refl (λ e. omega (arith, e));
      sender_message = (at-watching-root.message 2 4 9 (refl, refl)).does (omega arith);
    }

-- what apartness says of a column that awaits another
pub stays_apart : Apartness → StaysApart three 0 awaiting
stays_apart apartness = apartness.1 three 0 awaiting refl
