-- What document 01 defines by the steps taken: the accepted orders, the numbers that a column received, and whom the root awaits. All
-- are found from the list of steps and the answers. Of the bank is asked what the sentences name: the packet at a place and whether its receiver leaves it there, the
-- root's number, whom it is to send to and whom it has noted, and who is the lowest that runs. What columns hold as awaited, and what record, is not asked.
use Rattle.std.specs.Prelude.{ℕ, suc, Bool, true, false, not, ◌&&◌, cond, List, [], ◌∷◌, eqb, ltb, length}
use Rattle.column.specs.Sets.{has}
use Rattle.column.specs.Trees.{choose}
use Rattle.column.specs.Packets.{receiver}
use Rattle.column.specs.Steps as core
use Rattle.column.specs.declared.packet.Packet.{Packet}
use Rattle.column.specs.declared.packet.Packet.TheVariants.{Message, Acknowledgement}
use Rattle.bank.specs.Banks.{State, column_at, packet_at}
use Rattle.bank.specs.Steps.{Result, accepted, refused}
use Rattle.bank.specs.Performs.{perform}
use Rattle.bank.specs.Returns.{lowest_running}
use Rattle.bank.specs.Dispatch.{dispatched}
use Rattle.bank.specs.declared.bank.Step.{Step}
use Rattle.bank.specs.declared.bank.Step.TheVariants.{Order, Send, Take, Ack, All, Note, Halt, Back, Write}

-- the state of a bank with its past
pub record World : Type 0 where
  pub state : State
  -- the doors of the accepted orders, the newest first
  pub orders : List ℕ
  -- the highest number that each column has received, since it came back where it did; "a fresh column has received 0"
  pub received : ℕ → ℕ
  -- the columns that the root awaits
  pub awaits : ℕ → Bool

-- a function with another value at one place
abbrev pub changed : {A : Type 0} → (ℕ → A) → ℕ → A → ℕ → A
changed f a x j = cond (eqb j a) x (f j)

abbrev pub root_of : State → ℕ
root_of s = s.bank.tree.root

abbrev pub columns_of : World → ℕ
columns_of w = w.state.bank.tree.columns

-- ---- the accepted orders

abbrev pub orders_after : List ℕ → Step → List ℕ
orders_after orders (Order doors) = doors ∷ orders
orders_after orders (Send i) = orders
orders_after orders (Take place) = orders
orders_after orders (Ack i) = orders
orders_after orders (All i) = orders
orders_after orders (Note i j) = orders
orders_after orders (Halt m) = orders
orders_after orders (Back j) = orders
orders_after orders (Write i offset value) = orders

-- ---- received: "A column receives a number when an accepted order gives it to the root, or when an accepted take of a message to it,
-- numbered above all that it has received, doesn't leave the packet in its place"

-- whether the core leaves a packet in its place
abbrev pub leaves : core.Result → Bool
leaves (core.accepted c packets left) = left
leaves (core.refused n c) = true

abbrev pub left_by : State → Packet → Bool
left_by s p = leaves (core.take s.bank.tree (receiver p) (column_at s.bank (receiver p)) p)

abbrev pub heard : State → Packet → (ℕ → ℕ) → ℕ → ℕ
heard s (Message from to number doors) received =
    cond (ltb (received to) number && not (left_by s (Message from to number doors))) (changed received to number) received
heard s (Acknowledgement from to number) received = received

-- the n-th accepted order gives the root number n
abbrev pub received_after : World → Step → ℕ → ℕ
received_after w (Order doors) = changed w.received (root_of w.state) (suc (length w.orders))
received_after w (Take place) = heard w.state (packet_at w.state place) w.received
received_after w (Send i) = w.received
received_after w (Ack i) = w.received
received_after w (All i) = w.received
received_after w (Note i j) = w.received
received_after w (Halt m) = w.received
received_after w (Write i offset value) = w.received
-- "coming back counts as receiving that record's number, and what the column received before its halt counts no longer": that record is the
-- one of the lowest running column, and its number what that column received last
received_after w (Back j) = changed w.received j (w.received (lowest_running w.state.bank))

-- ---- awaits: "It awaits a column from the accepted send that serves it while not noted, until the root takes an acknowledgement from
-- it with the root's number or notes it."

-- the column that a send of i serves
abbrev pub served : State → ℕ → ℕ
served s i = choose s.bank.tree (column_at s.bank i).send

abbrev pub acknowledged : State → Packet → (ℕ → Bool) → ℕ → Bool
acknowledged s (Message from to number doors) awaits = awaits
acknowledged s (Acknowledgement from to number) awaits =
    cond (eqb to (root_of s) && eqb number (column_at s.bank (root_of s)).number) (changed awaits from false) awaits

abbrev pub awaits_after : World → Step → ℕ → Bool
awaits_after w (Send i) =
    let s = w.state in
    cond (eqb i (root_of s) && not (has (column_at s.bank i).noted (served s i))) (changed w.awaits (served s i) true) w.awaits
awaits_after w (Take place) = acknowledged w.state (packet_at w.state place) w.awaits
awaits_after w (Note i j) = cond (eqb i (root_of w.state)) (changed w.awaits j false) w.awaits
awaits_after w (Order doors) = w.awaits
awaits_after w (Ack i) = w.awaits
awaits_after w (All i) = w.awaits
awaits_after w (Halt m) = w.awaits
awaits_after w (Back j) = w.awaits
awaits_after w (Write i offset value) = w.awaits

-- ---- a list of steps: "Each step gets the bank and packets as the last left them", and only accepted steps add to the past

unfoldable pub told : World → Step → Result State → World
told w x (accepted s) =
    record { state = s; orders = orders_after w.orders x; received = received_after w x; awaits = awaits_after w x }
told w x (refused n s) = record { state = s; orders = w.orders; received = w.received; awaits = w.awaits }

unfoldable pub run : World → List Step → World
run w [] = w
run w (x ∷ xs) = run (told w x (perform w.state x)) xs

-- ---- a list of commands: "a step that a change adds joins the list". A dispatch is the steps that it takes.

pub data Command : Type 0 where
  step : Step → Command
  dispatching : ℕ → Command

-- the steps of a command, in the bank as the last command left it
abbrev pub steps_of : World → Command → List Step
steps_of w (step x) = x ∷ []
steps_of w (dispatching limit) = dispatched limit w.state

unfoldable pub follow : World → List Command → World
follow w [] = w
follow w (x ∷ xs) = follow (run w (steps_of w x)) xs

-- "From fresh, the n-th accepted order gives number n and its doors": the doors under a number, where the list has the newest first;
-- none under number 0
unfoldable pub given : List ℕ → ℕ → ℕ
given [] k = 0
given (doors ∷ orders) k = cond (eqb k (suc (length orders))) doors (given orders k)
