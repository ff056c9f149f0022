-- The model's state of a bank, and what a bank must have so that its words mean what they should.
use Prim.Native.Nat.{ℕ}
use mathlib.Core.Bool.{◌&&◌}
use mathlib.Core.List.{List}
use lib.Dec.{ltb}
use Rattle.column.specs.Sets.{lowest}
use Rattle.column.specs.Trees.{choose}
use Rattle.column.specs.Columns.{plain}
use Rattle.column.specs.Packets.{receiver}
use Rattle.column.specs.declared.tree.Tree.{Tree}
use Rattle.column.specs.declared.state.Column.{Column}
use Rattle.bank.specs.Banks.{State, column_at, packet_at}
use Rattle.bank.specs.laws.NetworkLaws.{packets_of}
use Rattle.bank.specs.Returns.{lowest_running}
use Rattle.bank.specs.declared.bank.Step.{Step}
use Rattle.bank.specs.declared.bank.Step.TheVariants.{Order, Send, Take, Ack, All, Note, Halt, Back, Write}
use Rattle.agreement.proofs.relation.Model as model
use Rattle.agreement.proofs.relation.Move as move

-- a column past the tree's never runs; what a host reads of one, its mask and what is pending, is left out
abbrev pub view : Tree → ℕ → Column → Column
view t i c = move.with_running (ltb i t.columns && c.running) (plain c)

abbrev pub model_of : State → List ℕ → model.State
model_of s orders =
    record { columns = λ i. view s.bank.tree i (column_at s.bank i); network = packets_of s; orders = orders }

-- a step that is one move: any but a halt, which is one move for each member, and a write, which is none
abbrev pub OneMove : Step → Type 0
OneMove (Order doors) = Unit {0}
OneMove (Send i) = Unit {0}
OneMove (Take place) = Unit {0}
OneMove (Ack i) = Unit {0}
OneMove (All i) = Unit {0}
OneMove (Note i j) = Unit {0}
OneMove (Halt m) = ⊥
OneMove (Back j) = Unit {0}
OneMove (Write i offset value) = ⊥

-- which move a step is
abbrev pub event : State → (x : Step) → OneMove x → move.Event
event s (Order doors) o = move.orders doors
event s (Send i) o = move.sends i (choose s.bank.tree (column_at s.bank i).send)
event s (Take place) o = move.takes (packet_at s place) (lowest (column_at s.bank (receiver (packet_at s place))).owed)
event s (Ack i) o = move.acknowledges i (lowest (column_at s.bank i).owed)
event s (All i) o = move.widens i
event s (Note i j) o = move.notes i j
event s (Halt m) o = absurd o
event s (Back j) o = move.backs j (lowest_running s.bank)
event s (Write i offset value) o = absurd o
