-- The moves of a bank: a rule for each effect that an accepted step can have. `send` and `ack` serve any member of their set, and `take`
-- takes any packet of the network, so that the argument holds for every order of service.
use Prim.Native.Nat.{ℕ, ◌≤◌, ◌<◌, ◌+◌, ◌^◌}
use mathlib.Core.Path.{◌≡◌}
use mathlib.Core.Logic.{◌≢◌, ◌⊎◌}
use mathlib.Core.Bool.{Bool, true, false, not}
use mathlib.Core.List.{List, [], ◌∷◌}
use lib.Dec.{eqb}
use Rattle.column.specs.Sets.{single, join, insert, without}
use Rattle.column.specs.Trees.{children}
use Rattle.column.specs.Columns.{with_sets, watched}
use Rattle.column.specs.Returns.{rejoined, struck}
use Rattle.column.specs.declared.tree.Tree.{Tree}
use Rattle.column.specs.declared.state.Column.{Column}
use Rattle.column.specs.declared.packet.Packet.{Packet}
use Rattle.column.specs.declared.packet.Packet.TheVariants.{Message, Acknowledgement}
use Rattle.bank.specs.laws.NetworkLaws.{others}
use Rattle.agreement.proofs.relation.Model.{In, Empty, State, Runs, post, Taken, Becomes}

-- ---- what a column becomes

-- a column with a new record, other sets, another goal and another sender of its record
abbrev pub renewed : Column → ℕ → ℕ → ℕ → ℕ → ℕ → Bool → ℕ → Column
renewed c number doors send awaited owed whole sender =
    record c { number = number; doors = doors; send = send; awaited = awaited; owed = owed; whole = whole; sender = sender }

abbrev pub serving : Column → ℕ → ℕ → Column
serving c send awaited = with_sets c send awaited c.owed

abbrev pub owing : Column → ℕ → Column
owing c owed = with_sets c c.send c.awaited owed

abbrev pub noting : Column → ℕ → ℕ → ℕ → Column
noting c send awaited noted = record (serving c send awaited) { noted = noted }

abbrev pub with_running : Bool → Column → Column
with_running running c = record c { running = running }

abbrev pub halted : Column → Column
halted = with_running false

-- ---- the moves

-- which step a move is: a send and an acknowledgement with the column that it serves, a take with its packet and with the one whom it
-- acknowledges where it leaves the packet, a return with the column that is copied
pub data Event : Type 0 where
  orders : ℕ → Event
  sends : ℕ → ℕ → Event
  takes : Packet → ℕ → Event
  acknowledges : ℕ → ℕ → Event
  widens : ℕ → Event
  notes : ℕ → ℕ → Event
  halts : ℕ → Event
  backs : ℕ → ℕ → Event

-- neither sends nor awaits
abbrev pub Idle : Column → Type 0
Idle c = Empty c.send × Empty c.awaited

-- column i may acknowledge; under sender the root's "`ack` is 6 while it sends or awaits"
abbrev pub Free : Tree → ℕ → Column → Type 0
Free t i c = ((c.whole ≡ true) × (t.watch ≡ true → i ≢ t.root)) ⊎ Idle c

-- no packet is under way, and no running column can send, acknowledge, take over the bank, or note a halted column
pub record Rest (t : Tree) (s : State) : Type 0 where
  pub no_packet : s.network ≡ []
  pub no_send : (i : ℕ) → Runs s i → Empty (s.columns i).send
  pub no_ack : (i q : ℕ) → Runs s i → In (s.columns i).owed q → ¬ Free t i (s.columns i)
  pub no_all : (i : ℕ) → Runs s i → i ≢ t.root → In (s.columns i).noted (watched t (s.columns i)) → (s.columns i).whole ≡ false
      → ¬ Idle (s.columns i)
  pub no_note : (i j : ℕ) → Runs s i → j < t.columns → ¬ Runs s j → j ≢ i → ¬ (¬ In (s.columns i).noted j)

-- "It has noted exactly the columns that remain halted"
pub record Remaining (t : Tree) (s : State) (j noted : ℕ) : Type 0 where
  pub fits : noted < 2 ^ t.columns
  pub remains : (q : ℕ) → In noted q → (q < t.columns) × (¬ Runs s q) × (q ≢ j)
  pub all_remaining : (q : ℕ) → q < t.columns → ¬ Runs s q → q ≢ j → In noted q

-- column j as it comes back: it copies l; "Its goal is its own subtree if the root runs, the whole bank if not."
abbrev pub came_back : Tree → State → ℕ → ℕ → ℕ → Column
came_back t s j l noted = rejoined (s.columns j) (s.columns l) noted (not (s.columns t.root).running) l

-- column j becomes c, and "all others strike it from those noted"; "unused ones never change"
pub record Returns (t : Tree) (s s' : State) (j : ℕ) (c : Column) : Type 0 where
  pub mine : s'.columns j ≡ c
  pub strikes : (i : ℕ) → i ≢ j → i < t.columns → s'.columns i ≡ struck (s.columns i) j
  pub unused : (i : ℕ) → i ≢ j → t.columns ≤ i → s'.columns i ≡ s.columns i
  pub packets : s'.network ≡ s.network
  pub told : s'.orders ≡ s.orders

pub data Move (t : Tree) (s s' : State) : Event → Type 0 where
  -- under sender "an order is 7 while it owes anyone"
  order : (d : ℕ) →
      Runs s t.root → Idle (s.columns t.root) → (t.watch ≡ true → Empty (s.columns t.root).owed) →
      Becomes s s' t.root
      (renewed (s.columns t.root) ((s.columns t.root).number + 1) d (children t t.root) (s.columns t.root).awaited
      (s.columns t.root).owed (s.columns t.root).whole (s.columns t.root).sender)
      s.network (d ∷ s.orders) → Move t s s' (orders d)
  send_self : (a x : ℕ) →
      Runs s a → x ≡ a → In (s.columns a).send x →
      Becomes s s' a (serving (s.columns a) (without (s.columns a).send x) (s.columns a).awaited) s.network s.orders →
      Move t s s' (sends a x)
  send_noted : (a x : ℕ) →
      Runs s a → In (s.columns a).send x → In (s.columns a).noted x →
      Becomes s s' a (serving (s.columns a) (join (without (s.columns a).send x) (children t x)) (s.columns a).awaited)
      s.network s.orders → Move t s s' (sends a x)
  send_message : (a x : ℕ) →
      Runs s a → x ≢ a → In (s.columns a).send x → ¬ In (s.columns a).noted x →
      Becomes s s' a (serving (s.columns a) (without (s.columns a).send x) (insert (s.columns a).awaited x))
      (post s (Message a x (s.columns a).number (s.columns a).doors) s.network) s.orders → Move t s s' (sends a x)
  take_acknowledgement : (a q k : ℕ) {l : List Packet} {o : ℕ} →
      Runs s a → k ≡ (s.columns a).number → Taken s.network (Acknowledgement q a k) l →
      Becomes s s' a (serving (s.columns a) (s.columns a).send (without (s.columns a).awaited q)) l s.orders →
      Move t s s' (takes (Acknowledgement q a k) o)
  take_stale : (a q k : ℕ) {l : List Packet} {o : ℕ} →
      Runs s a → k ≢ (s.columns a).number → Taken s.network (Acknowledgement q a k) l →
      Becomes s s' a (s.columns a) l s.orders → Move t s s' (takes (Acknowledgement q a k) o)
  take_equal : (a q k d : ℕ) {l : List Packet} {o : ℕ} →
      Runs s a → k ≡ (s.columns a).number → Taken s.network (Message q a k d) l →
      Becomes s s' a (owing (s.columns a) (insert (s.columns a).owed q)) l s.orders → Move t s s' (takes (Message q a k d) o)
  take_lower : (a q k d : ℕ) {l : List Packet} {o : ℕ} →
      Runs s a → k < (s.columns a).number → Taken s.network (Message q a k d) l →
      Becomes s s' a (s.columns a) (post s (Acknowledgement a q k) l) s.orders → Move t s s' (takes (Message q a k d) o)
  -- a higher number where someone is owed: the packet is left
  take_left : (a q k d r : ℕ) {l : List Packet} →
      Runs s a → (s.columns a).number < k → Taken s.network (Message q a k d) l → In (s.columns a).owed r →
      Becomes s s' a (owing (s.columns a) (without (s.columns a).owed r))
      (post s (Acknowledgement a r (s.columns a).number) s.network) s.orders → Move t s s' (takes (Message q a k d) r)
  -- "a higher number leaves its goal the whole bank": the root's
  take_higher : (a q k d : ℕ) {l : List Packet} {o : ℕ} →
      Runs s a → (s.columns a).number < k → Taken s.network (Message q a k d) l → Empty (s.columns a).owed →
      Becomes s s' a (renewed (s.columns a) k d (children t a) 0 (single q) (eqb a t.root) q) l s.orders →
      Move t s s' (takes (Message q a k d) o)
  acknowledge : (a r : ℕ) →
      Runs s a → In (s.columns a).owed r → Free t a (s.columns a) →
      Becomes s s' a (owing (s.columns a) (without (s.columns a).owed r))
      (post s (Acknowledgement a r (s.columns a).number) s.network) s.orders → Move t s s' (acknowledges a r)
  -- under sender "`all` asks that this sender is noted, in place of the root"
  widen : (a : ℕ) →
      Runs s a → a ≢ t.root → In (s.columns a).noted (watched t (s.columns a)) → (s.columns a).whole ≡ false → Idle (s.columns a) →
      Becomes s s' a
      (renewed (s.columns a) (s.columns a).number (s.columns a).doors (single t.root) (s.columns a).awaited
      (s.columns a).owed true (s.columns a).sender)
      s.network s.orders → Move t s s' (widens a)
  note_awaited : (a j : ℕ) →
      Runs s a → j < t.columns → ¬ Runs s j → In (s.columns a).awaited j →
      Becomes s s' a
      (noting (s.columns a) (join (s.columns a).send (children t j)) (without (s.columns a).awaited j) (insert (s.columns a).noted j))
      s.network s.orders → Move t s s' (notes a j)
  note_other : (a j : ℕ) →
      Runs s a → j < t.columns → ¬ Runs s j → ¬ In (s.columns a).awaited j → ¬ In (s.columns a).noted j →
      Becomes s s' a (noting (s.columns a) (s.columns a).send (s.columns a).awaited (insert (s.columns a).noted j))
      s.network s.orders → Move t s s' (notes a j)
  halt : (a : ℕ) →
      Runs s a →
      Becomes s s' a (halted (s.columns a)) (others a s.network) s.orders → Move t s s' (halts a)
  -- column j comes back with the record of a running column l: of any, since at rest they all hold the same
  back : (j l noted : ℕ) →
      Rest t s → j < t.columns → ¬ Runs s j → j ≢ t.root → Runs s l → Remaining t s j noted →
      Returns t s s' j (came_back t s j l noted) → Move t s s' (backs j l)
