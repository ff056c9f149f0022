-- What a column holds, after document 01, "What a column holds", and what row 4 asks of it.
use Rattle.std.specs.Prelude.{ℕ, ◌+◌, ◌-◌, ◌^◌, Bool, true, false, not, ◌&&◌, ◌||◌, cond, List, [], ◌∷◌, eqb, leb}
use Rattle.column.specs.Refusals.{first, earlier, Given, given_unless}
use Rattle.column.specs.Sets.{has, insert, within}
use Rattle.column.specs.Trees.{tree_refusal, column_refusal}
use Rattle.column.specs.Packets.{number_size}
use Rattle.column.specs.declared.tree.Tree.{Tree}
use Rattle.column.specs.declared.state.Column.{Column}

-- "Records and packets go to 32 bits, and 8 comes at 4,294,967,295."
abbrev pub highest : ℕ
highest = 256 ^ number_size - 1

-- how many numbers there are
abbrev pub numbers : ℕ
numbers = highest + 1

-- "Fresh: all columns run, number 0, doors clear, sets empty, goal own subtree; the root's goal is always the whole bank."; document 02, Point 9:
-- "Each column keeps who sent its record: the root when fresh"
abbrev pub fresh_under : ℕ → ℕ → Column
fresh_under root i = record { running = true; number = 0; doors = 0; send = 0; awaited = 0; owed = 0; noted = 0; whole = eqb i root; sender = root; mask = 0; pending = 0 }

abbrev pub fresh : Tree → ℕ → Column
fresh t i = fresh_under t.root i

abbrev pub fresh_given : Tree → ℕ → Given Column
fresh_given t i = given_unless (column_refusal t i) (fresh t i)

-- "4 meets a column number or set member not below columns, a column owing itself, a root with a goal other than the whole bank"
abbrev pub state_conditions : Tree → ℕ → Column → List (ℕ × Bool)
state_conditions t i c =
    (4, leb t.columns i)
    ∷ (4, not (within c.send t.columns))
    ∷ (4, not (within c.awaited t.columns))
    ∷ (4, not (within c.owed t.columns))
    ∷ (4, not (within c.noted t.columns))
    ∷ (4, has c.owed i)
    ∷ (4, eqb i t.root && not c.whole)
    ∷ (4, leb t.columns c.sender)
    ∷ []

unfoldable pub state_refusal : Tree → ℕ → Column → ℕ
state_refusal t i c = first (state_conditions t i c)

-- "Before all else a tree that breaks row 2 or 3 gives that number. Next, 4"
abbrev pub validity_refusal : Tree → ℕ → Column → ℕ
validity_refusal t i c = earlier (tree_refusal t) (state_refusal t i c)

-- "neither sends nor awaits"
abbrev pub idle : Column → Bool
idle c = eqb c.send 0 && eqb c.awaited 0

-- whose halt lets a column take over the bank: "Under sender, `all` asks that this sender is noted, in place of the root."
abbrev pub watched : Tree → Column → ℕ
watched t c = cond t.watch c.sender t.root

-- "the goal is the whole bank or both other sets are empty"; under sender the root's "`ack` is 6 while it sends or awaits"
abbrev pub may_acknowledge : Tree → ℕ → Column → Bool
may_acknowledge t i c = (c.whole && not (t.watch && eqb i t.root)) || idle c

-- document 02, Point 12, of what is pending: "bit 0 a record received (by order at the root too), bit 1 a halt noted, bit 2 the step `all` accepted"
abbrev pub record_received : ℕ
record_received = 0

abbrev pub halt_noted : ℕ
halt_noted = 1

abbrev pub took_over : ℕ
took_over = 2

-- "set at each such step and kept until cleared"
abbrev pub pending_with : Column → ℕ → ℕ
pending_with c bit = insert c.pending bit

-- the column halted; all else that it holds is kept
abbrev pub stopped : Column → Column
stopped c =
    record {
      running = false;
      number = c.number;
      doors = c.doors;
      send = c.send;
      awaited = c.awaited;
      owed = c.owed;
      noted = c.noted;
      whole = c.whole;
      sender = c.sender;
      mask = c.mask;
      pending = c.pending;
    }

-- the column with other sets to send to, to await, and to owe
abbrev pub with_sets : Column → ℕ → ℕ → ℕ → Column
with_sets c s a o =
    record {
      running = c.running;
      number = c.number;
      doors = c.doors;
      send = s;
      awaited = a;
      owed = o;
      noted = c.noted;
      whole = c.whole;
      sender = c.sender;
      mask = c.mask;
      pending = c.pending;
    }

-- the column with another mask, and with something else pending
abbrev pub with_registers : Column → ℕ → ℕ → Column
with_registers c mask pending =
    record {
      running = c.running;
      number = c.number;
      doors = c.doors;
      send = c.send;
      awaited = c.awaited;
      owed = c.owed;
      noted = c.noted;
      whole = c.whole;
      sender = c.sender;
      mask = mask;
      pending = pending;
    }

-- the column with one more bit pending
abbrev pub with_pending : Column → ℕ → Column
with_pending c bit = with_registers c c.mask (pending_with c bit)

-- the column without its mask and what is pending: what every step but a write goes by
abbrev pub plain : Column → Column
plain c = with_registers c 0 0
