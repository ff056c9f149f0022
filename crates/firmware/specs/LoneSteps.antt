-- The steps of a lone column that a maker has beside the core's own: the next of a main loop, and what a return makes of one column, after document 02, Point 7.
use Rattle.std.specs.Prelude.{ℕ, Bool, true, false, not, ◌&&◌, ◌||◌, List, [], ◌∷◌, eqb, leb}
use Rattle.column.specs.Refusals.{first, earlier}
use Rattle.column.specs.Sets.{has, without, minus, lowest, within, whole}
use Rattle.column.specs.Columns.{validity_refusal}
use Rattle.column.specs.Returns.{rejoined, struck}
use Rattle.column.specs.Steps as core
use Rattle.column.specs.declared.tree.Tree.{Tree}
use Rattle.column.specs.declared.state.Column.{Column}

-- ---- next: the first accepted of send, ack and all

-- the first step where it is accepted, else the second
unfoldable pub or_else : core.Result → core.Result → core.Result
or_else (core.accepted c ps left) other = core.accepted c ps left
or_else (core.refused n c) other = other

abbrev pub next : Tree → ℕ → Column → core.Result
next t i c = or_else (core.send t i c) (or_else (core.ack t i c) (core.all t i c))

-- ---- rest, of one column: what a supervisor asks of each before a return

unfoldable pub is_refused : core.Result → Bool
is_refused (core.accepted c ps left) = false
is_refused (core.refused n c) = true

-- it does not run, or could neither send nor acknowledge nor take over
abbrev pub rests : Tree → ℕ → Column → Bool
rests t i c = not c.running || (is_refused (core.send t i c) && (is_refused (core.ack t i c) && is_refused (core.all t i c)))

-- ---- rejoin: "A halted column comes back."

-- of so many columns those but i that are none of the halted
abbrev pub running_others : ℕ → ℕ → ℕ → ℕ
running_others columns halted i = without (minus (whole columns) halted) i

-- 4: a member of `halted` that the tree has not; the column itself among them; a column to copy from that is not "the lowest running column".
-- "then 6 for a running column, then 15, 14, 16": "15 the root, 16 no column runs". Whether the bank is at rest, 14, the caller alone knows
abbrev pub rejoin_conditions : Tree → ℕ → Column → ℕ → ℕ → List (ℕ × Bool)
rejoin_conditions t i c copied halted =
    (4, not (within halted t.columns))
    ∷ (4, has halted i)
    ∷ (4, not (eqb (running_others t.columns halted i) 0) && not (eqb copied (lowest (running_others t.columns halted i))))
    ∷ (6, c.running)
    ∷ (15, eqb i t.root)
    ∷ (16, eqb (running_others t.columns halted i) 0)
    ∷ []

unfoldable pub rejoin_refusal : Tree → ℕ → Column → ℕ → ℕ → ℕ
rejoin_refusal t i c copied halted = earlier (validity_refusal t i c) (first (rejoin_conditions t i c copied halted))

-- a column with a record: its number and doors
abbrev pub with_record : Column → ℕ → ℕ → Column
with_record c number doors =
    record {
      running = c.running;
      number = number;
      doors = doors;
      send = c.send;
      awaited = c.awaited;
      owed = c.owed;
      noted = c.noted;
      whole = c.whole;
      sender = c.sender;
      mask = c.mask;
      pending = c.pending;
    }

-- "The column runs with the record of the lowest running column and empty sets. It has noted exactly the columns that remain halted .. Its goal is its own
-- subtree if the root runs, the whole bank if not."
unfoldable pub rejoin_effect : Tree → Column → ℕ → ℕ → ℕ → ℕ → core.Result
rejoin_effect t c copied number doors halted =
    core.accepted (rejoined c (with_record c number doors) halted (has halted t.root) copied) [] false

abbrev pub rejoin : Tree → ℕ → Column → ℕ → ℕ → ℕ → ℕ → core.Result
rejoin t i c copied number doors halted = core.unless (rejoin_refusal t i c copied halted) c (rejoin_effect t c copied number doors halted)

-- ---- strike: "all others strike it from those noted"

-- 4: a column that the tree has not, or the column itself; "14 not at rest": this one could still act
abbrev pub strike_conditions : Tree → ℕ → Column → ℕ → List (ℕ × Bool)
strike_conditions t i c back =
    (4, leb t.columns back)
    ∷ (4, eqb back i)
    ∷ (14, not (rests t i c))
    ∷ []

unfoldable pub strike_refusal : Tree → ℕ → Column → ℕ → ℕ
strike_refusal t i c back = earlier (validity_refusal t i c) (first (strike_conditions t i c back))

abbrev pub strike : Tree → ℕ → Column → ℕ → core.Result
strike t i c back = core.unless (strike_refusal t i c back) c (core.accepted (struck c back) [] false)
