-- What a step makes of the place of its column and of the network, for functions that are handed these and not the whole bank: said of
-- every bank of which they may be the parts.
use Rattle.std.specs.Prelude.{ℕ, ◌<◌, ◌≡◌, Bool, List, [], ◌∷◌, set, Ok, Err}
use Rattle.std.specs.Prelude as prelude
use Rattle.column.specs.Refusals.{first, earlier, refusal_number}
use Rattle.column.specs.Sets.{has}
use Rattle.column.specs.Packets.{receiver}
use Rattle.column.specs.Columns.{validity_refusal}
use Rattle.column.specs.Steps as core
use Rattle.column.specs.declared.tree.Tree.{Tree}
use Rattle.column.specs.declared.state.Column.{Column}
use Rattle.column.specs.declared.packet.Packet.{Packet}
use Rattle.column.specs.declared.error.Refusal.{Refusal}
use Rattle.column.specs.declared.outcome.Outcome.{Outcome}
use Rattle.bank.specs.Banks.{State, state, column_at, runs, packet_at, bank_refusal}
use Rattle.bank.specs.inner.Surveys.{newest_valid}
use Rattle.bank.specs.Networks.{put, removed}
use Rattle.bank.specs.Steps.{Result, accepted, refused, with_column, fitting, settled, delivered, outcome_meant}
use Rattle.bank.specs.Pages.{write}
use Rattle.bank.specs.declared.bank.Bank.{Bank}
use Rattle.bank.specs.declared.settling.Change.{Change}
use Rattle.bank.specs.declared.bank.Step.{Step}
use Rattle.bank.specs.declared.bank.Step.TheVariants.{Order, Send, Take, Ack, All, Note, Halt, Back, Write}

-- ---- a change

-- what becomes of the count, as the change of a column that is now c
abbrev pub change_of : Column → prelude.Result ℕ Refusal → prelude.Result Change Refusal
change_of c (Ok count) = Ok (record { column = c; count = count })
change_of c (Err e) = Err e

-- "a step returns it with one place rewritten"
abbrev pub stored : Bank → ℕ → Change → Bank
stored b i r = record { tree = b.tree; columns = set b.columns i r.column; count = r.count }

-- the bank after it, where column i acted and these words were left; or as it was, with them
abbrev pub changed : Bank → ℕ → prelude.Result Change Refusal → List ℕ → List ℕ → Result State
changed b i (Ok r) heads doors = accepted (state (stored b i r) heads doors)
changed b i (Err e) heads doors = refused (refusal_number e) (state b heads doors)

-- ---- what a function is handed of a bank

-- the set has who runs
abbrev pub RunningIs : ℕ → Bank → Type 0
RunningIs running b = (j : ℕ) → j < b.tree.columns → has running j ≡ runs b j

pub record Handed (b : Bank) (t : Tree) (running i : ℕ) (c : Column) (count : ℕ) : Type 0 where
  pub tree_is : b.tree ≡ t
  pub running_is : RunningIs running b
  pub column_is : column_at b i ≡ c
  pub count_is : b.count ≡ count

-- ---- what the functions answer

abbrev pub Delivers : prelude.Result ℕ Refusal → ℕ → Packet → ℕ → List ℕ → List ℕ → List ℕ → List ℕ → Type 0
Delivers r running p count heads doors heads' doors' =
    (c : Column) (b : Bank) (i : ℕ) → b.count ≡ count → RunningIs running b → c.running ≡ runs b i → receiver p < b.tree.columns
    → changed b i (change_of c r) heads' doors' ≡ fitting (state b heads doors) (put (with_column (state b heads doors) i c) p)

abbrev pub Steady : Column → core.Result → Type 0
Steady c (core.accepted d [] left) = d.running ≡ c.running
Steady c (core.accepted d (p ∷ []) left) = d.running ≡ c.running
Steady c (core.accepted d (p ∷ (q ∷ l)) left) = ⊥
Steady c (core.refused n d) = Unit {0}

abbrev pub Aimed : Tree → core.Result → Type 0
Aimed t (core.accepted d [] left) = Unit {0}
Aimed t (core.accepted d (p ∷ l) left) = receiver p < t.columns
Aimed t (core.refused n d) = Unit {0}

abbrev pub Settles : prelude.Result Change Refusal → ℕ → Outcome → ℕ → List ℕ → List ℕ → List ℕ → List ℕ → Type 0
Settles r running o count heads doors heads' doors' =
    (b : Bank) (i : ℕ) → b.count ≡ count → RunningIs running b → Steady (column_at b i) (core.stepped o) → Aimed b.tree (core.stepped o)
    → changed b i r heads' doors' ≡ settled (state b heads doors) (state b heads doors) i (core.stepped o)

abbrev pub SettlesTaken : prelude.Result Change Refusal → ℕ → ℕ → Outcome → ℕ → List ℕ → List ℕ → List ℕ → List ℕ → Type 0
SettlesTaken r running place o count heads doors heads' doors' =
    (b : Bank) (i : ℕ) → b.count ≡ count → RunningIs running b → Steady (column_at b i) (core.stepped o) → Aimed b.tree (core.stepped o)
    → changed b i r heads' doors' ≡ settled (state b heads doors) (removed (state b heads doors) place) i (core.stepped o)

abbrev pub Takes : prelude.Result Change Refusal → Tree → ℕ → ℕ → ℕ → Column → ℕ → List ℕ → List ℕ → List ℕ → List ℕ → Type 0
Takes r t running place i c count heads doors heads' doors' =
    (b : Bank) → Handed b t running i c count → bank_refusal (state b heads doors) ≡ 0 → i ≡ receiver (packet_at (state b heads doors) place)
    → changed b i r heads' doors' ≡ delivered (state b heads doors) place (packet_at (state b heads doors) place)

-- ---- the steps that take no packet off

-- the core's step for column i, which is c: an order, or what a column does by itself; any other is refused
abbrev pub core_step : Tree → ℕ → Step → ℕ → Column → core.Result
core_step t running (Order doors) i c = core.order t i c doors
core_step t running (Send k) i c = core.send t i c
core_step t running (Take place) i c = core.refused 10 c
core_step t running (Ack k) i c = core.ack t i c
core_step t running (All k) i c = core.all t i c
core_step t running (Note k j) i c =
    core.unless (earlier (core.note_refusal t i c j) (first ((6, has running j) ∷ []))) c (core.note_effect t c j)
core_step t running (Halt m) i c = core.refused 10 c
core_step t running (Back j) i c = core.refused 10 c
core_step t running (Write k offset value) i c = core.refused 10 c

abbrev pub StepsCore : prelude.Result Outcome Refusal → Tree → ℕ → Step → ℕ → Column → Type 0
StepsCore o t running x i c = validity_refusal t i c ≡ 0 → core.outcome_meant c o ≡ core_step t running x i c

-- ---- whether the bank is valid after a step

abbrev pub TellsNewest : Bool → ℕ → ℕ → Bool → ℕ → ℕ → List ℕ → Type 0
TellsNewest r columns root watch running count heads =
    (b : Bank) (doors : List ℕ) → b.tree.columns ≡ columns → b.tree.root ≡ root → b.tree.watch ≡ watch → RunningIs running b → b.count ≡ count
    → r ≡ newest_valid (state b heads doors)

-- what is answered, whatever the doors under way, which a write keeps
abbrev pub Writes : prelude.Result Bank Refusal → Bank → List ℕ → ℕ → ℕ → ℕ → Type 0
Writes r b heads i offset value = (doors : List ℕ) → outcome_meant b r heads doors ≡ write (state b heads doors) i offset value
