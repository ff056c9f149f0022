-- The steps of a bank, after document 01, "Steps" and "Refused, and by which number": the core's step on one place, and its packet.
use Rattle.std.specs.Prelude.{ℕ, suc, Bool, not, ◌||◌, cond, List, [], ◌∷◌, eqb, leb, ltb, set, Ok, Err}
use Rattle.std.specs.Prelude as prelude
use Rattle.column.specs.Refusals.{first, earlier, refusal_number}
use Rattle.column.specs.Sets.{has, within}
use Rattle.column.specs.Trees.{every, tree_refusal}
use Rattle.column.specs.Columns.{stopped}
use Rattle.column.specs.Packets.{receiver}
use Rattle.column.specs.Steps as core
use Rattle.column.specs.declared.tree.Tree.{Tree}
use Rattle.column.specs.declared.state.Column.{Column}
use Rattle.column.specs.declared.packet.Packet.{Packet}
use Rattle.column.specs.declared.error.Refusal.{Refusal}
use Rattle.bank.specs.Banks.{State, state, column_at, runs, packet_at, capacity, fresh_bank, no_bank, bank_refusal, acting_refusal}
use Rattle.bank.specs.Networks.{puts, removed, vanished}
use Rattle.bank.specs.declared.bank.Bank.{Bank}

-- ---- what a call gives

-- accepted, and what is held after it; or refused by document 01's number, and what was held
pub data Result (A : Type 0) : Type 0 where
  accepted : A → Result A
  refused : ℕ → A → Result A

-- what a call answered that was handed `before`: what is held after it, or the number of the refusal, and what was held
abbrev pub answered : {A : Type 0} → A → prelude.Result A Refusal → Result A
answered before (Ok after) = accepted after
answered before (Err r) = refused (refusal_number r) before

-- the same of a bank, with the words that the call left
abbrev pub outcome_meant : Bank → prelude.Result Bank Refusal → List ℕ → List ℕ → Result State
outcome_meant before (Ok after) heads doors = accepted (state after heads doors)
outcome_meant before (Err r) heads doors = refused (refusal_number r) (state before heads doors)

-- what is held after a call
abbrev pub after : {A : Type 0} → Result A → A
after (accepted a) = a
after (refused n a) = a

-- "A refusal returns its number; bank, network and lent bytes keep their values."
abbrev pub unless : ℕ → State → Result State → Result State
unless n s effect = cond (eqb n 0) effect (refused n s)

-- the fresh bank of a tree, refused by 2 or 3 where it is none
unfoldable pub fresh : Tree → Result Bank
fresh t = cond (eqb (tree_refusal t) 0) (accepted (fresh_bank t)) (refused (tree_refusal t) (no_bank t))

-- ---- what the core's result makes of the bank

-- "a step returns it with one place rewritten"
abbrev pub with_place : Bank → ℕ → Column → Bank
with_place b i c = record { tree = b.tree; columns = set b.columns i c; count = b.count }

abbrev pub with_column : State → ℕ → Column → State
with_column s i c = state (with_place s.bank i c) s.heads s.doors

-- row 9: "a packet would raise the network above 512"
unfoldable pub fitting : State → State → Result State
fitting s next = cond (ltb capacity next.bank.count) (refused 9 s) (accepted next)

-- Column i is what the core says, and its packet is put. `gone` is the bank without the packets that the step takes off: it counts unless
-- the packet is left in its place.
abbrev pub settled : State → State → ℕ → core.Result → Result State
settled s gone i (core.accepted c packets left) = fitting s (puts (with_column (cond left s gone) i c) packets)
settled s gone i (core.refused n c) = refused n s

-- ---- the steps

-- the steps that take no packet off
unfoldable pub acted : State → ℕ → core.Result → Result State
acted s i r = unless (acting_refusal s i) s (settled s s i r)

abbrev pub order : State → ℕ → Result State
order s doors =
    let t = s.bank.tree in
    acted s t.root (core.order t t.root (column_at s.bank t.root) doors)

abbrev pub send : State → ℕ → Result State
send s i = acted s i (core.send s.bank.tree i (column_at s.bank i))

abbrev pub ack : State → ℕ → Result State
ack s i = acted s i (core.ack s.bank.tree i (column_at s.bank i))

abbrev pub all : State → ℕ → Result State
all s i = acted s i (core.all s.bank.tree i (column_at s.bank i))

-- "Alone, the core believes note's caller that j is halted ..; the bank tests the one": a condition of 6, after those of the core
abbrev pub note_refusal : Bank → ℕ → ℕ → ℕ
note_refusal b i j = earlier (core.note_refusal b.tree i (column_at b i) j) (first ((6, runs b j) ∷ []))

abbrev pub noted : Bank → ℕ → ℕ → core.Result
noted b i j = core.unless (note_refusal b i j) (column_at b i) (core.note_effect b.tree (column_at b i) j)

abbrev pub note : State → ℕ → ℕ → Result State
note s i j = acted s i (noted s.bank i j)

-- row 10: "take at a place not below the packet count"
abbrev pub take_refusal : State → ℕ → ℕ
take_refusal s place = earlier (bank_refusal s) (first ((10, leb s.bank.count place) ∷ []))

-- "the packet goes to its receiver"
unfoldable pub delivered : State → ℕ → Packet → Result State
delivered s place p =
    settled s (removed s place) (receiver p) (core.take s.bank.tree (receiver p) (column_at s.bank (receiver p)) p)

abbrev pub take : State → ℕ → Result State
take s place = unless (take_refusal s place) s (delivered s place (packet_at s place))

-- the places from k on, with every member's column rewritten
unfoldable pub rewriting : (Column → Column) → (ℕ → Bool) → ℕ → List Column → List Column
rewriting f member k [] = []
rewriting f member k (c ∷ l) = cond (member k) (f c) c ∷ rewriting f member (suc k) l

abbrev pub with_rewritten : (Column → Column) → Bank → (ℕ → Bool) → Bank
with_rewritten f b member = record { tree = b.tree; columns = rewriting f member 0 b.columns; count = b.count }

abbrev pub with_stopped : Bank → (ℕ → Bool) → Bank
with_stopped = with_rewritten stopped

unfoldable pub halted : State → (ℕ → Bool) → State
halted s member =
    let v = vanished s member in
    state (with_stopped v.bank member) v.heads v.doors

-- every member of m runs
abbrev pub members_run : Bank → ℕ → Bool
members_run b m = every (λ j. not (has m j) || runs b j) b.tree.columns

-- "If any is 4 or 5, none halts."
abbrev pub halt_conditions : State → ℕ → List (ℕ × Bool)
halt_conditions s m =
    (4, not (within m s.bank.tree.columns))
    ∷ (5, not (members_run s.bank m))
    ∷ []

unfoldable pub halt_refusal : State → ℕ → ℕ
halt_refusal s m = earlier (bank_refusal s) (first (halt_conditions s m))

-- "`halt=` takes a list of one or more columns .., and all of them halt in the same step": the set of them
abbrev pub halt : State → ℕ → Result State
halt s m = unless (halt_refusal s m) s (accepted (halted s (has m)))
