-- The steps of a column, after document 01, "Steps", for the bank, which has tested rows 2 to 4: their own conditions, and one that no valid tree and
-- state break, so that every other one has its answer too. Where those tests let pass they are the steps: `send_unchecked_lem` of UncheckedLaws and its like.
-- And their effects alone, for a step that is known to be accepted, with that one condition: `send_bounded` of UncheckedLaws and its like.
use Rattle.std.specs.Prelude.{ℕ, Bool, not, ◌&&◌, List, [], ◌∷◌, leb, ltb}
use Rattle.column.specs.Refusals.{first, earlier}
use Rattle.column.specs.Sets.{lowest}
use Rattle.column.specs.Trees.{choose}
use Rattle.column.specs.Packets.{sender}
use Rattle.column.specs.Steps.{Result, unless, order_conditions, order_effect, send_conditions, send_effect, take_conditions, take_effect, ack_conditions, ack_effect, all_conditions, all_effect, note_conditions, note_effect}
use Rattle.column.specs.declared.tree.Tree.{Tree}
use Rattle.column.specs.declared.state.Column.{Column}
use Rattle.column.specs.declared.packet.Packet.{Packet}

-- the tree has no more than sixteen columns, and both numbers are below sixteen
abbrev pub bounded : Tree → ℕ → ℕ → Bool
bounded t i k = leb t.columns 16 && (ltb i 16 && ltb k 16)

-- 4 where column i, or the column k that the step is about, is none of sixteen
abbrev pub bounds_refusal : Tree → ℕ → ℕ → ℕ
bounds_refusal t i k = first ((4, not (bounded t i k)) ∷ [])

-- ---- the effects alone

abbrev pub bounded_send : Tree → ℕ → Column → Result
bounded_send t i c = unless (bounds_refusal t i (choose t c.send)) c (send_effect t i c)

abbrev pub bounded_take : Tree → ℕ → Column → Packet → Result
bounded_take t i c p = unless (bounds_refusal t i (sender p)) c (take_effect t i c p)

abbrev pub bounded_ack : Tree → ℕ → Column → Result
bounded_ack t i c = unless (bounds_refusal t i (lowest c.owed)) c (ack_effect i c)

abbrev pub bounded_all : Tree → ℕ → Column → Result
bounded_all t i c = unless (bounds_refusal t i t.root) c (all_effect t c)

abbrev pub bounded_note : Tree → ℕ → Column → ℕ → Result
bounded_note t i c j = unless (bounds_refusal t i j) c (note_effect t c j)

-- ---- the steps

-- its own conditions, then the bounds
abbrev pub unchecked_refusal : List (ℕ × Bool) → Tree → ℕ → ℕ → ℕ
unchecked_refusal conditions t i k = earlier (first conditions) (bounds_refusal t i k)

abbrev pub order_unchecked : Tree → ℕ → Column → ℕ → Result
order_unchecked t i c doors = unless (unchecked_refusal (order_conditions t i c) t i i) c (order_effect t i c doors)

abbrev pub send_unchecked : Tree → ℕ → Column → Result
send_unchecked t i c = unless (unchecked_refusal (send_conditions t i c) t i (choose t c.send)) c (send_effect t i c)

abbrev pub take_unchecked : Tree → ℕ → Column → Packet → Result
take_unchecked t i c p = unless (unchecked_refusal (take_conditions t i c p) t i (sender p)) c (take_effect t i c p)

abbrev pub ack_unchecked : Tree → ℕ → Column → Result
ack_unchecked t i c = unless (unchecked_refusal (ack_conditions t i c) t i (lowest c.owed)) c (ack_effect i c)

abbrev pub all_unchecked : Tree → ℕ → Column → Result
all_unchecked t i c = unless (unchecked_refusal (all_conditions t i c) t i t.root) c (all_effect t c)

abbrev pub note_unchecked : Tree → ℕ → Column → ℕ → Result
note_unchecked t i c j = unless (unchecked_refusal (note_conditions t i c j) t i j) c (note_effect t c j)
