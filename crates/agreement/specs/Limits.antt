-- Document 02, Point 3: the network never fills. Point 9 says of watch=sender "the packet and step limits of Points 2 and 3 are for watch=root
-- only, and 9 may occur": the packet limit holds there too, and 9 never occurs from fresh, whoever is watched.
use Rattle.std.specs.Prelude.{ℕ, ◌-◌, ◌*◌, ◌≤◌, ◌≡◌}
use Rattle.bank.specs.Banks.{State}
use Rattle.bank.specs.Steps.{refused}
use Rattle.bank.specs.Performs.{perform}
use Rattle.bank.specs.declared.bank.Step.{Step}
use Rattle.agreement.specs.History.{columns_of}
use Rattle.agreement.specs.Agreement.{AfterEveryList}

-- "2 times N times (N−1) packets under way"
abbrev pub packet_limit : ℕ → ℕ
packet_limit columns = 2 * (columns * (columns - 1))

-- "no bank of N columns, however stepped from fresh, has more": every packet of the network counts, whether its sender runs or has halted,
-- and as often as it is there. N is the count of the bank's table, by `KeepsTree` of Companions.
abbrev pub NeverFills : Type 0
NeverFills = AfterEveryList (λ w. w.state.bank.count ≤ packet_limit (columns_of w))

-- "480 for 16", the most columns that a bank has
abbrev pub At480 : Type 0
At480 = AfterEveryList (λ w. w.state.bank.count ≤ 480)

-- a lower limit, and nearly met: 434 of the 435 for 16 have been under way (`crowded` of `tests/generators/script_makers.py`)
abbrev pub packet_bound : ℕ → ℕ
packet_bound columns = (columns - 1) * (2 * columns - 3)

abbrev pub WithinPacketBound : Type 0
WithinPacketBound = AfterEveryList (λ w. w.state.bank.count ≤ packet_bound (columns_of w))

abbrev pub At435 : Type 0
At435 = AfterEveryList (λ w. w.state.bank.count ≤ 435)

-- "Refusal 9 thus never occurs in such a bank": no step, whatever its numbers, is refused with 9
abbrev pub NeverNine : Type 0
NeverNine = AfterEveryList (λ w. (x : Step) (s : State) → perform w.state x ≡ refused 9 s → ⊥)
