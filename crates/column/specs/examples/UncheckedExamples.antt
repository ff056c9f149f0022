-- What the steps of `unchecked_for_bank` answer to states that rows 2 to 4 refuse, beside what the steps answer: two of them are accepted. And what an effect
-- answers to one that the step's own conditions refuse. Assumes nothing.
use Rattle.std.specs.Prelude.{ℕ, ◌≡◌, refl, true, false, [], ◌∷◌, replicate}
use Rattle.std.specs.Int.Count.{count_trailing_zeros}
use Rattle.column.specs.Trees.{tree_of, every, climbs_in, tree_refusal}
use Rattle.column.specs.Columns.{state_refusal}
use Rattle.column.specs.Steps.{accepted, refused, ack, send, send_refusal, ack_refusal, send_effect, ack_effect}
use Rattle.column.specs.Unchecked.{bounded_ack, send_unchecked, ack_unchecked}
use Rattle.column.specs.declared.tree.Tree.{Tree}
use Rattle.column.specs.declared.state.Column.{Column}
use Rattle.column.specs.declared.packet.Packet.TheVariants.{Message, Acknowledgement}

abbrev column : ℕ → ℕ → Column
column s o = record { running = true; number = 4; doors = 9; send = s; awaited = 0; owed = o; noted = 0; whole = false; sender = 0; mask = 0; pending = 0 }

-- columns=3, root=0, up=0,0,1
abbrev three : Tree
three = tree_of 3 0 (0 ∷ 0 ∷ 1 ∷ replicate 13 0)

-- up=0,2,1: none
abbrev circle : Tree
circle = tree_of 3 0 (0 ∷ 2 ∷ 1 ∷ replicate 13 0)

-- "a column owing itself" is 4 by `ack`; by `unchecked_for_bank::ack` it is accepted, with a packet from 2 to 2
pub owing_itself : ack three 2 (column 0 4) ≡ refused 4 (column 0 4)
unfolding ack_refusal state_refusal tree_refusal every climbs_in
owing_itself = refl

pub owing_itself_unchecked : ack_unchecked three 2 (column 0 4) ≡ accepted (column 0 0) (Acknowledgement 2 2 4 ∷ []) false
unfolding ack_effect count_trailing_zeros
owing_itself_unchecked = refl

-- "`up=0,2,1` is none" is 3 by `send`; by `unchecked_for_bank::send` it is accepted
pub circle_three : send circle 1 (column 4 0) ≡ refused 3 (column 4 0)
unfolding send_refusal state_refusal tree_refusal every climbs_in
circle_three = refl

pub circle_unchecked : send_unchecked circle 1 (column 4 0) ≡ accepted (record { running = true; number = 4; doors = 9; send = 0; awaited = 4; owed = 0; noted = 0; whole = false; sender = 0; mask = 0; pending = 0 }) (Message 1 2 4 9 ∷ []) false
unfolding send_effect
circle_unchecked = refl

-- an ack while the column sends, and its goal is its own subtree, is 6; by `effect::ack_effect` it is accepted
pub owing_while_sending : ack three 1 (column 4 1) ≡ refused 6 (column 4 1)
unfolding ack_refusal state_refusal tree_refusal every climbs_in
owing_while_sending = refl

pub owing_while_sending_effect : bounded_ack three 1 (column 4 1) ≡ accepted (column 4 0) (Acknowledgement 1 0 4 ∷ []) false
unfolding ack_effect count_trailing_zeros
owing_while_sending_effect = refl
