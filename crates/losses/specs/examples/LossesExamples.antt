-- Counts and refusals, computed: what a lone column, two columns and trees that are refused give.
use Rattle.std.specs.Prelude.{ℕ, ◌≡◌, refl, true, ◌∷◌, replicate}
use Rattle.std.specs.Int.Count.{count_trailing_zeros}
use Rattle.column.specs.Sets.{selected}
use Rattle.column.specs.Refusals.{Given, given, refused}
use Rattle.column.specs.Trees.{ascending, tree_by, tree_of, every, climbs_in, tree_refusal}
use Rattle.column.specs.Columns.{state_refusal}
use Rattle.column.specs.Steps as core
use Rattle.column.specs.declared.tree.Tree.{Tree}
use Rattle.bank.specs.Words.{packet_of}
use Rattle.bank.specs.Networks.{closed_up, keeping, padded, put, puts, vanished}
use Rattle.bank.specs.Banks.{places, fresh_place, bank_refusal}
use Rattle.bank.specs.Steps.{fitting, acted, delivered, rewriting, halted, halt_refusal}
use Rattle.bank.specs.Performs.{perform}
use Rattle.bank.specs.Dispatch.{offered, first_accepted, turn, dispatch}
use Rattle.losses.specs.Losses.{losses_refusal, ordered, begun, ended, counted, losses, losses_of, losses_given}
use Rattle.losses.specs.declared.count.Losses.{Losses}

pub data Case : Type 0 where
  alone : Case
  before_the_message : Case
  message_under_way : Case
  nine_columns : Case
  sender_watched : Case
  three_before_twenty_three : Case

abbrev tree : Case → Tree
tree alone = tree_of 1 0 (replicate 16 0)
tree before_the_message = tree_of 2 0 (replicate 16 0)
tree message_under_way = tree_of 2 0 (replicate 16 0)
tree nine_columns = tree_of 9 0 (replicate 16 0)
tree sender_watched = tree_by 2 0 (replicate 16 0) ascending true
tree three_before_twenty_three = tree_of 9 0 (0 ∷ 2 ∷ 1 ∷ replicate 13 0)

abbrev steps : Case → ℕ
steps message_under_way = 1
steps alone = 0
steps before_the_message = 0
steps nine_columns = 0
steps sender_watched = 0
steps three_before_twenty_three = 0

abbrev counts : Case → Given Losses
-- the empty set, and the column itself
counts alone = given (losses 1 0 1)
-- the root halts with the order: the other one never receives it
counts before_the_message = given (losses 2 1 1)
-- the same a step later: "packets from it remain", and the other one takes the order
counts message_under_way = given (losses 3 0 1)
counts nine_columns = refused 23
counts sender_watched = refused 23
-- "after the table's own"
counts three_before_twenty_three = refused 3

pub counts_pass : (c : Case) → losses_given (tree c) (steps c) ≡ counts c
unfolding losses_of losses_refusal ordered begun ended counted perform every closed_up keeping padded places fresh_place bank_refusal packet_of put puts vanished fitting acted delivered rewriting halted halt_refusal climbs_in tree_refusal state_refusal selected count_trailing_zeros offered first_accepted turn dispatch core.order_refusal core.send_refusal core.packet_refusal core.take_refusal core.ack_refusal core.all_refusal core.note_refusal core.order_effect core.send_effect core.acknowledgement_effect core.receive_effect core.message_effect core.ack_effect core.all_effect core.note_effect
counts_pass alone = refl
counts_pass before_the_message = refl
counts_pass message_under_way = refl
counts_pass nine_columns = refl
counts_pass sender_watched = refl
counts_pass three_before_twenty_three = refl
