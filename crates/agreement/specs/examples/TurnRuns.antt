-- A dispatch of four columns, computed, which would be another with every other order of a turn's steps: two halted columns are noted by each of two that
-- run, who send, owe and take over. Assumes nothing.
use Rattle.std.specs.Prelude.{◌≡◌, refl, [], ◌∷◌, replicate}
use Rattle.std.specs.Int.Count.{count_trailing_zeros}
use Rattle.column.specs.Sets.{selected}
use Rattle.column.specs.Trees.{tree_of, every, climbs_in, tree_refusal}
use Rattle.column.specs.Columns.{state_refusal}
use Rattle.column.specs.Steps as core
use Rattle.column.specs.declared.tree.Tree.{Tree}
use Rattle.bank.specs.Words.{packet_of}
use Rattle.bank.specs.Networks.{closed_up, keeping, padded, put, puts, vanished}
use Rattle.bank.specs.Banks.{capacity, places, fresh_place, bank_refusal}
use Rattle.bank.specs.Steps.{fitting, acted, delivered, rewriting, halted, halt_refusal}
use Rattle.bank.specs.Performs.{perform}
use Rattle.bank.specs.Dispatch.{offered, first_accepted, turn, dispatched}
use Rattle.bank.specs.declared.bank.Step.TheVariants.{Order, Send, Take, Ack, All, Note, Halt}
use Rattle.agreement.specs.History.{World, told, run}
use Rattle.agreement.specs.Agreement.{begin}

-- columns=4, root=0, up=0,0,1,1
abbrev four : Tree
four = tree_of 4 0 (0 ∷ 0 ∷ 1 ∷ 1 ∷ replicate 12 0)

abbrev world : World
world = run (begin four (replicate capacity 0) (replicate capacity 0))
    (Order 0 ∷ Send 0 ∷ Take 0 ∷ Halt 9 ∷ Note 2 0 ∷ Send 1 ∷ Take 0 ∷ All 2 ∷ Send 2 ∷ [])

-- "for running columns from 0 up, note (lowest j first), send, ack, all; if no column has any, the oldest packet is taken"
pub turn_order : dispatched 99 world.state
    ≡ Note 1 0 ∷ Note 1 3 ∷ Send 1 ∷ Note 2 3 ∷ Send 2 ∷ Ack 2 ∷ Take 0 ∷ Take 0 ∷ Ack 1 ∷ Ack 1 ∷ All 1 ∷ Send 1 ∷ Send 1 ∷ Take 0 ∷ []
unfolding run told perform every closed_up keeping padded places fresh_place bank_refusal packet_of put puts vanished fitting acted delivered rewriting halted halt_refusal climbs_in tree_refusal state_refusal selected count_trailing_zeros offered first_accepted turn dispatched core.order_refusal core.send_refusal core.packet_refusal core.take_refusal core.ack_refusal core.all_refusal core.note_refusal core.order_effect core.send_effect core.acknowledgement_effect core.receive_effect core.message_effect core.ack_effect core.all_effect core.note_effect
turn_order = refl
