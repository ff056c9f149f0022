-- The journals of three lists of steps, computed, and lists of which the premise of the statements about journals holds: in one columns halt, those that
-- run take over, and two returns are refused.
use Rattle.std.specs.Prelude.{ℕ, ◌≡◌, refl, List, [], ◌∷◌, ◌++◌, length, replicate}
use Rattle.std.proofs.Common.{ap}
use Rattle.std.specs.Int.Count.{count_trailing_zeros}
use Rattle.std.proofs.lemmas.List.{length-replicate}
use Rattle.column.specs.Sets.{selected}
use Rattle.column.specs.Trees.{tree_of, every, climbs_in, tree_refusal}
use Rattle.column.specs.Columns.{state_refusal}
use Rattle.column.specs.Steps as core
use Rattle.column.specs.declared.tree.Tree.{Tree}
use Rattle.bank.specs.Words.{packet_of}
use Rattle.bank.specs.Networks.{closed_up, keeping, padded, put, puts, vanished}
use Rattle.bank.specs.Banks.{capacity, places, fresh_place, bank_refusal}
use Rattle.bank.specs.Steps.{fitting, acted, delivered, rewriting, halted, halt_refusal}
use Rattle.bank.specs.Returns.{back_refusal, returned}
use Rattle.bank.specs.Performs.{perform}
use Rattle.bank.specs.Rest.{is_at_rest}
use Rattle.bank.specs.declared.bank.Step.{Step}
use Rattle.bank.specs.declared.bank.Step.TheVariants.{Order, Send, Take, All, Note, Halt, Back}
use Rattle.journals.specs.Journals.{line}
use Rattle.journals.specs.declared.line.Way.TheVariants.{Sent, Got}
use Rattle.journals.specs.declared.line.Kind.TheVariants as kind-is
use Rattle.journals.specs.declared.line.Line.{Line}
use Rattle.agreement.specs.History.{World, told, run}
use Rattle.agreement.specs.Agreement.{begin}
use Rattle.agreement.specs.examples.Runs.{chain, row, served_by_root, taken_over, runs_pass}
use Rattle.agreement.specs.Journals.{all_got, all_sent, to_running, recorded, journals, NoneBack, Consistent, JournalsAgree}

-- columns=3, root=0, up=0,0,0
abbrev pub bush : Tree
bush = tree_of 3 0 (replicate 16 0)

abbrev fresh : Tree → World
fresh t = begin t (replicate capacity 0) (replicate capacity 0)

abbrev leaving : List Step
leaving = Order 1 ∷ Send 0 ∷ Send 0 ∷ Halt 1 ∷ Note 1 0 ∷ All 1 ∷ Send 1 ∷ Send 1 ∷ Send 1 ∷ Take 2 ∷ Take 1 ∷ Take 1 ∷ []

pub record Written : Type 0 where
  pub served : List Line
  pub taken : List Line
  pub left : List Line

-- the root's where it serves everybody; column 1's where the root halts: the acknowledgement to the halted root is not sent, both that run take over,
-- and one message is answered; and column 2's where it owes column 1 number 0 while the message numbered 1 arrives, which is left and not got until it
-- is taken again
abbrev pub wrote : Written
wrote = record {
  served = journals (fresh chain) (row served_by_root).steps (λ i. []) 0;
  taken = journals (fresh chain) (row taken_over).steps (λ i. []) 1;
  left = journals (fresh bush) leaving (λ i. []) 2;
}

pub journals_written : wrote ≡ record {
  served = line Sent kind-is.Message 1 1 ∷ line Got kind-is.Acknowledgement 1 1 ∷ [];
  taken = line Got kind-is.Message 0 1 ∷ line Sent kind-is.Message 2 1 ∷ line Got kind-is.Acknowledgement 2 1 ∷ line Got kind-is.Message 2 1 ∷ line Sent kind-is.Acknowledgement 2 1 ∷ [];
  left = line Got kind-is.Message 1 0 ∷ line Sent kind-is.Acknowledgement 1 0 ∷ line Got kind-is.Message 0 1 ∷ [];
}
unfolding journals recorded all_got all_sent to_running run told perform every closed_up keeping padded places fresh_place bank_refusal packet_of put puts vanished fitting acted delivered rewriting halted halt_refusal climbs_in tree_refusal state_refusal selected count_trailing_zeros core.order_refusal core.send_refusal core.packet_refusal core.take_refusal core.ack_refusal core.all_refusal core.note_refusal core.order_effect core.send_effect core.acknowledgement_effect core.receive_effect core.message_effect core.ack_effect core.all_effect core.note_effect
journals_written = refl

pub none_back : NoneBack (fresh bush) (Order 1 ∷ Send 0 ∷ Take 0 ∷ [])
unfolding NoneBack told perform every closed_up keeping padded places fresh_place bank_refusal packet_of put puts vanished fitting acted delivered climbs_in tree_refusal state_refusal selected count_trailing_zeros core.order_refusal core.send_refusal core.packet_refusal core.take_refusal core.order_effect core.send_effect core.receive_effect core.message_effect
none_back = (refl, (refl, (refl, tt)))

-- the root halts, the two that run take over, one of them halts; its return is refused, since its halt is not yet noted, and the root's
abbrev pub with_halts : List Step
with_halts = (row taken_over).steps ++ (Halt 4 ∷ Back 2 ∷ Back 0 ∷ [])

pub none_back_with_halts : NoneBack (fresh chain) with_halts
unfolding NoneBack told perform every closed_up keeping padded places fresh_place bank_refusal packet_of put puts vanished fitting acted delivered rewriting halted halt_refusal back_refusal returned is_at_rest climbs_in tree_refusal state_refusal selected count_trailing_zeros core.order_refusal core.send_refusal core.packet_refusal core.take_refusal core.ack_refusal core.all_refusal core.note_refusal core.order_effect core.send_effect core.acknowledgement_effect core.receive_effect core.message_effect core.ack_effect core.all_effect core.note_effect
none_back_with_halts = (refl, (refl, (refl, (refl, (refl, (refl, (refl, (refl, (refl, (refl, (refl, (refl, (refl, (refl, (refl, (refl, (refl, (refl, (refl, (refl, (refl, (tt, (tt, tt)))))))))))))))))))))))

pub with_halts_said : JournalsAgree → Consistent 3 (journals (fresh chain) with_halts (λ i. []))
with_halts_said agree =
    let words : length {A = ℕ} (replicate capacity 0) ≡ capacity = length-replicate {A = ℕ} capacity 0 in
    agree chain (ap (λ x. x.1) (runs_pass taken_over)) (replicate capacity 0) (replicate capacity 0) words words with_halts none_back_with_halts
