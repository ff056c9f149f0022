-- Packets under way, computed: how near three lists of steps come to the limits of Point 3. One meets the lower limit, one is a packet below it,
-- and in one a message is under way to a root that runs, as only where senders are watched.
use Rattle.std.specs.Prelude.{ℕ, ◌≤◌, ◌≡◌, refl, Bool, true, false, List, [], ◌∷◌, map, length, replicate}
use Rattle.std.proofs.Common.{arith, ap, subst}
use Rattle.std.specs.Int.Count.{count_trailing_zeros}
use Rattle.std.proofs.lemmas.List.{length-replicate}
use Rattle.column.specs.Sets.{selected}
use Rattle.column.specs.Trees.{tree_of, every, climbs_in, tree_refusal}
use Rattle.column.specs.Columns.{state_refusal}
use Rattle.column.specs.Steps as core
use Rattle.column.specs.declared.tree.Tree.{Tree}
use Rattle.column.specs.declared.packet.Packet.{Packet}
use Rattle.column.specs.declared.packet.Packet.TheVariants.{Message, Acknowledgement}
use Rattle.bank.specs.Words.{packet_of}
use Rattle.bank.specs.Networks.{closed_up, keeping, padded, put, puts, vanished}
use Rattle.bank.specs.Banks.{runs, packet_at, capacity, places, fresh_place, bank_refusal}
use Rattle.bank.specs.Steps.{fitting, acted, delivered, rewriting, halted, halt_refusal}
use Rattle.bank.specs.Performs.{perform}
use Rattle.bank.specs.declared.bank.Step.{Step}
use Rattle.bank.specs.declared.bank.Step.TheVariants.{Order, Send, Take, Ack, All, Note, Halt}
use Rattle.agreement.specs.History.{World, root_of, columns_of, told, run, step}
use Rattle.agreement.specs.examples.Runs.{watching, from_fresh, refusals}
use Rattle.agreement.specs.examples.Premises.{follow_steps}
use Rattle.agreement.specs.Limits.{packet_limit, packet_bound, WithinPacketBound}

abbrev star : ℕ → Tree
star n = tree_of n 0 (replicate 16 0)

-- a message of the root; the root halted with its order under way, and both others took over before they received it and once more after it;
-- a column halted, another had the order from it, took over, and sent it to the running root
pub data Case : Type 0 where
  sent : Case
  taken_over_twice : Case
  to_the_root : Case

abbrev bank_of : Case → Tree
bank_of sent = star 2
bank_of taken_over_twice = star 3
bank_of to_the_root = watching

abbrev pub steps : Case → List Step
steps sent = Order 513 ∷ Send 0 ∷ []
steps taken_over_twice =
    Order 513 ∷ Send 0 ∷ Send 0 ∷ Halt 1 ∷ Note 2 0 ∷ All 2 ∷ Send 2 ∷ Send 2 ∷ Note 1 0 ∷ All 1 ∷ Send 1 ∷ Send 1 ∷ Send 1
    ∷ Take 1 ∷ All 2 ∷ Send 2 ∷ Send 2 ∷ Take 3 ∷ Ack 1 ∷ All 1 ∷ Send 1 ∷ Send 1 ∷ Send 1 ∷ []
steps to_the_root =
    Order 513 ∷ Send 0 ∷ Take 0 ∷ Send 1 ∷ Take 0 ∷ Ack 2 ∷ Take 0 ∷ Ack 1 ∷ Halt 2 ∷ Note 0 1 ∷ Send 0 ∷ Note 2 1 ∷ All 2 ∷ Send 2 ∷ []

abbrev pub world : Case → World
world c = run (from_fresh (bank_of c)) (steps c)

-- the packets under way, oldest first
abbrev pub packets : Case → List Packet
packets sent = Message 0 1 1 513 ∷ []
packets taken_over_twice = Message 0 1 1 513 ∷ Message 2 1 0 0 ∷ Message 1 2 0 0 ∷ Acknowledgement 1 2 1 ∷ Message 1 2 1 513 ∷ []
packets to_the_root = Acknowledgement 1 0 1 ∷ Message 0 2 1 513 ∷ Message 2 0 1 513 ∷ []

-- whether the root runs, and the two limits
abbrev root_runs : Case → Bool
root_runs sent = true
root_runs taken_over_twice = false
root_runs to_the_root = true

abbrev limits : Case → List ℕ
limits sent = 4 ∷ 1 ∷ []
limits taken_over_twice = 12 ∷ 6 ∷ []
limits to_the_root = 12 ∷ 6 ∷ []

-- every step is accepted, and what is so after the list
pub packets_pass : (c : Case) → ◌≡◌ {A = List ℕ × List Packet × ℕ × Bool × List ℕ × ℕ}
    (refusals (from_fresh (bank_of c)) (steps c), places (packet_at (world c).state) (world c).state.bank.count, (world c).state.bank.count, runs (world c).state.bank (root_of (world c).state), packet_limit (columns_of (world c)) ∷ packet_bound (columns_of (world c)) ∷ [], tree_refusal (bank_of c))
    ([], packets c, length (packets c), root_runs c, limits c, 0)
unfolding refusals run told perform every closed_up keeping padded places fresh_place bank_refusal packet_of put puts vanished fitting acted delivered rewriting halted halt_refusal climbs_in tree_refusal state_refusal selected count_trailing_zeros core.order_refusal core.send_refusal core.packet_refusal core.take_refusal core.ack_refusal core.all_refusal core.note_refusal core.order_effect core.send_effect core.acknowledgement_effect core.receive_effect core.message_effect core.ack_effect core.all_effect core.note_effect
packets_pass sent = refl
packets_pass taken_over_twice = refl
packets_pass to_the_root = refl

-- what `WithinPacketBound` says of these lists
pub within_said : WithinPacketBound → (c : Case) → length (packets c) ≤ packet_bound (columns_of (world c))
within_said within c =
    let words : length {A = ℕ} (replicate capacity 0) ≡ capacity = length-replicate {A = ℕ} capacity 0 in
    let said = within (bank_of c) (ap (λ x. x.5) (packets_pass c)) (replicate capacity 0) (replicate capacity 0) words words (map step (steps c)) in
    omega (
      arith,
      subst (λ (w : World). w.state.bank.count ≤ packet_bound (columns_of w)) (follow_steps (from_fresh (bank_of c)) (steps c)) said,
      ap (λ x. x.2) (packets_pass c),
    )

pub for_sixteen : (packet_limit 16 ≡ 480) × (packet_bound 16 ≡ 435)
for_sixteen = (refl, refl)
