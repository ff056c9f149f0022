-- Dispatches, computed: a bank of two columns, and one of three that watches senders, are brought to rest by steps of every kind, and each
-- premise of `Rests` holds of them.
use Rattle.std.specs.Prelude.{ℕ, ◌≤◌, ◌<◌, ◌≡◌, refl, Bool, true, ◌&&◌, List, [], ◌∷◌, map, length, replicate}
use Rattle.std.proofs.Common.{arith, sym, ap, subst}
use Rattle.std.specs.Int.Count.{count_trailing_zeros}
use Rattle.std.proofs.lemmas.List.{length-replicate}
use Rattle.column.specs.laws.Cases.{and_left, and_right}
use Rattle.column.specs.Sets.{selected}
use Rattle.column.specs.Trees.{tree_of, every, climbs_in, tree_refusal}
use Rattle.column.specs.Columns.{state_refusal}
use Rattle.column.specs.Steps as core
use Rattle.column.specs.declared.tree.Tree.{Tree}
use Rattle.bank.specs.Words.{packet_of}
use Rattle.bank.specs.Networks.{closed_up, keeping, padded, put, puts, vanished}
use Rattle.bank.specs.Banks.{capacity, places, fresh_place, bank_refusal}
use Rattle.bank.specs.Steps.{fitting, acted, delivered, rewriting, halted, halt_refusal}
use Rattle.bank.specs.Performs.{perform}
use Rattle.bank.specs.Rest.{AtRest}
use Rattle.bank.specs.Dispatch.{offered, first_accepted, turn, dispatched, dispatch}
use Rattle.bank.specs.declared.bank.Step.{Step}
use Rattle.bank.specs.declared.bank.Step.TheVariants.{Order, Send, Take, Ack, All, Note, Halt}
use Rattle.agreement.specs.History.{World, columns_of, told, run, step}
use Rattle.agreement.specs.Agreement.{begin}
use Rattle.agreement.specs.examples.Runs.{watching}
use Rattle.agreement.specs.examples.Premises.{follow_steps}
use Rattle.agreement.specs.Dispatching.{steps_within, step_bound, all_settling, all_accepted, Settles, Rests}

abbrev two_columns : Tree
two_columns = tree_of 2 0 (replicate 16 0)

-- the root has an order; or its message is under way, and it has halted; or a column has halted from which another had the order, beside the
-- running root: that one takes over and sends to the root
pub data Case : Type 0 where
  ordered : Case
  root_halted : Case
  sender_halted : Case

abbrev bank_of : Case → Tree
bank_of ordered = two_columns
bank_of root_halted = two_columns
bank_of sender_halted = watching

abbrev pub limit : Case → ℕ
limit ordered = 26
limit root_halted = 26
limit sender_halted = 66

-- by the lower limit
abbrev pub bound : Case → ℕ
bound ordered = 18
bound root_halted = 18
bound sender_halted = 54

abbrev pub begun : Case → List Step
begun ordered = Order 513 ∷ []
begun root_halted = Order 513 ∷ Send 0 ∷ Halt 1 ∷ []
begun sender_halted = Order 513 ∷ Send 0 ∷ Take 0 ∷ Send 1 ∷ Take 0 ∷ Halt 2 ∷ []

abbrev pub to_rest : Case → List Step
to_rest ordered = Send 0 ∷ Take 0 ∷ Ack 1 ∷ Take 0 ∷ []
to_rest root_halted = Note 1 0 ∷ All 1 ∷ Send 1 ∷ Send 1 ∷ Take 0 ∷ Ack 1 ∷ All 1 ∷ Send 1 ∷ Send 1 ∷ []
to_rest sender_halted = Note 0 1 ∷ Send 0 ∷ Note 2 1 ∷ Ack 2 ∷ All 2 ∷ Send 2 ∷ Take 0 ∷ Ack 2 ∷ Take 0 ∷ Take 0 ∷ Ack 0 ∷ Take 0 ∷ []

abbrev first_two : Case → List Step
first_two ordered = Send 0 ∷ Take 0 ∷ []
first_two root_halted = Note 1 0 ∷ All 1 ∷ []
first_two sender_halted = Note 0 1 ∷ Send 0 ∷ []

abbrev pub world : Case → World
world c = run (begin (bank_of c) (replicate capacity 0) (replicate capacity 0)) (begun c)

-- the steps of a dispatch with a limit of 13, that of one with a limit of 2, and what the premises of `Rests` ask of them
abbrev Said : Type 0
Said = List Step × List Step × Bool × ℕ × ℕ × ℕ

pub dispatches_pass : (c : Case) → ◌≡◌ {A = Said}
    (dispatched 13 (world c).state, dispatched 2 (world c).state, all_settling (to_rest c) && all_accepted (world c) (to_rest c), steps_within (columns_of (world c)), step_bound (columns_of (world c)), tree_refusal (bank_of c))
    (to_rest c, first_two c, true, limit c, bound c, 0)
unfolding run told perform every closed_up keeping padded places fresh_place bank_refusal packet_of put puts vanished fitting acted delivered rewriting halted halt_refusal climbs_in tree_refusal state_refusal selected count_trailing_zeros offered first_accepted turn dispatched all_settling all_accepted core.order_refusal core.send_refusal core.packet_refusal core.take_refusal core.ack_refusal core.all_refusal core.note_refusal core.order_effect core.send_effect core.acknowledgement_effect core.receive_effect core.message_effect core.ack_effect core.all_effect core.note_effect
dispatches_pass ordered = refl
dispatches_pass root_halted = refl
dispatches_pass sender_halted = refl

-- ---- what `Rests` says of these banks: each of its premises holds

module _ (rests : Rests) (c : Case) where
  settles : Settles (world c)
  settles =
      let words : length {A = ℕ} (replicate capacity 0) ≡ capacity = length-replicate {A = ℕ} capacity 0 in
      subst Settles (follow_steps (begin (bank_of c) (replicate capacity 0) (replicate capacity 0)) (begun c))
      (rests (bank_of c) (ap (λ x. x.5) (dispatches_pass c)) (replicate capacity 0) (replicate capacity 0) words words (map step (begun c)))

  both : (all_settling (to_rest c) && all_accepted (world c) (to_rest c)) ≡ true
  both = ap (λ x. x.2) (dispatches_pass c)

  within : steps_within (columns_of (world c)) ≡ limit c
  within = ap (λ x. x.3) (dispatches_pass c)

  sooner : step_bound (columns_of (world c)) ≡ bound c
  sooner = ap (λ x. x.4) (dispatches_pass c)

  pub any_steps_said : length (to_rest c) ≤ limit c
  any_steps_said = omega (arith, within, settles.within.any_steps (to_rest c) (and_left _ _ both) (and_right (all_settling (to_rest c)) _ both))

  pub rests_said : AtRest (dispatch (limit c) (world c).state)
  rests_said = settles.within.rests (limit c) (omega (arith, within))

  pub sooner_said : AtRest (dispatch (bound c) (world c).state)
  sooner_said = settles.sooner.rests (bound c) (omega (arith, sooner))

  pub until_said : AtRest (dispatch 13 (world c).state)
  until_said = settles.until 13 (subst (λ (l : List Step). length l < 13) (sym (ap (λ x. x.0) (dispatches_pass c))) (few c))
    where
      few : (c : Case) → length (to_rest c) < 13
      few ordered = omega arith
      few root_halted = omega arith
      few sender_halted = omega arith

-- "(2,224 for 16)", the most columns that a bank has; by the lower limit 2,160
pub for_sixteen : (steps_within 16 ≡ 2224) × (step_bound 16 ≡ 2160)
for_sixteen = (refl, refl)
