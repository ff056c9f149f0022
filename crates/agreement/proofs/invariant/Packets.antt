-- Packets told apart, what a truthful packet says, and the three ways to be awaited. Assumes nothing.
use Prim.Native.Nat.{ℕ, ◌≤◌, ◌<◌}
use native.Mathlib.Omega.{arith}
use mathlib.Core.Path.{◌≡◌}
use mathlib.Core.Logic.{◌≢◌}
use mathlib.Core.Bool.{false}
use mathlib.Core.List.{List}
use Rattle.column.specs.laws.SubtreeLaws.{Under}
use Rattle.column.specs.declared.tree.Tree.{Tree}
use Rattle.column.specs.declared.state.Column.{Column}
use Rattle.column.specs.declared.packet.Packet.{Packet}
use Rattle.column.specs.declared.packet.Packet.TheVariants.{Message, Acknowledgement}
use Rattle.agreement.proofs.relation.Model.{In, State, Runs, Holds}
use Rattle.agreement.proofs.invariant.Invariant.{number, Issued, Truthful, message_truthful, acknowledgement_truthful, Outstanding, message_sent, acknowledgement_owed, acknowledgement_sent}

-- ---- told apart

pub message_acknowledgement : {f r k d f' r' k' : ℕ} → Message f r k d ≡ Acknowledgement f' r' k' → ⊥
message_acknowledgement e = let z : ◌≡◌ {A = ℕ} 0 1 = cc in omega arith

pub message_sender : {f r k d f' r' k' d' : ℕ} → Message f r k d ≡ Message f' r' k' d' → f ≡ f'
message_sender e = cc

pub message_number : {f r k d f' r' k' d' : ℕ} → Message f r k d ≡ Message f' r' k' d' → k ≡ k'
message_number e = cc

pub acknowledgement_sender : {f r k f' r' k' : ℕ} → Acknowledgement f r k ≡ Acknowledgement f' r' k' → f ≡ f'
acknowledgement_sender e = cc

pub acknowledgement_number : {f r k f' r' k' : ℕ} → Acknowledgement f r k ≡ Acknowledgement f' r' k' → k ≡ k'
acknowledgement_number e = cc

-- ---- what a truthful packet says

pub message_issued : {t : Tree} {s : State} {f r k d : ℕ} → Truthful t s (Message f r k d) → Issued s k d
message_issued (message_truthful g n l m) = g

pub message_receiver : {t : Tree} {s : State} {f r k d : ℕ} → Truthful t s (Message f r k d) → t.watch ≡ false → r ≢ t.root
message_receiver (message_truthful g n l m) = n

pub message_sent_by : {t : Tree} {s : State} {f r k d : ℕ} → Truthful t s (Message f r k d) → (f < t.columns) × (Runs s f → k ≤ number s f)
message_sent_by (message_truthful g n l m) = (l, m)

pub acknowledgement_subtree : {t : Tree} {s : State} {f r k : ℕ} → Truthful t s (Acknowledgement f r k) →
    (p : ℕ) → Runs s p → Under t f p → k ≤ number s p
acknowledgement_subtree (acknowledgement_truthful h) = h

-- ---- a case for each way to be awaited

pub outstanding_cases : {W : Type 0} {network : List Packet} {cp cq : Column} {p q : ℕ} → Outstanding network cp cq p q →
    ((d : ℕ) → Holds network (Message p q cp.number d) → W) →
    (In cq.owed p → cq.number ≡ cp.number → W) →
    (Holds network (Acknowledgement q p cp.number) → W) → W
outstanding_cases (message_sent d m) f g h = f d m
outstanding_cases (acknowledgement_owed o e) f g h = g o e
outstanding_cases (acknowledgement_sent m) f g h = h m
