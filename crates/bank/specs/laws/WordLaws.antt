-- Laws of a packet's two words, both ways: a packet is what its words mean, and words below the bounds are those of the packet that they mean.
-- Assumes nothing.
use Rattle.std.specs.Prelude.{ℕ, ◌+◌, ◌*◌, ◌≤◌, ◌<◌, ◌≡◌, Bool, cond, ltb}
use Rattle.std.proofs.Math.Path.{refl}
use Rattle.std.proofs.Common.{sym, ◌∙◌, arith, lt-ltb, le-ltb, ltb-true, ltb-false}
use Rattle.std.proofs.Math.Bool.{true, false}
use Rattle.column.specs.Packets.{is_message, sender, receiver, number_of, doors_of}
use Rattle.column.specs.Columns.{numbers}
use Rattle.column.specs.declared.packet.Packet.{Packet}
use Rattle.column.specs.declared.packet.Packet.TheVariants.{Message, Acknowledgement}
use Rattle.bank.specs.Words.{ends, acknowledging, placed, head_of, number_in, receiver_in, sender_in, packet_of}

-- the parts of a packet fit into a head
pub record HeadFits (p : Packet) : Type 0 where
  pub sender_lt : sender p < ends
  pub receiver_lt : receiver p < ends
  pub number_lt : number_of p < numbers

-- ---- the packet of two words, by its kind

module _ (h d : ℕ) where
  pub message_of : h < acknowledging → packet_of h d ≡ Message (sender_in h) (receiver_in h) (number_in h) d
  unfolding packet_of
  message_of l = rw (lt-ltb h acknowledging l)

  pub acknowledgement_of : acknowledging ≤ h → packet_of h d ≡ Acknowledgement (sender_in h) (receiver_in h) (number_in h)
  unfolding packet_of
  acknowledgement_of l = rw (le-ltb h acknowledging l)

  -- what holds of both kinds holds of the packet
  pub either_of : (P : Packet → Type 0) → (ltb h acknowledging ≡ true → P (Message (sender_in h) (receiver_in h) (number_in h) d))
      → (ltb h acknowledging ≡ false → P (Acknowledgement (sender_in h) (receiver_in h) (number_in h))) → P (packet_of h d)
  unfolding packet_of
  either_of P m a = go (ltb h acknowledging) m a
    where
      go : (t : Bool) → (t ≡ true → P (Message (sender_in h) (receiver_in h) (number_in h) d))
          → (t ≡ false → P (Acknowledgement (sender_in h) (receiver_in h) (number_in h)))
          → P (cond t (Message (sender_in h) (receiver_in h) (number_in h) d) (Acknowledgement (sender_in h) (receiver_in h) (number_in h)))
      go true m a = m refl
      go false m a = a refl

  pub sender_of : sender (packet_of h d) ≡ sender_in h
  sender_of = either_of (λ p. sender p ≡ sender_in h) (λ t. refl) (λ t. refl)

  pub receiver_of : receiver (packet_of h d) ≡ receiver_in h
  receiver_of = either_of (λ p. receiver p ≡ receiver_in h) (λ t. refl) (λ t. refl)

  pub number_of_lem : number_of (packet_of h d) ≡ number_in h
  number_of_lem = either_of (λ p. number_of p ≡ number_in h) (λ t. refl) (λ t. refl)

  pub kind_of_lem : is_message (packet_of h d) ≡ ltb h acknowledging
  kind_of_lem = either_of (λ p. is_message p ≡ ltb h acknowledging) sym sym

  pub fits_of : HeadFits (packet_of h d)
  fits_of = record {
    sender_lt = omega (arith, sender_of);
    receiver_lt = omega (arith, receiver_of);
    number_lt = omega (arith, number_of_lem);
  }

-- ---- both ways

-- the parts of a head are found again, whatever its kind
parts : (h kind from to number : ℕ) → h ≡ kind * acknowledging + placed from to number → from < ends → to < ends → number < numbers
    → (sender_in h ≡ from) × (receiver_in h ≡ to) × (number_in h ≡ number)
parts h kind from to number e f t n = (omega arith, omega arith, omega arith)

pub packet_words : (p : Packet) → HeadFits p → packet_of (head_of p) (doors_of p) ≡ p
packet_words (Message from to number doors) f =
    let h = placed from to number in
    let e = parts h 0 from to number (omega arith) f.sender_lt f.receiver_lt f.number_lt in
    message_of h doors (omega (arith, f.sender_lt, f.receiver_lt, f.number_lt)) ∙ (λ i. Message (e.0 i) (e.1 i) (e.2 i) doors)
packet_words (Acknowledgement from to number) f =
    let h = acknowledging + placed from to number in
    let e = parts h 1 from to number (omega arith) f.sender_lt f.receiver_lt f.number_lt in
    acknowledgement_of h 0 (omega arith) ∙ (λ i. Acknowledgement (e.0 i) (e.1 i) (e.2 i))

pub words_packet : (h d : ℕ) → h < 2 * acknowledging → head_of (packet_of h d) ≡ h
words_packet h d l =
    either_of h d (λ p. head_of p ≡ h)
    (λ t. let s : h < acknowledging = ltb-true h acknowledging t in omega arith)
    (λ t. let s : acknowledging ≤ h = ltb-false h acknowledging t in omega arith)

pub doors_packet : (h d : ℕ) → h < acknowledging → doors_of (packet_of h d) ≡ d
doors_packet h d l = rw (message_of h d l)
