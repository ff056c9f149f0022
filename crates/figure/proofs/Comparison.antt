-- The step comparison with Figure 3.2.
-- Assumes nothing.
use Prim.Native.Nat.{ℕ}
use mathlib.Core.Path.{ap}
use Rattle.figure.specs.Comparison.{Comparison, Beginning}
use Rattle.figure.proofs.Commands.{own_goal}
use Rattle.figure.proofs.Send.{send_compares}
use Rattle.figure.proofs.Note.{note_compares}
use Rattle.figure.proofs.Take.{acknowledgement_compares, message_compares}
use Rattle.figure.proofs.Takeover.{takeover_compares}
use Rattle.figure.proofs.Ack.{ack_compares}
use Rattle.figure.proofs.Broadcast.{broadcast_compares}

pub comparison : Comparison
comparison t i c ready = record {
  send = send_compares t i c ready;
  note = λ j apart accepts. note_compares t i c ready j apart accepts;
  acknowledgement = λ from number passes. acknowledgement_compares t i c ready from number passes;
  takeover = takeover_compares t i c ready;
  message = λ from number doors passes. message_compares t i from number doors passes.0 c ready;
  ack = ack_compares t i c ready;
  broadcast = λ doors root. broadcast_compares t i c ready root doors;
}

pub beginning : Beginning
beginning t i = ap (λ (x : ℕ). record { seqno = 0; info = 0; sendto = 0; ackfrom = 0; ackto = 0; r = x }) (own_goal t i)
