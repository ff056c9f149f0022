-- By which number a step of a bank is refused, after document 01, "Refused, and by which number": rows 2 to 4 of the bank before all else,
-- then the core's number, and those that a bank adds: 6 for a running j in note, 10 for a place, 6, 14, 15, 16 for a return, 22 for a write, 9 for the network.
use Rattle.std.specs.Prelude.{ℕ, ◌≡◌, Bool, true, false, not, ◌&&◌, ◌||◌, [], ◌∷◌, eqb, leb}
use Rattle.column.specs.Refusals.{first, earlier}
use Rattle.column.specs.Packets.{receiver}
use Rattle.column.specs.Steps as core
use Rattle.column.specs.Pages.{write_conditions}
use Rattle.bank.specs.Banks.{State, column_at, runs, packet_at, capacity, bank_refusal}
use Rattle.bank.specs.Steps.{accepted, after, unless, note_refusal, halt_conditions}
use Rattle.bank.specs.Returns.{back_conditions}
use Rattle.bank.specs.Performs.{perform}
use Rattle.bank.specs.declared.bank.Bank.{Bank}
use Rattle.bank.specs.declared.bank.Step.{Step}
use Rattle.bank.specs.declared.bank.Step.TheVariants.{Order, Send, Take, Ack, All, Note, Halt, Back, Write}

-- the core's number; 6 for a running j, "condition of .. note fails"; row 10: "take at a place not below the packet count"
abbrev pub own_refusal : State → Step → ℕ
own_refusal s (Order doors) = let t = s.bank.tree in core.order_refusal t t.root (column_at s.bank t.root)
own_refusal s (Send i) = core.send_refusal s.bank.tree i (column_at s.bank i)
own_refusal s (Take place) =
    let p = packet_at s place in
    earlier (first ((10, leb s.bank.count place) ∷ []))
    (core.take_refusal s.bank.tree (receiver p) (column_at s.bank (receiver p)) p)
own_refusal s (Ack i) = core.ack_refusal s.bank.tree i (column_at s.bank i)
own_refusal s (All i) = core.all_refusal s.bank.tree i (column_at s.bank i)
own_refusal s (Note i j) = note_refusal s.bank i j
own_refusal s (Halt m) = first (halt_conditions s m)
own_refusal s (Back j) = first (back_conditions s j)
own_refusal s (Write i offset value) = earlier (first ((4, leb s.bank.tree.columns i) ∷ [])) (first (write_conditions offset))

-- an accepted result makes the packets more: one is really put, since its addressee runs, and none is taken off for it
abbrev pub raises : Bool → Bank → core.Result → Bool
raises taking b (core.accepted c [] left) = false
raises taking b (core.accepted c (p ∷ l) left) = (left || not taking) && runs b (receiver p)
raises taking b (core.refused n c) = false

-- so may a send, an ack, and a take that leaves its packet, and no other step
abbrev pub raised : State → Step → Bool
raised s (Order doors) = false
raised s (Send i) = raises false s.bank (core.send_effect s.bank.tree i (column_at s.bank i))
raised s (Take place) =
    let p = packet_at s place in
    raises true s.bank (core.take_effect s.bank.tree (receiver p) (column_at s.bank (receiver p)) p)
raised s (Ack i) = raises false s.bank (core.ack_effect i (column_at s.bank i))
raised s (All i) = false
raised s (Note i j) = false
raised s (Halt m) = false
raised s (Back j) = false
raised s (Write i offset value) = false

-- row 9: "a packet would raise the network above 512"
abbrev pub overfull : State → Step → Bool
overfull s x = raised s x && eqb s.bank.count capacity

-- "Before all else a tree that breaks row 2 or 3 gives that number. Next, 4", of the bank; then the step's own; 9 last
abbrev pub refusal_of : State → Step → ℕ
refusal_of s x = earlier (bank_refusal s) (earlier (own_refusal s x) (first ((9, overfull s x) ∷ [])))

-- demand 2's "exactly": of every bank, whatever its state and packets, and every step. Where a number is given the state is as it was, and
-- where none is the step is accepted.
abbrev pub Exact : Type 0
Exact = (s : State) (x : Step) → perform s x ≡ unless (refusal_of s x) s (accepted (after (perform s x)))
