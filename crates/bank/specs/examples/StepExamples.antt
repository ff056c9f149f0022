-- A bank whose network is full, and one with room for one packet more: what the laws of the network and row 9 ask for holds of them.
-- Assumes nothing.
use Rattle.std.specs.Prelude.{ℕ, ◌≡◌, refl, true, [], ◌∷◌, ◌++◌, replicate}
use Rattle.std.proofs.Common.{arith}
use Rattle.std.specs.Int.Count.{count_trailing_zeros}
use Rattle.std.proofs.lemmas.List.{length-replicate}
use Rattle.column.specs.Trees.{tree_of, every, climbs_in, tree_refusal}
use Rattle.column.specs.Columns.{state_refusal, with_registers}
use Rattle.column.specs.Pages.{written}
use Rattle.column.specs.Steps as core
use Rattle.column.specs.declared.packet.Packet.{Packet}
use Rattle.column.specs.declared.packet.Packet.TheVariants.{Message}
use Rattle.bank.specs.Words.{head_of, packet_of}
use Rattle.bank.specs.Banks.{State, state, no_column, capacity, places, fresh_place, fresh_bank, bank_refusal}
use Rattle.bank.specs.laws.ValidityLaws.{Valid, valid}
use Rattle.bank.specs.Networks.{counting, with_packet, put, puts}
use Rattle.bank.specs.laws.NetworkLaws.{packets_of, put_meant}
use Rattle.bank.specs.Steps.{accepted, refused, after, with_column, fitting, acted}
use Rattle.bank.specs.Performs.{perform}
use Rattle.bank.specs.Pages.{write_refusal}
use Rattle.bank.specs.declared.bank.Step.TheVariants.{Send, Write}

abbrev message : Packet
message = Message 0 1 1 9

-- columns=3, root=0, up=0,0,1; the root has column 1 to send to, and n messages to it are under way
abbrev crowded : ℕ → State
crowded n =
    with_column
    (state (counting (fresh_bank (tree_of 3 0 (0 ∷ 0 ∷ 1 ∷ replicate 13 0))) n) (replicate capacity (head_of message)) (replicate capacity 9))
    0
    (record { running = true; number = 1; doors = 9; send = 2; awaited = 0; owed = 0; noted = 0; whole = true; sender = 0; mask = 0; pending = 0 })

-- with 512 it passes rows 2 to 4, and "a send at 512 packets" is refused with 9; one at 511 is accepted
pub full : (bank_refusal (crowded 512) ≡ 0)
    × (perform (crowded 512) (Send 0) ≡ refused 9 (crowded 512))
    × ((after (perform (crowded 511) (Send 0))).bank.count ≡ 512)
unfolding every climbs_in tree_refusal state_refusal count_trailing_zeros packet_of places fresh_place bank_refusal put puts perform fitting acted core.packet_refusal core.send_refusal core.send_effect
full = (refl, refl, refl)

pub full_valid : Valid (crowded 512)
full_valid = valid (crowded 512) full.0

-- no packet is under way, and column 1 is halted
abbrev one_halted : State
one_halted = with_column (crowded 0) 1 no_column

-- "Only 5 and 7 can be written, at a halted column too"; "22 for .. a write elsewhere, after 4"
pub with_halts_written : (perform one_halted (Write 1 5 255) ≡ accepted (with_column one_halted 1 (with_registers no_column 255 0)))
    × (perform one_halted (Write 1 6 255) ≡ refused 22 one_halted)
    × (perform one_halted (Write 3 6 255) ≡ refused 4 one_halted)
unfolding every climbs_in tree_refusal state_refusal places fresh_place bank_refusal perform write_refusal written
with_halts_written = (refl, refl, refl)

pub last_put : packets_of (with_packet (crowded 511) message) ≡ packets_of (crowded 511) ++ (message ∷ [])
last_put =
    put_meant (crowded 511)
    (record { heads_length = length-replicate {A = ℕ} capacity (head_of message); doors_length = length-replicate {A = ℕ} capacity 9 })
    message
    (record { sender_lt = omega arith; receiver_lt = omega arith; number_lt = omega arith })
    (omega arith)
