-- Worked examples of whom a send serves, and of a packet that is left.
use Rattle.std.specs.Prelude.{◌≡◌, refl, true, false, [], ◌∷◌}
use Rattle.std.specs.Int.Count.{count_trailing_zeros}
use Rattle.column.specs.Steps.{accepted, send_effect, message_effect}
use Rattle.column.specs.declared.packet.Packet.TheVariants.{Message, Acknowledgement}
use Rattle.column.specs.examples.StepExamples.{three, farthest, column}

-- a column that is to send to itself has "no more" to do, though it has noted itself
send_itself : send_effect three 1 (column true 6 0 0 2 true) ≡ accepted (column true 4 0 0 2 true) [] false
unfolding send_effect
send_itself = refl

-- in ascending numbers the lowest is served, with the record
send_lowest : send_effect three 0 (column true 6 0 0 0 true) ≡ accepted (column true 4 2 0 0 true) (Message 0 1 4 9 ∷ []) false
unfolding send_effect
send_lowest = refl

-- "Send then takes the member that stands earliest in that list, not the lowest."
send_earliest : send_effect farthest 0 (column true 6 0 0 0 true) ≡ accepted (column true 2 4 0 0 true) (Message 0 2 4 9 ∷ []) false
unfolding send_effect
send_earliest = refl

-- a higher number while two are owed: the lowest gets the present number, and the packet is left
take_left : message_effect three 1 (column true 4 0 5 0 false) 0 5 77 ≡ accepted (column true 4 0 4 0 false) (Acknowledgement 1 0 4 ∷ []) true
unfolding message_effect count_trailing_zeros
take_left = refl
