use Rattle.std.proofs.Common.{◌-◌, ◌/◌, ◌^◌, ◌≤◌, ◌≡◌}
use Rattle.text.specs.Text.{divided, Puts}
use Rattle.list.specs.Closing.{doors_up_to}
use Rattle.list.specs.laws.DoorLaws.{none_before}
use Rattle.list.proofs.list.put_doors.Given as goal

abbrev pub invariant-loop-rest : goal.invariant-loop-rest
invariant-loop-rest l =
    (l.door ≤ 64)
    × (l.rest ≡ l.doors / 2 ^ l.door)
    × (l.first ≡ none_before l.doors l.door)
    × Puts l.next l.out l.initial.out l.at (divided (doors_up_to l.door l.doors))

abbrev pub decreases-loop-rest : goal.decreases-loop-rest
decreases-loop-rest l = 64 - l.door
