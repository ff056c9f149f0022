use Rattle.std.proofs.Common.{◌+◌, ◌*◌, ◌≤◌, ◌≡◌, length, take}
use Rattle.journals.specs.inner.KeyedLines.{shortest_line}
use Rattle.journals.specs.laws.KeyedLineLaws.{keyed_all, with_front}
use Rattle.journals.proofs.lines.read_lines.Given as goal

abbrev pub invariant-loop-rest : goal.invariant-loop-rest
invariant-loop-rest l =
    (shortest_line * l.count + length l.rest ≤ length l.text)
    × (keyed_all (length l.text) l.owner l.text ≡ with_front (take l.count l.lines) (keyed_all (length l.text) l.owner l.rest))

abbrev pub decreases-loop-rest : goal.decreases-loop-rest
decreases-loop-rest l = length l.rest
