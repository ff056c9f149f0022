use Rattle.std.proofs.Common.{◌≡◌, length, drop}
use Rattle.text.specs.Pieces.{pieces, numerals}
use Rattle.table.specs.inner.Held.{held}
use Rattle.table.specs.inner.NumberLists.{list_of}
use Rattle.table.specs.laws.NumberListLaws.{held_after}
use Rattle.table.proofs.number_list.numbers_in.Given as goal

abbrev pub invariant-loop-piece : goal.invariant-loop-piece
invariant-loop-piece l =
    (l.list.count ≡ length l.yielded)
    × (held list_of (numerals (pieces l.text)) ≡ held_after l.list (numerals (drop (length l.yielded) (pieces l.text))))
