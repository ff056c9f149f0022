-- What is still to be read joins the set so far.
use Rattle.std.proofs.Common.{◌≡◌, length, drop}
use Rattle.text.specs.Pieces.{pieces, numerals}
use Rattle.script.specs.Lines.{halt_after}
use Rattle.script.proofs.line.members_in.Given as goal

abbrev pub invariant-loop-piece : goal.invariant-loop-piece
invariant-loop-piece l = halt_after 0 (numerals (pieces l.text)) ≡ halt_after l.set (numerals (drop (length l.yielded) (pieces l.text)))
