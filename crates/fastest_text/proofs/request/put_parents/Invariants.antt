use Rattle.std.proofs.Common.{length, take}
use Rattle.text.specs.Text.{divided, Puts}
use Rattle.fastest_text.proofs.request.put_parents.Given as goal

abbrev pub invariant-loop-j : goal.invariant-loop-j
invariant-loop-j l = Puts l.next l.out l.initial.out l.at (divided (take l.j l.up))
