use Prim.Native.Nat.{◌≤◌}
use native.Mathlib.Omega.{arith}
use lib.ListN.{length}
use borrow.Author.Rules.{rules}
use Rattle.script.specs.laws.FillLaws.{reaches_full, reaches_rest}
use Rattle.script.proofs.script.later.Goals as goal

pub returns-then-run-gt-ROOM : goal.returns-then-run-gt-ROOM
returns-then-run-gt-ROOM c = reaches_full c.lines-run.ensures c.if-run-gt-ROOM.true

pub returns : goal.returns
returns c =
    let within : c.lines-run.result.length ≤ length c.lines-run.new.out = omega arith in
    rw c.run_to.ensures (reaches_rest c.lines-run.ensures c.if-run-gt-ROOM.false (search rules) within c.put_rest-at.ensures)
