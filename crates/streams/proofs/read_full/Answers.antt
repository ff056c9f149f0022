use Rattle.std.proofs.Common.{rules}
use Rattle.streams.proofs.Filling.{filled_more}
use Rattle.streams.proofs.read_full.Goals as goal

pub loop-done-preserved : goal.loop-done-preserved
loop-done-preserved g c =
    let before = c.loop-done.invariant in
    let read = c.in-Ok.ensures in
    (search rules, search rules, filled_more _ _ _ c.loop-done.bytes c.read.new.buf _ c.loop-done.done c.in-Ok.n before.1 read.bound.0 before.2 read.bytes.0)
