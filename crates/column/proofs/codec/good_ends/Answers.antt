-- `codec::good_ends` meets its contract. Assumes nothing.
use native.Mathlib.Omega.{arith}
use borrow.Author.Tests.{lt-ltb, le-ltb}
use Rattle.column.specs.Packets.{sender, receiver}
use Rattle.column.proofs.codec.good_ends.Goals as goal

pub returns-then-from-ge16 : goal.returns-then-from-ge16
returns-then-from-ge16 c = rw (le-ltb (sender c.args.p) 16 (omega arith))

pub returns-then-to-ge16 : goal.returns-then-to-ge16
returns-then-to-ge16 c =
    let p = c.args.p in
    rw (lt-ltb (sender p) 16 (omega arith), le-ltb (receiver p) 16 (omega arith))

pub returns : goal.returns
returns c =
    let p = c.args.p in
    rw (lt-ltb (sender p) 16 (omega arith), lt-ltb (receiver p) 16 (omega arith), c.sender-from.ensures, c.receiver-to.ensures)
