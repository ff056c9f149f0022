use borrow.Author.Tests.{lt-ltb, le-ltb}
use Rattle.bank.specs.Words.{packet_of}
use Rattle.bank.proofs.words.packet.Goals as goal

pub returns-then-head-lt-ACKNOWLEDGING : goal.returns-then-head-lt-ACKNOWLEDGING
unfolding packet_of
returns-then-head-lt-ACKNOWLEDGING c = rw (lt-ltb _ _ c.if-head-lt-ACKNOWLEDGING.true, c.receiver_in-to.ensures, c.sender_in-from.ensures)

pub returns : goal.returns
unfolding packet_of
returns c = rw (le-ltb _ _ c.if-head-lt-ACKNOWLEDGING.false, c.receiver_in-to.ensures, c.sender_in-from.ensures)
