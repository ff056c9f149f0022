use Rattle.std.proofs.Common.{ℕ, List, ap₂, length}
use borrow.Author.Tests.{eq-eqb}
use Rattle.column.specs.Packets.{part}
use Rattle.firmware.specs.Calls.{filled_meant, packet_call}
use Rattle.firmware.proofs.laws.ReadLaws.{read_written}
use Rattle.firmware.proofs.packets.read.Goals as goal

pub returns : goal.returns
unfolding packet_call
returns c =
    let s = c.args.bytes.now in
    let q = part c.in_ok-p.field-0.packet c.in_ok-p.field-0.used in
    rw (eq-eqb (length c.args.packet.now) 15 c.if-packet-ne-MESSAGE_SIZE.false, ← c.in_ok-p.ensures, read_written s q c.in_ok-p.ensures (λ i. (c.type_inv.bytes i).fits))
    (ap₂ (λ (n : ℕ) (l : List ℕ). filled_meant n l) c.put_packet.ensures.0 c.put_packet.ensures.1)
