use Rattle.std.proofs.Common.{arith}
use Rattle.firmware.specs.laws.FillLaws.{begun, byte_more, all_filled}
use Rattle.firmware.proofs.laws.ByteLaws.{doors_more, number_more}
use Rattle.firmware.proofs.packet_block.put_fields.Goals as goal

pub returns : goal.returns
returns c =
    let a = c.args in
    let l = c.requires in
    let kind = byte_more a.kind (begun a.out.now) (omega (arith, l)) in
    let from = byte_more a.from kind (omega (arith, l)) in
    let to = byte_more a.to from (omega (arith, l)) in
    let number = number_more a.number to c.to_be_bytes.ensures c.put_bytes.ensures in
    all_filled (doors_more a.doors number c.to_le_bytes.ensures c.put_bytes-2.ensures) l
