use Rattle.std.proofs.Common.{[], ◌∷◌, refl, arith}
use Rattle.column.specs.Packets.{low_first}
use Rattle.firmware.specs.laws.FillLaws.{begun, byte_more, more, all_filled}
use Rattle.firmware.proofs.laws.ByteLaws.{doors_more, number_more, set_more}
use Rattle.firmware.proofs.block.put_column.Goals as goal

pub returns : goal.returns
unfolding low_first
returns c =
    let x = c.args.c in
    let l = c.requires in
    let layout = byte_more 34 (begun c.args.out.now) (omega (arith, l)) in
    let own = byte_more c.args.own layout (omega (arith, l)) in
    let doors = doors_more x.doors own c.to_le_bytes.ensures c.put_bytes.ensures in
    let number = number_more x.number doors c.to_be_bytes.ensures c.put_bytes-2.ensures in
    let send = set_more x.send number c.to_be_bytes-2.ensures c.put_bytes-3.ensures in
    let awaited = set_more x.awaited send c.to_be_bytes-3.ensures c.put_bytes-4.ensures in
    let owed = set_more x.owed awaited c.to_be_bytes-4.ensures c.put_bytes-5.ensures in
    let noted = set_more x.noted owed c.to_be_bytes-5.ensures c.put_bytes-6.ensures in
    rw (← c.status_of-status.ensures) (all_filled (more (c.status_of-status.result ∷ x.mask ∷ x.pending ∷ []) 3 noted c.put_bytes-7.ensures refl) l)
