-- `codec::without_doors` meets its contract. Assumes nothing.
use Rattle.column.specs.laws.PacketPlaces.{number_put}
use Rattle.column.proofs.codec.without_doors.Goals as goal

pub returns : goal.returns
returns c =
    let a = c.args in
    number_put a.kind a.from a.to a.number a.count c.requires c.put_high_first.new.out c.put_high_first.ensures
