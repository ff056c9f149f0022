-- `codec::write_in` meets its contract, for any kinds and any size of a number that fits.
-- Assumes nothing.
use Rattle.column.specs.Packets.{bytes_in}
use Rattle.column.specs.laws.PacketPlaces.{acknowledgement_put, doors_put}
use Rattle.column.proofs.codec.write_in.Goals as goal

pub returns-in-Message : goal.returns-in-Message
unfolding bytes_in
returns-in-Message c =
    let w = c.args.w in
    rw c.in-Message.is
    (doors_put w.message _ _ _ w.count c.requires _ c.without_doors-bytes.result c.put_low_first.new.out c.without_doors-bytes.ensures c.put_low_first.ensures)

pub returns-in-Acknowledgement : goal.returns-in-Acknowledgement
unfolding bytes_in
returns-in-Acknowledgement c =
    let w = c.args.w in
    rw c.in-Acknowledgement.is
    (acknowledgement_put w.acknowledgement _ _ _ w.count c.requires c.without_doors-bytes-in-Acknowledgement.result c.without_doors-bytes-in-Acknowledgement.ensures)
