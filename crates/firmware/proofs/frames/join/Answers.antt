use Rattle.std.proofs.Common.{sym}
use lib.Seq.{length-take-le}
use Rattle.firmware.proofs.laws.ReadLaws.{read_among}
use Rattle.firmware.proofs.frames.join.Goals as goal

pub slice_bounds-put_bytes-end : goal.slice_bounds-put_bytes-end
slice_bounds-put_bytes-end c =
    let s = c.args.bytes.now in
    let used = c.in_ok-used.field-0.used in
    sym (length-take-le used s (read_among s _ c.in_ok-used.ensures))
