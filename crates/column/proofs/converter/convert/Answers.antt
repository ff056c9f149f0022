use Rattle.std.proofs.Common.{sym}
use Rattle.column.specs.Conversions.{convert}
use Rattle.column.proofs.converter.convert.Goals as goal

pub returns-in-Ok : goal.returns-in-Ok
unfolding convert
returns-in-Ok c = rw (sym c.in-Ok.ensures) c.write_in.ensures

pub returns-in-Err : goal.returns-in-Err
unfolding convert
returns-in-Err c = rw (sym c.in-Err.ensures) c.narrowed.ensures
