use Rattle.std.proofs.Common.{arith}
use Rattle.text.specs.Text.{table_ok}
use Rattle.text.specs.laws.WritingLaws.{puts_all}
use Rattle.script.specs.Advances.{progress_of}
use Rattle.script.specs.laws.ScriptLaws.{text_advanced}
use Rattle.script.proofs.script.first.Goals as goal

pub returns-in-Ok : goal.returns-in-Ok
returns-in-Ok c heads doors =
    let a = c.args in
    rw (c.run_to.ensures, ← c.in-Ok.ensures (progress_of a.r heads doors a.out.now))
    (text_advanced _ (puts_all table_ok (omega (arith, c.requires)) c.put_all-length.ensures))

pub returns-in-Err : goal.returns-in-Err
returns-in-Err c heads doors =
    let a = c.args in
    rw (c.run_to-in-Err.ensures, ← c.in-Err.ensures (progress_of a.r heads doors a.out.now)) (text_advanced _ c.put_refused-length.ensures)
