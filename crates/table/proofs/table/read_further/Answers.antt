use Rattle.table.specs.Tables.{sequence_line, further_in}
use Rattle.table.specs.inner.HeldTables.{sequence_held}
use Rattle.table.specs.laws.HeldLaws.{nothing_read}
use Rattle.table.specs.laws.TableLaws.{both_lines, further_with}
use Rattle.table.proofs.table.read_further.Goals as goal

pub returns-in_err-sequence-clause-lines : goal.returns-in_err-sequence-clause-lines
unfolding further_in
returns-in_err-sequence-clause-lines c =
    rw (nothing_read sequence_held (sequence_line c.args.rest.now) c.in_err-sequence.ensures.line) c.from_residual.ensures

pub returns-in_err-watch-clause-lines : goal.returns-in_err-watch-clause-lines
unfolding both_lines
returns-in_err-watch-clause-lines c =
    rw (further_with c.args.rest.now c.in_ok-sequence.sequence c.in_ok-sequence.ensures.line, ← c.in_err-watch.ensures.line) c.from_residual-in_err-watch.ensures

pub returns-clause-lines : goal.returns-clause-lines
unfolding both_lines
returns-clause-lines c =
    rw (further_with c.args.rest.now c.in_ok-sequence.sequence c.in_ok-sequence.ensures.line, ← c.in_ok-watch.ensures.line)
