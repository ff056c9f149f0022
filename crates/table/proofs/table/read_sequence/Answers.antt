use Rattle.std.proofs.Common.{sym, ◌∙◌}
use Rattle.table.specs.laws.TableLaws.{line_of, sequence_unended, sequence_ended}
use Rattle.table.proofs.table.read_sequence.Goals as goal

pub returns-in_err-end-clause-line : goal.returns-in_err-end-clause-line
returns-in_err-end-clause-line c =
    rw (sequence_unended c.args.rest.now (sym c.starts_with.ensures ∙ c.if-not-starts_with.false) c.in_err-end.ensures.none) c.from_residual.ensures

pub returns-in_err-list-clause-line : goal.returns-in_err-list-clause-line
unfolding line_of
returns-in_err-list-clause-line c =
    rw (sequence_ended c.args.rest.now (sym c.starts_with.ensures ∙ c.if-not-starts_with.false) c.in_ok-end.end c.in_ok-end.ensures.end, ← c.in_err-list.ensures)
    c.from_residual-in_err-list.ensures

pub returns-clause-line : goal.returns-clause-line
unfolding line_of
returns-clause-line c =
    rw (sequence_ended c.args.rest.now (sym c.starts_with.ensures ∙ c.if-not-starts_with.false) c.in_ok-end.end c.in_ok-end.ensures.end, ← c.in_ok-list.ensures)
