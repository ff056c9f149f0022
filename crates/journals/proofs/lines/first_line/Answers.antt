use Rattle.std.proofs.Common.{arith}
use Rattle.std.proofs.lemmas.Result.{err_from_is_err_and}
use Rattle.journals.specs.inner.KeyedLines.{first_of}
use Rattle.journals.specs.laws.KeyedLineLaws.{first_ended}
use Rattle.journals.proofs.lines.first_line.Goals as goal

pub returns-in_err-line : goal.returns-in_err-line
unfolding first_of
returns-in_err-line c =
    let p = err_from_is_err_and c.from_residual.result c.from_residual.ensures.1 in
    rw (p.1, p.2, first_ended c.args.owner c.args.text.now c.in-Some.end c.in-Some.ensures.end.0 (omega (arith, c.in-Some.ensures.end.1)) (omega (arith, c.in-Some.ensures.end.1)), ← c.in_err-line.ensures)

pub returns : goal.returns
unfolding first_of
returns c =
    rw (c.key_of.ensures, first_ended c.args.owner c.args.text.now c.in-Some.end c.in-Some.ensures.end.0 (omega (arith, c.in-Some.ensures.end.1)) (omega (arith, c.in-Some.ensures.end.1)), ← c.in_ok-line.ensures)
