use Rattle.std.proofs.Common.{◌+◌, length, refl, sym, ap, ◌∙◌, arith}
use Rattle.text.specs.Text.{Reading}
use Rattle.text.specs.laws.Cutting.{end_found, none_found}
use Rattle.script.specs.Lines.{Command}
use Rattle.script.specs.Scripts.{answered}
use Rattle.script.specs.inner.ScriptLines.{replied}
use Rattle.script.specs.laws.ScriptLaws.{next_unended, next_ended}
use Rattle.script.proofs.script.next_line.Goals as goal

pub returns-in-Some : goal.returns-in-Some
returns-in-Some c p e =
    let input = c.args.input.now in
    let end = c.in-Some.end in
    let h = c.in-Some.ensures.end in
    next_ended input p end (omega (arith, e)) (rw e (end_found input c.args.start end h (omega arith))) h.1
    ∙ ap (λ (x : Reading Command). replied (end + 1) (answered p.state x)) (rw e (sym c.parse.ensures))

pub returns-in-None : goal.returns-in-None
unfolding answered
returns-in-None c p e =
    let input = c.args.input.now in
    next_unended input p (length input) (omega (arith, e)) (rw e (none_found input c.args.start c.in-None.ensures.none (omega arith))) refl
