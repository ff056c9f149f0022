use Rattle.std.proofs.Common.{ℕ, List, ◌+◌, ◌<◌, ◌≤◌, ◌≡◌, Bool, true, false, sym, ap, ◌∙◌, length, set, take, arith, eqb-true}
use Rattle.std.specs.Bool.{◌==◌}
use Rattle.std.proofs.lemmas.Bool.{eqb-false}
use Rattle.std.proofs.lemmas.Result.{err_from_is_err_and}
use Rattle.journals.specs.laws.KeyedLineLaws.{keyed_all, with_front, first_stops, line_step, lines_end, with_none, with_refused, with_end, with_line}
use Rattle.journals.proofs.lines.read_lines.Goals as goal

-- a text that is left
some : {n : ℕ} {t : Bool} → t ≡ (n == 0) → t ≡ false → 1 ≤ n
some {n} e f = omega (arith, eqb-false n 0 (sym e ∙ f))

none : {n : ℕ} {t : Bool} → t ≡ (n == 0) → t ≡ true → n ≡ 0
none {n} e f = eqb-true n 0 (sym e ∙ f)

pub loop-rest-init : goal.loop-rest-init
loop-rest-init c = (omega arith, sym (with_none _))

pub returns-in_err-line-clause-all_lines : goal.returns-in_err-line-clause-all_lines
returns-in_err-line-clause-all_lines c =
    let p = err_from_is_err_and c.from_residual.result c.from_residual.ensures.1 in
    let rest = c.loop-rest.rest.now in
    let most = length c.args.text.now in
    let left : 1 ≤ length rest = some c.is_empty.ensures c.loop-rest-test.true in
    let lines = take c.loop-rest.count c.loop-rest.lines in
    let stops = first_stops most c.args.owner rest left (omega arith) _ (sym c.in_err-line.ensures) in
    rw (p.1, p.2) (sym (c.loop-rest.invariant.1 ∙ ap (with_front lines) stops ∙ with_refused lines _))

pub split_at-requires : goal.split_at-requires
split_at-requires c =
    let rest = c.loop-rest.rest.now in
    let left : 1 ≤ length rest = some c.is_empty.ensures c.loop-rest-test.true in
    let step = line_step (length c.args.text.now) c.args.owner rest left (omega arith) _ (sym c.in_ok-line.ensures) in
    step.inside

pub loop-rest-smaller : goal.loop-rest-smaller
loop-rest-smaller c =
    let rest = c.loop-rest.rest.now in
    let left : 1 ≤ length rest = some c.is_empty.ensures c.loop-rest-test.true in
    let step = line_step (length c.args.text.now) c.args.owner rest left (omega arith) _ (sym c.in_ok-line.ensures) in
    omega (arith, step.inside, step.long, c.split_at.ensures.back_len)

pub loop-rest-preserved : goal.loop-rest-preserved
loop-rest-preserved c =
    let rest = c.loop-rest.rest.now in
    let most = length c.args.text.now in
    let owner = c.args.owner in
    let left : 1 ≤ length rest = some c.is_empty.ensures c.loop-rest-test.true in
    let step = line_step most owner rest left (omega arith) _ (sym c.in_ok-line.ensures) in
    let lines = c.loop-rest.lines in
    let room : c.loop-rest.count < length lines = omega arith in (
      omega (arith, step.inside, step.long, c.split_at.ensures.back_len),
      c.loop-rest.invariant.1 ∙ ap (with_front (take c.loop-rest.count lines)) step.rest_lines
          ∙ with_line lines c.loop-rest.count c.in_ok-line.line _ room
          ∙ ap (λ (s : List ℕ). with_front (take (c.loop-rest.count + 1) (set lines c.loop-rest.count c.in_ok-line.line)) (keyed_all most owner s)) (sym c.split_at.ensures.back),
    )

pub returns-clause-all_lines : goal.returns-clause-all_lines
returns-clause-all_lines c =
    let lines = take c.loop-rest.count c.loop-rest.lines in
    let ends = lines_end (length c.args.text.now) c.args.owner c.loop-rest.rest.now (none c.is_empty.ensures c.loop-rest-test.false) in
    sym (c.loop-rest.invariant.1 ∙ ap (with_front lines) ends ∙ with_end lines)
