use Rattle.std.proofs.Common.{◌+◌, length, drop, length-drop, arith, refl, eq-eqb, ne_eqb}
use Rattle.std.proofs.Math.Nat.{sub-zero}
use Rattle.text.specs.laws.Cutting.{line_ended, line_unended, end_found, none_found}
use Rattle.losses_text.specs.LossTexts.{steps_in}
use Rattle.losses_text.proofs.request.step_count.Goals as goal

pub returns-in_err-end : goal.returns-in_err-end
unfolding steps_in
returns-in_err-end c =
    let s = c.args.text.now in
    rw (c.from_residual.ensures, line_unended s 0 (length s) (omega arith) (none_found s 0 c.in_err-end.ensures.none (omega arith)) refl)

pub returns-then-end-text : goal.returns-then-end-text
unfolding steps_in
returns-then-end-text c =
    let s = c.args.text.now in
    let r = c.in_ok-end.end in
    let e = c.in_ok-end.ensures.end in
    rw (
      line_ended s 0 r (omega arith) (end_found s 0 r e (omega arith)) e.1,
      ne_eqb (length (drop (r + 1) s)) 0 (λ z. omega (arith, z, length-drop (r + 1) s, c.if-end-text.true, e.1)),
    )

pub returns : goal.returns
unfolding steps_in
returns c =
    let s = c.args.text.now in
    let r = c.in_ok-end.end in
    let e = c.in_ok-end.ensures.end in
    rw (
      line_ended s 0 r (omega arith) (end_found s 0 r e (omega arith)) e.1,
      eq-eqb (length (drop (r + 1) s)) 0 (omega (arith, length-drop (r + 1) s, c.if-end-text.false)),
      sub-zero r,
    )
    c.read_keyed.ensures
