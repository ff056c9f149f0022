use Rattle.std.proofs.Common.{refl, sym, ◌∙◌}
use Rattle.std.proofs.Math.Nat.{sub-zero}
use Rattle.fastest_text.specs.laws.RequestLaws.{request_fewer, request_longer, request_whole}
use Rattle.fastest_text.proofs.request.read_request.Goals as goal

pub returns-in_err-one : goal.returns-in_err-one
returns-in_err-one c = rw c.from_residual.ensures (sym (request_fewer _ c.in_err-one.ensures.input_value refl))

pub returns-then-three-input : goal.returns-then-three-input
returns-then-three-input c =
    let k = c.in_ok-one.ensures in
    sym (request_longer _ k.input_value refl k.rising c.if-three-input.true)

pub returns : goal.returns
returns c =
    let k = c.in_ok-one.ensures in
    c.read_asked.ensures ∙ sym (rw sub-zero at (request_whole _ k.input_value refl k.rising c.if-three-input.false))
