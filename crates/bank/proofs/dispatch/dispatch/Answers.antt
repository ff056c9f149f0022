use Rattle.std.proofs.lemmas.Result.{err_from_is_err_and}
use mathlib.Core.Path.{refl, sym, ap, ◌∙◌}
use Rattle.bank.specs.Banks.{state, bank_refusal}
use Rattle.bank.specs.Steps.{accepted}
use Rattle.bank.specs.Dispatch.{dispatch}
use Rattle.bank.specs.laws.StepLaws.{some_number, refused_unless, unless_goes}
use Rattle.bank.proofs.laws.turns.TurnsTaken.{broken}
use Rattle.bank.proofs.dispatch.dispatch.Goals as goal

pub returns-in_err-running : goal.returns-in_err-running
returns-in_err-running c =
    let a = c.args in
    let s = state a.b a.network.now.heads a.network.now.doors in
    let is = c.in_err-running.ensures.refuses a.network.now.doors in
    let p = err_from_is_err_and c.from_residual.result c.from_residual.ensures.1 in
    rw (p.1, p.2)
    record {
      count_is = (broken a.limit s (λ z. some_number _ (is ∙ z))).0;
      outcome_is = refused_unless s (accepted (dispatch a.limit s)) (bank_refusal s) _ is;
    }

pub take_turns-requires : goal.take_turns-requires
take_turns-requires c =
    let v = c.in_ok-running.ensures in
    (sym (v.refuses c.args.network.now.doors), v.running_is)

pub returns : goal.returns
returns c =
    let a = c.args in
    let s = state a.b a.network.now.heads a.network.now.doors in
    let r = c.take_turns.ensures in
    record {
      count_is = r.count_is;
      outcome_is = ap accepted r.bank_is ∙ unless_goes s (accepted (dispatch a.limit s)) 0 (bank_refusal s) (c.in_ok-running.ensures.refuses a.network.now.doors) refl;
    }
