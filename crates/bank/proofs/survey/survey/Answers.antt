use Rattle.std.proofs.lemmas.Result.{err_from_is_err_and}
use mathlib.Core.Path.{sym}
use mathlib.Core.List.{[]}
use native.Mathlib.Omega.{arith}
use Rattle.column.specs.laws.TreeLaws.{tree_sixteen}
use Rattle.bank.specs.Banks.{state}
use Rattle.bank.specs.laws.ValidityLaws.{valid}
use Rattle.bank.specs.laws.SurveyLaws.{passing_start, passing_on, passing_tells}
use Rattle.bank.proofs.survey.survey.Goals as goal

pub loop-j-init : goal.loop-j-init
loop-j-init c = passing_start c.args.b.now c.places-n.ensures c.unseen-v.ensures

pub loop-j-preserved : goal.loop-j-preserved
loop-j-preserved c = passing_on c.args.b.now c.loop-j.invariant (omega arith) c.see-v.ensures

pub returns-in_err-check_seen : goal.returns-in_err-check_seen
returns-in_err-check_seen c =
    let a = c.args in
    let p = err_from_is_err_and c.from_residual.result c.from_residual.ensures.1 in
    rw (p.1, p.2) record {
      refuses = (passing_tells a.b.now c.places-n.ensures a.heads.now c.loop-j.invariant (omega arith) c.in_err-check_seen.ensures).0;
      running_is = tt;
    }

pub returns : goal.returns
returns c =
    let a = c.args in
    let t = passing_tells a.b.now c.places-n.ensures a.heads.now c.loop-j.invariant (omega arith) c.in_ok-check_seen.ensures in
    record {
      refuses = t.0;
      running_is = t.1 (tree_sixteen a.b.now.tree (valid (state a.b.now a.heads.now []) (sym (t.0 []))).tree);
    }
