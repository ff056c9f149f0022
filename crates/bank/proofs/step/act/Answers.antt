use borrow.Author.Rules.{rules}
use Rattle.std.proofs.lemmas.Result.{err_from_is_err_and}
use mathlib.Core.Path.{refl, sym}
use native.Mathlib.Omega.{arith}
use Prim.Native.Nat.{◌<◌}
use Rattle.column.specs.laws.TreeLaws.{tree_sixteen}
use Rattle.bank.specs.Banks.{state}
use Rattle.bank.specs.laws.StepLaws.{earlier_refused, earlier_passed}
use Rattle.bank.proofs.laws.ChangeLaws.{running_is_of}
use Rattle.bank.proofs.laws.MoveLaws.{Opened, opened, opening_refused}
use Rattle.bank.proofs.step.act.Goals as goal
use Rattle.bank.proofs.step.act.Goals.{In_ok-check_opening}

-- what the tests have let pass
known : (c : In_ok-check_opening) → let a = c.args in Opened (state a.b a.network.now.heads a.network.now.doors) a.x a.i
known c =
    let a = c.args in
    opened (state a.b a.network.now.heads a.network.now.doors) a.x a.i c.requires (sym (earlier_passed (c.in_ok-running.ensures.refuses a.network.now.doors) c.in_ok-check_opening.ensures))

small : (c : In_ok-check_opening) → c.args.i < 16
small c = omega (arith, (known c).below, tree_sixteen _ (known c).stood.tree)

pub returns-in_err-running : goal.returns-in_err-running
returns-in_err-running c =
    let a = c.args in
    let p = err_from_is_err_and c.from_residual.result c.from_residual.ensures.1 in
    rw (p.1, p.2) (opening_refused (state a.b a.network.now.heads a.network.now.doors) a.x a.i _ c.requires (earlier_refused _ _ _ (c.in_err-running.ensures.refuses a.network.now.doors)))

pub returns-in_err-check_opening : goal.returns-in_err-check_opening
returns-in_err-check_opening c =
    let a = c.args in
    let q = c.from_residual-in_err-check_opening in
    let p = err_from_is_err_and q.result q.ensures.1 in
    rw (p.1, p.2) (opening_refused (state a.b a.network.now.heads a.network.now.doors) a.x a.i _ c.requires (earlier_passed (c.in_ok-running.ensures.refuses a.network.now.doors) c.in_err-check_opening.ensures))

pub offset_bounds-b-i : goal.offset_bounds-b-i
offset_bounds-b-i c = search (rules, small (goal.at.offset_bounds-b-i c).In_ok-check_opening)

pub bounds-b-i : goal.bounds-b-i
bounds-b-i c = search (rules, small (goal.at.bounds-b-i c).In_ok-check_opening)

pub change-requires : goal.change-requires
change-requires c =
    let w = known (goal.at.change-requires c).In_ok-check_opening in
    (c.requires.0, (w.stood.room, w.there))

pub returns-in_err-r : goal.returns-in_err-r
returns-in_err-r c =
    let a = c.args in
    let v = c.in_ok-running.ensures in
    let w = known (goal.at.returns-in_err-r c).In_ok-check_opening in
    let q = c.from_residual-in_err-r in
    let p = err_from_is_err_and q.result q.ensures.1 in
    rw (p.1, p.2) (c.in_err-r.ensures a.b.columns refl (running_is_of a.b v.running_is) (sym (v.refuses a.network.now.doors)) w.below w.actor)

pub offset_bounds-b-i-2 : goal.offset_bounds-b-i-2
offset_bounds-b-i-2 c = search (rules, small (goal.at.offset_bounds-b-i-2 c).In_ok-check_opening)

pub bounds-b-i-2 : goal.bounds-b-i-2
bounds-b-i-2 c = search (rules, small (goal.at.bounds-b-i-2 c).In_ok-check_opening)

pub returns : goal.returns
returns c =
    let a = c.args in
    let v = c.in_ok-running.ensures in
    let w = known (goal.at.returns c).In_ok-check_opening in
    c.in_ok-r.ensures a.b.columns refl (running_is_of a.b v.running_is) (sym (v.refuses a.network.now.doors)) w.below w.actor
