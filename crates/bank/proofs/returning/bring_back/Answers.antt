use borrow.Author.Rules.{rules}
use Rattle.std.proofs.lemmas.Result.{err_from_is_err_and}
use Prim.Native.Nat.{ℕ, ◌≤◌, ◌<◌}
use mathlib.Core.Path.{◌≡◌, refl, sym, ap, ◌∙◌}
use mathlib.Core.List.{List, []}
use native.Mathlib.Omega.{arith}
use Rattle.column.specs.Refusals.{first}
use Rattle.column.specs.Sets.{lowest}
use Rattle.column.specs.laws.SetLaws.{selected_lt}
use Rattle.column.specs.laws.Digits.{lowest_lt}
use Rattle.column.specs.laws.TreeLaws.{check_exact, tree_sixteen}
use Rattle.column.specs.declared.state.Column.{Column}
use Rattle.bank.specs.Banks.{state, column_at, runs, running_of}
use Rattle.bank.specs.laws.ValidityLaws.{valid}
use Rattle.bank.specs.laws.StepLaws.{refused_unless, unless_goes, earlier_refused}
use Rattle.bank.specs.Steps.{accepted, with_place}
use Rattle.bank.specs.Returns.{back_refusal, with_struck, returned}
use Rattle.bank.specs.inner.Returning.{returning_conditions, returning_refusal, rejoining}
use Rattle.bank.proofs.laws.ReturnLaws.{Returning, returning, returning_refusal_lem, rejoining_struck}
use Rattle.bank.specs.declared.bank.Bank.{Bank}
use Rattle.bank.proofs.returning.bring_back.Goals as goal
use Rattle.bank.proofs.returning.bring_back.Goals.{After-lowest-l, In_ok-check_back, In_ok-running}

sixteen : (c : In_ok-running) → c.args.b.tree.columns ≤ 16
sixteen c = tree_sixteen _ (valid (state c.args.b c.args.heads.now []) (sym (c.in_ok-running.ensures.refuses []))).tree

-- what is tested is what a return asks
own : (c : In_ok-running) (doors : List ℕ) → let a = c.args in
    first (returning_conditions a.b c.in_ok-running.running a.j) ≡ back_refusal (state a.b a.heads.now doors) a.j
unfolding returning_refusal
own c doors =
    let a = c.args in
    let v = c.in_ok-running.ensures in
    returning_refusal_lem (state a.b a.heads.now doors) a.j (v.refuses doors) (λ _. v.running_is)

-- what the tests have let pass
known : (c : In_ok-check_back) → let a = c.args in Returning (state a.b a.heads.now []) a.j
known c =
    let a = c.args in
    returning (state a.b a.heads.now []) a.j (sym (c.in_ok-check_back.ensures ∙ own c.before.before.before.before []))

small : (c : In_ok-check_back) → c.args.j < 16
small c = omega (arith, (known c).below, sixteen c.before.before.before.before)

low : (c : After-lowest-l) → c.lowest-l.result < 16
low c =
    let b = c.args.b in
    let k = c.before.before in
    let some : running_of b ≡ 0 → ⊥ = (known k).some_run in
    omega (arith, c.lowest-l.ensures ∙ ap lowest c.in_ok-running.ensures.running_is, lowest_lt 16 (running_of b) (selected_lt (runs b) b.tree.columns 16 (sixteen k.before.before.before.before)) (omega (arith, some)))

pub returns-in_err-running : goal.returns-in_err-running
unfolding back_refusal
returns-in_err-running c =
    let a = c.args in
    let p = err_from_is_err_and c.from_residual.result c.from_residual.ensures.1 in
    λ doors.
    rw (p.1, p.2) (refused_unless (state a.b a.heads.now doors) _ (back_refusal (state a.b a.heads.now doors) a.j) _ (earlier_refused _ _ _ (c.in_err-running.ensures.refuses doors)))

pub check_back-requires : goal.check_back-requires
check_back-requires c = (sixteen (goal.at.check_back-requires c).In_ok-running, c.in_ok-running.ensures.running_is)

pub returns-in_err-check_back : goal.returns-in_err-check_back
returns-in_err-check_back c =
    let a = c.args in
    let q = c.from_residual-in_err-check_back in
    let p = err_from_is_err_and q.result q.ensures.1 in
    λ doors.
    rw (p.1, p.2) (refused_unless (state a.b a.heads.now doors) _ (back_refusal (state a.b a.heads.now doors) a.j) _ (c.in_err-check_back.ensures ∙ own (goal.at.returns-in_err-check_back c).In_ok-running doors))

pub strike_noted-d-requires : goal.strike_noted-d-requires
strike_noted-d-requires c = sixteen (goal.at.strike_noted-d-requires c).In_ok-running

pub offset_bounds-d-j : goal.offset_bounds-d-j
offset_bounds-d-j c = search (rules, small (goal.at.offset_bounds-d-j c).In_ok-check_back)

pub bounds-d-j : goal.bounds-d-j
bounds-d-j c = search (rules, small (goal.at.bounds-d-j c).In_ok-check_back)

pub offset_bounds-d-l : goal.offset_bounds-d-l
offset_bounds-d-l c = search (rules, low (goal.at.offset_bounds-d-l c).After-lowest-l)

pub bounds-d-l : goal.bounds-d-l
bounds-d-l c = search (rules, low (goal.at.bounds-d-l c).After-lowest-l)

pub come_back-requires : goal.come_back-requires
come_back-requires c =
    let e : c.strike_noted-d.result.tree.columns ≡ c.args.b.tree.columns = ap (λ (x : Bank). x.tree.columns) c.strike_noted-d.ensures in
    omega (arith, e, sixteen (goal.at.come_back-requires c).In_ok-running)

pub offset_bounds-d-j-2 : goal.offset_bounds-d-j-2
offset_bounds-d-j-2 c = search (rules, small (goal.at.offset_bounds-d-j-2 c).In_ok-check_back)

pub bounds-d-j-2 : goal.bounds-d-j-2
bounds-d-j-2 c = search (rules, small (goal.at.bounds-d-j-2 c).In_ok-check_back)

pub returns : goal.returns
unfolding returned
returns c =
    let a = c.args in
    let struck = c.strike_noted-d.result in
    let running = c.in_ok-running.running in
    let k = known (goal.at.returns c).In_ok-check_back in
    λ doors.
    let s = state a.b a.heads.now doors in
    ap (λ (x : Bank). accepted (state x a.heads.now doors))
    (ap (λ (y : Column). with_place struck a.j y)
    (c.come_back.ensures ∙ ap (λ (k : ℕ). rejoining struck.tree running (column_at struck a.j) (column_at struck k) a.j) c.lowest-l.ensures)
    ∙ ap (λ (x : Bank). with_place x a.j (rejoining x.tree running (column_at x a.j) (column_at x (lowest running)) a.j)) c.strike_noted-d.ensures
    ∙ ap (λ (y : Column). with_place (with_struck a.b a.j) a.j y)
    (rejoining_struck a.b a.j c.in_ok-running.ensures.running_is ((check_exact a.b.tree).0 k.valid.tree).root_below))
    ∙ unless_goes s (accepted (state (returned a.b a.j) a.heads.now doors)) 0 (back_refusal s a.j) (c.in_ok-check_back.ensures ∙ own (goal.at.returns c).In_ok-running doors) refl
