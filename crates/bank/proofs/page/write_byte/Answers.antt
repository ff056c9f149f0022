use borrow.Author.Rules.{rules}
use Rattle.std.proofs.lemmas.Result.{err_from_is_err_and}
use Prim.Native.Nat.{◌<◌}
use mathlib.Core.Path.{sym, ap, ◌∙◌}
use mathlib.Core.List.{[]}
use native.Mathlib.Omega.{arith}
use Rattle.column.specs.laws.TreeLaws.{tree_sixteen}
use Rattle.column.specs.declared.state.Column.{Column}
use Rattle.bank.specs.Banks.{state, acting_refusal}
use Rattle.bank.specs.laws.ValidityLaws.{acting}
use Rattle.bank.specs.laws.StepLaws.{earlier_refused, refused_unless}
use Rattle.bank.specs.Steps.{accepted, with_place}
use Rattle.bank.specs.Pages.{write_refusal}
use Rattle.bank.proofs.page.write_byte.Goals as goal
use Rattle.bank.proofs.page.write_byte.Goals.{In_ok-check_acting}

-- the bank has the column
below : (c : In_ok-check_acting) → c.args.i < 16
below c =
    let a = c.args in
    let s = state a.b a.heads.now [] in
    let q = acting s a.i (sym (c.in_ok-check_acting.ensures [])) in
    omega (arith, q.1, tree_sixteen s.bank.tree q.0.tree)

pub returns-in_err-check_acting : goal.returns-in_err-check_acting
unfolding write_refusal
returns-in_err-check_acting c =
    let a = c.args in
    let p = err_from_is_err_and c.from_residual.result c.from_residual.ensures.1 in
    let is = c.in_err-check_acting.ensures in
    λ doors.
    let s = state a.b a.heads.now doors in
    rw (p.1, p.2) (refused_unless s _ (write_refusal s a.i a.offset) _ (earlier_refused _ (acting_refusal s a.i) _ (is doors)))

pub returns-then-not-writable : goal.returns-then-not-writable
unfolding write_refusal
returns-then-not-writable c =
    let a = c.args in
    λ doors.
    rw (sym (c.in_ok-check_acting.ensures doors), sym c.writable.ensures, c.if-not-writable.true-raw)

pub offset_bounds-b-i : goal.offset_bounds-b-i
offset_bounds-b-i c = search (rules, below (goal.at.offset_bounds-b-i c).In_ok-check_acting)

pub bounds-b-i : goal.bounds-b-i
bounds-b-i c = search (rules, below (goal.at.bounds-b-i c).In_ok-check_acting)

pub offset_bounds-b-i-2 : goal.offset_bounds-b-i-2
offset_bounds-b-i-2 c = search (rules, below (goal.at.offset_bounds-b-i-2 c).In_ok-check_acting)

pub bounds-b-i-2 : goal.bounds-b-i-2
bounds-b-i-2 c = search (rules, below (goal.at.bounds-b-i-2 c).In_ok-check_acting)

pub returns : goal.returns
unfolding write_refusal
returns c =
    let a = c.args in
    λ doors.
    ap (λ (y : Column). accepted (state (with_place a.b a.i y) a.heads.now doors)) c.written.ensures
    ∙ rw (sym (c.in_ok-check_acting.ensures doors), sym c.writable.ensures, c.if-not-writable.false-raw)
