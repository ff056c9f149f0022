-- The bank so far holds the columns of the places below i.
use borrow.Author.Rules.{rules}
use Rattle.std.proofs.lemmas.Result.{err_from_is_err_and}
use Prim.Native.Nat.{◌<◌}
use mathlib.Core.Path.{◌≡◌, sym, ap, ◌∙◌}
use mathlib.Core.List.{List}
use native.Mathlib.Omega.{arith}
use lib.ListN.{set}
use borrow.Author.Tests.{eq-eqb, ne_eqb}
use Rattle.column.specs.Trees.{tree_refusal}
use Rattle.column.specs.laws.TreeLaws.{tree_sixteen}
use Rattle.column.specs.declared.state.Column.{Column}
use Rattle.bank.specs.Banks.{no_column, no_bank, fresh_place}
use Rattle.bank.specs.laws.ValidityLaws.{places_set, partly_fresh, fresh_place_lem, fresh_whole}
use Rattle.bank.specs.Steps.{accepted, refused, fresh}
use Rattle.bank.specs.laws.StepLaws.{some_number}
use Rattle.bank.specs.declared.bank.Bank.{Bank}
use Rattle.bank.proofs.bank.fresh.Goals as goal
use Rattle.bank.proofs.bank.fresh.Goals.{After-fresh_under}

-- the next place is one of the sixteen
below : (c : After-fresh_under) → c.loop-i.i < 16
below c = omega (arith, tree_sixteen c.args.t (sym c.in_ok-check_tree.ensures))

pub returns-in_err-check_tree : goal.returns-in_err-check_tree
unfolding fresh
returns-in_err-check_tree c =
    let is = c.in_err-check_tree.ensures in
    let p = err_from_is_err_and c.from_residual.result c.from_residual.ensures.1 in
    rw (p.1, p.2, ne_eqb (tree_refusal c.args.t) 0 (λ z. some_number _ (is ∙ z))) (ap (λ n. refused n (no_bank c.args.t)) is)

pub offset_bounds-b-i : goal.offset_bounds-b-i
offset_bounds-b-i c = search (rules, below (goal.at.offset_bounds-b-i c).After-fresh_under)

pub bounds-b-i : goal.bounds-b-i
bounds-b-i c = below (goal.at.bounds-b-i c).After-fresh_under

pub loop-i-preserved : goal.loop-i-preserved
loop-i-preserved c =
    let t = c.args.t in
    let i = c.loop-i.i in
    let placed : Column → Bank = λ x. record { tree = t; columns = set (partly_fresh t i).columns i x; count = 0 } in (
      omega arith,
      rw c.loop-i.invariant.1
          (ap placed (c.fresh_under.ensures ∙ sym (fresh_place_lem t (sym c.in_ok-check_tree.ensures) i c.loop-i-test.true))
          ∙ ap (λ (x : List Column). record { tree = t; columns = x; count = 0 }) (places_set (fresh_place t) 16 i no_column (below (goal.at.loop-i-preserved c).After-fresh_under))),
    )

pub returns : goal.returns
unfolding fresh
returns c =
    let t = c.args.t in
    let end : c.loop-i.i ≡ t.columns = omega arith in
    rw (eq-eqb (tree_refusal t) 0 (sym c.in_ok-check_tree.ensures)) (ap accepted (c.loop-i.invariant.1 ∙ ap (partly_fresh t) end ∙ fresh_whole t (sym c.in_ok-check_tree.ensures)))
