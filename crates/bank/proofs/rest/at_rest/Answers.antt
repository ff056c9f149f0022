use mathlib.Core.Path.{sym, ◌∙◌}
use borrow.Author.Tests.{ne_eqb}
use Rattle.column.specs.laws.TreeLaws.{tree_sixteen}
use Rattle.bank.specs.Banks.{state}
use Rattle.bank.specs.Rest.{is_at_rest}
use Rattle.bank.specs.laws.ValidityLaws.{valid}
use Rattle.bank.specs.laws.StepLaws.{some_number}
use Rattle.bank.proofs.laws.RestLaws.{broken_rests, rest_columns}
use Rattle.bank.proofs.rest.at_rest.Goals as goal

pub returns-then-b-ne0 : goal.returns-then-b-ne0
unfolding is_at_rest
returns-then-b-ne0 c = rw (ne_eqb c.args.b.count 0 c.if-b-ne0.true)

pub columns_rest-requires : goal.columns_rest-requires
columns_rest-requires c =
    let a = c.args in
    let v = c.in-Ok.ensures in
    (tree_sixteen a.b.tree (valid (state a.b a.network.now.heads a.network.now.doors) (sym (v.refuses a.network.now.doors))).tree, v.running_is)

pub returns-in-Ok : goal.returns-in-Ok
returns-in-Ok c =
    let a = c.args in
    c.columns_rest.ensures ∙ rest_columns (state a.b a.network.now.heads a.network.now.doors) c.if-b-ne0.false (sym (c.in-Ok.ensures.refuses a.network.now.doors))

pub returns-in-Err : goal.returns-in-Err
returns-in-Err c =
    let a = c.args in
    sym (broken_rests (state a.b a.network.now.heads a.network.now.doors) c.if-b-ne0.false (λ e. some_number _ (c.in-Err.ensures.refuses a.network.now.doors ∙ e)))
