use Rattle.std.proofs.Common.{rules, tests, ◌∙◌, arith, not, take}
use Rattle.std.proofs.lemmas.Iterator.{YieldsList-from_slice}
use Rattle.std.proofs.lemmas.Iterator.Search.{all_from_yields_List}
use Rattle.column.specs.declared.state.Column.{Column}
use Rattle.bank.specs.Banks.{no_column}
use Rattle.losses.proofs.Taken.{every_taken}
use Rattle.losses.proofs.count.nobody_runs.Goals as goal

pub returns : goal.returns
returns c =
    let b = c.args.b in
    all_from_yields_List (λ (x : Column). not x.running) _ _ c.all.result c.all.ensures.ran (YieldsList-from_slice (take b.tree.columns b.columns) cc) (λ x b q k. search (rules, tests))
    ∙ every_taken (λ (x : Column). not x.running) b.columns no_column b.tree.columns (omega arith)
