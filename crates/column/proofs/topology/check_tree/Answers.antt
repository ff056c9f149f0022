use Rattle.std.proofs.Common.{sym, ◌∙◌}
use Rattle.column.specs.laws.PlainTrees.{plain_refusal}
use Rattle.column.proofs.topology.check_tree.Goals as goal

pub returns-then-rises : goal.returns-then-rises
returns-then-rises c = sym (plain_refusal _ (sym c.rises.ensures ∙ c.if-rises.true))
