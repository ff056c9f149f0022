use Rattle.std.proofs.Common.{sym}
use Rattle.column.specs.laws.TreeLaws.{tree_sixteen}
use Rattle.column.proofs.topology.subtrees.Goals as goal

pub subtrees_in-requires : goal.subtrees_in-requires
subtrees_in-requires c = tree_sixteen _ (sym c.in_ok-check_tree.ensures)
