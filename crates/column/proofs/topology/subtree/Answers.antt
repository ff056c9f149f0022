use Rattle.std.proofs.Common.{sym, arith}
use Rattle.column.specs.laws.TreeLaws.{column_accepted}
use Rattle.column.proofs.topology.subtree.Goals as goal

pub subtree_in-requires : goal.subtree_in-requires
subtree_in-requires c = let p = column_accepted _ _ (sym c.in_ok-check_column.ensures) in (p.0, omega (arith, p.0, p.1))
