-- What the effects of a step know of a tree and two columns, once their bounds are tested.
use Rattle.std.specs.Prelude.{ℕ, ◌≤◌, ◌<◌}
use Rattle.column.specs.declared.tree.Tree.{Tree}

pub record Bounds (t : Tree) (i k : ℕ) : Type 0 where
  pub sixteen : t.columns ≤ 16
  pub column : i < 16
  pub other : k < 16
