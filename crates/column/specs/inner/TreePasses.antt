-- What the passes over a tree's lists answer, which the check of trees is made of.
use Rattle.std.specs.Prelude.{ℕ, ◌-◌, Bool, ◌&&◌, not, true, List, ◌≡◌, eqb, leb, ltb, get_or}
use Rattle.column.specs.Trees.{every, is_parent_below, lists_each, tree_in_sequence, tree_of}
use Rattle.column.specs.declared.tree.Tree.{Tree}

-- what both lists of a tree are tested for in one pass
abbrev pub lists_hold : Tree → Bool
lists_hold t = every (is_parent_below t) t.columns && lists_each t

-- place j of both lists where the parent is below n and lower than its child, of the root 0, and the sequence ascends
abbrev pub plain_at : ℕ → List ℕ → List ℕ → ℕ → Bool
plain_at n up first j = ltb (get_or up j 0) n && (leb (get_or up j 0) (j - 1) && eqb (get_or first j 0) j)

-- a tree that is seen to be one by a pass over its lists, without a climb: `plain_refusal` of PlainTrees
abbrev pub plainly : ℕ → ℕ → List ℕ → List ℕ → Bool
plainly n root up first = not (eqb n 0) && (leb n 16 && (eqb root 0 && every (plain_at n up first) n))

-- what the pass over both lists answers, and what a climb rests on: "each parent number is .. tested against the column count in a pass
-- made before any climb"
pub record Passes (r : Bool) (n : ℕ) (up first : List ℕ) : Type 0 where
  pub told : r ≡ lists_hold (tree_in_sequence n 0 up first)

pub record ParentsBelow (n : ℕ) (up : List ℕ) : Type 0 where
  pub each : every (is_parent_below (tree_of n 0 up)) n ≡ true

-- whether place j has c as its parent
abbrev pub names : List ℕ → ℕ → ℕ → Bool
names up c j = eqb (get_or up j 0) c
