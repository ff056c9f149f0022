-- Worked examples of the check, of the choice, of children and of a subtree.
use Rattle.std.specs.Prelude.{ℕ, ◌-◌, ◌≡◌, refl, List, [], ◌∷◌, ◌++◌, length, replicate}
use Rattle.std.specs.Int.Count.{count_trailing_zeros}
use Rattle.column.specs.Sets.{selected}
use Rattle.column.specs.Trees.{tree_in_sequence, tree_of, choose, every, climbs_in, tree_refusal, children, subtree_in, subtrees_in, subtree}
use Rattle.column.specs.declared.tree.Tree.{Tree}

-- "All sixteen places are held, whatever the count"
abbrev pub tree : ℕ → ℕ → List ℕ → Tree
tree columns root up = tree_of columns root (up ++ replicate (16 - length up) 0)

-- each column's parent is the next one
abbrev chain : Tree
chain = tree 16 15 (1 ∷ 2 ∷ 3 ∷ 4 ∷ 5 ∷ 6 ∷ 7 ∷ 8 ∷ 9 ∷ 10 ∷ 11 ∷ 12 ∷ 13 ∷ 14 ∷ 15 ∷ 15 ∷ [])

-- "P `columns=1`, `up=0` is a tree."
pub lone_column : tree_refusal (tree 1 0 (0 ∷ [])) ≡ 0
unfolding tree_refusal every climbs_in
lone_column = refl

-- "P `up=0,2,1` is none."
pub circle_apart : tree_refusal (tree 3 0 (0 ∷ 2 ∷ 1 ∷ [])) ≡ 3
unfolding tree_refusal every climbs_in
circle_apart = refl

pub root_last : tree_refusal (tree 2 1 (1 ∷ 1 ∷ [])) ≡ 0
unfolding tree_refusal every climbs_in
root_last = refl

pub root_elsewhere : tree_refusal (tree 2 0 (1 ∷ 0 ∷ [])) ≡ 3
unfolding tree_refusal every climbs_in
root_elsewhere = refl

pub longest_climb : tree_refusal chain ≡ 0
unfolding tree_refusal every climbs_in
longest_climb = refl

pub seventeen : tree_refusal (tree 17 0 []) ≡ 2
unfolding tree_refusal every climbs_in
seventeen = refl

-- ---- three columns in a sequence; what is past them is not looked at

abbrev pub sequenced : List ℕ → Tree
sequenced first = tree_in_sequence 3 0 (0 ∷ 0 ∷ 1 ∷ replicate 13 0) (first ++ replicate (16 - length first) 99)

pub any_sequence : tree_refusal (sequenced (2 ∷ 0 ∷ 1 ∷ [])) ≡ 0
unfolding tree_refusal every climbs_in
any_sequence = refl

-- "A list that misses, repeats or exceeds a column is refused with 3."
pub column_repeated : tree_refusal (sequenced (2 ∷ 0 ∷ 2 ∷ [])) ≡ 3
unfolding tree_refusal every climbs_in
column_repeated = refl

pub column_exceeded : tree_refusal (sequenced (2 ∷ 0 ∷ 3 ∷ [])) ≡ 3
unfolding tree_refusal every climbs_in
column_exceeded = refl

pub nobody_chosen : choose (sequenced (2 ∷ 1 ∷ 0 ∷ [])) 0 ≡ 16
nobody_chosen = refl

pub one_child : children (tree 3 0 (0 ∷ 0 ∷ 1 ∷ [])) 0 ≡ 2
unfolding selected
one_child = refl

pub deepest_subtree : subtree chain 15 ≡ 65535
unfolding selected subtree_in subtrees_in count_trailing_zeros
deepest_subtree = refl
