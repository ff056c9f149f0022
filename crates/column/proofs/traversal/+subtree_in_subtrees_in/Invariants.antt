-- The number of calls left is the measure of both.
use Rattle.column.proofs.traversal.+subtree_in_subtrees_in.Given as goal

abbrev pub decreases-subtree_in : goal.decreases-subtree_in
decreases-subtree_in l = l.calls

abbrev pub decreases-subtrees_in : goal.decreases-subtrees_in
decreases-subtrees_in l = l.calls
