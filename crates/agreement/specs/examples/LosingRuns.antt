-- What `Losing` says of two columns whose root halts before it has sent its order: each of its premises holds.
use Rattle.std.specs.Prelude.{◌+◌, ◌<◌, ◌≡◌, refl, ◌⊎◌, replicate}
use Rattle.std.proofs.Common.{arith, sym, subst, ◌∙◌}
use Rattle.column.specs.Trees.{tree_of, every, climbs_in, tree_refusal}
use Rattle.column.specs.declared.tree.Tree.{Tree}
use Rattle.bank.specs.Banks.{State, column_at}
use Rattle.bank.specs.Rest.{Running, AtRest}
use Rattle.losses.specs.Losses.{losses_refusal, begun, ended, losses_of}
use Rattle.losses.specs.laws.LossesLaws.{begun_tree, ended_tree}
use Rattle.agreement.specs.Losing.{Counts, Losing}

abbrev two : Tree
two = tree_of 2 0 (replicate 16 0)

pub passes : losses_refusal two ≡ 0
unfolding losses_refusal tree_refusal every climbs_in
passes = refl

-- the set of column 0
abbrev root_gone : State
root_gone = ended (begun two 0) 1

module _ (losing : Losing) where
  counts : Counts two 0
  counts = losing two passes 0

  pub sum_said : let l = losses_of two 0 in l.kept + l.lost + l.none ≡ 4
  sum_said = counts.sum

  pub rests_said : AtRest root_gone
  rests_said = (counts.ends 1 (omega arith)).rests

  other_runs : Running root_gone 1
  other_runs =
      let below : 1 < root_gone.bank.tree.columns = subst (λ (t : Tree). 1 < t.columns) (sym (ended_tree (begun two 0) 1 ∙ begun_tree two 0)) (omega arith) in
      (below, (counts.ends 1 (omega arith)).others_run 1 (omega arith))

  pub record_said : (((column_at root_gone.bank 1).number ≡ 0) ⊎ ((column_at root_gone.bank 1).number ≡ 1)) × ((column_at root_gone.bank 1).doors ≡ 0)
  record_said = (counts.ends 1 (omega arith)).one_or_none 1 other_runs

  pub alike_said : (column_at root_gone.bank 1).number ≡ (column_at root_gone.bank 1).number
  alike_said = (counts.ends 1 (omega arith)).alike 1 1 other_runs other_runs
