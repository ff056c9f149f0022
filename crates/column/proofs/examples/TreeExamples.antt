-- Worked examples of the choice.
use Rattle.std.specs.Prelude.{◌≡◌, refl, [], ◌∷◌}
use Rattle.column.specs.Trees.{choose}
use Rattle.column.specs.examples.TreeExamples.{tree, sequenced}

-- of columns 0 and 1 the first of the sequence is served, and in ascending numbers the lowest
pub earliest_chosen : choose (sequenced (2 ∷ 1 ∷ 0 ∷ [])) 3 ≡ 1
earliest_chosen = refl

pub lowest_chosen : choose (tree 3 0 (0 ∷ 0 ∷ 1 ∷ [])) 6 ≡ 1
lowest_chosen = refl
