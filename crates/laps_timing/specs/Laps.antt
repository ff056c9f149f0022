-- What the timing programs share. No paper names it.
use Rattle.std.specs.Prelude.{ℕ, ◌+◌, ◌-◌, ◌*◌, ◌%◌, false, ◌&&◌, cond, List, [], ◌∷◌, map, leb, ltb}
use Rattle.std.specs.Int.Bits.{bit_or}
use Rattle.column.specs.declared.tree.Tree.{Tree}
use Rattle.column.specs.Trees.{ascending}

-- ---- the tree

-- the parents of a heap
abbrev pub parents : List ℕ
parents = 0 ∷ 0 ∷ 0 ∷ 1 ∷ 1 ∷ 2 ∷ 2 ∷ 3 ∷ 3 ∷ 4 ∷ 4 ∷ 5 ∷ 5 ∷ 6 ∷ 6 ∷ 7 ∷ []

-- the heap with the sequence that ascends, a byte joined to every number
abbrev pub heap_with : ℕ → ℕ → Tree
heap_with columns r = record { columns = columns; root = r; up = map (bit_or r) parents; first = map (bit_or r) ascending; watch = false }

-- ---- the fold

abbrev range : ℕ
range = 16777216

-- the sum after a lap that left a value
abbrev pub folded : ℕ → ℕ → ℕ
folded sum value = (sum % range * 31 + value % range) % range

-- ---- the number

-- eight digits
abbrev pub kept : ℕ
kept = 100000000

-- the number of the digits that a text begins with, with `high` before them, which is cut to eight digits
unfoldable pub number_from : ℕ → List ℕ → ℕ
number_from high [] = high
number_from high (b ∷ l) = cond (leb 48 b && ltb b 58) (number_from (high % kept * 10 + (b - 48)) l) high

abbrev pub number_of : List ℕ → ℕ
number_of l = number_from 0 l
