-- The numbers of a line as the reader holds them: how many, and the first sixteen.
use Rattle.std.specs.Prelude.{ℕ, ◌+◌, cond, List, length, set, ltb}
use Rattle.table.specs.Tables.{sixteen}
use Rattle.table.specs.declared.number_list.NumberList.{NumberList}

abbrev pub list_of : List ℕ → NumberList
list_of l = record { count = length l; numbers = sixteen l }

unfoldable pub with_one : NumberList → ℕ → NumberList
with_one p n = record { count = p.count + 1; numbers = cond (ltb p.count 16) (set p.numbers p.count n) p.numbers }
