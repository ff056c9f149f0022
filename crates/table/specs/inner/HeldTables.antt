-- A table as its reader holds it, line by line.
use Rattle.std.specs.Prelude.{ℕ, Bool, List, Option, Some, None}
use Rattle.column.specs.Trees.{ascending, tree_by}
use Rattle.column.specs.declared.tree.Tree.{Tree}
use Rattle.table.specs.Tables.{Sequence, unlisted, listed, SequenceLine, WatchLine, Further, Table, counted_refusal}
use Rattle.table.specs.inner.NumberLists.{list_of}
use Rattle.table.specs.declared.number_list.NumberList.{NumberList}
use Rattle.table.specs.declared.table.Parsed.{Parsed}
use Rattle.table.specs.declared.table.FurtherLines.{FurtherLines}
use Rattle.table.specs.declared.table.Lines.{Lines}

abbrev pub numbers_held : Sequence → Option NumberList
numbers_held unlisted = None
numbers_held (listed l) = Some (list_of l)

abbrev pub sequence_held : SequenceLine → Parsed (Option NumberList)
sequence_held s = record { value = numbers_held s.sequence; size = s.size }

abbrev pub watch_held : WatchLine → Parsed Bool
watch_held w = record { value = w.watch; size = w.size }

abbrev pub further_held : Further → Parsed FurtherLines
further_held f = record { value = record { listed = numbers_held f.sequence; watch = f.watch }; size = f.size }

abbrev pub lines_held : Table → Lines
lines_held t =
    record { columns = t.columns; root = t.root; parents = list_of t.up; listed = numbers_held t.sequence; watch = t.watch; end = t.end }

-- the places of a sequence, ascending where there is none
abbrev pub first_of : Option NumberList → List ℕ
first_of (Some l) = l.numbers
first_of None = ascending

abbrev pub tree_of_lines : Lines → Tree
tree_of_lines l = tree_by l.columns l.root l.parents.numbers (first_of l.listed) l.watch

-- how many columns a sequence lists, of so many
abbrev pub count_of : Option NumberList → ℕ → ℕ
count_of (Some l) columns = l.count
count_of None columns = columns

abbrev pub listed_in : Lines → ℕ
listed_in l = count_of l.listed l.columns

-- by which number the tree of these lines is refused
abbrev pub refusal_of_lines : Lines → ℕ
refusal_of_lines l = counted_refusal (tree_of_lines l) l.parents.count (listed_in l)
