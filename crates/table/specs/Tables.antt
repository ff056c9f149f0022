-- The bank's table as text, after document 01, "The bank and its table", and document 02, Points 6 and 9.
use Rattle.std.specs.Prelude.{ℕ, ◌+◌, Bool, true, false, not, cond, List, [], ◌∷◌, ◌++◌, eqb, ltb, length, take, drop, replicate}
use Rattle.column.specs.Refusals.{first, earlier}
use Rattle.column.specs.Trees.{ascending, tree_by, tree_of, tree_refusal}
use Rattle.column.specs.declared.tree.Tree.{Tree}
use Rattle.text.specs.Text.{columns_key, root_key, up_key, first_key, watch_key, watches_root, watches_sender, Reading, read, unread, starts_with, newline, field, divided}
use Rattle.text.specs.Pieces.{Cut, ended, unended, numbers, cut, keyed, ThreeLines, three_lines}
use Rattle.bank.specs.Steps.{Result, accepted, refused}

-- ---- the lines

-- the numbers of the sequence's line, where the table has one
pub data Sequence : Type 0 where
  unlisted : Sequence
  listed : List ℕ → Sequence

-- a sequence, and how many bytes its line takes
pub record SequenceLine : Type 0 where
  pub sequence : Sequence
  pub size : ℕ

unfoldable pub listed_line : Reading (List ℕ) → ℕ → Reading SequenceLine
listed_line (read l) size = read (record { sequence = listed l; size = size })
listed_line unread size = unread

unfoldable pub sequence_in : Cut → Reading SequenceLine
sequence_in (ended line rest) = listed_line (numbers first_key line) (length line + 1)
sequence_in unended = unread

-- "If the line after the third begins `first=`, it is the table's": of what follows the third line
unfoldable pub sequence_line : List ℕ → Reading SequenceLine
sequence_line s = cond (starts_with first_key s) (sequence_in (cut s)) (read (record { sequence = unlisted; size = 0 }))

-- whom columns watch, true where it is who sent their record, and how many bytes the watch's line takes
pub record WatchLine : Type 0 where
  pub watch : Bool
  pub size : ℕ

-- document 02, Point 9: "A next line beginning `watch=` closes the table, as `watch=root` or `watch=sender`; without it, root."
unfoldable pub watch_line : List ℕ → Reading WatchLine
watch_line s =
    cond (starts_with watch_key s)
    (cond (starts_with watches_root s) (read (record { watch = false; size = length watches_root }))
    (cond (starts_with watches_sender s) (read (record { watch = true; size = length watches_sender })) unread))
    (read (record { watch = false; size = 0 }))

-- the lines after the third, and how many bytes they take
pub record Further : Type 0 where
  pub sequence : Sequence
  pub watch : Bool
  pub size : ℕ

unfoldable pub with_watch : SequenceLine → Reading WatchLine → Reading Further
with_watch s (read w) = read (record { sequence = s.sequence; watch = w.watch; size = s.size + w.size })
with_watch s unread = unread

-- the watch's line is looked for after the sequence's
unfoldable pub further_in : Reading SequenceLine → List ℕ → Reading Further
further_in (read s) rest = with_watch s (watch_line (drop s.size rest))
further_in unread rest = unread

abbrev pub further_lines : List ℕ → Reading Further
further_lines rest = further_in (sequence_line rest) rest

-- the numbers of a table, and how many bytes it takes
pub record Table : Type 0 where
  pub columns : ℕ
  pub root : ℕ
  pub up : List ℕ
  pub sequence : Sequence
  pub watch : Bool
  pub end : ℕ

-- three lines that take `size` bytes, and those after them
unfoldable pub joined : Reading ℕ → Reading ℕ → Reading (List ℕ) → Reading Further → ℕ → Reading Table
joined (read columns) (read root) (read up) (read s) size =
    read (record { columns = columns; root = root; up = up; sequence = s.sequence; watch = s.watch; end = size + s.size })
joined (read columns) (read root) (read up) unread size = unread
joined (read columns) (read root) unread s size = unread
joined (read columns) unread up s size = unread
joined unread root up s size = unread

unfoldable pub table_in : Reading ThreeLines → Reading Table
table_in (read l) =
    joined (keyed columns_key 2 l.one) (keyed root_key 2 l.two) (numbers up_key l.three) (further_lines l.rest)
    (length l.one + 1 + (length l.two + 1) + (length l.three + 1))
table_in unread = unread

abbrev pub table_of : List ℕ → Reading Table
table_of s = table_in (three_lines s)

-- ---- the tree, or the refusal: "Tables are checked in the order 1, 2, 3"

-- the first sixteen numbers of a line; places past them hold 0
abbrev pub sixteen : List ℕ → List ℕ
sixteen l = take 16 (l ++ replicate 16 0)

-- "Without it, ascending numbers."
abbrev pub sequence_of : Sequence → List ℕ
sequence_of unlisted = ascending
sequence_of (listed l) = sixteen l

abbrev pub tree_in : Table → Tree
tree_in t = tree_by t.columns t.root (sixteen t.up) (sequence_of t.sequence) t.watch

-- how many columns a sequence lists, of so many
abbrev pub count_listed : Sequence → ℕ → ℕ
count_listed unlisted columns = columns
count_listed (listed l) columns = length l

-- "Tables are checked in the order 1, 2, 3"; row 3: "`up` of another length", and so of the sequence: a tree with the counts of both
abbrev pub counted_conditions : Tree → ℕ → ℕ → List (ℕ × Bool)
counted_conditions t parents sequence =
    (2, eqb t.columns 0)
    ∷ (2, ltb 16 t.columns)
    ∷ (3, not (eqb parents t.columns))
    ∷ (3, not (eqb sequence t.columns))
    ∷ []

abbrev pub counted_refusal : Tree → ℕ → ℕ → ℕ
counted_refusal t parents sequence = earlier (first (counted_conditions t parents sequence)) (tree_refusal t)

unfoldable pub table_refusal : Table → ℕ
table_refusal t = counted_refusal (tree_in t) (length t.up) (count_listed t.sequence t.columns)

-- a tree, and the place after its table
pub record Placed : Type 0 where
  pub tree : Tree
  pub end : ℕ

abbrev pub placed_at : Tree → ℕ → Placed
placed_at t end = record { tree = t; end = end }

-- beside a refusal there is no tree
abbrev pub no_tree : Placed
no_tree = placed_at (tree_of 0 0 (replicate 16 0)) 0

-- row 1: "table not of the form above"
unfoldable pub judged : Reading Table → Result Placed
judged (read t) =
    cond (eqb (table_refusal t) 0) (accepted (placed_at (tree_in t) t.end)) (refused (table_refusal t) no_tree)
judged unread = refused 1 no_tree

abbrev pub read_table : List ℕ → Result Placed
read_table s = judged (table_of s)

-- "It writes the three table lines"
unfoldable pub table_text : Tree → List ℕ
table_text t =
    field columns_key t.columns
    ++ (field root_key t.root ++ (up_key ++ (divided (take t.columns t.up) ++ (newline ∷ []))))

-- "It reads at most 65,536 bytes from standard input"
abbrev pub limit : ℕ
limit = 65536
