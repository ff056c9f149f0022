-- The tree of a bank, after document 01, "The bank and its table", and its sequence, after document 02, Point 6.
use Rattle.std.specs.Prelude.{ℕ, zero, suc, ◌≤◌, ◌<◌, min, ◌≡◌, Bool, true, false, not, ◌&&◌, ◌||◌, cond, List, [], ◌∷◌, eqb, leb, ltb, get_or}
use Rattle.column.specs.Refusals.{first, earlier, Given, given_unless}
use Rattle.column.specs.Sets.{has, single, join, insert, without, lowest, within, whole, selected}
use Rattle.column.specs.declared.tree.Tree.{Tree}

-- k numbers from `at` on
abbrev pub rising_from : ℕ → ℕ → List ℕ
rising_from at zero = []
rising_from at (suc k) = at ∷ rising_from (suc at) k

-- document 02, Point 6: "Without it, ascending numbers"
abbrev pub ascending : List ℕ
ascending = rising_from 0 16

-- a tree by its parts
abbrev pub tree_by : ℕ → ℕ → List ℕ → List ℕ → Bool → Tree
tree_by columns root up first watch = record { columns = columns; root = root; up = up; first = first; watch = watch }

-- a tree that names no watch: document 02, Point 9, "without it, root"
abbrev pub tree_in_sequence : ℕ → ℕ → List ℕ → List ℕ → Tree
tree_in_sequence columns root up first = tree_by columns root up first false

-- a tree that names no sequence
abbrev pub tree_of : ℕ → ℕ → List ℕ → Tree
tree_of columns root up = tree_in_sequence columns root up ascending

-- "`up` names each column's parent in order"
abbrev pub parent : Tree → ℕ → ℕ
parent t i = get_or t.up i 0

-- where a climb of k parents leads from i
unfoldable pub climb : Tree → ℕ → ℕ → ℕ
climb t zero i = i
climb t (suc k) i = climb t k (parent t i)

-- which column is at place k of the sequence
abbrev pub listed_at : Tree → ℕ → ℕ
listed_at t k = get_or t.first k 0

-- what document 01, and of the sequence document 02, asks of a tree
pub record IsTree (t : Tree) : Type 0 where
  -- "A bank has 1 to 16 columns"
  pub some : 1 ≤ t.columns
  pub sixteen : t.columns ≤ 16
  -- row 3: "root or parent not below columns .. root not its own parent"
  pub root_below : t.root < t.columns
  pub parent_below : (i : ℕ) → i < t.columns → parent t i < t.columns
  pub root_own : parent t t.root ≡ t.root
  -- "Every climb by parents must end at the root", however long it is
  pub climbs : (i : ℕ) → i < t.columns → (k : ℕ) × (climb t k i ≡ t.root)
  -- "listing .. every column exactly once": it misses none, repeats none and exceeds none
  pub listed : (i : ℕ) → i < t.columns → (k : ℕ) × (k < t.columns) × (listed_at t k ≡ i)
  pub listed_once : (k m : ℕ) → k < t.columns → m < t.columns → listed_at t k ≡ listed_at t m → k ≡ m
  pub listed_below : (k : ℕ) → k < t.columns → listed_at t k < t.columns

-- ---- the check of rows 2 and 3, which computes; `check_exact` of TreeLaws says that it decides `IsTree`

-- a test of every column below a number
unfoldable pub every : (ℕ → Bool) → ℕ → Bool
every f zero = true
every f (suc k) = every f k && f k

abbrev pub is_parent_below : Tree → ℕ → Bool
is_parent_below t i = ltb (parent t i) t.columns

-- a climb of fewer than `budget` parents from i meets the root
unfoldable pub climbs_in : Tree → ℕ → ℕ → Bool
climbs_in t zero i = false
climbs_in t (suc budget) i = eqb i t.root || climbs_in t budget (parent t i)

abbrev pub is_listed_below : Tree → ℕ → Bool
is_listed_below t k = ltb (listed_at t k) t.columns

-- the columns at the first k places of a sequence
abbrev pub listed_in : List ℕ → ℕ → ℕ
listed_in first zero = 0
listed_in first (suc k) = insert (listed_in first k) (get_or first k 0)

-- at as many places as there are columns nothing but columns, and each of them: so none is repeated
abbrev pub lists_each : Tree → Bool
lists_each t = every (is_listed_below t) t.columns && eqb (listed_in t.first t.columns) (whole t.columns)

-- row 2: "columns 0 or above 16"; row 3: "root or parent not below columns, .. root not its own parent, or a climb that misses the root"; "A list
-- that misses, repeats or exceeds a column is refused with 3."
abbrev pub tree_conditions : Tree → List (ℕ × Bool)
tree_conditions t =
    (2, eqb t.columns 0)
    ∷ (2, ltb 16 t.columns)
    ∷ (3, leb t.columns t.root)
    ∷ (3, not (every (is_parent_below t) t.columns))
    ∷ (3, not (lists_each t))
    ∷ (3, not (eqb (parent t t.root) t.root))
    ∷ (3, not (every (climbs_in t t.columns) t.columns))
    ∷ []

unfoldable pub tree_refusal : Tree → ℕ
tree_refusal t = first (tree_conditions t)

-- ---- the choice: "Send then takes the member that stands earliest in that list, not the lowest."

-- the first member of m at k places of a sequence, from place `at` on; 16 where none is there
abbrev pub earliest_from : List ℕ → ℕ → ℕ → ℕ → ℕ
earliest_from first m at zero = 16
earliest_from first m at (suc k) =
    let i = get_or first at 0 in
    cond (has m i) i (earliest_from first m (suc at) k)

-- a sequence has sixteen places, of which as many count as there are columns
abbrev pub places : Tree → ℕ
places t = min t.columns 16

abbrev pub choose : Tree → ℕ → ℕ
choose t m = earliest_from t.first m 0 (places t)

-- ---- children and subtrees

-- "the root names itself, but is nobody's child"
abbrev pub is_child : Tree → ℕ → ℕ → Bool
is_child t i j = eqb (parent t j) i && not (eqb j t.root)

abbrev pub children : Tree → ℕ → ℕ
children t i = selected (is_child t i) t.columns

-- "The subtree of a column is the column with the subtrees of its children, and the subtrees of a list are its first member's
-- with those of the rest": the number `calls` falls at each call
unfoldable mutual
  pub subtree_in : ℕ → Tree → ℕ → ℕ
  subtree_in zero t i = 0
  subtree_in (suc calls) t i = join (single i) (subtrees_in calls t (children t i))

  pub subtrees_in : ℕ → Tree → ℕ → ℕ
  subtrees_in zero t s = 0
  subtrees_in (suc calls) t s =
      let i = lowest s in
      cond (eqb s 0) 0 (join (subtree_in calls t i) (subtrees_in calls t (without s i)))

-- calls enough for a tree, eighteen for each of sixteen levels; `subtrees_found` of Descents says that 272 are enough
abbrev pub descent : ℕ
descent = 288

abbrev pub subtree : Tree → ℕ → ℕ
subtree t i = subtree_in descent t i

abbrev pub subtrees : Tree → ℕ → ℕ
subtrees t s = subtrees_in descent t s

-- ---- what the functions answer

-- "Before all else a tree that breaks row 2 or 3 gives that number. Next, 4 meets a column number or set member not below columns"
abbrev pub column_refusal : Tree → ℕ → ℕ
column_refusal t i = earlier (tree_refusal t) (first ((4, leb t.columns i) ∷ []))

abbrev pub set_refusal : Tree → ℕ → ℕ
set_refusal t s = earlier (tree_refusal t) (first ((4, not (within s t.columns)) ∷ []))

abbrev pub children_given : Tree → ℕ → Given ℕ
children_given t i = given_unless (column_refusal t i) (children t i)

abbrev pub subtree_given : Tree → ℕ → Given ℕ
subtree_given t i = given_unless (column_refusal t i) (subtree t i)

abbrev pub subtrees_given : Tree → ℕ → Given ℕ
subtrees_given t s = given_unless (set_refusal t s) (subtrees t s)
