-- The strategy of the report's section 4, and the tree that it makes, after document 02, Point 8.
use Rattle.std.specs.Prelude.{ℕ, zero, suc, ◌+◌, ◌-◌, Bool, cond, List, [], ◌∷◌, eqb, ltb, get_or, set, replicate}
use Rattle.column.specs.Refusals.{first, Given, given_unless}
use Rattle.column.specs.Trees.{tree_of}
use Rattle.column.specs.declared.tree.Tree.{Tree}
use Rattle.fastest.specs.declared.growth.Growth.{Growth}

-- ---- which column sends next, and when

-- of the first k columns the one that sends next; of several the lowest
unfoldable pub soonest : List ℕ → ℕ → ℕ
soonest next zero = 0
soonest next (suc k) = cond (ltb (get_or next k 0) (get_or next (soonest next k) 0)) k (soonest next k)

abbrev pub turn : List ℕ → ℕ → ℕ
turn next columns = get_or next (soonest next columns) 0

-- ---- a tree that grows: each column's parent, and when it sends next

abbrev pub growth : List ℕ → List ℕ → Growth
growth up next = record { up = up; next = next }

-- column j is sent to at a time: "A column relays when it has the message and every E units after, and arrival is D units later"
abbrev pub sent_to : ℕ → ℕ → ℕ → ℕ → ℕ → Growth → Growth
sent_to delay gap j sender time g =
    growth (set g.up j sender) (set (set g.next sender (time + gap)) j (time + delay))

-- "Columns are numbered by arrival, ties by the sender's number": column j is the one that is sent to next
unfoldable pub with_column : ℕ → ℕ → ℕ → Growth → Growth
with_column delay gap j g = sent_to delay gap j (soonest g.next j) (turn g.next j) g

-- the root alone: it has the message, and sends, at 0
abbrev pub root_alone : Growth
root_alone = growth (replicate 16 0) (replicate 16 0)

-- the root and k more
unfoldable pub grown : ℕ → ℕ → ℕ → Growth
grown delay gap zero = root_alone
grown delay gap (suc k) = with_column delay gap (suc k) (grown delay gap k)

-- ---- the tree and its schedule

-- "root 0"
abbrev pub fastest_tree : ℕ → ℕ → ℕ → Tree
fastest_tree columns delay gap = tree_of columns 0 (grown delay gap (columns - 1)).up

-- when each column other than the root is sent the message, however many follow it
unfoldable pub fastest_sent : ℕ → ℕ → ℕ → ℕ
fastest_sent delay gap zero = 0
fastest_sent delay gap (suc k) = turn (grown delay gap k).next (suc k)

-- ---- refusals: "17 for D or E not 1 to 255, tested after 2"

abbrev pub fastest_conditions : ℕ → ℕ → ℕ → List (ℕ × Bool)
fastest_conditions columns delay gap =
    (2, eqb columns 0)
    ∷ (2, ltb 16 columns)
    ∷ (17, eqb delay 0)
    ∷ (17, ltb 255 delay)
    ∷ (17, eqb gap 0)
    ∷ (17, ltb 255 gap)
    ∷ []

unfoldable pub fastest_refusal : ℕ → ℕ → ℕ → ℕ
fastest_refusal columns delay gap = first (fastest_conditions columns delay gap)

-- ---- what is answered

-- the tree, or by which number it is refused
abbrev pub fastest_given : ℕ → ℕ → ℕ → Given Tree
fastest_given columns delay gap = given_unless (fastest_refusal columns delay gap) (fastest_tree columns delay gap)
