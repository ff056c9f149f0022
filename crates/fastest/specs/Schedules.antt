-- Schedules of a tree, after document 02, Point 8, and the report's section 4: who is sent the message when.
use Rattle.std.specs.Prelude.{ℕ, ◌+◌, ◌*◌, ◌≤◌, ◌<◌, zero, suc, ◌≡◌, Bool, not, ◌&&◌, cond, ◌⊎◌, eqb}
use Rattle.column.specs.Trees.{parent}
use Rattle.column.specs.declared.tree.Tree.{Tree}

-- a schedule says when each column other than the root is sent the message; "arrival is D units later", and the root has it at 0
abbrev pub heard : ℕ → ℕ → (ℕ → ℕ) → ℕ → ℕ
heard root delay sent j = cond (eqb j root) 0 (sent j + delay)

abbrev pub arrival : ℕ → Tree → (ℕ → ℕ) → ℕ → ℕ
arrival delay t sent j = heard t.root delay sent j

-- "tree and schedule that keep to D and E": a column may wait as long as it likes before it sends
pub record Keeps (delay gap : ℕ) (t : Tree) (sent : ℕ → ℕ) : Type 0 where
  -- nobody sends what it does not have yet
  pub held : (j : ℕ) → j < t.columns → (j ≡ t.root → ⊥) → arrival delay t sent (parent t j) ≤ sent j
  -- "the gap E between two sends of one column"
  pub apart : (i j : ℕ) → i < t.columns → j < t.columns → (i ≡ t.root → ⊥) → (j ≡ t.root → ⊥) → (i ≡ j → ⊥) → parent t i ≡ parent t j
      → (sent i + gap ≤ sent j) ⊎ (sent j + gap ≤ sent i)

-- every column has the message by a time
abbrev pub CompleteBy : ℕ → Tree → (ℕ → ℕ) → ℕ → Type 0
CompleteBy delay t sent time = (j : ℕ) → j < t.columns → arrival delay t sent j ≤ time

-- ---- the report's strategy: "A processor relays message m immediately upon receiving it and every E seconds thereafter, as long as
-- some processor has not been sent the message"

-- to how many of the columns below k, the root 0 aside, column i sends
abbrev pub sends : (ℕ → ℕ) → ℕ → ℕ → Bool
sends up i j = not (eqb j 0) && eqb (up j) i

unfoldable pub count : (ℕ → Bool) → ℕ → ℕ
count p zero = 0
count p (suc k) = cond (p k) 1 0 + count p k

abbrev pub served : (ℕ → ℕ) → ℕ → ℕ → ℕ
served up i k = count (sends up i) k

-- when column i sends next, once the columns below k are sent to
abbrev pub turn_after : ℕ → ℕ → Tree → (ℕ → ℕ) → ℕ → ℕ → ℕ
turn_after delay gap t sent k i = arrival delay t sent i + served (parent t) i k * gap

pub record Follows (delay gap : ℕ) (t : Tree) (sent : ℕ → ℕ) : Type 0 where
  -- "root 0"
  pub root_first : t.root ≡ 0
  -- "relays when it has the message and every E units after"
  pub relays : (j : ℕ) → 0 < j → j < t.columns → sent j ≡ turn_after delay gap t sent j (parent t j)
  -- "numbered by arrival, ties by the sender's number"
  pub numbered : (i j : ℕ) → 0 < i → i < j → j < t.columns → sent i ≤ sent j
  pub ties : (i j : ℕ) → 0 < i → i < j → j < t.columns → sent i ≡ sent j → parent t i < parent t j
  -- "as long as some processor has not been sent the message": a turn that is not used comes after every send, or is its tie and the
  -- higher sender's
  pub unused : (j i : ℕ) → 0 < j → j < t.columns → i < t.columns → sent j ≤ turn_after delay gap t sent t.columns i
  pub unused_ties : (j i : ℕ) → 0 < j → j < t.columns → i < t.columns → turn_after delay gap t sent t.columns i ≡ sent j → parent t j < i
