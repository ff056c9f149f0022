-- What every step tests first, from the heads of the packets alone: the doors that they carry are not looked at.
use Rattle.std.specs.Prelude.{ℕ, ◌+◌, ◌-◌, ◌*◌, ◌/◌, ◌%◌, ◌≤◌, ◌<◌, ◌≡◌, List, Bool, true, not, ◌&&◌, ◌||◌, cond, eqb, leb, ltb, IfOk}
use Rattle.std.specs.Prelude as prelude
use Rattle.column.specs.Refusals.{refusal_of}
use Rattle.column.specs.declared.error.Refusal.{Refusal}
use Rattle.column.specs.Sets.{has, join, insert, within, selected}
use Rattle.column.specs.Trees.{every}
use Rattle.column.specs.declared.tree.Tree.{Tree}
use Rattle.column.specs.declared.state.Column.{Column}
use Rattle.bank.specs.Banks.{State, column_at, runs, running_of, packet_at, column_valid, packet_valid, RefusesBank, joined}
use Rattle.bank.specs.declared.bank.Bank.{Bank}
use Rattle.bank.specs.declared.survey.Seen.{Seen}
use Rattle.bank.specs.Words.{ends, acknowledging, receiver_in, sender_in}

-- row 4 of a packet but for whether its receiver runs
unfoldable pub ends_valid : ℕ → ℕ → Bool → ℕ → Bool
ends_valid columns root watch head =
    ltb (receiver_in head) columns
    && ((ltb (sender_in head) columns && not (eqb (sender_in head) (receiver_in head)))
    && (leb acknowledging head || (not (eqb (receiver_in head) root) || watch)))

-- to which byte no message may be addressed: no column's where senders are watched
unfoldable pub barred_of : ℕ → Bool → ℕ
barred_of root watch = cond watch 255 (root % 256)

-- the same by what is above the number in the head
unfoldable pub pair_valid : ℕ → ℕ → ℕ → Bool
pair_valid columns barred pair =
    not (eqb (pair / ends % ends) (pair % ends))
    && (ltb (pair / ends % ends) columns
    && (ltb (pair % ends) columns
    && (not (eqb (pair % ends) barred) || leb (ends * ends) pair)))

unfoldable pub head_valid : ℕ → ℕ → Bool → ℕ → ℕ → Bool
head_valid columns root watch running head =
    ltb (receiver_in head) columns
    && (((ltb (sender_in head) columns && not (eqb (sender_in head) (receiver_in head)))
    && (leb acknowledging head || (not (eqb (receiver_in head) root) || watch)))
    && has running (receiver_in head))

-- ---- a pass over the columns

abbrev pub unseen : Seen
unseen = record { sets = 0; own = 0; sent = true; running = 0 }

-- how many sets of one kind there are
abbrev pub kind : ℕ
kind = 65536

-- the four sets of a column as one number
abbrev pub sets_of : Column → ℕ
sets_of c = c.send + c.awaited * kind + c.owed * (kind * kind) + c.noted * (kind * kind * kind)

-- the members of sets of all four kinds
abbrev pub members_in : ℕ → ℕ
members_in sets =
    join (join (join (sets % kind) (sets / kind % kind)) (sets / (kind * kind) % kind)) (sets / (kind * kind * kind))

-- the members of all sets of a column
abbrev pub members_of : Column → ℕ
members_of c = join (join (join c.send c.awaited) c.owed) c.noted

-- all sixteen places are held, so that there are no more to see
unfoldable pub places_of : ℕ → ℕ
places_of columns = cond (ltb 16 columns) 16 columns

-- r is what is gathered with column i, which is c
pub record Sees (r v : Seen) (columns i : ℕ) (c : Column) : Type 0 where
  pub members_so : within (members_in r.sets) columns ≡ (within (members_in v.sets) columns && within (members_of c) columns)
  pub own_so : has r.own 32 ≡ (has v.own 32 || has c.owed i)
  pub sent_so : r.sent ≡ (v.sent && ltb c.sender columns)
  pub running_so : r.running ≡ cond c.running (insert v.running i) v.running

-- by what is gathered so many columns pass row 4, where `whole` says whether the goal of the root is the whole bank
abbrev pub tells : Seen → ℕ → Bool → Bool
tells v columns whole = within (members_in v.sets) columns && (v.sent && (not (has v.own 32) && whole))

-- the columns below i are seen
pub record Saw (v : Seen) (b : Bank) (i : ℕ) : Type 0 where
  pub valid_so : tells v b.tree.columns (leb i b.tree.root || (column_at b b.tree.root).whole) ≡ every (column_valid b) i
  pub running_so : v.running ≡ selected (runs b) i

-- of so many places the columns below j are seen
abbrev pub Passing : Seen → Bank → ℕ → ℕ → Type 0
Passing v b n j = (j ≤ n) × ((n ≤ 16) × ((n ≤ b.tree.columns) × Saw v b j))

-- n is the refusal of every bank whose columns are seen, and whose root has that goal
abbrev pub RefusesSeen : ℕ → Tree → Seen → Bool → ℕ → List ℕ → Type 0
RefusesSeen n t v whole count heads =
    (columns : List Column) → (t.columns ≤ 16 → Saw v (joined t columns count) t.columns)
    → (t.root < 16 → whole ≡ (column_at (joined t columns count) t.root).whole) → RefusesBank n (joined t columns count) heads

-- and who runs, where it is not refused
pub record Surveys (r : prelude.Result ℕ Refusal) (b : Bank) (heads : List ℕ) : Type 0 where
  pub refuses : RefusesBank (refusal_of r) b heads
  pub running_is : IfOk r (λ running. running ≡ running_of b)

-- ---- what a step can have changed

-- row 4 of the newest packet, where there is one: of its column a step breaks nothing, by `column_on` of ColumnOn
abbrev pub newest_valid : State → Bool
newest_valid s = eqb s.bank.count 0 || packet_valid s.bank (packet_at s (s.bank.count - 1))
