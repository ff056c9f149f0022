-- A step that rewrites the place of one column: an order, what a column does by itself, or a take, which takes its packet off; and what is tested before it.
use Rattle.std.specs.Prelude.{ℕ, ◌<◌, ◌≤◌, Bool, true, cond, ◌≡◌, [], ◌∷◌, List, eqb, ltb, leb, IfOk}
use Rattle.std.specs.Prelude as prelude
use Rattle.column.specs.Sets.{has}
use Rattle.column.specs.Packets.{receiver}
use Rattle.column.specs.Refusals.{first, refusal_of}
use Rattle.column.specs.declared.error.Refusal.{Refusal}
use Rattle.column.specs.declared.tree.Tree.{Tree}
use Rattle.column.specs.declared.state.Column.{Column}
use Rattle.bank.specs.Banks.{State, packet_at, capacity, state, column_at, bank_refusal, joined}
use Rattle.bank.specs.StepKinds.{is_take, is_move}
use Rattle.bank.specs.Performs.{perform}
use Rattle.bank.specs.inner.Changes.{RunningIs, changed}
use Rattle.bank.specs.inner.Surveys.{newest_valid}
use Rattle.bank.specs.declared.bank.Step.{Step}
use Rattle.bank.specs.declared.bank.Step.TheVariants.{Order, Send, Take, Ack, All, Note, Halt, Back, Write}
use Rattle.bank.specs.declared.settling.Change.{Change}
use Rattle.bank.specs.declared.bank.Bank.{Bank}

-- the place of the packet that a step takes
abbrev pub place_in : Step → ℕ
place_in (Order doors) = 0
place_in (Send i) = 0
place_in (Take place) = place
place_in (Ack i) = 0
place_in (All i) = 0
place_in (Note i j) = 0
place_in (Halt m) = 0
place_in (Back j) = 0
place_in (Write i offset value) = 0

-- whose place a step may rewrite: "order: the root; note: the first"; of a take "the packet goes to its receiver"; a halt's members; of a
-- return that column and "all others"; of a write the column of the page
abbrev pub acts : State → Step → ℕ → Bool
acts s (Order doors) j = eqb j s.bank.tree.root
acts s (Send i) j = eqb j i
acts s (Take place) j = eqb j (receiver (packet_at s place))
acts s (Ack i) j = eqb j i
acts s (All i) j = eqb j i
acts s (Note i k) j = eqb j i
acts s (Halt m) j = has m j
acts s (Back i) j = ltb j s.bank.tree.columns
acts s (Write i offset value) j = eqb j i

-- whom the step is of: of a take, where its place is one of the network's
abbrev pub Moving : State → Step → ℕ → Type 0
Moving s x i = (is_move x ≡ true) × ((is_take x ≡ true → place_in x < capacity) → acts s x i ≡ true)

-- what a step of column i is refused by where the bank is not: a take by 10, any other by 4
abbrev pub own_opening : ℕ → Step → ℕ → ℕ → ℕ
own_opening columns x i count = cond (is_take x) (first ((10, leb count (place_in x)) ∷ [])) (first ((4, leb columns i) ∷ []))

-- what the step makes of column i, which is c, and of the network
abbrev pub Moves : prelude.Result Change Refusal → Tree → ℕ → Step → ℕ → Column → ℕ → List ℕ → List ℕ → List ℕ → List ℕ → Type 0
Moves r t running x i c count heads doors heads' doors' =
    (columns : List Column) → let s = state (joined t columns count) heads doors in
    column_at s.bank i ≡ c → RunningIs running s.bank → bank_refusal s ≡ 0 → i < t.columns → acts s x i ≡ true
    → changed s.bank i r heads' doors' ≡ perform s x

-- a bank that was valid before a step is refused by 4 after it, or by nothing: then the same run
pub record KnownAfter (r : prelude.Result ℕ Refusal) (t : Tree) (running count : ℕ) (heads : List ℕ) : Type 0 where
  pub refuses : (b : Bank) (doors : List ℕ) → b.tree ≡ t → RunningIs running b → b.count ≡ count → t.columns ≤ 16 → count ≤ 512
      → refusal_of r ≡ cond (newest_valid (state b heads doors)) 0 4
  pub running_is : IfOk r (λ who. who ≡ running)
