-- A step by parts of a bank that was tested, after document 01, "The shape each place takes": "a step returns it with one place rewritten". It is said of every
-- bank of which these are the parts, where what is known of it is so.
use Rattle.std.specs.Prelude.{ℕ, ◌%◌, ◌≡◌, true, cond, List, set, get_or, leb, Ok, Err, IfOk}
use Rattle.std.specs.Prelude as prelude
use Rattle.column.specs.Refusals.{refusal_number, refusal_of}
use Rattle.column.specs.declared.error.Refusal.{Refusal}
use Rattle.column.specs.declared.tree.Tree.{Tree}
use Rattle.column.specs.declared.state.Column.{Column}
use Rattle.bank.specs.StepKinds.{is_move}
use Rattle.bank.specs.Banks.{State, state, column_at, running_of, bank_refusal, joined, capacity}
use Rattle.bank.specs.Steps.{accepted, refused}
use Rattle.bank.specs.Performs.{perform}
use Rattle.bank.specs.Words.{receiver_in}
use Rattle.bank.specs.declared.bank.Bank.{Bank}
use Rattle.bank.specs.declared.bank.Step.{Step}
use Rattle.bank.specs.declared.bank.Step.TheVariants.{Order, Send, Take, Ack, All, Note, Halt, Back, Write}
use Rattle.bank.specs.declared.unchecked_for_script.Part.{Part}

-- ---- what is known of a bank

-- who runs, or by which number the bank is refused
pub record Tells (known : prelude.Result ℕ Refusal) (s : State) : Type 0 where
  pub refuses : refusal_of known ≡ bank_refusal s
  pub running_is : IfOk known (λ running. running ≡ running_of s.bank)

-- the test of a bank looks at no doors that packets carry
abbrev pub Tests : prelude.Result ℕ Refusal → Bank → List ℕ → Type 0
Tests known b heads = (doors : List ℕ) → Tells known (state b heads doors)

-- ---- a step by parts

-- whom the packet at a place is for, where there is such a place
unfoldable pub receiver_at : ℕ → List ℕ → ℕ
receiver_at place heads = cond (leb capacity place) 0 (receiver_in (get_or heads place 0))

-- whose step it is, where the bank has such a column
abbrev pub actor_of : Tree → Step → List ℕ → ℕ
actor_of t (Order doors) heads = t.root
actor_of t (Send i) heads = i
actor_of t (Take place) heads = receiver_at place heads
actor_of t (Ack i) heads = i
actor_of t (All i) heads = i
actor_of t (Note i j) heads = i
actor_of t (Halt m) heads = 0
actor_of t (Back j) heads = 0
actor_of t (Write i offset value) heads = 0

-- "a step returns it with one place rewritten"; a number that no place has is taken as that number less a multiple of 16
abbrev pub with_part : Bank → ℕ → Part → Bank
with_part b i r = joined b.tree (set b.columns (i % 16) r.column) r.count

-- an accepted step leaves the bank with the part, of which what is known is so; one that is refused leaves the words, and with them the bank, as they were, and
-- what was known is so of the bank with the words that it left
abbrev pub PartOf : prelude.Result Part Refusal → prelude.Result ℕ Refusal → State → Step → ℕ → List ℕ → List ℕ → Type 0
PartOf (Ok r) known s x i heads doors =
    let next = state (with_part s.bank i r) heads doors in
    (accepted next ≡ perform s x) × Tells r.known next
PartOf (Err e) known s x i heads doors =
    let kept = state s.bank heads doors in
    (refused (refusal_number e) kept ≡ perform s x) × Tells known kept

abbrev pub StepsPart : prelude.Result Part Refusal → prelude.Result ℕ Refusal → Tree → Step → ℕ → Column → ℕ → List ℕ → List ℕ → List ℕ → List ℕ → Type 0
StepsPart r known t x i c count heads doors heads' doors' =
    (columns : List Column) → let s = state (joined t columns count) heads doors in
    Tells known s → is_move x ≡ true → i ≡ actor_of t x heads → column_at s.bank (i % 16) ≡ c → PartOf r known s x i heads' doors'
