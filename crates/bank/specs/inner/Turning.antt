-- A turn as the dispatcher takes it: its step, found by sets alone, in a valid bank the dispatcher's by `quick_turn_lem` of FirstAccepted; what that
-- step makes of its column and of the network; and where the turns end.
use Rattle.std.specs.Prelude.{ℕ, zero, suc, Bool, not, ◌&&◌, ◌||◌, cond, ◌≡◌, List, eqb, ltb, get_or, length}
use Rattle.std.specs.Prelude as prelude
use Rattle.column.specs.declared.error.Refusal.{Refusal}
use Rattle.column.specs.Sets.{has, minus, lowest, selected}
use Rattle.column.specs.Trees.{choose}
use Rattle.column.specs.Columns.{idle, watched, may_acknowledge}
use Rattle.column.specs.Unchecked.{bounded_send, bounded_ack, bounded_all, bounded_note}
use Rattle.column.specs.Steps as core
use Rattle.column.specs.declared.tree.Tree.{Tree}
use Rattle.column.specs.declared.state.Column.{Column}
use Rattle.bank.specs.Words.{receiver_in}
use Rattle.bank.specs.Banks.{State, column_at, halted_of, capacity, state, bank_refusal}
use Rattle.bank.specs.StepKinds.{is_take}
use Rattle.bank.specs.Performs.{perform}
use Rattle.bank.specs.Dispatch.{dispatched, dispatch}
use Rattle.bank.specs.inner.Changes.{changed, Handed}
use Rattle.bank.specs.declared.bank.Bank.{Bank}
use Rattle.bank.specs.declared.bank.Step.{Step}
use Rattle.bank.specs.declared.bank.Step.TheVariants.{Order, Send, Take, Ack, All, Note, Halt, Back, Write}
use Rattle.bank.specs.declared.dispatch.Dispatched.{Dispatched}
use Rattle.bank.specs.declared.settling.Change.{Change}

-- a packet to column j would be put where there is room, or not be put
abbrev pub fits : Bool → ℕ → ℕ → Bool
fits full halted j = not full || has halted j

abbrev pub can_send : Tree → Bool → ℕ → ℕ → Column → Bool
can_send t full halted i c =
    let k = choose t c.send in
    not (eqb c.send 0) && (eqb k i || (has c.noted k || fits full halted k))

abbrev pub can_ack : Tree → Bool → ℕ → ℕ → Column → Bool
can_ack t full halted i c = not (eqb c.owed 0) && (may_acknowledge t i c && fits full halted (lowest c.owed))

abbrev pub can_take_over : Tree → ℕ → Column → Bool
can_take_over t i c = not (eqb i t.root) && (has c.noted (watched t c) && (not c.whole && idle c))

-- what column i, which is c, can do, and the other step where it can do nothing
unfoldable pub step_of : Tree → Bool → ℕ → ℕ → Column → Step → Step
step_of t full halted i c other =
    let new = minus halted c.noted in
    cond c.running
    (cond (eqb new 0)
    (cond (can_send t full halted i c) (Send i) (cond (can_ack t full halted i c) (Ack i) (cond (can_take_over t i c) (All i) other)))
    (Note i (lowest new)))
    other

-- the same for k columns from i on
unfoldable pub step_from : Bank → Bool → ℕ → ℕ → ℕ → Step
step_from b full halted i zero = Take 0
step_from b full halted i (suc k) = step_of b.tree full halted i (column_at b i) (step_from b full halted (suc i) k)

abbrev pub is_full : Bank → Bool
is_full b = not (ltb b.count capacity)

-- column i, which is c, can do anything
abbrev pub is_ready : Tree → Bool → ℕ → ℕ → Column → Bool
is_ready t full halted i c = not (is_take (step_of t full halted i c (Take 0)))

-- the columns that can do anything
abbrev pub ready_of : Bank → ℕ
ready_of b = selected (λ i. is_ready b.tree (is_full b) (halted_of b) i (column_at b i)) b.tree.columns

abbrev pub quick_turn : Bank → Step
quick_turn b = step_from b (is_full b) (halted_of b) 0 b.tree.columns

-- the column whose place a turn's step rewrites, by the head of the oldest packet
abbrev pub acting_in : Step → ℕ → ℕ
acting_in (Send i) oldest = i
acting_in (Ack i) oldest = i
acting_in (All i) oldest = i
acting_in (Note i j) oldest = i
acting_in (Take place) oldest = receiver_in oldest
acting_in (Order doors) oldest = receiver_in oldest
acting_in (Halt m) oldest = receiver_in oldest
acting_in (Back j) oldest = receiver_in oldest
acting_in (Write i offset value) oldest = receiver_in oldest

-- where the turns of a valid bank end
pub record Turns (r : Dispatched) (heads doors : List ℕ) (limit : ℕ) (s : State) : Type 0 where
  pub count_is : r.steps ≡ length (dispatched limit s)
  pub bank_is : state r.bank heads doors ≡ dispatch limit s

-- the effect of a turn's step that takes no packet, on column i, which is c; what no turn takes is refused
abbrev pub turn_effect : Tree → Step → ℕ → Column → core.Result
turn_effect t (Send k) i c = bounded_send t i c
turn_effect t (Ack k) i c = bounded_ack t i c
turn_effect t (All k) i c = bounded_all t i c
turn_effect t (Note k j) i c = bounded_note t i c j
turn_effect t (Order doors) i c = core.refused 10 c
turn_effect t (Take place) i c = core.refused 10 c
turn_effect t (Halt m) i c = core.refused 10 c
turn_effect t (Back j) i c = core.refused 10 c
turn_effect t (Write k offset value) i c = core.refused 10 c

-- of every valid bank of which these are the parts: the turn's step
abbrev pub TakesTurn : prelude.Result Change Refusal → Tree → ℕ → Step → ℕ → Column → ℕ → List ℕ → List ℕ → List ℕ → List ℕ → Type 0
TakesTurn r t running x i c count heads doors heads' doors' =
    (b : Bank) → Handed b t running i c count → bank_refusal (state b heads doors) ≡ 0 → x ≡ quick_turn b → i ≡ acting_in x (get_or heads 0 0)
    → changed b i r heads' doors' ≡ perform (state b heads doors) x
