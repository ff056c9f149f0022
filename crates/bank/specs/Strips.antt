-- A strip halted at once, and its columns halted singly, after document 02, Point 1: "The state must equal that of halting the members singly,
-- whichever goes first."
use Rattle.std.specs.Prelude.{ℕ, ◌≡◌, Bool, false, ◌||◌, List, [], ◌∷◌, eqb}
use Rattle.column.specs.Sets.{has}
use Rattle.column.specs.Steps as core
use Rattle.bank.specs.Banks.{State, column_at, acting_refusal, Whole}
use Rattle.bank.specs.Networks.{only, vanished}
use Rattle.bank.specs.Steps.{Result, accepted, refused, unless, settled, halt_refusal, halt}

-- "i stops ..; packets to it vanish": one column, by the core
abbrev pub halt_one : State → ℕ → Result State
halt_one s i =
    unless (acting_refusal s i) s (settled s (vanished s (only i)) i (core.halt s.bank.tree i (column_at s.bank i)))

abbrev pub and_then : Result State → (State → Result State) → Result State
and_then (accepted s) f = f s
and_then (refused n s) f = refused n s

-- one after the other, until one is refused
unfoldable pub singles : State → List ℕ → Result State
singles s [] = accepted s
singles s (i ∷ l) = and_then (halt_one s i) (λ t. singles t l)

abbrev pub among : List ℕ → ℕ → Bool
among [] j = false
among (i ∷ l) j = eqb j i || among l j

-- a list without repetition
abbrev pub Distinct : List ℕ → Type 0
Distinct [] = Unit {0}
Distinct (i ∷ l) = (among l i ≡ false) × Distinct l

-- accepted each time, and every word of both arrays is the same in the end, for every list that has exactly the members
abbrev pub Singly : Type 0
Singly = (s : State) → Whole s → (m : ℕ) → halt_refusal s m ≡ 0
    → (l : List ℕ) → Distinct l → ((j : ℕ) → among l j ≡ has m j) → singles s l ≡ halt s m
