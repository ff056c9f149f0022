-- Refusals by number, after document 01, "Refused, and by which number", and answers that are a value or a refusal.
use Rattle.std.specs.Prelude.{ℕ, Bool, cond, List, [], ◌∷◌, eqb, Result, Ok, Err}
use Rattle.column.specs.declared.error.Refusal.{Refusal}
use Rattle.column.specs.declared.error.Refusal.TheVariants as refusal

-- "steps in the order 4, 5, 6, 7, 8, 10, 9, each where it applies": conditions by number, in order; the first that holds gives
-- its number, and 0 says that none does
abbrev pub first : List (ℕ × Bool) → ℕ
first [] = 0
first (x ∷ l) = cond x.1 x.0 (first l)

-- the earlier of two groups of conditions refuses before the later
abbrev pub earlier : ℕ → ℕ → ℕ
earlier n m = cond (eqb n 0) m n

-- what a function that can refuse gives: a value, or the number of the refusal
pub data Given (A : Type 0) : Type 0 where
  given : A → Given A
  refused : ℕ → Given A

abbrev pub given_unless : {A : Type 0} → ℕ → A → Given A
given_unless n a = cond (eqb n 0) (given a) (refused n)

-- ---- the code's refusals: each has its number, and 0 says that there is none

abbrev pub refusal_number : Refusal → ℕ
refusal_number refusal.MalformedTable = 1
refusal_number refusal.ColumnCount = 2
refusal_number refusal.NoTree = 3
refusal_number refusal.OutOfBank = 4
refusal_number refusal.Halted = 5
refusal_number refusal.NotNow = 6
refusal_number refusal.OrderTooEarly = 7
refusal_number refusal.LastNumber = 8
refusal_number refusal.NetworkFull = 9
refusal_number refusal.NoPacket = 10
refusal_number refusal.NoRoom = 11
refusal_number refusal.MalformedPacket = 12
refusal_number refusal.MalformedLine = 13
refusal_number refusal.NotAtRest = 14
refusal_number refusal.RootReturns = 15
refusal_number refusal.NobodyRuns = 16
refusal_number refusal.DelayOrGap = 17
refusal_number refusal.NumberTooHigh = 18
refusal_number refusal.MalformedJournal = 19
refusal_number refusal.RepeatedLine = 20
refusal_number refusal.UnsentLine = 21
refusal_number refusal.NoOffset = 22
refusal_number refusal.NotCountable = 23
refusal_number refusal.OtherBlock = 24

abbrev pub refusal_of : {A : Type 0} → Result A Refusal → ℕ
refusal_of (Ok a) = 0
refusal_of (Err r) = refusal_number r

-- the value, or the number of the refusal
abbrev pub meant : {A : Type 0} → Result A Refusal → Given A
meant (Ok a) = given a
meant (Err r) = refused (refusal_number r)
