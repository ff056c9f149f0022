-- Sets of columns as numbers, after document 01, "What a column holds": column i is a member of m where the binary digit i of m is 1.
-- "Sets are unsigned masks; trailing zeros give the next column".
use Rattle.std.specs.Prelude.{ℕ, zero, suc, ◌-◌, ◌/◌, ◌%◌, ◌^◌, Bool, cond, eqb}
use Rattle.std.specs.Int.Bits.{bit_or, bit_xor}
use Rattle.std.specs.Int.Count.{count_trailing_zeros}

-- binary digit i of m, 0 or 1
abbrev pub digit : ℕ → ℕ → ℕ
digit m i = m / 2 ^ i % 2

-- i is a member of m
abbrev pub has : ℕ → ℕ → Bool
has m i = eqb (digit m i) 1

-- the set of i alone
abbrev pub single : ℕ → ℕ
single i = 2 ^ i

-- the members of either
abbrev pub join : ℕ → ℕ → ℕ
join a b = bit_or a b

-- m with i
abbrev pub insert : ℕ → ℕ → ℕ
insert m i = join m (single i)

-- m without i: the digit is set, then flipped
abbrev pub without : ℕ → ℕ → ℕ
without m i = bit_xor (insert m i) (single i)

-- the members of a that are none of b
abbrev pub minus : ℕ → ℕ → ℕ
minus a b = bit_xor (join a b) b

-- the lowest member of a set of columns below `width`, and `width` of the empty set
abbrev pub lowest_in : ℕ → ℕ → ℕ
lowest_in width m = count_trailing_zeros width m

-- the same in a mask of 16 columns
abbrev pub lowest : ℕ → ℕ
lowest m = lowest_in 16 m

-- every member of m is below `count`
abbrev pub within : ℕ → ℕ → Bool
within m count = eqb (m / 2 ^ count) 0

-- all columns below `count`
abbrev pub whole : ℕ → ℕ
whole count = 2 ^ count - 1

-- those below a number that pass a test
unfoldable pub selected : (ℕ → Bool) → ℕ → ℕ
selected f zero = 0
selected f (suc count) = cond (f count) (insert (selected f count) count) (selected f count)
