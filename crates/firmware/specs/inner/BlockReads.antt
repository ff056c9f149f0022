-- What is read from bytes that a caller in C lends, or the refusal of bytes of another size.
use Rattle.std.specs.Prelude.{ℕ, Bool, cond, List, eqb, length}
use Rattle.column.specs.Refusals.{Given, given, refused}
use Rattle.column.specs.Packets.{low_value, doors_size}

-- what is read of bytes that are what they must be, or 24
abbrev pub block_given : {A : Type 0} → Bool → A → Given A
block_given good value = cond good (given value) (refused 24)

abbrev pub doors_given : List ℕ → Given ℕ
doors_given s = block_given (eqb (length s) doors_size) (low_value s)
