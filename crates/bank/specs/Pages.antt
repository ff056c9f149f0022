-- The register pages of a bank, after document 02, Point 12: a byte read, the step that writes one, and the line of a column. None of them asks
-- whether the column runs.
use Rattle.std.specs.Prelude.{ℕ, ◌≡◌, Bool, List}
use Rattle.std.specs.Prelude as prelude
use Rattle.column.specs.Refusals.{first, earlier, Given, given_unless, meant}
use Rattle.column.specs.Pages as core
use Rattle.column.specs.declared.error.Refusal.{Refusal}
use Rattle.bank.specs.Banks.{State, state, column_at, acting_refusal}
use Rattle.bank.specs.Steps.{Result, accepted, unless, with_column}
use Rattle.bank.specs.declared.bank.Bank.{Bank}

-- ---- a byte read: "22 for an offset above 7 .., after 4"

abbrev pub read_refusal : State → ℕ → ℕ → ℕ
read_refusal s i offset = earlier (acting_refusal s i) (first (core.read_conditions offset))

abbrev pub read_byte : State → ℕ → ℕ → Given ℕ
read_byte s i offset = given_unless (read_refusal s i offset) (core.byte_of i (column_at s.bank i) offset)

-- what is answered, whatever the doors under way
abbrev pub Reads : prelude.Result ℕ Refusal → Bank → List ℕ → ℕ → ℕ → Type 0
Reads r b heads i offset = (doors : List ℕ) → meant r ≡ read_byte (state b heads doors) i offset

-- ---- a byte written: "22 for .. a write elsewhere, after 4"

unfoldable pub write_refusal : State → ℕ → ℕ → ℕ
write_refusal s i offset = earlier (acting_refusal s i) (first (core.write_conditions offset))

-- "a write alters nothing but bytes 5 and 6"
abbrev pub write : State → ℕ → ℕ → ℕ → Result State
write s i offset value =
    unless (write_refusal s i offset) s (accepted (with_column s i (core.written (column_at s.bank i) offset value)))

-- ---- the line of a column

abbrev pub line_up : State → ℕ → Given Bool
line_up s i = given_unless (acting_refusal s i) (core.line_up (column_at s.bank i))

abbrev pub TellsLine : prelude.Result Bool Refusal → Bank → List ℕ → ℕ → Type 0
TellsLine r b heads i = (doors : List ℕ) → meant r ≡ line_up (state b heads doors) i
