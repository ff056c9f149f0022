-- What a read, a write and the line of a bank's column say, for every valid bank, every column of it, running or halted, and every offset and value:
-- they are of that column and of no other. Assumes nothing.
use Rattle.std.specs.Prelude.{ℕ, ◌≤◌, ◌<◌, ◌≡◌}
use Rattle.std.proofs.Common.{arith}
use borrow.Author.Tests.{eq-eqb, ne_eqb, le-leb, lt-leb}
use Rattle.column.specs.Refusals.{given, refused}
use Rattle.column.specs.Sets.{minus}
use Rattle.column.specs.Columns.{with_registers, validity_refusal}
use Rattle.column.specs.Pages as core
use Rattle.column.specs.declared.state.Column.{Column}
use Rattle.bank.specs.Banks.{State, column_at, acting_refusal}
use Rattle.bank.specs.Steps as step
use Rattle.bank.specs.Pages.{read_byte, write_refusal, write, line_up}
use Rattle.bank.specs.laws.ValidityLaws.{acting}
use Rattle.bank.proofs.laws.ChangeLaws.{valid_at}

module _ (s : State) (i : ℕ) (good : acting_refusal s i ≡ 0) where
  abbrev here : Column
  here = column_at s.bank i

  -- "22 for an offset above 7", and for no other
  pub read_above : (offset : ℕ) → 7 < offset → read_byte s i offset ≡ refused 22
  read_above offset h = rw (eq-eqb (acting_refusal s i) 0 good, le-leb 8 offset h)

  pub read_within : (offset : ℕ) → offset ≤ 7 → read_byte s i offset ≡ given (core.byte_of i here offset)
  read_within offset h = rw (eq-eqb (acting_refusal s i) 0 good, lt-leb 8 offset (omega (arith, h)))

  -- "The line is up exactly when a bit is set in both 5 and 6.": those of this column
  pub line_here : line_up s i ≡ given (core.line_up here)
  line_here = rw (eq-eqb (acting_refusal s i) 0 good)

  -- "22 for .. a write elsewhere"
  pub write_elsewhere : (offset value : ℕ) → (offset ≡ 5 → ⊥) → (offset ≡ 7 → ⊥) → write s i offset value ≡ step.refused 22 s
  unfolding write_refusal
  write_elsewhere offset value h k = rw (eq-eqb (acting_refusal s i) 0 good, ne_eqb offset 5 h, ne_eqb offset 7 k)

  -- "Byte 5 keeps all eight bits written"
  pub write_mask : (value : ℕ) → write s i 5 value ≡ step.accepted (step.with_column s i (with_registers here value here.pending))
  unfolding write_refusal core.written
  write_mask value = rw (eq-eqb (acting_refusal s i) 0 good)

  -- "a write there clears the pending bits that are 1 in it"
  pub write_clear : (value : ℕ) → write s i 7 value ≡ step.accepted (step.with_column s i (with_registers here here.mask (minus here.pending value)))
  unfolding write_refusal core.written
  write_clear value = rw (eq-eqb (acting_refusal s i) 0 good)

-- "after 4": of a bank that is not valid, and of a column that it has not, the same whatever the offset
module _ (s : State) (i : ℕ) (bad : acting_refusal s i ≡ 0 → ⊥) where
  pub read_after : (offset : ℕ) → read_byte s i offset ≡ refused (acting_refusal s i)
  read_after offset = rw (ne_eqb (acting_refusal s i) 0 bad, ne_eqb (acting_refusal s i) 0 bad)

  pub line_after : line_up s i ≡ refused (acting_refusal s i)
  line_after = rw (ne_eqb (acting_refusal s i) 0 bad)

  pub write_after : (offset value : ℕ) → write s i offset value ≡ step.refused (acting_refusal s i) s
  unfolding write_refusal
  write_after offset value = rw (ne_eqb (acting_refusal s i) 0 bad, ne_eqb (acting_refusal s i) 0 bad)

-- the core reads the byte of a valid column
pub page_read : (s : State) (i offset : ℕ) → acting_refusal s i ≡ 0
    → core.read_byte s.bank.tree i (column_at s.bank i) offset ≡ read_byte s i offset
unfolding core.read_refusal
page_read s i offset none =
    let z = acting s i none in
    rw (eq-eqb (validity_refusal s.bank.tree i (column_at s.bank i)) 0 (valid_at s z.0 i z.1), eq-eqb (acting_refusal s i) 0 none)
