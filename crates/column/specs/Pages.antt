-- The register page of a column, after document 02, Point 12: "Host boards want eight bytes."
use Rattle.std.specs.Prelude.{ℕ, Bool, false, not, ◌||◌, cond, List, [], ◌∷◌, eqb, leb, get_or}
use Rattle.std.specs.Int.Bits.{bit_and}
use Rattle.std.specs.Int.Count.{ones}
use Rattle.column.specs.Refusals.{first, earlier, Given, given_unless}
use Rattle.column.specs.Sets.{single, join, minus}
use Rattle.column.specs.Columns.{validity_refusal, with_registers}
use Rattle.column.specs.Steps.{Result, accepted, unless}
use Rattle.column.specs.declared.tree.Tree.{Tree}
use Rattle.column.specs.declared.state.Column.{Column}

-- ---- the eight bytes

-- "Byte 1 has bit 0 running, bit 1 goal whole bank, other bits 0."
abbrev pub flags : Column → ℕ
flags c = join (cond c.running (single 0) 0) (cond c.whole (single 1) 0)

-- "Byte 0 is the column number. .. Bytes 2 to 4 count the columns to be sent to, awaited and owed. Byte 5 is the interrupt mask and byte 6
-- what is pending .. Byte 7 reads 0": "ones count .. the register counts"
abbrev pub page : ℕ → Column → List ℕ
page i c = i ∷ flags c ∷ ones c.send ∷ ones c.awaited ∷ ones c.owed ∷ c.mask ∷ c.pending ∷ 0 ∷ []

abbrev pub page_size : ℕ
page_size = 8

-- "Byte 5 is the interrupt mask"
abbrev pub mask_offset : ℕ
mask_offset = 5

-- "Byte 7 reads 0, and a write there clears"
abbrev pub clear_offset : ℕ
clear_offset = 7

abbrev pub byte_of : ℕ → Column → ℕ → ℕ
byte_of i c offset = get_or (page i c) offset 0

-- ---- a read: no 5, of a halted column too

-- "22 for an offset above 7 .., after 4"
abbrev pub read_conditions : ℕ → List (ℕ × Bool)
read_conditions offset =
    (22, leb page_size offset)
    ∷ []

unfoldable pub read_refusal : Tree → ℕ → Column → ℕ → ℕ
read_refusal t i c offset = earlier (validity_refusal t i c) (first (read_conditions offset))

abbrev pub read_byte : Tree → ℕ → Column → ℕ → Given ℕ
read_byte t i c offset = given_unless (read_refusal t i c offset) (byte_of i c offset)

-- ---- a write: no 5, "at a halted column too"

-- "Only 5 and 7 can be written"
abbrev pub writable : ℕ → Bool
writable offset = eqb offset mask_offset || eqb offset clear_offset

-- "22 for .. a write elsewhere, after 4"
abbrev pub write_conditions : ℕ → List (ℕ × Bool)
write_conditions offset =
    (22, not (writable offset))
    ∷ []

unfoldable pub write_refusal : Tree → ℕ → Column → ℕ → ℕ
write_refusal t i c offset = earlier (validity_refusal t i c) (first (write_conditions offset))

-- "Byte 5 keeps all eight bits written"; "a write there clears the pending bits that are 1 in it"
unfoldable pub written : Column → ℕ → ℕ → Column
written c offset value =
    cond (eqb offset mask_offset)
    (with_registers c value c.pending)
    (cond (eqb offset clear_offset)
    (with_registers c c.mask (minus c.pending value))
    c)

abbrev pub write : Tree → ℕ → Column → ℕ → ℕ → Result
write t i c offset value = unless (write_refusal t i c offset) c (accepted (written c offset value) [] false)

-- ---- "The line is up exactly when a bit is set in both 5 and 6."

abbrev pub line_up : Column → Bool
line_up c = not (eqb (bit_and c.mask c.pending) 0)
