-- Sixteen hexadecimal digits, as they are read: a digit, a byte of two digits, the doors of eight bytes.
use Rattle.std.specs.Prelude.{ℕ, ◌+◌, ◌*◌, cond, ◌&&◌, List, eqb, length}
use Rattle.column.specs.Packets.{low_value}
use Rattle.text.specs.Text.{Reading, read, unread}
use Rattle.script.specs.Lines.{is_hexadecimal, hexadecimal, all_hexadecimal, hexadecimal_bytes}

unfoldable pub digit_read : ℕ → Reading ℕ
digit_read b = cond (is_hexadecimal b) (read (hexadecimal b)) unread

unfoldable pub byte_read : ℕ → ℕ → Reading ℕ
byte_read a b = cond (is_hexadecimal a && is_hexadecimal b) (read (hexadecimal a * 16 + hexadecimal b)) unread

unfoldable pub doors_read : List ℕ → Reading ℕ
doors_read l = cond (eqb (length l) 16 && all_hexadecimal l) (read (low_value (hexadecimal_bytes l))) unread
