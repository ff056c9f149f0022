-- What the private function that reads digits answers.
use Rattle.std.specs.Prelude.{ℕ, cond, List}
use Rattle.text.specs.Text.{Reading, read, unread, all_digits, value_from}

-- the value of digits with `high` before them, where all bytes are digits
unfoldable pub digits : ℕ → List ℕ → Reading ℕ
digits high l = cond (all_digits l) (read (value_from high l)) unread
