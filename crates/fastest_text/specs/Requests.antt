-- A request for a fastest tree as text, and the text that answers it, after document 02, Point 8.
use Rattle.std.specs.Prelude.{ℕ, cond, List, eqb, length}
use Rattle.text.specs.Text.{columns_key, delay_key, gap_key, Reading, read, unread, refused_text}
use Rattle.text.specs.Pieces.{keyed, ThreeLines, three_lines}
use Rattle.table.specs.Tables.{table_text}
use Rattle.fastest.specs.Strategy.{fastest_refusal, fastest_tree}

-- ---- what is asked

pub record Request : Type 0 where
  pub columns : ℕ
  pub delay : ℕ
  pub gap : ℕ

unfoldable pub asked : Reading ℕ → Reading ℕ → Reading ℕ → Reading Request
asked (read columns) (read delay) (read gap) = read (record { columns = columns; delay = delay; gap = gap })
asked (read columns) (read delay) unread = unread
asked (read columns) unread gap = unread
asked unread delay gap = unread

-- "three lines, `columns=`, `delay=` and `gap=`, the last two with one to three digits"; nothing follows them
unfoldable pub request_in : Reading ThreeLines → Reading Request
request_in (read l) =
    cond (eqb (length l.rest) 0) (asked (keyed columns_key 2 l.one) (keyed delay_key 3 l.two) (keyed gap_key 3 l.three)) unread
request_in unread = unread

abbrev pub request_of : List ℕ → Reading Request
request_of input = request_in (three_lines input)

-- ---- what is answered

-- "or a refusal as the script program does"; "another form being 1"
unfoldable pub answer_text : Reading Request → List ℕ
answer_text (read r) =
    let n = fastest_refusal r.columns r.delay r.gap in
    cond (eqb n 0) (table_text (fastest_tree r.columns r.delay r.gap)) (refused_text n)
answer_text unread = refused_text 1

abbrev pub request_text : List ℕ → List ℕ
request_text input = answer_text (request_of input)
