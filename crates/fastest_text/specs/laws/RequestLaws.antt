-- Requests as the reader holds them, and how long a table is. Assumes nothing.
use Rattle.std.specs.Prelude.{ℕ, ◌+◌, ◌-◌, ◌*◌, ◌≤◌, ◌≡◌, ◌≢◌, List, Option, Some, None, length, take, drop}
use Rattle.std.proofs.Common.{arith, length-append, length-take}
use Rattle.std.proofs.Math.ListN.{length-drop}
use borrow.Author.Tests.{eq-eqb, ne_eqb}
use Rattle.column.specs.Trees.{IsTree}
use Rattle.column.specs.declared.tree.Tree.{Tree}
use Rattle.text.specs.Text.{columns_key, delay_key, gap_key, unread, divided}
use Rattle.text.specs.laws.DecimalLaws.{decimal_length}
use Rattle.text.specs.laws.DividedLaws.{columns_taken, divided_length}
use Rattle.text.specs.Pieces.{keyed, three_lines, lines_at, ends_meant, Rising}
use Rattle.text.specs.laws.LineEndLaws.{as_rising, no_lines, lines_are}
use Rattle.text.specs.declared.three_lines.LineEnds.{LineEnds}
use Rattle.table.specs.Tables.{table_text}
use Rattle.fastest_text.specs.Requests.{asked, request_in, request_of}

-- ---- how long a table is

pub table_longest : (t : Tree) → IsTree t → length (table_text t) ≤ 70
unfolding table_text
table_longest t is =
    let up = take t.columns t.up in
    let parents : length (divided up) ≤ 3 * length up - 1 =
    divided_length up (columns_taken t.up t.columns (λ c l. omega (arith, is.parent_below c l, is.sixteen))) in
    simp length-append
    (omega (
      arith,
      decimal_length 20 1 t.columns (omega (arith, is.sixteen)),
      decimal_length 20 1 t.root (omega (arith, is.root_below, is.sixteen)),
      parents,
      length-take t.columns t.up,
      is.sixteen,
    ))

-- ---- what is read of the lines that a search found

module _ {r : Option LineEnds} (s : List ℕ) (f : ends_meant r s ≡ three_lines s) where
  pub request_fewer : r ≡ None → request_of s ≡ unread
  unfolding request_in
  request_fewer e = rw (no_lines s f e)

  module _ {l : LineEnds} (e : r ≡ Some l) (up : Rising r s) where
    pub request_longer : l.three + 1 ≢ length s → request_of s ≡ unread
    unfolding request_in
    request_longer n =
        rw (lines_are s f e, ne_eqb (length (drop (l.three + 1) s)) 0 (λ z. omega (arith, z, n, length-drop (l.three + 1) s, (as_rising s e up).2)))

    pub request_whole : l.three + 1 ≡ length s
        → request_of s ≡ asked (keyed columns_key 2 (lines_at s l.one l.two l.three).one) (keyed delay_key 3 (lines_at s l.one l.two l.three).two)
        (keyed gap_key 3 (lines_at s l.one l.two l.three).three)
    unfolding request_in
    request_whole n = rw (lines_are s f e, eq-eqb (length (drop (l.three + 1) s)) 0 (omega (arith, length-drop (l.three + 1) s, n)))
