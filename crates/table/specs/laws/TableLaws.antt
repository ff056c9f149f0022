-- What the reader of a table makes of its lines. Assumes nothing.
use Rattle.std.specs.Prelude.{ℕ, ◌+◌, ◌-◌, ◌<◌, ◌≡◌, refl, Bool, true, false, cond, eqb, List, length, take, drop, Option, Some, None}
use Rattle.std.proofs.Common.{sym, ap, ap₂, subst, ◌∙◌, arith, ne_eqb}
use Rattle.text.specs.Text.{columns_key, root_key, up_key, first_key, watch_key, watches_root, watches_sender, newline, Reading, read, unread, starts_with}
use Rattle.text.specs.Search.{place_of}
use Rattle.text.specs.Pieces.{numbers, keyed, three_lines, lines_at, Rising}
use Rattle.text.specs.laws.ReadingLaws.{rest_of}
use Rattle.text.specs.laws.Cutting.{end_found, none_found, line_ended, line_unended, line_length}
use Rattle.text.specs.declared.three_lines.LineEnds.{LineEnds}
use Rattle.column.specs.Refusals.{refusal_number}
use Rattle.column.specs.Trees.{tree_by}
use Rattle.column.specs.declared.error.Refusal.{Refusal}
use Rattle.bank.specs.Steps.{Result, accepted, refused}
use Rattle.bank.specs.laws.StepLaws.{some_number}
use Rattle.table.specs.Tables as tables
use Rattle.table.specs.Tables.{listed_line, sequence_in, sequence_line, watch_line, with_watch, further_in, further_lines, joined, table_in, table_of, Sequence, unlisted, listed, Table, sixteen, sequence_of, tree_in, count_listed, counted_refusal, table_refusal, Placed, placed_at, no_tree, judged, read_table}
use Rattle.table.specs.inner.Held.{held}
use Rattle.table.specs.inner.NumberLists.{list_of}
use Rattle.table.specs.inner.HeldTables.{sequence_held, watch_held, further_held, numbers_held, lines_held, first_of, tree_of_lines, count_of, refusal_of_lines}
use Rattle.table.specs.laws.HeldLaws.{nothing_read}
use Rattle.table.specs.declared.number_list.NumberList.{NumberList}
use Rattle.table.specs.declared.table.Parsed.{Parsed}
use Rattle.table.specs.declared.table.FurtherLines.{FurtherLines}
use Rattle.table.specs.declared.table.Lines.{Lines}

-- ---- the sequence's line

-- the line of these numbers
unfoldable pub line_of : Option NumberList → ℕ → Option (Parsed (Option NumberList))
line_of (Some l) size = Some (record { value = Some l; size = size })
line_of None size = None

pub sequence_none : (s : List ℕ) → starts_with first_key s ≡ false → sequence_line s ≡ read (record { sequence = unlisted; size = 0 })
unfolding sequence_line
sequence_none s e = rw e

module _ (s : List ℕ) (e : starts_with first_key s ≡ true) where
  pub sequence_unended : place_of newline 0 (length s) s ≡ length s → sequence_line s ≡ unread
  unfolding sequence_line sequence_in
  sequence_unended z = rw (e, line_unended s 0 (length s) (omega arith) (none_found s 0 z (omega arith)) refl)

  pub sequence_ended : (end : ℕ) → (end ≡ place_of newline 0 (length s) s) × (end < length s)
      → held sequence_held (sequence_line s) ≡ line_of (held list_of (numbers first_key (take end s))) (end + 1)
  unfolding sequence_line sequence_in listed_line line_of
  sequence_ended end f =
      let none : end - 0 ≡ end = omega arith in
      let size : length (take end s) ≡ end = ap (λ n. length (take n s)) (sym none) ∙ line_length s 0 end (omega (arith, f.1)) ∙ none in
      rw (e, line_ended s 0 end (omega arith) (end_found s 0 end f (omega arith)) f.1, none, size) (go (numbers first_key (take end s)))
    where
      go : (l : Reading (List ℕ)) → held sequence_held (listed_line l (end + 1)) ≡ line_of (held list_of l) (end + 1)
      go (read l) = refl
      go unread = refl

-- ---- the watch's line, "without it, root"

pub watch_none : (s : List ℕ) → starts_with watch_key s ≡ false → watch_line s ≡ read (record { watch = false; size = 0 })
unfolding watch_line
watch_none s e = rw e

module _ (s : List ℕ) (e : starts_with watch_key s ≡ true) where
  pub watch_root : starts_with watches_root s ≡ true → watch_line s ≡ read (record { watch = false; size = 11 })
  unfolding watch_line
  watch_root f = rw (e, f)

  module _ (f : starts_with watches_root s ≡ false) where
    pub watch_sender : starts_with watches_sender s ≡ true → watch_line s ≡ read (record { watch = true; size = 13 })
    unfolding watch_line
    watch_sender g = rw (e, f, g)

    pub watch_unread : starts_with watches_sender s ≡ false → watch_line s ≡ unread
    unfolding watch_line
    watch_unread g = rw (e, f, g)

-- ---- both lines after the third

-- a sequence's line, and the watch's after it
unfoldable pub both_lines : Parsed (Option NumberList) → Option (Parsed Bool) → Option (Parsed FurtherLines)
both_lines q (Some w) = Some (record { value = record { listed = q.value; watch = w.value }; size = q.size + w.size })
both_lines q None = None

pub further_with : (s : List ℕ) (q : Parsed (Option NumberList)) → Some q ≡ held sequence_held (sequence_line s)
    → held further_held (further_lines s) ≡ both_lines q (held watch_held (watch_line (take (length s - q.size) (drop q.size s))))
unfolding further_in with_watch both_lines
further_with s q e = rw (rest_of s q.size) (go (sequence_line s) e)
  where
    after : (x : tables.SequenceLine) (w : Reading tables.WatchLine) → held further_held (with_watch x w) ≡ both_lines (sequence_held x) (held watch_held w)
    after x (read w) = refl
    after x unread = refl

    go : (r : Reading tables.SequenceLine) → Some q ≡ held sequence_held r
        → held further_held (further_in r s) ≡ both_lines q (held watch_held (watch_line (drop q.size s)))
    go (read x) e =
        let same : sequence_held x ≡ q = cc in
        subst (λ (q : Parsed (Option NumberList)). held further_held (further_in (read x) s) ≡ both_lines q (held watch_held (watch_line (drop q.size s)))) same
        (after x (watch_line (drop x.size s)))
    go unread e = cc

-- ---- the three lines that a search found

pub table_fewer : (s : List ℕ) → three_lines s ≡ unread → read_table s ≡ refused 1 no_tree
unfolding table_in judged
table_fewer s e = rw e

module _ (s : List ℕ) (e : LineEnds) where
  abbrev pub one : List ℕ
  one = take e.one s

  abbrev pub two : List ℕ
  two = take (e.two - (e.one + 1)) (drop (e.one + 1) s)

  abbrev pub three : List ℕ
  three = take (e.three - (e.two + 1)) (drop (e.two + 1) s)

  abbrev pub rest : List ℕ
  rest = take (length s - (e.three + 1)) (drop (e.three + 1) s)

  pub table_found : Rising (Some e) s → read (lines_at s e.one e.two e.three) ≡ three_lines s
      → table_of s ≡ joined (keyed columns_key 2 one) (keyed root_key 2 two) (numbers up_key three) (further_lines rest) (e.three + 1)
  unfolding table_in
  table_found h f =
      let l = lines_at s e.one e.two e.three in
      let none : e.one - 0 ≡ e.one = omega arith in
      let size : length l.one + 1 + (length l.two + 1) + (length l.three + 1) ≡ e.three + 1 =
      omega (
        arith,
        h.0,
        h.1,
        line_length s 0 e.one (omega (arith, h.0, h.1, h.2)),
        line_length s (e.one + 1) e.two (omega (arith, h.1, h.2)),
        line_length s (e.two + 1) e.three (omega (arith, h.2)),
      ) in
      rw (← f, size, rest_of s (e.three + 1), none)

-- what is held of all lines
pub lines_are : (columns root : ℕ) (one two : Reading ℕ) (up : Reading (List ℕ)) (f : Reading tables.Further) (size : ℕ) (p : NumberList) (q : Parsed FurtherLines)
    → read columns ≡ one → read root ≡ two → Some p ≡ held list_of up → Some q ≡ held further_held f
    → Some (record { columns = columns; root = root; parents = p; listed = q.value.listed; watch = q.value.watch; end = size + q.size })
    ≡ held lines_held (joined one two up f size)
unfolding joined
lines_are columns root one two (read l) (read x) size p q e f g h =
    let parents : p ≡ list_of l = cc in
    let further : q ≡ further_held x = cc in
    rw (← e, ← f)
    (ap₂ (λ (p : NumberList) (q : Parsed FurtherLines). Some (record { columns = columns; root = root; parents = p; listed = q.value.listed; watch = q.value.watch; end = size + q.size }))
    parents further)
lines_are columns root one two unread f size p q e₁ e₂ g h = cc
lines_are columns root one two (read l) unread size p q e₁ e₂ g h = cc

-- ---- the tree, or the refusal

pub lines_refused : (r : Reading Table) → None ≡ held lines_held r → judged r ≡ refused 1 no_tree
unfolding judged
lines_refused r e = rw (nothing_read lines_held r e)

tree_same : (t : Table) → tree_in t ≡ tree_of_lines (lines_held t)
tree_same t = by t.sequence
  where
    by : (y : Sequence) → tree_by t.columns t.root (sixteen t.up) (sequence_of y) t.watch ≡ tree_by t.columns t.root (sixteen t.up) (first_of (numbers_held y)) t.watch
    by unlisted = refl
    by (listed l) = refl

refusal_same : (t : Table) → table_refusal t ≡ refusal_of_lines (lines_held t)
unfolding table_refusal
refusal_same t = by t.sequence
  where
    by : (y : Sequence) → counted_refusal (tree_by t.columns t.root (sixteen t.up) (sequence_of y) t.watch) (length t.up) (count_listed y t.columns)
        ≡ counted_refusal (tree_by t.columns t.root (sixteen t.up) (first_of (numbers_held y)) t.watch) (length t.up) (count_of (numbers_held y) t.columns)
    by unlisted = refl
    by (listed l) = refl

-- what is made of these lines
abbrev tried : Lines → Result Placed
tried l = cond (eqb (refusal_of_lines l) 0) (accepted (placed_at (tree_of_lines l) l.end)) (refused (refusal_of_lines l) no_tree)

lines_tried : (r : Reading Table) (l : Lines) → Some l ≡ held lines_held r → judged r ≡ tried l
unfolding judged
lines_tried (read t) l e =
    let same : lines_held t ≡ l = cc in
    subst (λ (l : Lines). judged (read t) ≡ tried l) same (rw (refusal_same t, tree_same t))
lines_tried unread l e = cc

pub tree_given : (r : Reading Table) (l : Lines) → Some l ≡ held lines_held r → 0 ≡ refusal_of_lines l
    → judged r ≡ accepted (placed_at (tree_of_lines l) l.end)
tree_given r l e z = rw (lines_tried r l e, ← z)

pub tree_refused : (r : Reading Table) (l : Lines) → Some l ≡ held lines_held r → (n : Refusal) → refusal_number n ≡ refusal_of_lines l
    → judged r ≡ refused (refusal_number n) no_tree
tree_refused r l e n is = rw (lines_tried r l e, ← is, ne_eqb (refusal_number n) 0 (some_number n))
