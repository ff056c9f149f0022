-- What is written as a table is read as one. Assumes nothing.
use Rattle.std.specs.Prelude.{ℕ, zero, suc, ◌+◌, ◌/◌, ◌%◌, ◌≤◌, ◌<◌, ◌≡◌, Bool, true, false, not, ◌&&◌, cond, ◌⊎◌, eqb, ltb, length, take}
use Rattle.std.proofs.Math.Path.{refl}
use Rattle.std.proofs.Common.{sym, ap, ap₂, ◌∙◌, true≢false, inl, inr, arith, length-take, eq-eqb, ne_eqb, le-ltb, eqb-true}
use mathlib.Core.List.{List, [], ◌∷◌, ◌++◌, append_assoc, append-nil}
use Rattle.std.proofs.Math.ListN.{length-append}
use Rattle.column.specs.laws.Cases.{truth, and_left, and_right}
use Rattle.column.specs.Trees.{every, ascending, tree_by, IsTree}
use Rattle.column.specs.laws.TreeLaws.{every_at, check_exact}
use Rattle.column.specs.declared.tree.Tree.{Tree}
use Rattle.text.specs.Text.{columns_key, root_key, up_key, first_key, watch_key, newline, comma, decimal_in, decimal, Reading, read, unread, all_digits, value_from, leading_zero, numeral, starts_with, after_key, more_divided, divided}
use Rattle.text.specs.laws.DividedLaws.{Columns, columns_taken}
use Rattle.text.specs.Pieces.{ended, with_first, cut, longer, pieces, with_number, numerals, numeral_in, keyed, numbers_in, numbers, third_line, second_line, first_line}
use Rattle.bank.specs.Steps.{accepted}
use Rattle.table.specs.Tables.{unlisted, sequence_line, watch_line, with_watch, further_in, Table, joined, table_in, table_of, sixteen, tree_in, counted_refusal, table_refusal, placed_at, judged, read_table, table_text}

-- ---- texts without a byte

abbrev lacks : ℕ → List ℕ → Bool
lacks b [] = true
lacks b (x ∷ l) = not (eqb x b) && lacks b l

lacks_append : (b : ℕ) (l m : List ℕ) → lacks b l ≡ true → lacks b m ≡ true → lacks b (l ++ m) ≡ true
lacks_append b [] m h g = g
lacks_append b (x ∷ l) m h g =
    ap₂ ◌&&◌ (and_left (not (eqb x b)) (lacks b l) h) (lacks_append b l m (and_right (not (eqb x b)) (lacks b l) h) g)

-- digits are neither byte 10 nor a comma
decimal_lacks : (b width n : ℕ) → b < 48 → lacks b (decimal_in width n) ≡ true
unfolding decimal_in
decimal_lacks b zero n h = refl
decimal_lacks b (suc width) n h = go (truth (ltb n 10)) (decimal_lacks b width (n / 10) h)
  where
    digit : (d : ℕ) → not (eqb (48 + d) b) ≡ true
    digit d = ap not (ne_eqb (48 + d) b (λ e. omega arith))

    go : (ltb n 10 ≡ true) ⊎ (ltb n 10 ≡ false) → lacks b (decimal_in width (n / 10)) ≡ true
        → lacks b (cond (ltb n 10) ((48 + n) ∷ []) (decimal_in width (n / 10) ++ ((48 + n % 10) ∷ []))) ≡ true
    go (inl e) ih = rw e (ap (λ x. x && true) (digit n))
    go (inr e) ih = rw e (lacks_append b (decimal_in width (n / 10)) ((48 + n % 10) ∷ []) ih (ap (λ x. x && true) (digit (n % 10))))

-- ---- a line ends at its byte 10, a piece at its comma

cut_line : (line rest : List ℕ) → lacks newline line ≡ true → cut (line ++ (newline ∷ rest)) ≡ ended line rest
unfolding cut with_first
cut_line [] rest h = refl
cut_line (x ∷ line) rest h = go (truth (eqb x newline)) (cut_line line rest)
  where
    go : (eqb x newline ≡ true) ⊎ (eqb x newline ≡ false) → (lacks newline line ≡ true → cut (line ++ (newline ∷ rest)) ≡ ended line rest)
        → cond (eqb x newline) (ended [] (line ++ (newline ∷ rest))) (with_first x (cut (line ++ (newline ∷ rest)))) ≡ ended (x ∷ line) rest
    go (inl e) ih = absurd (true≢false (sym (and_left (not (eqb x newline)) (lacks newline line) h) ∙ ap not e))
    go (inr e) ih = rw (e, ih (and_right (not (eqb x newline)) (lacks newline line) h))

piece_more : (p rest : List ℕ) → lacks comma p ≡ true → pieces (p ++ (comma ∷ rest)) ≡ p ∷ pieces rest
unfolding pieces longer
piece_more [] rest h = refl
piece_more (x ∷ p) rest h = go (truth (eqb x comma)) (piece_more p rest)
  where
    go : (eqb x comma ≡ true) ⊎ (eqb x comma ≡ false) → (lacks comma p ≡ true → pieces (p ++ (comma ∷ rest)) ≡ p ∷ pieces rest)
        → cond (eqb x comma) ([] ∷ pieces (p ++ (comma ∷ rest))) (longer x (pieces (p ++ (comma ∷ rest)))) ≡ (x ∷ p) ∷ pieces rest
    go (inl e) ih = absurd (true≢false (sym (and_left (not (eqb x comma)) (lacks comma p) h) ∙ ap not e))
    go (inr e) ih = rw (e, ih (and_right (not (eqb x comma)) (lacks comma p) h))

piece_last : (p : List ℕ) → lacks comma p ≡ true → pieces p ≡ p ∷ []
unfolding pieces longer
piece_last [] h = refl
piece_last (x ∷ p) h = go (truth (eqb x comma)) (piece_last p)
  where
    go : (eqb x comma ≡ true) ⊎ (eqb x comma ≡ false) → (lacks comma p ≡ true → pieces p ≡ p ∷ [])
        → cond (eqb x comma) ([] ∷ pieces p) (longer x (pieces p)) ≡ (x ∷ p) ∷ []
    go (inl e) ih = absurd (true≢false (sym (and_left (not (eqb x comma)) (lacks comma p) h) ∙ ap not e))
    go (inr e) ih = rw (e, ih (and_right (not (eqb x comma)) (lacks comma p) h))

-- ---- numbers up to 16 read back

is_read : Reading ℕ → ℕ → Bool
is_read (read m) n = eqb m n
is_read unread n = false

read_is : (r : Reading ℕ) (n : ℕ) → is_read r n ≡ true → r ≡ read n
unfolding is_read
read_is (read m) n e = ap read (eqb-true m n e)
read_is unread n e = absurd (true≢false (sym e))

small_read : every (λ n. is_read (numeral 2 (decimal n)) n) 17 ≡ true
unfolding every is_read numeral decimal_in all_digits value_from leading_zero
small_read = refl

decimal_read : (n : ℕ) → n ≤ 16 → numeral 2 (decimal n) ≡ read n
decimal_read n l = read_is (numeral 2 (decimal n)) n (every_at (λ n. is_read (numeral 2 (decimal n)) n) 17 n small_read (omega arith))

-- ---- the numbers of an `up` line

more_read : (n : ℕ) (l : List ℕ) → n ≤ 16 → Columns l → numerals (pieces (decimal n ++ more_divided l)) ≡ read (n ∷ l)
unfolding numerals with_number more_divided
more_read n [] h g =
    rw (append-nil (decimal n), piece_last (decimal n) (decimal_lacks comma 20 n (omega arith)), decimal_read n h)
more_read n (m ∷ l) h g =
    rw (
      piece_more (decimal n) (decimal m ++ more_divided l) (decimal_lacks comma 20 n (omega arith)),
      decimal_read n h,
      more_read m l g.0 g.1,
    )

divided_read : (n : ℕ) (l : List ℕ) → Columns (n ∷ l) → numerals (pieces (divided (n ∷ l))) ≡ read (n ∷ l)
unfolding divided
divided_read n l h = more_read n l h.0 h.1

divided_lacks : (b : ℕ) (l : List ℕ) → b < 44 → lacks b (divided l) ≡ true
unfolding divided more_divided
divided_lacks b [] h = refl
divided_lacks b (n ∷ l) h = lacks_append b (decimal n) (more_divided l) (decimal_lacks b 20 n (omega arith)) (more l)
  where
    more : (l : List ℕ) → lacks b (more_divided l) ≡ true
    more [] = refl
    more (n ∷ l) =
        ap₂ ◌&&◌ (ap not (ne_eqb comma b (λ e. omega arith))) (lacks_append b (decimal n) (more_divided l) (decimal_lacks b 20 n (omega arith)) (more l))

-- ---- the three lines

columns_read : (n : ℕ) → n ≤ 16 → keyed columns_key 2 (columns_key ++ decimal n) ≡ read n
unfolding numeral_in after_key starts_with
columns_read n l = decimal_read n l

root_read : (n : ℕ) → n ≤ 16 → keyed root_key 2 (root_key ++ decimal n) ≡ read n
unfolding numeral_in after_key starts_with
root_read n l = decimal_read n l

up_read : (l : List ℕ) → 0 < length l → Columns l → numbers up_key (up_key ++ divided l) ≡ read l
unfolding numbers_in after_key starts_with
up_read [] l h = absurd (omega arith)
up_read (n ∷ l) p h = divided_read n l h

-- ---- the table

module _ (t : Tree) where
  abbrev one : List ℕ
  one = columns_key ++ decimal t.columns

  abbrev two : List ℕ
  two = root_key ++ decimal t.root

  abbrev up : List ℕ
  up = take t.columns t.up

  abbrev three : List ℕ
  three = up_key ++ divided up

  abbrev table : Table
  table =
      record {
        columns = t.columns;
        root = t.root;
        up = up;
        sequence = unlisted;
        watch = false;
        end = length one + 1 + (length two + 1) + (length three + 1) + 0;
      }

  text_lines : (rest : List ℕ) → table_text t ++ rest ≡ one ++ (newline ∷ (two ++ (newline ∷ (three ++ (newline ∷ rest)))))
  unfolding table_text
  text_lines rest = simp append_assoc

  text_length : length (table_text t) ≡ table.end
  unfolding table_text
  text_length = simp length-append (omega arith)

  module _ (is : IsTree t) (wide : length t.up ≡ 16) where
    up_length : length up ≡ t.columns
    up_length = length-take t.columns t.up ∙ omega (arith, is.sixteen, wide)

    up_small : Columns up
    up_small = columns_taken t.up t.columns (λ c l. omega (arith, is.parent_below c l, is.sixteen))

    table_read : (rest : List ℕ) → starts_with first_key rest ≡ false → starts_with watch_key rest ≡ false → table_of (table_text t ++ rest) ≡ read table
    unfolding first_line second_line third_line table_in joined sequence_line further_in watch_line with_watch
    table_read rest other unwatched =
        rw (
          text_lines rest,
          cut_line one (two ++ (newline ∷ (three ++ (newline ∷ rest))))
              (lacks_append newline columns_key (decimal t.columns) refl (decimal_lacks newline 20 t.columns (omega arith))),
          cut_line two (three ++ (newline ∷ rest))
              (lacks_append newline root_key (decimal t.root) refl (decimal_lacks newline 20 t.root (omega arith))),
          cut_line three rest (lacks_append newline up_key (divided up) refl (divided_lacks newline up (omega arith))),
          columns_read t.columns is.sixteen,
          root_read t.root (omega (arith, is.root_below, is.sixteen)),
          up_read up (omega (arith, up_length, is.some)) up_small,
          other,
          unwatched,
        )

    -- "Tables are checked in the order 1, 2, 3": none applies
    counted : counted_refusal t (length up) t.columns ≡ 0
    counted =
        rw (
          ne_eqb t.columns 0 (λ e. omega (arith, e, is.some)),
          le-ltb 16 t.columns is.sixteen,
          eq-eqb (length up) t.columns up_length,
          eq-eqb t.columns t.columns refl,
          (check_exact t).1 is,
        )

    -- what is written as a table is read as the same tree, whatever follows it, unless that names a sequence or a watch
    pub reads_back : t.first ≡ ascending → t.watch ≡ false → sixteen up ≡ t.up → (rest : List ℕ) → starts_with first_key rest ≡ false
        → starts_with watch_key rest ≡ false → read_table (table_text t ++ rest) ≡ accepted (placed_at t (length (table_text t)))
    unfolding judged table_refusal
    reads_back unnamed by-root held rest other unwatched =
        rw (table_read rest other unwatched)
        (let same : tree_in table ≡ t = λ k. tree_by t.columns t.root (held k) (sym unnamed k) (sym by-root k) in
        rw (same, counted, text_length))
