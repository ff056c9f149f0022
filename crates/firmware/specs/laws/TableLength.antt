-- No table that is accepted takes more than 137 bytes. Assumes nothing.
use Rattle.std.specs.Prelude.{ℕ, ◌+◌, ◌*◌, ◌≤◌, ◌≡◌, refl, Bool, true, false, not, ◌&&◌, cond, List, [], ◌∷◌, eqb, leb, length, drop}
use Rattle.std.proofs.Common.{ap, ◌∙◌, arith, length-drop, leb-true, eqb-true, ltb-false}
use Rattle.std.proofs.lemmas.Bool.{not-false}
use Rattle.column.specs.laws.Cases.{and_left, and_right}
use Rattle.column.specs.Refusals.{first}
use Rattle.column.specs.laws.RefusalLaws.{passed, earlier_none}
use Rattle.column.specs.Trees.{tree_refusal}
use Rattle.text.specs.Text.{columns_key, root_key, up_key, first_key, watch_key, watches_root, watches_sender, comma, Reading, read, unread, all_digits, value_from, leading_zero, is_numeral, numeral, starts_with, after_key}
use Rattle.text.specs.Pieces.{Cut, ended, unended, cut, longer, pieces, with_number, numerals, numeral_in, keyed, numbers_in, numbers, ThreeLines, three_lines}
use Rattle.bank.specs.Steps.{accepted, refused}
use Rattle.table.specs.Tables.{Sequence, unlisted, listed, SequenceLine, listed_line, sequence_in, sequence_line, WatchLine, watch_line, Further, with_watch, further_in, further_lines, Table, joined, table_in, table_of, tree_in, count_listed, counted_conditions, table_refusal, Placed, no_tree, judged, read_table}

clash : {A : Type 0} {a : A} → unread ≡ read a → ⊥
clash e = let z : ◌≡◌ {A = ℕ} 0 1 = cc in omega arith

-- ---- numerals and pieces

numeral_length : (l : List ℕ) (n : ℕ) → numeral 2 l ≡ read n → length l ≤ 2
unfolding numeral
numeral_length l n = go (is_numeral 2 l) refl
  where
    go : (b : Bool) → is_numeral 2 l ≡ b → cond b (read (value_from 0 l)) unread ≡ read n → length l ≤ 2
    go true e k =
        let sized = and_left (leb 1 (length l) && leb (length l) 2) (all_digits l) (and_left ((leb 1 (length l) && leb (length l) 2) && all_digits l) (not (leading_zero l)) e) in
        leb-true (length l) 2 (and_right (leb 1 (length l)) (leb (length l) 2) sized)
    go false e k = absurd (clash k)

-- the bytes of pieces, each with what ends it
abbrev total : List (List ℕ) → ℕ
total [] = 0
total (p ∷ ps) = length p + 1 + total ps

longer_total : (b : ℕ) (ps : List (List ℕ)) → 1 ≤ total ps → total (longer b ps) ≡ total ps + 1
unfolding longer
longer_total b [] h = absurd (omega arith)
longer_total b (p ∷ ps) h = omega arith

pieces_total : (l : List ℕ) → total (pieces l) ≡ length l + 1
unfolding pieces
pieces_total [] = refl
pieces_total (b ∷ l) = go (eqb b comma) (pieces_total l)
  where
    go : (c : Bool) → total (pieces l) ≡ length l + 1 → total (cond c ([] ∷ pieces l) (longer b (pieces l))) ≡ length (b ∷ l) + 1
    go true e = omega (arith, e)
    go false e = longer_total b (pieces l) (omega (arith, e)) ∙ omega (arith, e)

numerals_total : (ps : List (List ℕ)) (l : List ℕ) → numerals ps ≡ read l → total ps ≤ 3 * length l
unfolding numerals with_number
numerals_total [] l e = omega arith
numerals_total (p ∷ ps) l e = go (numeral 2 p) refl (numerals ps) (numerals_total ps) e
  where
    go : (r : Reading ℕ) → numeral 2 p ≡ r → (q : Reading (List ℕ)) → ((m : List ℕ) → q ≡ read m → total ps ≤ 3 * length m)
        → with_number r q ≡ read l → length p + 1 + total ps ≤ 3 * length l
    go (read n) e (read m) rest k =
        let same : n ∷ m ≡ l = cc in
        omega (arith, numeral_length p n e, rest m refl, ap length same)
    go (read n) e unread rest k = absurd (clash k)
    go unread e q rest k = absurd (clash k)

-- ---- lines behind their keys

key_length : (key l r : List ℕ) → after_key key l ≡ read r → length l ≤ length key + length r
unfolding after_key
key_length key l r = go (starts_with key l)
  where
    go : (b : Bool) → cond b (read (drop (length key) l)) unread ≡ read r → length l ≤ length key + length r
    go true e =
        let same : drop (length key) l ≡ r = cc in
        omega (arith, ap length same, length-drop (length key) l)
    go false e = absurd (clash e)

keyed_length : (key line : List ℕ) (n : ℕ) → keyed key 2 line ≡ read n → length line ≤ length key + 2
unfolding numeral_in
keyed_length key line n = go (after_key key line) refl
  where
    go : (r : Reading (List ℕ)) → after_key key line ≡ r → numeral_in 2 r ≡ read n → length line ≤ length key + 2
    go (read l) e k = omega (arith, key_length key line l e, numeral_length l n k)
    go unread e k = absurd (clash k)

numbers_length : (key line l : List ℕ) → numbers key line ≡ read l → length line + 1 ≤ length key + 3 * length l
unfolding numbers_in
numbers_length key line l = go (after_key key line) refl
  where
    go : (r : Reading (List ℕ)) → after_key key line ≡ r → numbers_in r ≡ read l → length line + 1 ≤ length key + 3 * length l
    go (read s) e k = omega (arith, key_length key line s e, pieces_total s, numerals_total (pieces s) l k)
    go unread e k = absurd (clash k)

-- ---- the lines after the third

-- what the sequence's line takes at most
abbrev most : Sequence → ℕ
most unlisted = 0
most (listed l) = 6 + 3 * length l

sequence_length : (s : List ℕ) (r : SequenceLine) → sequence_line s ≡ read r → r.size ≤ most r.sequence
unfolding sequence_line sequence_in listed_line
sequence_length s r = go (starts_with first_key s) (cut s)
  where
    by_line : (line : List ℕ) (q : Reading (List ℕ)) → numbers first_key line ≡ q → listed_line q (length line + 1) ≡ read r → r.size ≤ most r.sequence
    by_line line (read l) e k =
        let same : record { sequence = listed l; size = length line + 1 } ≡ r = cc in
        rw (← same) (numbers_length first_key line l e)
    by_line line unread e k = absurd (clash k)

    go : (b : Bool) (c : Cut) → cond b (sequence_in c) (read (record { sequence = unlisted; size = 0 })) ≡ read r → r.size ≤ most r.sequence
    go true (ended line rest) k = by_line line (numbers first_key line) refl k
    go true unended k = absurd (clash k)
    go false c k =
        let same : record { sequence = unlisted; size = 0 } ≡ r = cc in
        rw (← same) (omega arith)

watch_length : (s : List ℕ) (w : WatchLine) → watch_line s ≡ read w → w.size ≤ 13
unfolding watch_line
watch_length s w = go (starts_with watch_key s) (starts_with watches_root s) (starts_with watches_sender s)
  where
    sized : (b : Bool) (n : ℕ) → n ≤ 13 → read (record { watch = b; size = n }) ≡ read w → w.size ≤ 13
    sized b n h k =
        let same : record { watch = b; size = n } ≡ w = cc in
        rw (← same) h

    go : (a b c : Bool)
        → cond a
        (cond b (read (record { watch = false; size = length watches_root })) (cond c (read (record { watch = true; size = length watches_sender })) unread))
        (read (record { watch = false; size = 0 })) ≡ read w
        → w.size ≤ 13
    go true true c k = sized false 11 (omega arith) k
    go true false true k = sized true 13 (omega arith) k
    go true false false k = absurd (clash k)
    go false b c k = sized false 0 (omega arith) k

further_length : (s : List ℕ) (f : Further) → further_lines s ≡ read f → f.size ≤ most f.sequence + 13
unfolding further_in with_watch
further_length s f = go (sequence_line s) refl
  where
    watched : (r : SequenceLine) → r.size ≤ most r.sequence → (w : Reading WatchLine) → watch_line (drop r.size s) ≡ w → with_watch r w ≡ read f
        → f.size ≤ most f.sequence + 13
    watched r h (read w) e k =
        let same : record { sequence = r.sequence; watch = w.watch; size = r.size + w.size } ≡ f = cc in
        rw (← same) (omega (arith, h, watch_length (drop r.size s) w e))
    watched r h unread e k = absurd (clash k)

    go : (q : Reading SequenceLine) → sequence_line s ≡ q → further_in q s ≡ read f → f.size ≤ most f.sequence + 13
    go (read r) e k = watched r (sequence_length s r e) (watch_line (drop r.size s)) refl k
    go unread e k = absurd (clash k)

-- ---- the table

table_most : (s : List ℕ) (t : Table) → table_of s ≡ read t → t.end ≤ 22 + 3 * length t.up + most t.sequence + 13
unfolding table_in joined
table_most s t = go (three_lines s)
  where
    lines : (l : ThreeLines) (c r : Reading ℕ) (u : Reading (List ℕ)) (f : Reading Further)
        → keyed columns_key 2 l.one ≡ c → keyed root_key 2 l.two ≡ r → numbers up_key l.three ≡ u → further_lines l.rest ≡ f
        → joined c r u f (length l.one + 1 + (length l.two + 1) + (length l.three + 1)) ≡ read t
        → t.end ≤ 22 + 3 * length t.up + most t.sequence + 13
    lines l (read c) (read r) (read u) (read f) ec er eu ef k =
        let size = length l.one + 1 + (length l.two + 1) + (length l.three + 1) in
        let same : record { columns = c; root = r; up = u; sequence = f.sequence; watch = f.watch; end = size + f.size } ≡ t = cc in
        rw (← same)
        (omega (
          arith,
          keyed_length columns_key l.one c ec,
          keyed_length root_key l.two r er,
          numbers_length up_key l.three u eu,
          further_length l.rest f ef,
        ))
    lines l (read c) (read r) (read u) unread ec er eu ef k = absurd (clash k)
    lines l (read c) (read r) unread f ec er eu ef k = absurd (clash k)
    lines l (read c) unread u f ec er eu ef k = absurd (clash k)
    lines l unread r u f ec er eu ef k = absurd (clash k)

    go : (q : Reading ThreeLines) → table_in q ≡ read t → t.end ≤ 22 + 3 * length t.up + most t.sequence + 13
    go (read l) k =
        lines l (keyed columns_key 2 l.one) (keyed root_key 2 l.two) (numbers up_key l.three) (further_lines l.rest) refl refl refl refl k
    go unread k = absurd (clash k)

-- a table that is accepted has as many parents and listed columns as columns, and sixteen at most
table_few : (t : Table) → table_refusal t ≡ 0 → 3 * length t.up + most t.sequence ≤ 102
unfolding table_refusal
table_few t e =
    let counts = counted_conditions (tree_in t) (length t.up) (count_listed t.sequence t.columns) in
    let p = passed counts tt (earlier_none (first counts) (tree_refusal (tree_in t)) e).0 in
    let columns : t.columns ≤ 16 = ltb-false 16 t.columns p.1.0 in
    let parents : length t.up ≡ t.columns = eqb-true (length t.up) t.columns (not-false _ p.1.1.0) in
    let all : count_listed t.sequence t.columns ≡ t.columns = eqb-true (count_listed t.sequence t.columns) t.columns (not-false _ p.1.1.1.0) in
    go t.sequence columns parents all
  where
    go : (s : Sequence) → t.columns ≤ 16 → length t.up ≡ t.columns → count_listed s t.columns ≡ t.columns → 3 * length t.up + most s ≤ 102
    go unlisted c u l = omega (arith, c, u)
    go (listed m) c u l = omega (arith, c, u, l)

pub table_length : (s : List ℕ) (p : Placed) → read_table s ≡ accepted p → p.end ≤ 137
unfolding judged
table_length s p = go (table_of s) refl
  where
    each : (t : Table) → table_of s ≡ read t → (b : Bool) → eqb (table_refusal t) 0 ≡ b
        → cond b (accepted (record { tree = tree_in t; end = t.end })) (refused (table_refusal t) no_tree) ≡ accepted p → p.end ≤ 137
    each t e true z k =
        let same : record { tree = tree_in t; end = t.end } ≡ p = cc in
        rw (← same) (omega (arith, table_most s t e, table_few t (eqb-true (table_refusal t) 0 z)))
    each t e false z k = let w : ◌≡◌ {A = ℕ} 0 1 = cc in absurd (omega arith)

    go : (r : Reading Table) → table_of s ≡ r → judged r ≡ accepted p → p.end ≤ 137
    go (read t) e k = each t e (eqb (table_refusal t) 0) refl k
    go unread e k = let w : ◌≡◌ {A = ℕ} 0 1 = cc in absurd (omega arith)
