-- Worked examples of tables, after document 01, "The bank and its table", and document 02, Points 6 and 9.
use Rattle.std.specs.Prelude.{ℕ, ◌≡◌, refl, true, List, [], ◌∷◌, map, replicate}
use Prim.Native.String.{String}
use Rattle.column.specs.Trees.{every, climbs_in, ascending, tree_by, tree_in_sequence, tree_of, tree_refusal}
use Rattle.text.specs.Text.{bytes, all_digits, value_from, leading_zero, numeral, starts_with, after_key}
use Rattle.text.specs.Pieces.{with_first, cut, longer, pieces, with_number, numerals, numeral_in, numbers_in, third_line, second_line, first_line}
use Rattle.bank.specs.Steps.{Result, accepted, refused}
use Rattle.table.specs.Tables.{listed_line, sequence_in, sequence_line, watch_line, with_watch, further_in, joined, table_in, table_refusal, Placed, placed_at, no_tree, judged, read_table}

-- a text, and what it answers
pub record Row : Type 0 where
  pub text : String
  pub answer : Result Placed

abbrev row : String → Result Placed → Row
row text answer = record { text = text; answer = answer }

abbrev no : ℕ → Result Placed
no n = refused n no_tree

abbrev rows : List Row
rows =
    row "columns=3\nroot=0\nup=0,0,1\n" (accepted (placed_at (tree_of 3 0 (0 ∷ 0 ∷ 1 ∷ replicate 13 0)) 26))
    -- "P `columns=1`, `up=0` is a tree."
    ∷ row "columns=1\nroot=0\nup=0\n" (accepted (placed_at (tree_of 1 0 (replicate 16 0)) 22))
    -- what follows a table is no part of it
    ∷ row "columns=1\nroot=0\nup=0\nsend=0\n" (accepted (placed_at (tree_of 1 0 (replicate 16 0)) 22))
    -- "16 columns pass, 17 don't"
    ∷ row "columns=16\nroot=15\nup=15,15,15,15,15,15,15,15,15,15,15,15,15,15,15,15\n"
    (accepted (placed_at (tree_of 16 15 (replicate 16 15)) 70))
    ∷ row "columns=17\nroot=17\nup=0\n" (no 2)
    ∷ row "columns=0\nroot=0\nup=0\n" (no 2)
    -- "P `up=0,2,1` is none."
    ∷ row "columns=3\nroot=0\nup=0,2,1\n" (no 3)
    ∷ row "columns=3\nroot=3\nup=0,0,1\n" (no 3)
    -- "`up` of another length"
    ∷ row "columns=3\nroot=0\nup=0,0\n" (no 3)
    ∷ row "columns=16\nroot=0\nup=0,0,0,0,0,0,0,0,0,0,0,0,0,0,0,0,0\n" (no 3)
    -- "table not of the form above": a numeral's form
    ∷ row "columns=03\nroot=0\nup=0,0,1\n" (no 1)
    ∷ row "columns=100\nroot=0\nup=0\n" (no 1)
    -- bytes 47 and 58, which are next to the digits
    ∷ row "columns=3\nroot=/\nup=0,0,1\n" (no 1)
    ∷ row "columns=3\nroot=:\nup=0,0,1\n" (no 1)
    ∷ row "columns=3\nroot=100\nup=0,0,1\n" (no 1)
    ∷ row "columns=3\nroot=0\nup=0,0,100\n" (no 1)
    ∷ row "columns=99\nroot=0\nup=0\n" (no 2)
    ∷ row "columns=3\r\nroot=0\nup=0,0,1\n" (no 1)
    ∷ row "columns=3\nroot=0\nup=\n" (no 1)
    ∷ row "columns=3\nroot=0\nup=0,\n" (no 1)
    -- "in the order 1, 2, 3": the third line's form comes before 17 columns
    ∷ row "columns=17\nroot=99\nup=0,x\n" (no 1)
    -- document 02, Point 6: "If the line after the third begins `first=`, it is the table's"
    ∷ row "columns=3\nroot=0\nup=0,0,1\nfirst=2,0,1\nsend=0\n"
    (accepted (placed_at (tree_in_sequence 3 0 (0 ∷ 0 ∷ 1 ∷ replicate 13 0) (2 ∷ 0 ∷ 1 ∷ replicate 13 0)) 38))
    -- another line after the third is none of the table's, nor is one further down
    ∷ row "columns=1\nroot=0\nup=0\nFirst=0\n" (accepted (placed_at (tree_of 1 0 (replicate 16 0)) 22))
    ∷ row "columns=1\nroot=0\nup=0\nsend=0\nfirst=0\n" (accepted (placed_at (tree_of 1 0 (replicate 16 0)) 22))
    -- "A list that misses, repeats or exceeds a column is refused with 3."
    ∷ row "columns=3\nroot=0\nup=0,0,1\nfirst=2,0\n" (no 3)
    ∷ row "columns=3\nroot=0\nup=0,0,1\nfirst=2,0,2\n" (no 3)
    ∷ row "columns=3\nroot=0\nup=0,0,1\nfirst=2,0,1,1\n" (no 3)
    ∷ row "columns=3\nroot=0\nup=0,0,1\nfirst=2,0,3\n" (no 3)
    -- sixteen are listed, and seventeen
    ∷ row "columns=16\nroot=0\nup=0,0,0,0,0,0,0,0,0,0,0,0,0,0,0,0\nfirst=0,1,2,3,4,5,6,7,8,9,10,11,12,13,14,15\n"
    (accepted (placed_at (tree_in_sequence 16 0 (replicate 16 0) ascending) 97))
    ∷ row "columns=16\nroot=0\nup=0,0,0,0,0,0,0,0,0,0,0,0,0,0,0,0\nfirst=0,1,2,3,4,5,6,7,8,9,10,11,12,13,14,15,0\n" (no 3)
    ∷ row "columns=16\nroot=0\nup=0,0,0,0,0,0,0,0,0,0,0,0,0,0,0,0\nfirst=0,1,2,3,4,5,6,7,8,9,10,11,12,13,14,15,16\n" (no 3)
    -- "in the form of `up`": 1, and so where it is not ended; 2 comes before 3
    ∷ row "columns=3\nroot=0\nup=0,0,1\nfirst=2,0,01\n" (no 1)
    ∷ row "columns=3\nroot=0\nup=0,0,1\nfirst=\n" (no 1)
    ∷ row "columns=3\nroot=0\nup=0,0,1\nfirst=2,0,1" (no 1)
    ∷ row "columns=17\nroot=0\nup=0\nfirst=x\n" (no 1)
    ∷ row "columns=17\nroot=0\nup=0\nfirst=0\n" (no 2)
    -- document 02, Point 9: "A next line beginning `watch=` closes the table, as `watch=root` or `watch=sender`; without it, root."
    ∷ row "columns=1\nroot=0\nup=0\nwatch=root\nsend=0\n" (accepted (placed_at (tree_of 1 0 (replicate 16 0)) 33))
    ∷ row "columns=1\nroot=0\nup=0\nwatch=sender\nsend=0\n" (accepted (placed_at (tree_by 1 0 (replicate 16 0) ascending true) 35))
    ∷ row "columns=1\nroot=0\nup=0\nfirst=0\nwatch=sender\n" (accepted (placed_at (tree_by 1 0 (replicate 16 0) (replicate 16 0) true) 43))
    -- it closes the table: what follows is none of it
    ∷ row "columns=1\nroot=0\nup=0\nwatch=root\nwatch=sender\n" (accepted (placed_at (tree_of 1 0 (replicate 16 0)) 33))
    ∷ row "columns=1\nroot=0\nup=0\nwatch=sender\nfirst=0\n" (accepted (placed_at (tree_by 1 0 (replicate 16 0) ascending true) 35))
    ∷ row "columns=1\nroot=0\nup=0\nsend=0\nwatch=sender\n" (accepted (placed_at (tree_of 1 0 (replicate 16 0)) 22))
    -- another word, and an end that is missing; 1 comes before 2 and 3
    ∷ row "columns=1\nroot=0\nup=0\nwatch=\n" (no 1)
    ∷ row "columns=1\nroot=0\nup=0\nwatch=roots\n" (no 1)
    ∷ row "columns=1\nroot=0\nup=0\nwatch=Sender\n" (no 1)
    ∷ row "columns=1\nroot=0\nup=0\nwatch=root" (no 1)
    ∷ row "columns=1\nroot=0\nup=0\nwatch=sender" (no 1)
    ∷ row "columns=1\nroot=0\nup=0\nfirst=0\nwatch=0\n" (no 1)
    ∷ row "columns=17\nroot=0\nup=0\nwatch=x\n" (no 1)
    ∷ row "columns=17\nroot=0\nup=0\nwatch=sender\n" (no 2)
    -- "three lines, each ended by byte 10, in this order"
    ∷ row "root=0\ncolumns=3\nup=0,0,1\n" (no 1)
    ∷ row "columns=3\nroot=0\nup=0,0,1" (no 1)
    ∷ row "" (no 1)
    ∷ []

pub table_answers : map (λ r. read_table (bytes r.text)) rows ≡ map (λ r. r.answer) rows
unfolding with_first cut longer pieces with_number numerals numeral_in numbers_in listed_line sequence_in sequence_line watch_line with_watch further_in joined third_line second_line first_line table_in
    table_refusal judged all_digits value_from leading_zero numeral starts_with after_key every climbs_in tree_refusal
table_answers = refl
