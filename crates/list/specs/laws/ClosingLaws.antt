-- How long a closing list can be, what its writer leaves of the whole buffer, and lists in full.
-- Assumes nothing.
use Rattle.std.specs.Prelude.{ℕ, ◌+◌, suc, ◌^◌, ◌-◌, ◌≤◌, ◌<◌, ◌≡◌, refl, true, false, List, [], ◌∷◌, ◌++◌, leb, take, drop}
use Rattle.std.proofs.Common.{ap, ◌∙◌, arith, length-take, length-drop, length-append, take-append-drop, leb-true, leb-false, le-leb}
use Rattle.std.proofs.Math.Logic.{⊎_elim}
use Rattle.std.specs.Int.Count.{ones, ones-ones}
use Rattle.std.proofs.lemmas.Nat.{ones-le}
use Rattle.std.proofs.Math.ListN.{length}
use Rattle.std.proofs.lemmas.Bool.{lt-leb}
use Rattle.column.specs.laws.Cases.{truth}
use Rattle.column.specs.Columns.{highest}
use Rattle.column.specs.declared.state.Column.{Column}
use Rattle.text.specs.Text.{column_key, number_key, occupied_key, doors_key, newline, decimal_in, field, more_divided, divided}
use Rattle.text.specs.laws.DecimalLaws.{decimal_length}
use Rattle.text.specs.laws.WritingLaws.{written_part}
use Rattle.list.specs.laws.DoorLaws.{doors_length}
use Rattle.list.specs.Closing.{longest_list, doors_up_to, list_text, Listed, placed}

-- with a number of k + 1 digits: ten digits of the order's number, two of the count, and all doors
list_of_digits : (k i : ℕ) (c : Column) → i < 10 ^ suc k → c.number ≤ highest → c.doors < 2 ^ 64 → length (list_text i c) ≤ 228 + k
unfolding list_text
list_of_digits k i c h n d =
    simp length-append
    (omega (
      arith,
      decimal_length 20 k i h,
      decimal_length 20 9 c.number (omega arith),
      decimal_length 20 1 (ones c.doors) (omega (arith, ones-le 64 c.doors d)),
      doors_length c.doors 64 (omega arith),
    ))

-- "the longest list is 229": a column's number has two digits at most
pub list_longest : (i : ℕ) (c : Column) → i < 16 → c.number ≤ highest → c.doors < 2 ^ 64 → length (list_text i c) ≤ longest_list
list_longest i c h n d = list_of_digits 1 i c (omega (arith, h)) n d

-- the list of any number of 64 bits
pub list_of_any : (i : ℕ) (c : Column) → i < 2 ^ 64 → c.number ≤ highest → c.doors < 2 ^ 64 → length (list_text i c) ≤ longest_list + 18
list_of_any i c h n d = list_of_digits 19 i c (omega (arith, h)) n d

-- ---- what the writer leaves of the whole buffer

module _ (old : List ℕ) (at : ℕ) where
  abbrev part : List ℕ
  part = take (length old - at) (drop at old)

  -- the buffer of which the part was left so
  abbrev pub whole : Listed → Listed
  whole l = record { answer = l.answer; buffer = take at old ++ (l.buffer ++ drop (length old - at) (drop at old)) }

  -- what is placed at the start of the part is placed at `at` in the whole
  pub placed_part : (text : List ℕ) → at ≤ length old → whole (placed part 0 text) ≡ placed old at text
  unfolding placed
  placed_part text h = ⊎_elim fits short (truth (leb (at + length text) (length old)))
    where
      size : length part ≡ length old - at
      size = simp (length-take, length-drop) (omega arith)

      fits : leb (at + length text) (length old) ≡ true → whole (placed part 0 text) ≡ placed old at text
      fits e =
          let room = leb-true (at + length text) (length old) e in
          rw (e, le-leb (0 + length text) (length part) (omega (arith, size, room)), written_part old at text)

      short : leb (at + length text) (length old) ≡ false → whole (placed part 0 text) ≡ placed old at text
      short e =
          let room = leb-false (at + length text) (length old) e in
          rw (e, lt-leb (0 + length text) (length part) (omega (arith, size, room)))
          (rw (take-append-drop (length old - at) (drop at old), take-append-drop at old))

-- ---- lists in full

abbrev holding : ℕ → ℕ → Column
holding number doors = record { running = true; number = number; doors = doors; send = 0; awaited = 0; owed = 0; noted = 0; whole = false; sender = 0; mask = 0; pending = 0 }

-- the example of "The script program": `column=1`, `number=1`, `occupied=2`, `doors=1,10`
pub list_of_two : list_text 1 (holding 1 513)
    ≡ (99 ∷ 111 ∷ 108 ∷ 117 ∷ 109 ∷ 110 ∷ 61 ∷ 49 ∷ 10 ∷ [])
    ++ ((110 ∷ 117 ∷ 109 ∷ 98 ∷ 101 ∷ 114 ∷ 61 ∷ 49 ∷ 10 ∷ [])
    ++ ((111 ∷ 99 ∷ 99 ∷ 117 ∷ 112 ∷ 105 ∷ 101 ∷ 100 ∷ 61 ∷ 50 ∷ 10 ∷ [])
    ++ (100 ∷ 111 ∷ 111 ∷ 114 ∷ 115 ∷ 61 ∷ 49 ∷ 44 ∷ 49 ∷ 48 ∷ 10 ∷ [])))
unfolding list_text doors_up_to divided more_divided decimal_in ones
list_of_two = refl

-- "with none, the last line is `doors=`"
pub list_of_none : list_text 0 (holding 0 0)
    ≡ (99 ∷ 111 ∷ 108 ∷ 117 ∷ 109 ∷ 110 ∷ 61 ∷ 48 ∷ 10 ∷ [])
    ++ ((110 ∷ 117 ∷ 109 ∷ 98 ∷ 101 ∷ 114 ∷ 61 ∷ 48 ∷ 10 ∷ [])
    ++ ((111 ∷ 99 ∷ 99 ∷ 117 ∷ 112 ∷ 105 ∷ 101 ∷ 100 ∷ 61 ∷ 48 ∷ 10 ∷ [])
    ++ (100 ∷ 111 ∷ 111 ∷ 114 ∷ 115 ∷ 61 ∷ 10 ∷ [])))
unfolding list_text doors_up_to divided more_divided decimal_in ones
list_of_none = refl

-- all 64 doors, after the text of their count
abbrev longest : ℕ → List ℕ
longest count =
    field column_key 10
    ++ (field number_key highest
    ++ (field occupied_key count
    ++ (doors_key ++ (divided (doors_up_to 64 (2 ^ 64 - 1)) ++ (newline ∷ [])))))

longest_length : length (longest 64) ≡ longest_list
unfolding doors_up_to divided more_divided decimal_in
longest_length = refl

-- one of the longest
pub list_of_all : length (list_text 10 (holding highest (2 ^ 64 - 1))) ≡ longest_list
unfolding list_text
list_of_all = ap (λ count. length (longest count)) (ones-ones 64) ∙ longest_length
