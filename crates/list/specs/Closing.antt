-- The closing list of a column, after document 01, "The closing list" and the example of "The script program".
use Rattle.std.specs.Prelude.{ℕ, zero, suc, ◌+◌, not, cond, List, [], ◌∷◌, ◌++◌, eqb, leb, length, Result}
use Rattle.std.specs.Int.Count.{ones}
use Rattle.column.specs.Refusals.{first, earlier, Given, given, refused, meant}
use Rattle.column.specs.Sets.{has}
use Rattle.column.specs.Columns.{validity_refusal}
use Rattle.column.specs.declared.error.Refusal.{Refusal}
use Rattle.column.specs.declared.tree.Tree.{Tree}
use Rattle.column.specs.declared.state.Column.{Column}
use Rattle.text.specs.Text.{column_key, number_key, occupied_key, doors_key, newline, field, written, divided}

-- "the longest list is 229"
abbrev pub longest_list : ℕ
longest_list = 229

-- "Doors rise": the occupied doors among the first, as many as are given
unfoldable pub doors_up_to : ℕ → ℕ → List ℕ
doors_up_to zero doors = []
doors_up_to (suc k) doors = cond (has doors k) (doors_up_to k doors ++ (suc k ∷ [])) (doors_up_to k doors)

-- "`column` is the lister, `number` its order number, `occupied` the count of set bits"; "with none, the last line is `doors=`"
unfoldable pub list_text : ℕ → Column → List ℕ
list_text i c =
    field column_key i
    ++ (field number_key c.number
    ++ (field occupied_key (ones c.doors)
    ++ (doors_key ++ (divided (doors_up_to 64 c.doors) ++ (newline ∷ [])))))

-- what the call answers, and the whole buffer after it
pub record Listed : Type 0 where
  pub answer : Given ℕ
  pub buffer : List ℕ

abbrev pub listed_meant : Result ℕ Refusal → List ℕ → Listed
listed_meant r buffer = record { answer = meant r; buffer = buffer }

-- "Written into a lent buffer from a given place on; other bytes keep their values, and the call answers the list's length."
-- Row 11: "the list doesn't fit from its place"
unfoldable pub placed : List ℕ → ℕ → List ℕ → Listed
placed old at text =
    cond (leb (at + length text) (length old))
    (record { answer = given (length text); buffer = written old at text })
    (record { answer = refused 11; buffer = old })

-- the list of a lone column: its tree and its state are tested, and that it runs
abbrev pub lone_refusal : Tree → ℕ → Column → ℕ
lone_refusal t i c = earlier (validity_refusal t i c) (first ((5, not c.running) ∷ []))

unfoldable pub lone_list : Tree → ℕ → Column → List ℕ → Listed
lone_list t i c old =
    let n = lone_refusal t i c in
    cond (eqb n 0) (placed old 0 (list_text i c)) (record { answer = refused n; buffer = old })
