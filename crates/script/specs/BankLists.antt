-- The closing list of a column of a bank, after document 01, "The closing list".
use Rattle.std.specs.Prelude.{ℕ, ◌≡◌, not, cond, List, [], ◌∷◌, eqb}
use Rattle.column.specs.Refusals.{first, earlier, refused}
use Rattle.list.specs.Closing.{list_text, Listed, placed}
use Rattle.bank.specs.Banks.{State, state, column_at, runs, acting_refusal}
use Rattle.bank.specs.declared.bank.Bank.{Bank}

-- "lists 4, 5, 11", and before them the tree and the state
abbrev pub list_refusal : State → ℕ → ℕ
list_refusal s i = earlier (acting_refusal s i) (first ((5, not (runs s.bank i)) ∷ []))

-- n is the refusal of a list, whatever doors the packets carry
abbrev pub RefusesListing : ℕ → Bank → List ℕ → ℕ → Type 0
RefusesListing n b heads i = (doors : List ℕ) → n ≡ list_refusal (state b heads doors) i

unfoldable pub list : State → ℕ → List ℕ → ℕ → Listed
list s i old at =
    let n = list_refusal s i in
    cond (eqb n 0) (placed old at (list_text i (column_at s.bank i))) (record { answer = refused n; buffer = old })
