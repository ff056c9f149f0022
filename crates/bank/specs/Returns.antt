-- The step back, after document 02, Point 7: "`back=` with a column is accepted only at rest."
use Rattle.std.specs.Prelude.{ℕ, Bool, not, List, [], ◌∷◌, eqb, leb, ltb}
use Rattle.column.specs.Refusals.{first, earlier}
use Rattle.column.specs.Sets.{without, lowest}
use Rattle.column.specs.Returns.{rejoined, struck}
use Rattle.column.specs.declared.state.Column.{Column}
use Rattle.bank.specs.Banks.{State, state, column_at, runs, running_of, halted_of, bank_refusal}
use Rattle.bank.specs.Steps.{Result, accepted, unless, with_place, with_rewritten}
use Rattle.bank.specs.Rest.{is_at_rest}
use Rattle.bank.specs.declared.bank.Bank.{Bank}

-- "14 not at rest, 15 the root, 16 no column runs; order 4, then 6 for a running column, then 15, 14, 16"
abbrev pub back_conditions : State → ℕ → List (ℕ × Bool)
back_conditions s j =
    (4, leb s.bank.tree.columns j)
    ∷ (6, runs s.bank j)
    ∷ (15, eqb j s.bank.tree.root)
    ∷ (14, not (is_at_rest s))
    ∷ (16, eqb (running_of s.bank) 0)
    ∷ []

unfoldable pub back_refusal : State → ℕ → ℕ
back_refusal s j = earlier (bank_refusal s) (first (back_conditions s j))

-- "the lowest running column"
abbrev pub lowest_running : Bank → ℕ
lowest_running b = lowest (running_of b)

-- "exactly the columns that remain halted"
abbrev pub remaining : Bank → ℕ → ℕ
remaining b j = without (halted_of b) j

-- "The column runs with the record of the lowest running column .. Its goal is its own subtree if the root runs, the whole bank if not."
abbrev pub come_back : Bank → ℕ → Column
come_back b j = rejoined (column_at b j) (column_at b (lowest_running b)) (remaining b j) (not (runs b b.tree.root)) (lowest_running b)

-- "all others strike it from those noted", halted ones too; "unused ones never change"
abbrev pub with_struck : Bank → ℕ → Bank
with_struck b j = with_rewritten (λ c. struck c j) b (λ k. ltb k b.tree.columns)

unfoldable pub returned : Bank → ℕ → Bank
returned b j = with_place (with_struck b j) j (come_back b j)

abbrev pub back : State → ℕ → Result State
back s j = unless (back_refusal s j) s (accepted (state (returned s.bank j) s.heads s.doors))
