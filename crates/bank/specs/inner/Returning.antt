-- A halt of several columns and a return as the bank's code does them, from what a survey answers.
use Rattle.std.specs.Prelude.{ℕ, Bool, not, List, [], ◌∷◌, ◌≡◌, eqb, leb}
use Rattle.std.specs.Prelude as prelude
use Rattle.column.specs.Sets.{has, without, minus, whole, lowest, join, within}
use Rattle.column.specs.Refusals.{first, earlier}
use Rattle.column.specs.Returns.{rejoined}
use Rattle.column.specs.declared.error.Refusal.{Refusal}
use Rattle.column.specs.declared.tree.Tree.{Tree}
use Rattle.column.specs.declared.state.Column.{Column}
use Rattle.bank.specs.inner.Turning.{ready_of}
use Rattle.bank.specs.Banks.{state}
use Rattle.bank.specs.Steps.{outcome_meant}
use Rattle.bank.specs.Returns.{back}
use Rattle.bank.specs.declared.bank.Bank.{Bank}

-- nobody can do anything
abbrev pub columns_rest : Bank → Bool
columns_rest b = eqb (ready_of b) 0

abbrev pub returning_conditions : Bank → ℕ → ℕ → List (ℕ × Bool)
returning_conditions b running j =
    (4, leb b.tree.columns j)
    ∷ (6, has running j)
    ∷ (15, eqb j b.tree.root)
    ∷ (14, not (eqb b.count 0))
    ∷ (14, not (columns_rest b))
    ∷ (16, eqb running 0)
    ∷ []

unfoldable pub returning_refusal : ℕ → Bank → ℕ → ℕ → ℕ
returning_refusal n b running j = earlier n (first (returning_conditions b running j))

-- what a return answers, whatever the doors under way, which it keeps
abbrev pub ComesBack : prelude.Result Bank Refusal → Bank → List ℕ → ℕ → Type 0
ComesBack r b heads j = (doors : List ℕ) → outcome_meant b r heads doors ≡ back (state b heads doors) j

-- the column that comes back, by itself, the one that it copies and who runs
abbrev pub rejoining : Tree → ℕ → Column → Column → ℕ → Column
rejoining t running own copied j =
    rejoined own copied (without (minus (whole t.columns) running) j) (not (has running t.root)) (lowest running)

-- what a halt is refused by where the bank is not, of so many columns, those in `running` running
abbrev pub own_halting : ℕ → ℕ → ℕ → ℕ
own_halting columns running m = first ((4, not (within m columns)) ∷ (5, not (eqb (join m running) running)) ∷ [])

-- the refusal of a halt where n is the bank's
abbrev pub halting_refusal : ℕ → ℕ → ℕ → ℕ → ℕ
halting_refusal n columns running m = earlier n (own_halting columns running m)
