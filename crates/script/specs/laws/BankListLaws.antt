-- A column whose list is not refused is one of sixteen. Assumes nothing.
use Rattle.std.specs.Prelude.{ℕ, ◌<◌, ◌≡◌, not, [], ◌∷◌}
use Rattle.std.proofs.Common.{arith}
use Rattle.column.specs.Refusals.{first}
use Rattle.column.specs.laws.RefusalLaws.{earlier_none}
use Rattle.column.specs.laws.TreeLaws.{tree_sixteen}
use Rattle.bank.specs.Banks.{State, runs, acting_refusal}
use Rattle.bank.specs.laws.ValidityLaws.{acting}
use Rattle.script.specs.BankLists.{list_refusal}

-- a column that acts is one of sixteen
pub acting_sixteen : (s : State) (i : ℕ) → acting_refusal s i ≡ 0 → i < 16
acting_sixteen s i e =
    let w = acting s i e in
    omega (arith, w.1, tree_sixteen s.bank.tree w.0.tree)

pub list_sixteen : (s : State) (i : ℕ) → list_refusal s i ≡ 0 → i < 16
list_sixteen s i e = acting_sixteen s i (earlier_none (acting_refusal s i) (first ((5, not (runs s.bank i)) ∷ [])) e).0
