-- The steps of a lone column by their names: what each makes of a column, and how the next one is chosen.
use Rattle.std.specs.Prelude.{ℕ, Bool, not, ◌&&◌, List, eqb}
use Rattle.column.specs.Pages as page
use Rattle.column.specs.Steps as core
use Rattle.column.specs.Refusals.{first}
use Rattle.column.specs.Steps.{send_conditions, ack_conditions, all_conditions}
use Rattle.column.specs.Columns.{may_acknowledge}
use Rattle.column.specs.declared.tree.Tree.{Tree}
use Rattle.column.specs.declared.state.Column.{Column}
use Rattle.firmware.specs.Blocks.{tree_in, own_in, column_in}
use Rattle.firmware.specs.LoneSteps.{rejoin, strike, next}
use Rattle.firmware.specs.declared.lone.LoneColumn.{LoneColumn}
use Rattle.firmware.specs.declared.lone.QuietStep.{QuietStep}
use Rattle.firmware.specs.declared.lone.QuietStep.TheVariants.{Order, All, Note, Halt, Write, Rejoin, Strike}
use Rattle.firmware.specs.declared.lone.PuttingStep.{PuttingStep}
use Rattle.firmware.specs.declared.lone.PuttingStep.TheVariants.{Send, Take, Ack, Next}
use Rattle.firmware.specs.declared.lone.Chosen.{Chosen}
use Rattle.firmware.specs.declared.lone.Chosen.TheVariants as chosen

-- the column that two blocks mean
abbrev pub lone_in : List ℕ → List ℕ → LoneColumn
lone_in tree column = record { tree = tree_in tree; own = own_in column; column = column_in column }

-- what each makes of a column
abbrev pub quiet_of : QuietStep → Tree → ℕ → Column → core.Result
quiet_of (Order doors) = λ t i c. core.order t i c doors
quiet_of All = core.all
quiet_of (Note j) = λ t i c. core.note t i c j
quiet_of Halt = core.halt
quiet_of (Write offset value) = λ t i c. page.write t i c offset value
quiet_of (Rejoin back) = λ t i c. rejoin t i c back.copied back.number back.doors back.halted
quiet_of (Strike back) = λ t i c. strike t i c back

abbrev pub putting_of : PuttingStep → Tree → ℕ → Column → core.Result
putting_of Send = core.send
putting_of (Take p) = λ t i c. core.take t i c p
putting_of Ack = core.ack
putting_of Next = next

-- each of these steps is one of the core's
abbrev pub chosen_of : Chosen → Tree → ℕ → Column → core.Result
chosen_of chosen.Send = core.send
chosen_of (chosen.Take p) = λ t i c. core.take t i c p
chosen_of chosen.Ack = core.ack
chosen_of chosen.All = core.all

-- the own conditions of a step refuse it
abbrev pub refuses : List (ℕ × Bool) → Bool
refuses conditions = not (eqb (first conditions) 0)

-- a column whose tree and state are valid rests by the own conditions of its steps
abbrev pub own_rests : Tree → ℕ → Column → Bool
own_rests t i c = refuses (send_conditions t i c) && (refuses (ack_conditions t i c) && refuses (all_conditions t i c))

-- someone is owed, and the column may acknowledge
unfoldable pub acknowledges : Tree → ℕ → Column → Bool
acknowledges t i c = not (eqb c.owed 0) && may_acknowledge t i c
