-- The kinds of steps, after document 01, "Steps", and document 02, Points 1, 7 and 12: an order, what a column does by itself (send, ack, all, note), a take, a halt,
-- a return, and a host's write to a page.
use Rattle.std.specs.Prelude.{ℕ, Bool, ◌||◌, eqb}
use Rattle.bank.specs.declared.bank.Step.{Step}
use Rattle.bank.specs.declared.bank.Step.TheVariants.{Order, Send, Take, Ack, All, Note, Halt, Back, Write}

abbrev pub ordering : ℕ
ordering = 0

abbrev pub acting : ℕ
acting = 1

abbrev pub taking : ℕ
taking = 2

abbrev pub halting : ℕ
halting = 3

abbrev pub returning : ℕ
returning = 4

abbrev pub writing : ℕ
writing = 5

abbrev pub step_kind : Step → ℕ
step_kind (Order doors) = ordering
step_kind (Send i) = acting
step_kind (Take place) = taking
step_kind (Ack i) = acting
step_kind (All i) = acting
step_kind (Note i j) = acting
step_kind (Halt m) = halting
step_kind (Back j) = returning
step_kind (Write i offset value) = writing

abbrev pub is : ℕ → Step → Bool
is kind x = eqb (step_kind x) kind

-- an order, and what a column does by itself
abbrev pub is_own : Step → Bool
is_own x = is ordering x || is acting x

abbrev pub is_take : Step → Bool
is_take x = is taking x

abbrev pub is_move : Step → Bool
is_move x = is_take x || is_own x

abbrev pub is_back : Step → Bool
is_back x = is returning x
