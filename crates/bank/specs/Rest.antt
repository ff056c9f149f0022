-- The bank at rest, after document 01: "A bank is at rest when no packet is in the network and send, ack, all and note are each refused
-- for every running column and every j."
use Rattle.std.specs.Prelude.{ℕ, ◌<◌, ◌≡◌, Bool, true, false, not, ◌&&◌, ◌||◌, eqb}
use Rattle.column.specs.Trees.{every}
use Rattle.bank.specs.Banks.{State, runs}
use Rattle.bank.specs.Steps.{Result, accepted, refused, send, ack, all, note}

abbrev pub is_refused : Result State → Bool
is_refused (accepted s) = false
is_refused (refused n s) = true

abbrev pub Refused : Result State → Type 0
Refused o = is_refused o ≡ true

-- a column of the bank that runs
abbrev pub Running : State → ℕ → Type 0
Running s i = (i < s.bank.tree.columns) × (runs s.bank i ≡ true)

pub record AtRest (s : State) : Type 0 where
  pub no_packet : s.bank.count ≡ 0
  pub no_send : (i : ℕ) → Running s i → Refused (send s i)
  pub no_ack : (i : ℕ) → Running s i → Refused (ack s i)
  pub no_all : (i : ℕ) → Running s i → Refused (all s i)
  pub no_note : (i j : ℕ) → Running s i → Refused (note s i j)

-- ---- the same as a test, which computes; `rest_exact` of RestLaws says that it decides `AtRest`

abbrev pub quiet : State → ℕ → Bool
quiet s i =
    is_refused (send s i)
    && (is_refused (ack s i) && (is_refused (all s i) && every (λ j. is_refused (note s i j)) s.bank.tree.columns))

unfoldable pub is_at_rest : State → Bool
is_at_rest s = eqb s.bank.count 0 && every (λ i. not (runs s.bank i) || quiet s i) s.bank.tree.columns
