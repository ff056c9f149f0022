-- Worked examples of fastest trees, and of formula 4.1.
use Rattle.std.specs.Prelude.{ℕ, ◌≡◌, refl, List, [], ◌∷◌, map, take}
use Rattle.fastest.specs.Strategy.{soonest, with_column, grown, fastest_tree, fastest_sent, fastest_refusal}
use Rattle.fastest.specs.Fastest.{completion}
use Rattle.fastest.specs.Formula.{sum, ago, received_in, received}

-- columns, delay and gap, the parents of the columns, and when the last has the message
pub record Row : Type 0 where
  pub columns : ℕ
  pub delay : ℕ
  pub gap : ℕ
  pub up : List ℕ
  pub complete : ℕ

abbrev row : ℕ → ℕ → ℕ → List ℕ → ℕ → Row
row columns delay gap up complete = record { columns = columns; delay = delay; gap = gap; up = up; complete = complete }

abbrev rows : List Row
rows =
    -- "For D 2, E 1 and 5 columns it is `up=0,0,0,0,1`, complete at time 4."
    row 5 2 1 (0 ∷ 0 ∷ 0 ∷ 0 ∷ 1 ∷ []) 4
    -- one column has nobody to send to
    ∷ row 1 255 255 (0 ∷ []) 0
    -- D > (N-1)E: "a bush broadcast strategy .. minimizes"; E > (N-1)D: "the chain broadcast strategy .. is optimal"
    ∷ row 5 5 1 (0 ∷ 0 ∷ 0 ∷ 0 ∷ 0 ∷ []) 8
    ∷ row 5 1 5 (0 ∷ 0 ∷ 1 ∷ 2 ∷ 3 ∷ []) 4
    -- D = E: all that have the message send at once, "ties by the sender's number"
    ∷ row 16 255 255 (0 ∷ 0 ∷ 0 ∷ 1 ∷ 0 ∷ 1 ∷ 2 ∷ 3 ∷ 0 ∷ 1 ∷ 2 ∷ 3 ∷ 4 ∷ 5 ∷ 6 ∷ 7 ∷ []) 1020
    ∷ []

pub trees_made : map (λ r. take r.columns (fastest_tree r.columns r.delay r.gap).up) rows ≡ map (λ r. r.up) rows
unfolding soonest with_column grown
trees_made = refl

pub trees_complete : map (λ r. completion r.columns r.delay r.gap) rows ≡ map (λ r. r.complete) rows
unfolding soonest with_column grown fastest_sent
trees_complete = refl

-- "when r = 2, computation of R(t) is equivalent to computing Fibonacci numbers"
pub fibonacci : map (received 2 1) (0 ∷ 1 ∷ 2 ∷ 3 ∷ 4 ∷ 5 ∷ 6 ∷ 7 ∷ []) ≡ (1 ∷ 0 ∷ 1 ∷ 1 ∷ 2 ∷ 3 ∷ 5 ∷ 8 ∷ [])
unfolding received_in sum ago
fibonacci = refl

-- "17 for D or E not 1 to 255, tested after 2"
pub refusals : (fastest_refusal 17 0 1 ≡ 2) × (fastest_refusal 16 0 1 ≡ 17) × (fastest_refusal 16 1 256 ≡ 17) × (fastest_refusal 16 255 255 ≡ 0)
unfolding fastest_refusal
refusals = (refl, refl, refl, refl)
