-- Formula 4.1 of the report: how many receive the message at a time, where columns never run out.
use Rattle.std.specs.Prelude.{ℕ, zero, suc, ◌+◌, ◌-◌, ◌*◌, ◌/◌, ◌<◌, ◌≡◌, cond, eqb, leb}

-- f 0 + .. , k terms
unfoldable pub sum : (ℕ → ℕ) → ℕ → ℕ
sum f zero = 0
sum f (suc k) = sum f k + f k

-- R(time - back); "0 if t < 0"
unfoldable pub ago : (ℕ → ℕ) → ℕ → ℕ → ℕ
ago R time back = cond (leb back time) (R (time - back)) 0

-- ceil((t-D)/E). Where t < D the printed limit is 0 or negative and the sum is R(t-D) = 0 or empty; here it is 0.
abbrev pub limit : ℕ → ℕ → ℕ → ℕ
limit delay gap time = (time - delay + (gap - 1)) / gap

-- the sum of (4.1), for j from 0 to the limit
abbrev pub relayed : ℕ → ℕ → (ℕ → ℕ) → ℕ → ℕ
relayed delay gap R time = sum (λ j. ago R time (delay + j * gap)) (limit delay gap time + 1)

-- what (4.1) asks of R
pub record Formula (delay gap : ℕ) (R : ℕ → ℕ) : Type 0 where
  pub at_zero : R 0 ≡ 1
  pub after : (time : ℕ) → 0 < time → R time ≡ relayed delay gap R time

-- the number that it gives; `budget` falls at each use of an earlier time
unfoldable pub received_in : ℕ → ℕ → ℕ → ℕ → ℕ
received_in zero delay gap time = 0
received_in (suc budget) delay gap time = cond (eqb time 0) 1 (relayed delay gap (received_in budget delay gap) time)

abbrev pub received : ℕ → ℕ → ℕ → ℕ
received delay gap time = received_in (suc time) delay gap time
