-- "The number of columns arriving at each time before the last is formula 4.1's, and at the last time it is what remains, at most the
-- formula's." Assumes nothing.
use Prim.Native.Nat.{ℕ, zero, suc, ◌+◌, ◌-◌, ◌≤◌, ◌<◌}
use Rattle.std.specs.Prelude.{◌≡◌, Bool, true, not, ◌&&◌, ◌⊎◌, eqb}
use Rattle.std.proofs.Math.Path.{refl, ap}
use Rattle.std.proofs.Common.{inl, inr}
use native.Mathlib.Omega.{arith}
use Rattle.std.proofs.Math.Dec.{leb}
use borrow.Author.Tests.{eqb-true, eq-eqb, leb-true, leb-false, le-leb, lt-leb, not-true}
use Rattle.column.specs.laws.Cases.{compare_cases, and_left, and_right}
use Rattle.fastest.specs.Schedules.{count}
use Rattle.fastest.specs.laws.Counts.{count_all, count_parts, count_fewer}
use Rattle.fastest.specs.laws.Timing.{arrived_by, Timed, at_first, at_most, Busy, at_least_one, at_least}
use Rattle.fastest.specs.Fastest.{fastest_arrival, completion, arrived_at, arrivals, Possible, BeforeTheLast, AtTheLast}
use Rattle.fastest.specs.laws.FastestLaws.{fastest_timed, fastest_busy, is_scheduled}
use Rattle.fastest.specs.Formula.{sum, Formula}
use Rattle.fastest.specs.laws.FormulaLaws.{sum_none, sum_more, total_first, total_later}

count_alike : (p q : ℕ → Bool) (n : ℕ) → ((i : ℕ) → p i ≡ true → q i ≡ true) → ((i : ℕ) → q i ≡ true → p i ≡ true) → count p n ≡ count q n
count_alike p q n f g = omega (arith, count_fewer p q n (λ i l. f i), count_fewer q p n (λ i l. g i))

module _ (arrival : ℕ → ℕ) (n : ℕ) where
  by_zero : arrived_by arrival n 0 ≡ arrived_at arrival n 0
  by_zero =
      count_alike (λ c. leb (arrival c) 0) (λ c. eqb (arrival c) 0) n
      (λ c e. eq-eqb (arrival c) 0 (omega (arith, leb-true (arrival c) 0 e)))
      (λ c e. le-leb (arrival c) 0 (omega (arith, eqb-true (arrival c) 0 e)))

  by_more : (time : ℕ) → arrived_by arrival n (suc time) ≡ arrived_by arrival n time + arrived_at arrival n (suc time)
  by_more time =
      let early : ℕ → Bool = λ c. leb (arrival c) (suc time) && leb (arrival c) time in
      let late : ℕ → Bool = λ c. leb (arrival c) (suc time) && not (leb (arrival c) time) in
      let one : count early n ≡ arrived_by arrival n time =
      count_alike early (λ c. leb (arrival c) time) n
      (λ c e. and_right (leb (arrival c) (suc time)) (leb (arrival c) time) e)
      (λ c e. rw (le-leb (arrival c) (suc time) (omega (arith, leb-true (arrival c) time e)), e)) in
      let two : count late n ≡ arrived_at arrival n (suc time) =
      count_alike late (λ c. eqb (arrival c) (suc time)) n
      (λ c e.
      eq-eqb (arrival c) (suc time)
      (omega (
        arith,
        leb-true (arrival c) (suc time) (and_left (leb (arrival c) (suc time)) (not (leb (arrival c) time)) e),
        leb-false (arrival c) time (not-true (leb (arrival c) time) (and_right (leb (arrival c) (suc time)) (not (leb (arrival c) time)) e)),
      )))
      (λ c e.
      rw (
        le-leb (arrival c) (suc time) (omega (arith, eqb-true (arrival c) (suc time) e)),
        lt-leb (arrival c) time (omega (arith, eqb-true (arrival c) (suc time) e)),
      )) in
      omega (arith, one, two, count_parts (λ c. leb (arrival c) (suc time)) (λ c. leb (arrival c) time) n)

-- ---- totals

module _ {delay gap n : ℕ} {parent arrival : ℕ → ℕ} (d : 0 < delay) (e : 0 < gap) (R : ℕ → ℕ) (f : Formula delay gap R)
    (timed : Timed delay gap n parent arrival) where
  -- no schedule has more arrivals than the formula
  most_below : (bound time : ℕ) → time < bound → arrived_by arrival n time ≤ sum R (suc time)
  most_below zero time l = absurd (omega arith)
  most_below (suc bound) time l = go (most_below bound) (compare_cases time delay)
    where
      later : ((time : ℕ) → time < bound → arrived_by arrival n time ≤ sum R (suc time)) → delay ≤ time → arrived_by arrival n time ≤ sum R (suc time)
      later ih h =
          omega
          (arith, ih (time - delay) (omega arith), ih (time - gap) (omega arith), at_most timed time h, total_later delay gap d e R f time h)

      go : ((time : ℕ) → time < bound → arrived_by arrival n time ≤ sum R (suc time))
          → (time < delay) ⊎ ((time ≡ delay) ⊎ (delay < time)) → arrived_by arrival n time ≤ sum R (suc time)
      go ih (inl h) = omega (arith, at_first timed time h, total_first delay gap d e R f time h)
      go ih (inr (inl h)) = later ih (omega arith)
      go ih (inr (inr h)) = later ih (omega arith)

  pub arrivals_most : (time : ℕ) → arrived_by arrival n time ≤ sum R (suc time)
  arrivals_most time = most_below (suc time) time (omega arith)

module _ {delay gap n last : ℕ} {parent arrival : ℕ → ℕ} (d : 0 < delay) (e : 0 < gap) (R : ℕ → ℕ) (f : Formula delay gap R)
    (busy : Busy delay gap n last parent arrival) where
  -- and none that lets no slot pass has fewer
  least_below : (bound time : ℕ) → time < bound → time < last → sum R (suc time) ≤ arrived_by arrival n time
  least_below zero time l m = absurd (omega arith)
  least_below (suc bound) time l m = go (least_below bound) (compare_cases time delay)
    where
      later : ((time : ℕ) → time < bound → time < last → sum R (suc time) ≤ arrived_by arrival n time) → delay ≤ time
          → sum R (suc time) ≤ arrived_by arrival n time
      later ih h =
          omega (
            arith,
            ih (time - delay) (omega arith) (omega arith),
            ih (time - gap) (omega arith) (omega arith),
            at_least busy time h m,
            total_later delay gap d e R f time h,
          )

      go : ((time : ℕ) → time < bound → time < last → sum R (suc time) ≤ arrived_by arrival n time)
          → (time < delay) ⊎ ((time ≡ delay) ⊎ (delay < time)) → sum R (suc time) ≤ arrived_by arrival n time
      go ih (inl h) = omega (arith, at_least_one busy time, total_first delay gap d e R f time h)
      go ih (inr (inl h)) = later ih (omega arith)
      go ih (inr (inr h)) = later ih (omega arith)

  pub arrivals_least : (time : ℕ) → time < last → sum R (suc time) ≤ arrived_by arrival n time
  arrivals_least time m = least_below (suc time) time (omega arith) m

-- ---- the strategy's arrivals

module _ (columns delay gap : ℕ) (d : 0 < delay) (e : 0 < gap) (some : 0 < columns) (few : columns ≤ 16) (R : ℕ → ℕ) (f : Formula delay gap R) where
  arrived : ℕ → ℕ
  arrived = fastest_arrival columns delay gap

  as_many : (time : ℕ) → time < completion columns delay gap → arrived_by arrived columns time ≡ sum R (suc time)
  unfolding arrived
  as_many time l =
      omega (
        arith,
        arrivals_most d e R f (fastest_timed columns delay gap d e some few) time,
        arrivals_least d e R f (fastest_busy columns delay gap d e some few) time l,
      )

  before_last : (time : ℕ) → time < completion columns delay gap → arrivals columns delay gap time ≡ R time
  unfolding arrived
  before_last zero l = omega (arith, by_zero arrived columns, as_many 0 l, sum_more R 0, sum_none R)
  before_last (suc time) l =
      omega (arith, by_more arrived columns time, as_many (suc time) l, as_many time (omega arith), sum_more R (suc time))

  possible : Possible columns delay gap
  possible = record { some = some; few = few; delays = d; gaps = e }

  all_by : arrived_by arrived columns (completion columns delay gap) ≡ columns
  unfolding arrived
  all_by =
      count_all (λ c. leb (arrived c) (completion columns delay gap)) columns
      (λ c l. le-leb (arrived c) (completion columns delay gap) ((is_scheduled columns delay gap possible).completes c l))

  last_parts : (time : ℕ) → time ≡ completion columns delay gap → sum R time + arrived_at arrived columns time ≡ columns
  unfolding arrived
  last_parts zero q = omega (arith, by_zero arrived columns, all_by, ap (arrived_by arrived columns) q, sum_none R)
  last_parts (suc time) q =
      omega (arith, by_more arrived columns time, all_by, ap (arrived_by arrived columns) q, as_many time (omega (arith, q)))

  at_last : sum R (completion columns delay gap) + arrivals columns delay gap (completion columns delay gap) ≡ columns
  unfolding arrived
  at_last = last_parts (completion columns delay gap) refl

  at_last_most : arrivals columns delay gap (completion columns delay gap) ≤ R (completion columns delay gap)
  unfolding arrived
  at_last_most =
      omega (
        arith,
        at_last,
        all_by,
        sum_more R (completion columns delay gap),
        arrivals_most d e R f (fastest_timed columns delay gap d e some few) (completion columns delay gap),
      )

-- ---- what is stated

pub before_the_last : BeforeTheLast
before_the_last columns delay gap p = before_last columns delay gap p.delays p.gaps p.some p.few

pub at_the_last : AtTheLast
at_the_last columns delay gap p R f = (
  at_last columns delay gap p.delays p.gaps p.some p.few R f,
  at_last_most columns delay gap p.delays p.gaps p.some p.few R f,
)
