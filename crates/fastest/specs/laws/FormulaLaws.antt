-- Laws of formula 4.1: it has one solution; the report's simplified form; what it gives in all. Assumes nothing.
use Prim.Native.Nat.{ℕ, zero, suc, ◌+◌, ◌-◌, ◌*◌, ◌≤◌, ◌<◌}
use Rattle.std.specs.Prelude.{◌≡◌, refl, ◌⊎◌}
use Rattle.std.proofs.Common.{sym, ◌∙◌, inl, inr, div-add-mod', mod-lt, arith, ne_eqb, le-leb}
use Rattle.std.proofs.Math.Path.{ap}
use Rattle.std.proofs.lemmas.Bool.{lt-leb}
use Rattle.column.specs.laws.Cases.{compare_cases, equal_cases}
use Rattle.fastest.specs.Formula.{sum, ago, limit, relayed, Formula, received_in, received}

-- ---- sums

pub sum_none : (f : ℕ → ℕ) → sum f 0 ≡ 0
unfolding sum
sum_none f = refl

pub sum_more : (f : ℕ → ℕ) (n : ℕ) → sum f (suc n) ≡ sum f n + f n
unfolding sum
sum_more f n = refl

sum_same : (f g : ℕ → ℕ) (n : ℕ) → ((j : ℕ) → j < n → f j ≡ g j) → sum f n ≡ sum g n
sum_same f g zero h = sum_none f ∙ sym (sum_none g)
sum_same f g (suc n) h =
    omega (arith, sum_more f n, sum_more g n, sum_same f g n (λ j l. h j (omega arith)), h n (omega arith))

sum_first : (f : ℕ → ℕ) (n : ℕ) → sum f (suc n) ≡ f 0 + sum (λ j. f (suc j)) n
sum_first f zero = omega (arith, sum_more f 0, sum_none f, sum_none (λ j. f (suc j)))
sum_first f (suc n) = omega (arith, sum_more f (suc n), sum_first f n, sum_more (λ j. f (suc j)) n)

-- terms past which all are 0 may be left out
sum_enough : (f : ℕ → ℕ) (m k : ℕ) → ((j : ℕ) → m ≤ j → f j ≡ 0) → sum f (m + k) ≡ sum f m
sum_enough f m zero h = ap (sum f) (omega arith)
sum_enough f m (suc k) h =
    let e : sum f (m + suc k) ≡ sum f (suc (m + k)) = ap (sum f) (omega arith) in
    omega (arith, e, sum_more f (m + k), sum_enough f m k h, h (m + k) (omega arith))

sum_either : (f : ℕ → ℕ) (m n : ℕ) → ((j : ℕ) → m ≤ j → f j ≡ 0) → ((j : ℕ) → n ≤ j → f j ≡ 0) → sum f m ≡ sum f n
sum_either f m n h g = sym (sum_enough f m n h) ∙ ap (sum f) (omega arith) ∙ sum_enough f n m g

-- ---- earlier times

pub ago_then : (R : ℕ → ℕ) (time back : ℕ) → back ≤ time → ago R time back ≡ R (time - back)
unfolding ago
ago_then R time back l = rw (le-leb back time l)

pub ago_never : (R : ℕ → ℕ) (time back : ℕ) → time < back → ago R time back ≡ 0
unfolding ago
ago_never R time back l = rw (lt-leb back time l)

ago_same : (R S : ℕ → ℕ) (time back : ℕ) → (back ≤ time → R (time - back) ≡ S (time - back)) → ago R time back ≡ ago S time back
ago_same R S time back h = go (compare_cases time back)
  where
    at : back ≤ time → ago R time back ≡ ago S time back
    at l = ago_then R time back l ∙ h l ∙ sym (ago_then S time back l)

    go : (time < back) ⊎ ((time ≡ back) ⊎ (back < time)) → ago R time back ≡ ago S time back
    go (inl l) = ago_never R time back l ∙ sym (ago_never S time back l)
    go (inr (inl l)) = at (omega arith)
    go (inr (inr l)) = at (omega arith)

-- ---- the formula has one solution

relayed_same : (delay gap : ℕ) → 0 < delay → (R S : ℕ → ℕ) (time : ℕ) → ((past : ℕ) → past < time → R past ≡ S past)
    → relayed delay gap R time ≡ relayed delay gap S time
relayed_same delay gap d R S time h =
    sum_same (λ j. ago R time (delay + j * gap)) (λ j. ago S time (delay + j * gap)) (limit delay gap time + 1)
    (λ j l. ago_same R S time (delay + j * gap) (λ b. h (time - (delay + j * gap)) (omega arith)))

pub formula_unique : (delay gap : ℕ) → 0 < delay → (R S : ℕ → ℕ) → Formula delay gap R → Formula delay gap S → (time : ℕ) → R time ≡ S time
formula_unique delay gap d R S p q time = below (suc time) time (omega arith)
  where
    below : (bound time : ℕ) → time < bound → R time ≡ S time
    below zero time l = absurd (omega arith)
    below (suc bound) time l = go (equal_cases time 0) (below bound)
      where
        go : (time ≡ 0) ⊎ (time ≡ 0 → ⊥) → ((time : ℕ) → time < bound → R time ≡ S time) → R time ≡ S time
        go (inl z) ih = ap R z ∙ p.at_zero ∙ sym q.at_zero ∙ ap S (sym z)
        go (inr nz) ih =
            p.after time (omega arith) ∙ relayed_same delay gap d R S time (λ past b. ih past (omega arith)) ∙ sym (q.after time (omega arith))

received_zero : (budget delay gap : ℕ) → received_in (suc budget) delay gap 0 ≡ 1
unfolding received_in
received_zero budget delay gap = refl

received_after_lem : (budget delay gap time : ℕ) → 0 < time → received_in (suc budget) delay gap time ≡ relayed delay gap (received_in budget delay gap) time
unfolding received_in
received_after_lem budget delay gap time l = rw (ne_eqb time 0 (λ e. omega arith))

-- any budget above the time is enough
received_enough : (delay gap : ℕ) → 0 < delay → (one other time : ℕ) → time < one → time < other
    → received_in one delay gap time ≡ received_in other delay gap time
received_enough delay gap d zero other time l m = absurd (omega arith)
received_enough delay gap d (suc one) zero time l m = absurd (omega arith)
received_enough delay gap d (suc one) (suc other) time l m = go (equal_cases time 0) (received_enough delay gap d one other)
  where
    go : (time ≡ 0) ⊎ (time ≡ 0 → ⊥)
        → ((time : ℕ) → time < one → time < other → received_in one delay gap time ≡ received_in other delay gap time)
        → received_in (suc one) delay gap time ≡ received_in (suc other) delay gap time
    go (inl z) ih =
        ap (received_in (suc one) delay gap) z ∙ received_zero one delay gap ∙ sym (received_zero other delay gap)
        ∙ ap (received_in (suc other) delay gap) (sym z)
    go (inr nz) ih =
        received_after_lem one delay gap time (omega arith)
        ∙ relayed_same delay gap d (received_in one delay gap) (received_in other delay gap) time (λ past b. ih past (omega arith) (omega arith))
        ∙ sym (received_after_lem other delay gap time (omega arith))

pub received_formula : (delay gap : ℕ) → 0 < delay → Formula delay gap (received delay gap)
received_formula delay gap d = record { at_zero = received_zero 0 delay gap; after = after }
  where
    after : (time : ℕ) → 0 < time → received delay gap time ≡ relayed delay gap (received delay gap) time
    after time l =
        received_after_lem time delay gap time l
        ∙ relayed_same delay gap d (received_in time delay gap) (received delay gap) time
        (λ past b. received_enough delay gap d time (suc past) past b (omega arith))

-- ---- the simplified form, and totals

module _ (delay gap : ℕ) (d : 0 < delay) (e : 0 < gap) (R : ℕ → ℕ) (f : Formula delay gap R) where
  -- past the limit there is nothing
  past_limit : (time j : ℕ) → limit delay gap time + 1 ≤ j → ago R time (delay + j * gap) ≡ 0
  past_limit time j l = ago_never R time (delay + j * gap) (above (j - (limit delay gap time + 1)) (omega arith))
    where
      above : (k : ℕ) → j ≡ limit delay gap time + 1 + k → time < delay + j * gap
      above k q =
          let parts = div-add-mod' (time - delay + (gap - 1)) gap in
          let rest = mod-lt (time - delay + (gap - 1)) e in
          let all : j * gap ≡ limit delay gap time * gap + gap + k * gap = ap (λ x. x * gap) q ∙ omega arith in
          omega (arith, parts, rest, all)

  first_only : (time : ℕ) → 0 < time → time ≤ gap → R time ≡ ago R time delay
  first_only time l m =
      let one : sum (λ j. ago R time (delay + j * gap)) (limit delay gap time + 1) ≡ sum (λ j. ago R time (delay + j * gap)) 1 =
      sum_either (λ j. ago R time (delay + j * gap)) (limit delay gap time + 1) 1 (past_limit time) (λ j b. ago_never R time (delay + j * gap) (far j b)) in
      let at : ago R time (delay + 0 * gap) ≡ ago R time delay = ap (ago R time) (omega arith) in
      f.after time l ∙ one ∙ omega (arith, sum_more (λ j. ago R time (delay + j * gap)) 0, sum_none (λ j. ago R time (delay + j * gap)), at)
    where
      far : (j : ℕ) → 1 ≤ j → time < delay + j * gap
      far zero b = absurd (omega arith)
      far (suc j) b = omega arith

  -- "which simplifies to R(t) = R(t-D) + R(t-E) for t > E"
  pub simplified : (time : ℕ) → gap < time → R time ≡ ago R time delay + R (time - gap)
  simplified time l =
      let terms : ℕ → ℕ = λ j. ago R time (delay + j * gap) in
      let more : sum terms (limit delay gap time + 1) ≡ sum terms (suc (limit delay gap (time - gap) + 1)) =
      sum_either terms (limit delay gap time + 1) (suc (limit delay gap (time - gap) + 1)) (past_limit time) far in
      let first : ago R time (delay + 0 * gap) ≡ ago R time delay = ap (ago R time) (omega arith) in
      let rest : sum (λ j. ago R time (delay + suc j * gap)) (limit delay gap (time - gap) + 1) ≡ relayed delay gap R (time - gap) =
      sum_same (λ j. ago R time (delay + suc j * gap)) (λ j. ago R (time - gap) (delay + j * gap)) (limit delay gap (time - gap) + 1) (λ j b. shift j) in
      f.after time (omega arith)
      ∙ omega (arith, more, sum_first terms (limit delay gap (time - gap) + 1), first, rest, f.after (time - gap) (omega arith))
    where
      shift : (j : ℕ) → ago R time (delay + suc j * gap) ≡ ago R (time - gap) (delay + j * gap)
      shift j = go (compare_cases time (delay + suc j * gap))
        where
          at : delay + suc j * gap ≤ time → ago R time (delay + suc j * gap) ≡ ago R (time - gap) (delay + j * gap)
          at b =
              ago_then R time (delay + suc j * gap) b ∙ ap R (omega arith) ∙ sym (ago_then R (time - gap) (delay + j * gap) (omega arith))

          go : (time < delay + suc j * gap) ⊎ ((time ≡ delay + suc j * gap) ⊎ (delay + suc j * gap < time))
              → ago R time (delay + suc j * gap) ≡ ago R (time - gap) (delay + j * gap)
          go (inl b) = ago_never R time (delay + suc j * gap) b ∙ sym (ago_never R (time - gap) (delay + j * gap) (omega arith))
          go (inr (inl b)) = at (omega arith)
          go (inr (inr b)) = at (omega arith)

      far : (j : ℕ) → suc (limit delay gap (time - gap) + 1) ≤ j → ago R time (delay + j * gap) ≡ 0
      far zero b = absurd (omega arith)
      far (suc j) b = shift j ∙ past_limit (time - gap) j (omega arith)

  -- "T(t) be the number of processors that receive the message as of time t"
  total : ℕ → ℕ
  total time = sum R (suc time)

  total_more : (time : ℕ) → total (suc time) ≡ total time + R (suc time)
  unfolding total
  total_more time = sum_more R (suc time)

  total_zero : total 0 ≡ 1
  unfolding total
  total_zero = omega (arith, sum_more R 0, sum_none R, f.at_zero)

  ago_total : (time : ℕ) → ago total (suc time) delay ≡ ago total time delay + ago R (suc time) delay
  ago_total time = go (compare_cases (suc time) delay)
    where
      go : (suc time < delay) ⊎ ((suc time ≡ delay) ⊎ (delay < suc time))
          → ago total (suc time) delay ≡ ago total time delay + ago R (suc time) delay
      go (inl l) = omega (arith, ago_never total (suc time) delay l, ago_never total time delay (omega arith), ago_never R (suc time) delay l)
      go (inr (inl l)) =
          let z : total (suc time - delay) ≡ total 0 = ap total (omega arith) in
          let y : R (suc time - delay) ≡ R 0 = ap R (omega arith) in
          omega (
            arith,
            ago_then total (suc time) delay (omega arith),
            z,
            total_zero,
            ago_never total time delay (omega arith),
            ago_then R (suc time) delay (omega arith),
            y,
            f.at_zero,
          )
      go (inr (inr l)) =
          let z : total (suc time - delay) ≡ total (suc (time - delay)) = ap total (omega arith) in
          let y : R (suc time - delay) ≡ R (suc (time - delay)) = ap R (omega arith) in
          omega (
            arith,
            ago_then total (suc time) delay (omega arith),
            z,
            total_more (time - delay),
            ago_then total time delay (omega arith),
            ago_then R (suc time) delay (omega arith),
            y,
          )

  total_step : (time : ℕ) → total time ≡ ago total time delay + total (time - gap)
  total_step zero =
      let z : total (0 - gap) ≡ total 0 = ap total (omega arith) in
      omega (arith, z, ago_never total 0 delay d)
  total_step (suc time) = go (compare_cases (suc time) gap) (total_step time)
    where
      soon : suc time ≤ gap → total time ≡ ago total time delay + total (time - gap)
          → total (suc time) ≡ ago total (suc time) delay + total (suc time - gap)
      soon l ih =
          let z : total (suc time - gap) ≡ total 0 = ap total (omega arith) in
          let y : total (time - gap) ≡ total 0 = ap total (omega arith) in
          omega (arith, ih, z, y, ago_total time, total_more time, first_only (suc time) (omega arith) l)

      go : (suc time < gap) ⊎ ((suc time ≡ gap) ⊎ (gap < suc time)) → total time ≡ ago total time delay + total (time - gap)
          → total (suc time) ≡ ago total (suc time) delay + total (suc time - gap)
      go (inl l) ih = soon (omega arith) ih
      go (inr (inl l)) ih = soon (omega arith) ih
      go (inr (inr l)) ih =
          let z : total (suc time - gap) ≡ total (suc (time - gap)) = ap total (omega arith) in
          let y : R (suc time - gap) ≡ R (suc (time - gap)) = ap R (omega arith) in
          omega (arith, ih, z, y, ago_total time, total_more time, total_more (time - gap), simplified (suc time) l)

  -- in all: one until the first delay is over
  pub total_first : (time : ℕ) → time < delay → sum R (suc time) ≡ 1
  unfolding total
  total_first time l = below (suc time) time (omega arith) l
    where
      below : (bound time : ℕ) → time < bound → time < delay → total time ≡ 1
      below zero time b l = absurd (omega arith)
      below (suc bound) time b l = go (equal_cases time 0) (below bound)
        where
          go : (time ≡ 0) ⊎ (time ≡ 0 → ⊥) → ((time : ℕ) → time < bound → time < delay → total time ≡ 1) → total time ≡ 1
          go (inl z) ih = ap total z ∙ total_zero
          go (inr nz) ih = omega (arith, total_step time, ago_never total time delay l, ih (time - gap) (omega arith) (omega arith))

  pub total_later : (time : ℕ) → delay ≤ time → sum R (suc time) ≡ sum R (suc (time - delay)) + sum R (suc (time - gap))
  unfolding total
  total_later time l = omega (arith, total_step time, ago_then total time delay l)
