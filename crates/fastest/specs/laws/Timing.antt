-- Laws of arrivals: how many columns can have the message at a time, and how many have it where no slot is left unused. Assumes nothing.
use Rattle.std.specs.Prelude.{ℕ, ◌+◌, ◌-◌, ◌≤◌, ◌<◌, ◌≡◌, refl, Bool, true, not, ◌&&◌, ◌⊎◌, leb}
use Rattle.std.proofs.Common.{sym, ◌∙◌, ap, inl, inr, ⊎_elim, arith, leb-true, leb-false, le-leb, eq-eqb, ne_eqb}
use Rattle.std.proofs.lemmas.Bool.{lt-leb, not-true}
use Rattle.column.specs.laws.Cases.{and_left, and_right, equal_cases}
use Rattle.column.specs.Trees.{parent, IsTree}
use Rattle.column.specs.declared.tree.Tree.{Tree}
use Rattle.fastest.specs.Schedules.{count, heard, arrival, Keeps}
use Rattle.fastest.specs.laws.Counts.{count_all, count_parts, count_matched, count_fewer}

-- how many of n columns have the message by a time
abbrev pub arrived_by : (ℕ → ℕ) → ℕ → ℕ → ℕ
arrived_by arrival n time = count (λ c. leb (arrival c) time) n

-- the columns that arrive in the `gap` units up to a time
abbrev late : (ℕ → ℕ) → ℕ → ℕ → ℕ → Bool
late arrival gap time c = leb (arrival c) time && not (leb (arrival c) (time - gap))

late_parts : (arrival : ℕ → ℕ) (gap time c : ℕ) → late arrival gap time c ≡ true → (arrival c ≤ time) × (time - gap < arrival c)
late_parts arrival gap time c e = (
  leb-true (arrival c) time (and_left (leb (arrival c) time) (not (leb (arrival c) (time - gap))) e),
  leb-false (arrival c) (time - gap) (not-true (leb (arrival c) (time - gap)) (and_right (leb (arrival c) time) (not (leb (arrival c) (time - gap))) e)),
)

late_is : (arrival : ℕ → ℕ) (gap time c : ℕ) → arrival c ≤ time → time - gap < arrival c → late arrival gap time c ≡ true
late_is arrival gap time c h l = rw (le-leb (arrival c) time h, lt-leb (arrival c) (time - gap) l)

-- those arrived by a time are those arrived `gap` earlier and the late ones
by_parts : (arrival : ℕ → ℕ) (n gap time : ℕ)
    → arrived_by arrival n time ≡ arrived_by arrival n (time - gap) + count (late arrival gap time) n
by_parts arrival n gap time =
    let parts = count_parts (λ c. leb (arrival c) time) (λ c. leb (arrival c) (time - gap)) n in
    let more : arrived_by arrival n (time - gap) ≤ count (λ c. leb (arrival c) time && leb (arrival c) (time - gap)) n =
    count_fewer (λ c. leb (arrival c) (time - gap)) (λ c. leb (arrival c) time && leb (arrival c) (time - gap)) n
    (λ c l e. rw (le-leb (arrival c) time (omega (arith, leb-true (arrival c) (time - gap) e)), e)) in
    let less : count (λ c. leb (arrival c) time && leb (arrival c) (time - gap)) n ≤ arrived_by arrival n (time - gap) =
    count_fewer (λ c. leb (arrival c) time && leb (arrival c) (time - gap)) (λ c. leb (arrival c) (time - gap)) n
    (λ c l e. and_right (leb (arrival c) time) (leb (arrival c) (time - gap)) e) in
    omega (arith, parts, more, less)

-- ---- at most

-- what keeping to the delay and the gap asks of n columns
pub record Timed (delay gap n : ℕ) (parent arrival : ℕ → ℕ) : Type 0 where
  -- before the first delay is over one column has the message
  pub alone : (b c : ℕ) → b < c → c < n → (delay ≤ arrival b) ⊎ (delay ≤ arrival c)
  -- a column that has it later has it from another, `delay` after that one at the earliest
  pub delayed : (c : ℕ) → c < n → 0 < arrival c → (parent c < n) × (arrival (parent c) + delay ≤ arrival c)
  -- two from one column are `gap` apart
  pub spaced : (b c : ℕ) → b < c → c < n → 0 < arrival b → 0 < arrival c → parent b ≡ parent c
      → (arrival b + gap ≤ arrival c) ⊎ (arrival c + gap ≤ arrival b)

module _ {delay gap n : ℕ} {parent arrival : ℕ → ℕ} (timed : Timed delay gap n parent arrival) where
  pub at_first : (time : ℕ) → time < delay → arrived_by arrival n time ≤ 1
  at_first time l =
      let h : arrived_by arrival n time ≤ count (λ c. leb c 0) 1 =
      count_matched (λ c. leb (arrival c) time) n (λ i j. j ≡ 0) (λ c. leb c 0) 1
      (λ i b e. (0, omega arith, refl, refl))
      (λ i k j b m x y r s. two i k (leb-true (arrival i) time x) (leb-true (arrival k) time y) (timed.alone i k b m)) in
      omega (arith, h, count_all (λ c. leb c 0) 1 (λ i b. le-leb i 0 (omega arith)))
    where
      two : (i k : ℕ) → arrival i ≤ time → arrival k ≤ time → (delay ≤ arrival i) ⊎ (delay ≤ arrival k) → ⊥
      two i k x y (inl h) = omega arith
      two i k x y (inr h) = omega arith

  pub at_most : (time : ℕ) → delay ≤ time → arrived_by arrival n time ≤ arrived_by arrival n (time - delay) + arrived_by arrival n (time - gap)
  at_most time l =
      let h : count (late arrival gap time) n ≤ arrived_by arrival n (time - delay) =
      count_matched (late arrival gap time) n (λ c p. parent c ≡ p) (λ c. leb (arrival c) (time - delay)) n from
      (λ b c p m k x y r s. two b c m k (late_parts arrival gap time b x) (late_parts arrival gap time c y) (r ∙ sym s)) in
      omega (arith, h, by_parts arrival n gap time)
    where
      from : (c : ℕ) → c < n → late arrival gap time c ≡ true
          → (p : ℕ) × (p < n) × (leb (arrival p) (time - delay) ≡ true) × (parent c ≡ p)
      from c b e =
          let h = late_parts arrival gap time c e in
          let d = timed.delayed c b (omega (arith, h.1)) in
          (parent c, d.0, le-leb (arrival (parent c)) (time - delay) (omega (arith, d.1, h.0)), refl)

      two : (b c : ℕ) → b < c → c < n → (arrival b ≤ time) × (time - gap < arrival b) → (arrival c ≤ time) × (time - gap < arrival c)
          → parent b ≡ parent c → ⊥
      two b c m k x y e = go (timed.spaced b c m k (omega (arith, x.1)) (omega (arith, y.1)) e)
        where
          go : (arrival b + gap ≤ arrival c) ⊎ (arrival c + gap ≤ arrival b) → ⊥
          go (inl h) = omega (arith, x.1, y.0, h)
          go (inr h) = omega (arith, y.1, x.0, h)

-- ---- at least

-- what it means that up to a time `last` no column lets a slot pass
pub record Busy (delay gap n last : ℕ) (parent arrival : ℕ → ℕ) : Type 0 where
  -- the first column has the message at once
  pub some : 0 < n
  pub first : arrival 0 ≡ 0
  -- whoever has it then sends it in each `gap` units
  pub sends : (i time : ℕ) → i < n → arrival i + delay ≤ time → time < last
      → (c : ℕ) × (c < n) × (parent c ≡ i) × (arrival c ≤ time) × (time < arrival c + gap) × (0 < arrival c)

module _ {delay gap n last : ℕ} {parent arrival : ℕ → ℕ} (busy : Busy delay gap n last parent arrival) where
  pub at_least_one : (time : ℕ) → 1 ≤ arrived_by arrival n time
  at_least_one time =
      let h : count (λ c. leb c 0) 1 ≤ arrived_by arrival n time =
      count_matched (λ c. leb c 0) 1 (λ i j. i ≡ j) (λ c. leb (arrival c) time) n
      (λ i l e. (0, busy.some, le-leb (arrival 0) time (omega (arith, busy.first)), omega arith)) (λ i k j b m x y r s. omega arith) in
      omega (arith, h, count_all (λ c. leb c 0) 1 (λ i b. le-leb i 0 (omega arith)))

  pub at_least : (time : ℕ) → delay ≤ time → time < last
      → arrived_by arrival n (time - delay) + arrived_by arrival n (time - gap) ≤ arrived_by arrival n time
  at_least time l m =
      let h : arrived_by arrival n (time - delay) ≤ count (late arrival gap time) n =
      count_matched (λ c. leb (arrival c) (time - delay)) n (λ i c. parent c ≡ i) (late arrival gap time) n to (λ i k j b h x y r s. omega arith) in
      omega (arith, h, by_parts arrival n gap time)
    where
      to : (i : ℕ) → i < n → leb (arrival i) (time - delay) ≡ true
          → (c : ℕ) × (c < n) × (late arrival gap time c ≡ true) × (parent c ≡ i)
      to i b e =
          let early = leb-true (arrival i) (time - delay) e in
          let s = busy.sends i time b (omega (arith, early)) m in
          (s.0, s.1, late_is arrival gap time s.0 s.3 (omega (arith, s.4, s.5)), s.2)

module _ (root delay : ℕ) (sent : ℕ → ℕ) where
  pub heard_root : heard root delay sent root ≡ 0
  heard_root = rw (eq-eqb root root refl)

  pub heard_other : (c : ℕ) → (c ≡ root → ⊥) → heard root delay sent c ≡ sent c + delay
  heard_other c ne = rw (ne_eqb c root ne)

-- ---- what keeping to the delay and the gap says of arrivals

module _ (delay gap : ℕ) (t : Tree) (sent : ℕ → ℕ) where
  not_root : (c : ℕ) → 0 < arrival delay t sent c → c ≡ t.root → ⊥
  not_root c p e = omega (arith, p, ap (arrival delay t sent) e, heard_root t.root delay sent)

  pub schedule_timed : IsTree t → Keeps delay gap t sent → Timed delay gap t.columns (parent t) (arrival delay t sent)
  schedule_timed is keeps = record { alone = alone; delayed = delayed; spaced = spaced }
    where
      alone : (b c : ℕ) → b < c → c < t.columns → (delay ≤ arrival delay t sent b) ⊎ (delay ≤ arrival delay t sent c)
      alone b c l m = go (equal_cases b t.root)
        where
          go : (b ≡ t.root) ⊎ (b ≡ t.root → ⊥) → (delay ≤ arrival delay t sent b) ⊎ (delay ≤ arrival delay t sent c)
          go (inl e) = inr (omega (arith, heard_other t.root delay sent c (λ f. omega (arith, e, f, l))))
          go (inr ne) = inl (omega (arith, heard_other t.root delay sent b ne))

      delayed : (c : ℕ) → c < t.columns → 0 < arrival delay t sent c
          → (parent t c < t.columns) × (arrival delay t sent (parent t c) + delay ≤ arrival delay t sent c)
      delayed c l p =
          let ne = not_root c p in
          (is.parent_below c l, omega (arith, keeps.held c l ne, heard_other t.root delay sent c ne))

      spaced : (b c : ℕ) → b < c → c < t.columns → 0 < arrival delay t sent b → 0 < arrival delay t sent c → parent t b ≡ parent t c
          → (arrival delay t sent b + gap ≤ arrival delay t sent c) ⊎ (arrival delay t sent c + gap ≤ arrival delay t sent b)
      spaced b c l m p q e =
          let at_b = heard_other t.root delay sent b (not_root b p) in
          let at_c = heard_other t.root delay sent c (not_root c q) in
          ⊎_elim (λ h. inl (omega (arith, h, at_b, at_c))) (λ h. inr (omega (arith, h, at_b, at_c)))
          (keeps.apart b c (omega arith) m (not_root b p) (not_root c q) (λ f. omega arith) e)
