-- The step of a turn is that of the lowest column that can do anything: what a column does, and the other step where it can do nothing. Assumes nothing.
use Prim.Native.Nat.{ℕ, zero, suc, ◌+◌, ◌%◌, ◌^◌, ◌≤◌, ◌<◌}
use Rattle.std.specs.Prelude.{◌≡◌, ◌⊎◌, Bool, not, ◌&&◌, ◌||◌}
use Rattle.std.proofs.Math.Path.{refl, sym, ap}
use Rattle.std.proofs.Common.{ap₂, ◌∙◌, inl, inr, true≢false, mod-eq_of_lt, arith}
use Rattle.std.proofs.Math.Bool.{true, false, cond}
use Rattle.std.specs.Int.Count.{count_trailing_zeros}
use Rattle.std.proofs.Math.Dec.{eqb}
use borrow.Author.Tests.{eqb-true, eqb-false}
use Rattle.column.specs.laws.Cases.{equal_cases}
use Rattle.column.specs.Sets.{has, lowest, minus}
use Rattle.column.specs.laws.SetLaws.{has_none, member_lt, selected_lt, selected_has}
use Rattle.column.specs.laws.Digits.{lowest_lt, lowest_member, lowest_none}
use Rattle.column.specs.Trees.{tree_refusal}
use Rattle.column.specs.laws.TreeLaws.{check_exact, tree_sixteen}
use Rattle.column.specs.declared.tree.Tree.{Tree}
use Rattle.column.specs.declared.state.Column.{Column}
use Rattle.bank.specs.Banks.{column_at, halted_of}
use Rattle.bank.specs.inner.Turning.{step_of, step_from, is_full, is_ready, ready_of, quick_turn, can_send, can_ack, can_take_over}
use Rattle.bank.specs.StepKinds.{is_take}
use Rattle.bank.specs.declared.bank.Bank.{Bank}
use Rattle.bank.specs.declared.bank.Step.{Step}
use Rattle.bank.specs.declared.bank.Step.TheVariants.{Take, Send, Ack, All, Note}

-- what column i can do, once each test is known
pub step_is : {r z s a w : Bool} (t : Tree) (full : Bool) (halted i : ℕ) (c : Column) (other : Step) → c.running ≡ r → eqb (minus halted c.noted) 0 ≡ z
    → can_send t full halted i c ≡ s → can_ack t full halted i c ≡ a → can_take_over t i c ≡ w
    → step_of t full halted i c other
    ≡ cond r (cond z (cond s (Send i) (cond a (Ack i) (cond w (All i) other))) (Note i (lowest (minus halted c.noted)))) other
unfolding step_of
step_is t full halted i c other e f g h k =
    λ x. cond (e x) (cond (f x) (cond (g x) (Send i) (cond (h x) (Ack i) (cond (k x) (All i) other))) (Note i (lowest (minus halted c.noted)))) other

-- the other step is taken where it can do nothing
pub step_other : (t : Tree) (full : Bool) (halted i : ℕ) (c : Column) (other : Step)
    → step_of t full halted i c other ≡ cond (is_ready t full halted i c) (step_of t full halted i c (Take 0)) other
unfolding step_of
step_other t full halted i c other =
    go c.running (eqb (minus halted c.noted) 0) (can_send t full halted i c) (can_ack t full halted i c) (can_take_over t i c)
  where
    go : (r z s a w : Bool)
        → let chosen : Step → Step = λ o. cond r (cond z (cond s (Send i) (cond a (Ack i) (cond w (All i) o))) (Note i (lowest (minus halted c.noted)))) o in
        chosen other ≡ cond (not (is_take (chosen (Take 0)))) (chosen (Take 0)) other
    go false z s a w = refl
    go true false s a w = refl
    go true true true a w = refl
    go true true false true w = refl
    go true true false false true = refl
    go true true false false false = refl

module _ (b : Bank) where
  abbrev n : ℕ
  n = b.tree.columns

  abbrev pub ready : ℕ → Bool
  ready i = is_ready b.tree (is_full b) (halted_of b) i (column_at b i)

  abbrev step : ℕ → Step
  step i = step_of b.tree (is_full b) (halted_of b) i (column_at b i) (Take 0)

  abbrev from : ℕ → ℕ → Step
  from i k = step_from b (is_full b) (halted_of b) i k

  first_from : (k i m : ℕ) → i ≤ m → m < i + k → ((j : ℕ) → i ≤ j → j < m → ready j ≡ false) → ready m ≡ true → from i k ≡ step m
  unfolding step_from
  first_from zero i m h l none some = absurd (omega (arith, h, l))
  first_from (suc k) i m h l none some =
      step_other b.tree (is_full b) (halted_of b) i (column_at b i) (from (suc i) k)
      ∙ go (equal_cases i m) (λ g. first_from k (suc i) m g (omega (arith, l)) (λ j p q. none j (omega (arith, p)) q) some)
    where
      go : (i ≡ m) ⊎ (i ≡ m → ⊥) → (suc i ≤ m → from (suc i) k ≡ step m) → cond (ready i) (step i) (from (suc i) k) ≡ step m
      go (inl e) ih = ap (λ (x : Bool). cond x (step i) (from (suc i) k)) (ap ready e ∙ some) ∙ ap step e
      go (inr e) ih = ap (λ (x : Bool). cond x (step i) (from (suc i) k)) (none i (omega arith) (omega (arith, h, e))) ∙ ih (omega (arith, h, e))

  none_from : (k i : ℕ) → ((j : ℕ) → i ≤ j → j < i + k → ready j ≡ false) → from i k ≡ Take 0
  unfolding step_from
  none_from zero i none = refl
  none_from (suc k) i none =
      step_other b.tree (is_full b) (halted_of b) i (column_at b i) (from (suc i) k)
      ∙ ap (λ (x : Bool). cond x (step i) (from (suc i) k)) (none i (omega arith) (omega arith))
      ∙ none_from k (suc i) (λ j p q. none j (omega (arith, p)) (omega (arith, q)))

  pub ready_has : (j : ℕ) → j < n → has (ready_of b) j ≡ ready j
  ready_has j h = selected_has ready n j h

  nobody_ready : ready_of b ≡ 0 → (j : ℕ) → j < n → ready j ≡ false
  nobody_ready e j h = sym (ready_has j h) ∙ ap (λ (m : ℕ). has m j) e ∙ has_none j

  nobody_turn : ready_of b ≡ 0 → quick_turn b ≡ Take 0
  nobody_turn e = none_from n 0 (λ j p q. nobody_ready e j (omega (arith, q)))

  module _ (good : tree_refusal b.tree ≡ 0) where
    module _ (some : ready_of b ≡ 0 → ⊥) where
      abbrev first : ℕ
      first = lowest (ready_of b)

      small : ready_of b < 2 ^ 16
      small = selected_lt ready n 16 (tree_sixteen b.tree good)

      pos : 0 < ready_of b
      pos = omega (arith, some)

      first_lt : first < 16
      first_lt = lowest_lt 16 (ready_of b) small pos

      first_below : first < n
      first_below = member_lt n (ready_of b) first (selected_lt ready n n (omega arith)) (lowest_member 16 (ready_of b) small pos)

      first_ready : ready first ≡ true
      first_ready = sym (ready_has first first_below) ∙ lowest_member 16 (ready_of b) small pos

      first_turn : quick_turn b ≡ step first
      first_turn =
          first_from n 0 first (omega arith) (omega (arith, first_below))
          (λ j p q. sym (ready_has j (omega (arith, q, first_below))) ∙ lowest_none 16 (ready_of b) j q) first_ready

    -- the step of a turn is a take exactly where nobody can do anything
    pub ready_none : eqb (ready_of b) 0 ≡ is_take (quick_turn b)
    ready_none = go (eqb (ready_of b) 0) refl
      where
        twice : (x : Bool) → not x ≡ true → false ≡ x
        twice true e = e
        twice false e = refl

        go : (z : Bool) → eqb (ready_of b) 0 ≡ z → z ≡ is_take (quick_turn b)
        go true e = sym (ap is_take (nobody_turn (eqb-true (ready_of b) 0 e)))
        go false e =
            let some = eqb-false (ready_of b) 0 e in
            twice (is_take (step (lowest (ready_of b)))) (first_ready some) ∙ sym (ap is_take (first_turn some))

    -- where somebody can or a packet is under way, the step is no take of a packet that is not there
    pub ready_some : {r : ℕ} → r ≡ ready_of b → (x : Step) → x ≡ quick_turn b → (not (eqb r 0) || not (eqb b.count 0)) ≡ true
        → (is_take x && eqb b.count 0) ≡ false
    ready_some {r} is x quick busy =
        let told : eqb r 0 ≡ is_take x = ap (λ (m : ℕ). eqb m 0) is ∙ ready_none ∙ ap is_take (sym quick) in
        ap (λ (y : Bool). y && eqb b.count 0) (sym told) ∙ go (eqb r 0) (eqb b.count 0) busy
      where
        go : (x y : Bool) → (not x || not y) ≡ true → (x && y) ≡ false
        go true true e = absurd (true≢false (sym e))
        go true false e = refl
        go false y e = refl

    -- where nobody can, the place that is looked at is that of column 0, which cannot either
    lowest_turn : step (lowest (ready_of b) % 16) ≡ quick_turn b
    unfolding count_trailing_zeros
    lowest_turn = go (eqb (ready_of b) 0) refl
      where
        go : (z : Bool) → eqb (ready_of b) 0 ≡ z → step (lowest (ready_of b) % 16) ≡ quick_turn b
        go true e =
            let nobody : ready_of b ≡ 0 = eqb-true (ready_of b) 0 e in
            let some : 0 < n = omega (arith, ((check_exact b.tree).0 good).root_below) in
            ap (λ (m : ℕ). step (lowest m % 16)) nobody
            ∙ step_other b.tree (is_full b) (halted_of b) 0 (column_at b 0) (Take 0)
            ∙ ap (λ (x : Bool). cond x (step 0) (Take 0)) (nobody_ready nobody 0 some)
            ∙ sym (nobody_turn nobody)
        go false e =
            let some = eqb-false (ready_of b) 0 e in
            ap step (mod-eq_of_lt (first_lt some)) ∙ sym (first_turn some)

    -- the step of the lowest of the set that is kept
    pub ready_turn : {t : Tree} {halted set low : ℕ} {x : Step} → b.tree ≡ t → halted ≡ halted_of b → set ≡ ready_of b → low ≡ lowest set
        → x ≡ step_of t (is_full b) halted (low % 16) (column_at b (low % 16)) (Take 0) → x ≡ quick_turn b
    ready_turn {halted = halted} {low = low} tree_is halted_is set_is low-is e =
        e
        ∙ ap₂ (λ (t : Tree) (h : ℕ). step_of t (is_full b) h (low % 16) (column_at b (low % 16)) (Take 0)) (sym tree_is) halted_is
        ∙ ap (λ (m : ℕ). step (m % 16)) (low-is ∙ ap lowest set_is)
        ∙ lowest_turn
