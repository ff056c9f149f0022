-- Document 02, Point 13: the theorem. An order, a dispatch, the halt of a set and a dispatch are a list of commands from fresh, to which demand 3
-- and Point 2's bound apply. Assumes nothing.
use Prim.Native.Nat.{ℕ, zero, suc, ◌+◌, ◌*◌, ◌^◌, ◌≤◌, ◌<◌}
use native.Mathlib.Nat.{mul-le-mul}
use native.Mathlib.Omega.{arith}
use mathlib.Core.Path.{◌≡◌, refl, sym, ap, ap₂, subst, ◌∙◌}
use mathlib.Core.Logic.{◌⊎◌, inl, inr}
use mathlib.Core.Bool.{Bool, true, false, not, ◌&&◌, ◌||◌, cond}
use mathlib.Core.List.{List, [], ◌∷◌}
use lib.Dec.{eqb}
use lib.ListN.{length, replicate, length-replicate}
use borrow.Author.Tests.{eq-eqb, ne_eqb, not-false}
use Rattle.column.specs.Sets.{has}
use Rattle.column.specs.laws.SetLaws.{lt_within}
use Rattle.column.specs.Trees.{every}
use Rattle.column.specs.laws.TreeLaws.{every_all, every_fails}
use Rattle.column.specs.Columns.{stopped}
use Rattle.column.specs.declared.tree.Tree.{Tree}
use Rattle.column.specs.declared.state.Column.{Column}
use Rattle.bank.specs.Banks.{State, column_at, runs, capacity}
use Rattle.bank.specs.laws.ValidityLaws.{fresh_at, every_same}
use Rattle.bank.specs.Steps.{Result, accepted, refused, after, members_run, halt_refusal, halt}
use Rattle.bank.specs.Performs.{perform}
use Rattle.bank.specs.Rest.{Running, AtRest}
use Rattle.bank.specs.Dispatch.{dispatched, dispatch_outcome}
use Rattle.bank.specs.laws.strips.StripStates.{column_at_lem}
use Rattle.bank.specs.laws.strips.StripLaws.{halt_accepted}
use Rattle.bank.specs.declared.bank.Bank.{Bank}
use Rattle.bank.specs.declared.bank.Step.TheVariants.{Order, Halt}
use Rattle.losses.specs.Losses.{most_columns, losses_refusal, ordered, begun, to_rest, ended, nobody_runs, all_hold, ends_with, one_if, counted_to, losses_of}
use Rattle.losses.specs.laws.LossesLaws.{begun_tree, ended_tree, Counting, counting, order_accepted}
use Rattle.losses.specs.declared.count.Losses.{Losses}
use Rattle.agreement.specs.History.{given, World, told, follow}
use Rattle.agreement.specs.Agreement.{begin}
use Rattle.agreement.specs.Dispatching.{steps_within}
use Rattle.agreement.specs.Losing.{Ends, Counts, Losing}
use Rattle.agreement.proofs.refinement.Reached.{Reached, start, next, reached, reached_passes}
use Rattle.agreement.proofs.Companions.{told_tree, run_tree, orders_count}
use Rattle.agreement.proofs.Agreement.{agrees}
use Rattle.agreement.proofs.Dispatched.{settles}
use Rattle.agreement.proofs.refinement.DispatchKept.{step_runs, told_state, told_orders, dispatched_on, dispatch_same, dispatch_is}
use Rattle.agreement.proofs.losses.Counted.{fails_somewhere, counted_three, counted_full}

-- 9 times N squared less 5 times N grows with N
enough : (n : ℕ) → n ≤ most_columns → steps_within n ≤ to_rest
enough n h =
    let same : n ≤ n = omega arith in
    let z : n * n ≤ most_columns * n = mul-le-mul h same in
    omega (arith, z, h)

-- ---- one order at most, and its doors are clear

abbrev Clear : List ℕ → Type 0
Clear l = (length l ≤ 1) × ((k : ℕ) → given l k ≡ 0)

clear_first : (w : World) → w.orders ≡ [] → (o : Result State) → Clear (told w (Order 0) o).orders
unfolding told given
clear_first w e (accepted s) = subst (λ (l : List ℕ). Clear (0 ∷ l)) (sym e) (omega arith, λ k. go (eqb k 1))
  where
    go : (b : Bool) → ◌≡◌ {A = ℕ} (cond b 0 0) 0
    go true = refl
    go false = refl
clear_first w e (refused n s) = subst Clear (sym e) (omega arith, λ k. refl)

-- ---- the banks of a set, one after the other

module _ (t : Tree) (ok : losses_refusal t ≡ 0) (steps : ℕ) where
  good : Counting t
  good = counting t ok

  abbrev words : List ℕ
  words = replicate capacity 0

  abbrev freshly : World
  freshly = begin t words words

  words_long : length words ≡ capacity
  words_long = length-replicate {A = ℕ} capacity 0

  freshly_reached : Reached freshly
  freshly_reached = start t good.tree words words words_long words_long

  abbrev ordering : World
  ordering = told freshly (Order 0) (perform freshly.state (Order 0))

  ordering_reached : Reached ordering
  ordering_reached = next freshly (Order 0) freshly_reached

  ordering_is : ordering.state ≡ ordered t
  unfolding ordered perform
  ordering_is = told_state freshly (Order 0) _

  abbrev moving : World
  moving = dispatched_on ordering ordering_reached steps

  moving_reached : Reached moving
  moving_reached = reached ordering (dispatched steps ordering.state) ordering_reached

  moving_is : moving.state ≡ begun t steps
  unfolding begun
  moving_is = dispatch_is ordering ordering_reached steps ∙ ap (λ (s : State). after (dispatch_outcome steps s)) ordering_is

  moving_tree : moving.state.bank.tree ≡ t
  moving_tree = run_tree ordering (dispatched steps ordering.state) ∙ told_tree freshly (Order 0)

  all_run : (i : ℕ) → i < t.columns → runs moving.state.bank i ≡ true
  all_run i h =
      (dispatch_same ordering ordering_reached steps).running i
      ∙ ap (λ (u : State). runs u.bank i) (told_state freshly (Order 0) (perform freshly.state (Order 0)))
      ∙ step_runs freshly.state (reached_passes freshly freshly_reached) (Order 0) refl i
      ∙ ap (λ (c : Column). c.running) (fresh_at t good.tree i h)

  moving_clear : Clear moving.orders
  moving_clear = subst Clear (sym (dispatch_same ordering ordering_reached steps).orders) (clear_first freshly refl (perform freshly.state (Order 0)))

  module _ (m : ℕ) (below : m < 2 ^ t.columns) where
    members_run_lem : members_run moving.state.bank m ≡ true
    members_run_lem =
        every_all (λ (j : ℕ). not (has m j) || runs moving.state.bank j) moving.state.bank.tree.columns
        (λ j h. go (not (has m j)) (all_run j (subst (λ (u : Tree). j < u.columns) moving_tree h)))
      where
        go : {b : Bool} (a : Bool) → b ≡ true → (a || b) ≡ true
        go true e = refl
        go false e = e

    halts : halt_refusal moving.state m ≡ 0
    unfolding halt_refusal
    halts =
        let few : m < 2 ^ moving.state.bank.tree.columns = subst (λ (u : Tree). m < 2 ^ u.columns) (sym moving_tree) below in
        rw (reached_passes moving moving_reached, lt_within m moving.state.bank.tree.columns few, members_run_lem)

    abbrev halted : World
    halted = told moving (Halt m) (perform moving.state (Halt m))

    halted_reached : Reached halted
    halted_reached = next moving (Halt m) moving_reached

    halted_is : halted.state ≡ after (halt moving.state m)
    unfolding perform
    halted_is = told_state moving (Halt m) _

    halted_tree : halted.state.bank.tree ≡ t
    halted_tree = told_tree moving (Halt m) ∙ moving_tree

    others_halted : (i : ℕ) → i < t.columns → runs halted.state.bank i ≡ not (has m i)
    others_halted i h =
        let c = column_at moving.state.bank i in
        ap (λ (s : State). runs s.bank i) (halted_is ∙ ap after (halt_accepted moving.state m halts))
        ∙ ap (λ (x : Column). x.running) (column_at_lem moving.state (has m) i)
        ∙ go c (has m i) (all_run i h)
      where
        go : (c : Column) (b : Bool) → c.running ≡ true → (cond b (stopped c) c).running ≡ not b
        go c true e = refl
        go c false e = e

    abbrev resting : World
    resting = dispatched_on halted halted_reached to_rest

    resting_reached : Reached resting
    resting_reached = reached halted (dispatched to_rest halted.state) halted_reached

    resting_is : resting.state ≡ ended (begun t steps) m
    unfolding ended
    resting_is =
        dispatch_is halted halted_reached to_rest
        ∙ ap (λ (s : State). after (dispatch_outcome to_rest s)) (halted_is ∙ ap (λ (s : State). after (halt s m)) moving_is)

    rests : AtRest resting.state
    rests =
        let z = settles halted halted_reached in
        subst AtRest (sym (z.steps_lead to_rest))
        (z.within.rests to_rest
        (subst (λ (u : Tree). steps_within u.columns ≤ to_rest) (sym halted_tree) (enough t.columns good.few)))

    resting_clear : Clear resting.orders
    resting_clear =
        subst Clear (sym ((dispatch_same halted halted_reached to_rest).orders ∙ told_orders moving (Halt m) (perform moving.state (Halt m)) refl)) moving_clear

    one_or_none : (k : ℕ) → k ≤ 1 → (k ≡ 0) ⊎ (k ≡ 1)
    one_or_none zero h = inl refl
    one_or_none (suc zero) h = inr refl
    one_or_none (suc (suc k)) h = absurd (omega arith)

    resting_ends : Ends t resting.state m
    resting_ends =
        let held = (agrees resting resting_reached).at_rest rests in
        record {
          rests = rests;
          others_run = λ i h. (dispatch_same halted halted_reached to_rest).running i ∙ others_halted i h;
          one_or_none = λ i h.
              let z = held i h in (
                one_or_none (column_at resting.state.bank i).number (omega (arith, z.1.number_is, z.1.was_given, resting_clear.0)),
                z.1.doors_are ∙ resting_clear.1 z.0,
              );
          alike = λ i j h k.
              let x = held i h in
              let y = held j k in
              let p = x.2.attained in
              let q = y.2.attained in
              omega (arith, x.1.number_is, y.1.number_is, x.2.bound q.0 q.1, q.2, y.2.bound p.0 p.1, p.2);
        }

    ends : Ends t (ended (begun t steps) m) m
    ends = subst (λ (s : State). Ends t s m) resting_is resting_ends

    -- ---- the set is counted once

    abbrev last : Bank
    last = (ended (begun t steps) m).bank

    last_tree : last.tree ≡ t
    last_tree = ended_tree (begun t steps) m ∙ begun_tree t steps

    nobody : nobody_runs last ≡ every (has m) t.columns
    nobody =
        ap (λ (u : Tree). every (λ i. not (runs last i)) u.columns) last_tree
        ∙ every_same (λ i. not (runs last i)) (has m) t.columns (λ i h. ap not (ends.others_run i h) ∙ twice (has m i))
      where
        twice : (b : Bool) → not (not b) ≡ b
        twice true = refl
        twice false = refl

    module _ (i : ℕ) (runs-i : Running (ended (begun t steps) m) i) where
      all_held : (k : ℕ) → (column_at last i).number ≡ k → all_hold k last ≡ true
      all_held k e =
          every_all (λ j. not (runs last j) || eqb (column_at last j).number k) last.tree.columns (λ j h. go j h (runs last j) refl)
        where
          go : (j : ℕ) → j < last.tree.columns → (b : Bool) → runs last j ≡ b → (not b || eqb (column_at last j).number k) ≡ true
          go j h true p = eq-eqb (column_at last j).number k (ends.alike j i (h, p) runs-i ∙ e)
          go j h false p = refl

      not_held : (k : ℕ) → ((column_at last i).number ≡ k → ⊥) → all_hold k last ≡ false
      not_held k z =
          every_fails (λ j. not (runs last j) || eqb (column_at last j).number k) last.tree.columns i
          (ap₂ (λ (x y : Bool). not x || y) runs-i.1 (ne_eqb (column_at last i).number k z)) runs-i.0

      counted_once : ((column_at last i).number ≡ 0) ⊎ ((column_at last i).number ≡ 1) → one_if (all_hold 1 last) + one_if (all_hold 0 last) ≡ 1
      counted_once (inl z) =
          ap₂ (λ (x y : Bool). one_if x + one_if y) (not_held 1 (λ e. let c : ◌≡◌ {A = ℕ} 0 1 = sym z ∙ e in absurd (omega (arith, c)))) (all_held 0 z)
      counted_once (inr z) =
          ap₂ (λ (x y : Bool). one_if x + one_if y) (all_held 1 z) (not_held 0 (λ e. let c : ◌≡◌ {A = ℕ} 1 0 = sym z ∙ e in absurd (omega (arith, c))))

    one_of_three : one_if (ends_with 1 last) + one_if (ends_with 0 last) + one_if (nobody_runs last) ≡ 1
    one_of_three = go (nobody_runs last) refl
      where
        go : (b : Bool) → nobody_runs last ≡ b → one_if (not b && all_hold 1 last) + one_if (not b && all_hold 0 last) + one_if b ≡ 1
        go true e = refl
        go false e =
            let z = fails_somewhere (λ i. not (runs last i)) last.tree.columns e in
            let run : Running (ended (begun t steps) m) z.0 = (z.1, not-false (runs last z.0) z.2) in
            omega (arith, counted_once z.0 run (ends.one_or_none z.0 run).0)

  losses_are : losses_of t steps ≡ counted_to (begun t steps) (2 ^ t.columns)
  unfolding losses_of
  losses_are =
      rw (eq-eqb (losses_refusal t) 0 ok) (ap (λ (u : Tree). counted_to (begun t steps) (2 ^ u.columns)) (begun_tree t steps))

  order_one : (column_at (ordered t).bank t.root).number ≡ 1
  unfolding follow perform
  order_one =
      let o = order_accepted t good.tree in
      let kept : (ordered t).bank.tree ≡ t = sym (ap (λ (s : State). s.bank.tree) ordering_is) ∙ told_tree freshly (Order 0) in
      sym (ap (λ (u : Tree). (column_at (ordered t).bank u.root).number) kept)
      ∙ ((orders_count t good.tree words words words_long words_long []).gives 0 (ordered t) o).0

  counts : Counts t steps
  counts = record {
    order_given = order_accepted t good.tree;
    order_one = order_one;
    halts = λ m h. subst (λ (s : State). halt_refusal s m ≡ 0) moving_is (halts m h);
    ends = ends;
    sum = subst (λ (l : Losses). l.kept + l.lost + l.none ≡ 2 ^ t.columns) (sym losses_are) (counted_three _ _ _ (2 ^ t.columns) one_of_three);
    one = ap (λ (l : Losses). l.none) losses_are ∙ counted_full _ t.columns nobody;
  }

pub losing : Losing
losing = counts
