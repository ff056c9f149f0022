-- What a step of one column and a dispatch leave as it is: who runs, and for a dispatch the orders. Assumes nothing.
use Prim.Native.Nat.{ℕ}
use mathlib.Core.Path.{◌≡◌, refl, sym, ap, ◌∙◌}
use mathlib.Core.Bool.{true, false, true≢false}
use mathlib.Core.List.{List, [], ◌∷◌}
use borrow.Author.Tests.{eq-eqb}
use Rattle.column.specs.laws.Cases.{and_left, and_right}
use Rattle.column.specs.Packets.{receiver}
use Rattle.bank.specs.Banks.{State, runs, packet_at, bank_refusal}
use Rattle.bank.specs.Steps.{Result, accepted, refused, after}
use Rattle.bank.specs.Performs.{perform}
use Rattle.bank.specs.Dispatch.{dispatched, dispatch, dispatch_outcome}
use Rattle.bank.specs.laws.Kinds.{by_no_column}
use Rattle.bank.specs.inner.Moves.{acts}
use Rattle.bank.proofs.laws.ValidityOn.{runs_on}
use Rattle.bank.proofs.laws.RestSteps.{unchanged}
use Rattle.bank.specs.declared.bank.Step.{Step}
use Rattle.bank.specs.declared.bank.Step.TheVariants.{Order, Send, Take, Ack, All, Note, Halt, Back, Write}
use Rattle.agreement.specs.History.{World, orders_after, told, run}
use Rattle.agreement.specs.Dispatching.{is_settling, all_settling}
use Rattle.agreement.proofs.refinement.Reached.{Reached, next, reached_passes}
use Rattle.agreement.proofs.Dispatched.{settling_dispatched, settles}

-- ---- a step of one column: who runs is the same

someone_acts : (s : State) (x : Step) → by_no_column x ≡ false → (i : ℕ) × (acts s x i ≡ true)
someone_acts s (Order doors) e = (s.bank.tree.root, eq-eqb s.bank.tree.root s.bank.tree.root refl)
someone_acts s (Send i) e = (i, eq-eqb i i refl)
someone_acts s (Take place) e = (receiver (packet_at s place), eq-eqb (receiver (packet_at s place)) (receiver (packet_at s place)) refl)
someone_acts s (Ack i) e = (i, eq-eqb i i refl)
someone_acts s (All i) e = (i, eq-eqb i i refl)
someone_acts s (Note i j) e = (i, eq-eqb i i refl)
someone_acts s (Halt m) e = absurd (true≢false e)
someone_acts s (Back j) e = absurd (true≢false e)
someone_acts s (Write i offset value) e = absurd (true≢false e)

pub step_runs : (s : State) → bank_refusal s ≡ 0 → (x : Step) → by_no_column x ≡ false → (j : ℕ) → runs (after (perform s x)).bank j ≡ runs s.bank j
step_runs s good x moves j = go (perform s x) refl
  where
    go : (o : Result State) → perform s x ≡ o → runs (after o).bank j ≡ runs s.bank j
    go (accepted s') e = let z = someone_acts s x moves in runs_on s x s' z.0 moves good e z.1 j
    go (refused n s') e = ap (λ (u : State). runs u.bank j) (unchanged s x n s' e)

pub told_state : (w : World) (x : Step) (o : Result State) → (told w x o).state ≡ after o
unfolding told
told_state w x (accepted s) = refl
told_state w x (refused n s) = refl

-- ---- a dispatch: who runs, and the orders, are the same

settling_keeps : (l : List ℕ) (x : Step) → is_settling x ≡ true → (by_no_column x ≡ false) × (orders_after l x ≡ l)
settling_keeps l (Order doors) e = absurd (true≢false (sym e))
settling_keeps l (Send i) e = (refl, refl)
settling_keeps l (Take place) e = (refl, refl)
settling_keeps l (Ack i) e = (refl, refl)
settling_keeps l (All i) e = (refl, refl)
settling_keeps l (Note i j) e = (refl, refl)
settling_keeps l (Halt m) e = absurd (true≢false (sym e))
settling_keeps l (Back j) e = absurd (true≢false (sym e))
settling_keeps l (Write i offset value) e = absurd (true≢false (sym e))

pub told_orders : (w : World) (x : Step) (o : Result State) → orders_after w.orders x ≡ w.orders → (told w x o).orders ≡ w.orders
unfolding told
told_orders w x (accepted s) e = e
told_orders w x (refused n s) e = refl

pub record Same (w v : World) : Type 0 where
  pub orders : v.orders ≡ w.orders
  pub running : (j : ℕ) → runs v.state.bank j ≡ runs w.state.bank j

settled_same : (w : World) (xs : List Step) → Reached w → all_settling xs ≡ true → Same w (run w xs)
unfolding run all_settling
settled_same w [] r e = record { orders = refl; running = λ j. refl }
settled_same w (x ∷ xs) r e =
    let o = perform w.state x in
    let one = settling_keeps w.orders x (and_left (is_settling x) (all_settling xs) e) in
    let z = settled_same (told w x o) xs (next w x r) (and_right (is_settling x) (all_settling xs) e) in
    record {
      orders = z.orders ∙ told_orders w x o one.1;
      running = λ j. z.running j ∙ ap (λ (u : State). runs u.bank j) (told_state w x o)
          ∙ step_runs w.state (reached_passes w r) x one.0 j;
    }

module _ (w : World) (r : Reached w) (limit : ℕ) where
  abbrev pub dispatched_on : World
  dispatched_on = run w (dispatched limit w.state)

  pub dispatch_same : Same w dispatched_on
  dispatch_same = settled_same w (dispatched limit w.state) r (settling_dispatched limit w.state)

  pub dispatch_is : dispatched_on.state ≡ after (dispatch_outcome limit w.state)
  dispatch_is =
      let passes : after (dispatch_outcome limit w.state) ≡ dispatch limit w.state = rw (eq-eqb (bank_refusal w.state) 0 (reached_passes w r)) in
      (settles w r).steps_lead limit ∙ sym passes
