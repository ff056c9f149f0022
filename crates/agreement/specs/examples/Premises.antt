-- The premises of agreement and of its companions, each with an instance in which it holds, from the lists that Runs computes.
-- Assumes nothing.
use Rattle.std.specs.Prelude.{ℕ, zero, suc, ◌≤◌, ◌<◌, ◌≡◌, ◌⊎◌, Bool, true, false, not, ◌&&◌, ◌||◌, cond, eqb, ltb, length, get_or, replicate}
use Rattle.std.proofs.Common.{arith, sym, subst, ◌∙◌, inl, inr, true≢false, ltb-true, ltb-false, eqb-true, ne_eqb}
use Rattle.std.proofs.Math.Path.{refl, ap}
use mathlib.Core.List.{List, [], ◌∷◌, ◌++◌, map}
use Rattle.std.proofs.lemmas.List.{length-replicate}
use Rattle.column.specs.laws.Cases.{truth, and_left, and_right, none_and}
use Rattle.column.specs.Sets.{has}
use Rattle.column.specs.Trees.{tree_refusal, choose}
use Rattle.column.specs.laws.SetLaws.{has_none, selected_has}
use Rattle.column.proofs.laws.ChoiceLaws.{choose_le}
use Rattle.column.specs.laws.TreeLaws.{every_at}
use Rattle.column.specs.declared.tree.Tree.{Tree}
use Rattle.column.specs.declared.packet.Packet.{Packet}
use Rattle.column.specs.declared.packet.Packet.TheVariants.{Message, Acknowledgement}
use Rattle.bank.specs.Banks.{State, column_at, runs, packet_at, capacity}
use Rattle.bank.specs.laws.ValidityLaws.{Valid, valid, places_at}
use Rattle.bank.specs.Steps as steps
use Rattle.bank.specs.Steps.{Result, accepted, refused}
use Rattle.bank.specs.Performs.{perform}
use Rattle.bank.proofs.laws.Places.{tree_kept}
use Rattle.bank.specs.Rest.{Running, AtRest}
use Rattle.bank.proofs.laws.RestLaws.{rest_exact}
use Rattle.bank.proofs.laws.RestSteps.{unchanged}
use Rattle.bank.specs.declared.bank.Step.{Step}
use Rattle.bank.specs.declared.bank.Step.TheVariants.{Order, Send, Take, Ack, All, Note, Halt, Back, Write}
use Rattle.agreement.specs.History.{World, changed, root_of, acknowledged, awaits_after, told, run, step, follow}
use Rattle.agreement.specs.Agreement.{Holds, HighestReceived, NeitherSends, NorAwaits, Agreement, AfterEveryList, Agrees}
use Rattle.agreement.specs.Companions.{Ordered, OrdersCount, HaltedRests}
use Rattle.agreement.specs.examples.Runs.{Row, from_fresh, after, refusal, refusals, row_in, record_is, holds, Case, row, runs_pass, taken_over, never_received, served_by_root, besides_aHalted, everyone_halted}

-- ---- nobody past 16 is awaited

module _ (q : ℕ) (far : 16 < q) where
  -- where someone else is awaited, or someone is no longer
  changed_none : (b : Bool) (f : ℕ → Bool) (a : ℕ) (x : Bool) → (eqb q a && x) ≡ false → f q ≡ false → cond b (changed f a x) f q ≡ false
  changed_none false f a x h e = e
  changed_none true f a x h e = go (eqb q a) h
    where
      go : (t : Bool) → (t && x) ≡ false → cond t x (f q) ≡ false
      go true h = h
      go false h = e

  ended : (a : ℕ) → (eqb q a && false) ≡ false
  ended a = none_and (eqb q a) false (λ h. refl)

  acknowledged_none : (s : State) (p : Packet) (f : ℕ → Bool) → f q ≡ false → acknowledged s p f q ≡ false
  acknowledged_none s (Message from to number doors) f e = e
  acknowledged_none s (Acknowledgement from to number) f e =
      changed_none (eqb to (root_of s) && eqb number (column_at s.bank (root_of s)).number) f from false (ended from) e

  abbrev Good : World → Type 0
  Good w = tree_refusal w.state.bank.tree ≡ 0

  awaits_none : (w : World) → Good w → (x : Step) → w.awaits q ≡ false → awaits_after w x q ≡ false
  awaits_none w ok (Order doors) e = e
  awaits_none w ok (Send i) e =
      let t = w.state.bank.tree in
      let c = column_at w.state.bank i in
      let k = choose t c.send in
      changed_none (eqb i (root_of w.state) && not (has c.noted k)) w.awaits k true
      (ap (λ (b : Bool). b && true) (ne_eqb q k (λ z. omega (arith, far, choose_le t ok c.send, z)))) e
  awaits_none w ok (Take place) e = acknowledged_none w.state (packet_at w.state place) w.awaits e
  awaits_none w ok (Ack i) e = e
  awaits_none w ok (All i) e = e
  awaits_none w ok (Note i j) e = changed_none (eqb i (root_of w.state)) w.awaits j false (ended j) e
  awaits_none w ok (Halt m) e = e
  awaits_none w ok (Back j) e = e
  awaits_none w ok (Write i offset value) e = e

  told_none : (w : World) → Good w → (x : Step) (o : Result State) → w.awaits q ≡ false → (told w x o).awaits q ≡ false
  unfolding told
  told_none w ok x (accepted s) e = awaits_none w ok x e
  told_none w ok x (refused n s) e = e

  told_after : (w : World) (x : Step) (o : Result State) → (told w x o).state ≡ steps.after o
  unfolding told
  told_after w x (accepted s) = refl
  told_after w x (refused n s) = refl

  run_none : (w : World) → Good w → (xs : List Step) → w.awaits q ≡ false → (run w xs).awaits q ≡ false
  unfolding run
  run_none w ok [] e = e
  run_none w ok (x ∷ xs) e =
      let o = perform w.state x in
      run_none (told w x o) (ap (λ (s : State). tree_refusal s.bank.tree) (told_after w x o) ∙ ap tree_refusal (tree_kept w.state x) ∙ ok) xs
      (told_none w ok x o e)

-- ---- what the refusals of one step say of it

refused_by : (n : ℕ) (o : Result State) → refusal o ++ [] ≡ n ∷ [] → (s : State) × (o ≡ refused n s)
refused_by n (accepted s) e = let z : ◌≡◌ {A = ℕ} 0 1 = ap length e in absurd (omega arith)
refused_by n (refused m s) e = (s, ap (λ (k : ℕ). refused k s) cc)

accepted_by : (o : Result State) → refusal o ++ [] ≡ [] → (s : State) × (o ≡ accepted s)
accepted_by (accepted s) e = (s, refl)
accepted_by (refused m s) e = let z : ◌≡◌ {A = ℕ} 1 0 = ap length e in absurd (omega arith)

-- ---- a list of steps is a list of lines

pub follow_steps : (w : World) (xs : List Step) → follow w (map step xs) ≡ run w xs
unfolding follow run
follow_steps w [] = refl
follow_steps w (x ∷ xs) = follow_steps (told w x (perform w.state x)) xs

-- ---- what a row says of its world

abbrev pub world : Case → World
world c = after (row c)

module _ (c : Case) where
  abbrev w : World
  w = world c

  abbrev s : State
  s = w.state

  abbrev columns : ℕ
  columns = s.bank.tree.columns

  row_is : row_in w (row c).steps (refusals (from_fresh (row c).tree) (row c).steps) (row c).number ≡ row c
  row_is = ap (λ x. x.0) (runs_pass c)

  tree_is : s.bank.tree ≡ (row c).tree
  tree_is = ap (λ (r : Row). r.tree) row_is

  packets_are : s.bank.count ≡ (row c).packets
  packets_are = ap (λ (r : Row). r.packets) row_is

  -- the theorem and its companions hold of the world
  pub spoken_of : (P : World → Type 0) → AfterEveryList P → P w
  spoken_of P f =
      let words : length {A = ℕ} (replicate capacity 0) ≡ capacity = length-replicate {A = ℕ} capacity 0 in
      subst P (follow_steps (from_fresh (row c).tree) (row c).steps)
      (f (row c).tree (ap (λ x. x.1) (runs_pass c)) (replicate capacity 0) (replicate capacity 0) words words (map step (row c).steps))

  pub bank_valid : Valid s
  bank_valid = valid s (ap (λ x. x.2) (runs_pass c))

  rests : (row c).rest ≡ true → AtRest s
  rests e = (rest_exact s).0 (ap (λ (r : Row). r.rest) row_is ∙ e)

  busy : (row c).rest ≡ false → AtRest s → ⊥
  busy e a = true≢false (sym ((rest_exact s).1 a) ∙ ap (λ (r : Row). r.rest) row_is ∙ e)

  -- the set of columns that run, member by member
  runs_mask : (i : ℕ) → i < columns → has (row c).running i ≡ runs s.bank i
  runs_mask i l = ap (λ (r : Row). has r.running i) (sym row_is) ∙ selected_has (runs s.bank) columns i l

  running : (i : ℕ) → i < (row c).tree.columns → has (row c).running i ≡ true → Running s i
  running i h e =
      let l : i < columns = subst (λ (t : Tree). i < t.columns) (sym tree_is) h in
      (l, sym (runs_mask i l) ∙ e)

  nobody_runs : (row c).running ≡ 0 → (i : ℕ) → Running s i → ⊥
  nobody_runs e i r = true≢false (sym r.1 ∙ sym (runs_mask i r.0) ∙ ap (λ (m : ℕ). has m i) e ∙ has_none i)

  -- what each column has received
  received_at : (i : ℕ) → i < columns → w.received i ≡ get_or (row c).received i 0
  received_at i l = sym (places_at w.received columns i 0 l) ∙ ap (λ (r : Row). get_or r.received i 0) row_is

  neither_sends : (row c).root.send ≡ 6 ∷ [] → NeitherSends s
  unfolding refusals perform
  neither_sends e =
      let o = refused_by 6 (perform s (Send (root_of s))) (ap (λ (r : Row). r.root.send) row_is ∙ e) in
      o.1 ∙ ap (refused 6) (unchanged s (Send (root_of s)) 6 o.0 o.1)

  nor_awaits : (row c).root.awaits ≡ 0 → NorAwaits w
  nor_awaits e q = go (truth (ltb q 17))
    where
      go : (ltb q 17 ≡ true) ⊎ (ltb q 17 ≡ false) → w.awaits q ≡ false
      go (inl l) =
          sym (selected_has w.awaits 17 q (ltb-true q 17 l)) ∙ ap (λ (r : Row). has r.root.awaits q) row_is
          ∙ ap (λ (m : ℕ). has m q) e ∙ has_none q
      go (inr l) = run_none q (ltb-false q 17 l) (from_fresh (row c).tree) (ap (λ x. x.1) (runs_pass c)) (row c).steps refl

  order_accepted : (row c).root.order ≡ [] → (next : State) × (perform s (Order 0) ≡ accepted next)
  unfolding refusals
  order_accepted e = accepted_by (perform s (Order 0)) (ap (λ (r : Row). r.root.order) row_is ∙ e)

  all_hold : (row c).number ≤ length (row c).orders → (i : ℕ) → Running s i → Holds w i (row c).number
  all_hold e i r =
      let n = (row c).number in
      let l : i < (row c).tree.columns = subst (λ (t : Tree). i < t.columns) tree_is r.0 in
      let h = every_at (holds w n) (row c).tree.columns i (ap (λ x. x.3) (runs_pass c)) l in
      let x : record_is w n i ≡ true = sym (ap (λ (b : Bool). not b || record_is w n i) r.1) ∙ h in
      record {
        was_given = omega (arith, e, ap (λ (r : Row). length r.orders) row_is);
        number_is = eqb-true _ _ (and_left _ _ x);
        doors_are = eqb-true _ _ (and_right (eqb (column_at s.bank i).number n) _ x);
      }

-- ---- `at_rest` of Agreement: a bank at rest with an order that its running columns have received

pub taken_over_rests : AtRest (world taken_over).state
taken_over_rests = rests taken_over refl

pub taken_over_runs : Running (world taken_over).state 1
taken_over_runs = running taken_over 1 (omega arith) refl

-- ---- "the highest order number that any of them has received": of those that run, and not of a halted column that received more

pub nobody_received : (i : ℕ) → Running (world never_received).state i → (world never_received).received i ≡ 0
nobody_received i r = received_at never_received i r.0 ∙ go i (subst (λ (t : Tree). i < t.columns) (tree_is never_received) r.0) (runs_mask never_received i r.0 ∙ r.1)
  where
    go : (i : ℕ) → i < 3 → has 6 i ≡ true → get_or (row never_received).received i 0 ≡ 0
    go zero l e = absurd (true≢false (sym e))
    go (suc zero) l e = refl
    go (suc (suc zero)) l e = refl
    go (suc (suc (suc i))) l e = absurd (omega (arith, l))

pub halted_received : (world never_received).received 0 ≡ 1
halted_received = received_at never_received 0 (subst (λ (t : Tree). 0 < t.columns) (sym (tree_is never_received)) (omega arith))

pub not_of_the_halted : HighestReceived (world never_received) 1 → ⊥
not_of_the_halted h =
    let z = h.attained in
    omega (arith, sym (nobody_received z.0 z.1) ∙ z.2)

-- ---- `served` of Agreement: a packet is still under way, and the bank is not at rest

pub root_runs : Running (world besides_aHalted).state (root_of (world besides_aHalted).state)
root_runs =
    subst (λ (t : Tree). Running (world besides_aHalted).state t.root) (sym (tree_is besides_aHalted))
    (running besides_aHalted 0 (omega arith) refl)

pub root_sends_none : NeitherSends (world besides_aHalted).state
root_sends_none = neither_sends besides_aHalted refl

pub root_awaits_none : NorAwaits (world besides_aHalted)
root_awaits_none = nor_awaits besides_aHalted refl

pub one_under_way : (world besides_aHalted).state.bank.count ≡ 1
one_under_way = packets_are besides_aHalted

pub not_at_rest : AtRest (world besides_aHalted).state → ⊥
not_at_rest = busy besides_aHalted refl

pub served_hold : (i : ℕ) → Running (world besides_aHalted).state i → Holds (world besides_aHalted) i 1
served_hold = all_hold besides_aHalted (omega arith)

-- ---- the companions of agreement

pub second_accepted : (next : State) × (perform (world served_by_root).state (Order 0) ≡ accepted next)
second_accepted = order_accepted served_by_root refl

pub nobody_left : (i : ℕ) → Running (world everyone_halted).state i → ⊥
nobody_left = nobody_runs everyone_halted refl

-- ---- what the statements say of these lists: each of their premises holds

pub rest_said : Agrees → (number : ℕ) × Holds (world taken_over) 1 number × HighestReceived (world taken_over) number
rest_said agrees = (spoken_of taken_over Agreement agrees).at_rest taken_over_rests 1 taken_over_runs

pub served_said : Agrees
    → (i : ℕ) → Running (world besides_aHalted).state i → Holds (world besides_aHalted) i (length (world besides_aHalted).orders)
served_said agrees = (spoken_of besides_aHalted Agreement agrees).served root_runs root_sends_none root_awaits_none

pub order_said : OrdersCount
    → let next = second_accepted.0 in (column_at next.bank (root_of next)).number ≡ suc (length (world served_by_root).orders)
order_said counts = ((spoken_of served_by_root Ordered counts).gives 0 second_accepted.0 second_accepted.1).0

pub halted_said : HaltedRests → AtRest (world everyone_halted).state
halted_said halted = spoken_of everyone_halted (λ w. ((i : ℕ) → Running w.state i → ⊥) → AtRest w.state) halted nobody_left

pub never_said : Agrees → (number : ℕ) × Holds (world never_received) 1 number × HighestReceived (world never_received) number
never_said agrees = (spoken_of never_received Agreement agrees).at_rest (rests never_received refl) 1 (running never_received 1 (omega arith) refl)
