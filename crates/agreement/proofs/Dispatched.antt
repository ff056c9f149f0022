-- Document 02, Point 2: the theorem. Assumes nothing.
use Prim.Native.Nat.{ℕ, zero, suc, ◌-◌, ◌*◌, ◌≤◌, ◌<◌}
use native.Mathlib.Nat.{mul-le-mul, mul-sub}
use native.Mathlib.Omega.{arith}
use mathlib.Core.Path.{◌≡◌, refl, sym, ap, ap₂, subst, ◌∙◌}
use mathlib.Core.Logic.{⊎_elim}
use mathlib.Core.Bool.{Bool, true, false, not, ◌&&◌, cond, true≢false}
use mathlib.Core.List.{List, [], ◌∷◌, ◌++◌}
use lib.ListN.{length}
use Rattle.column.specs.laws.Cases.{equal_cases, and_left, and_right}
use Rattle.column.specs.Trees.{IsTree}
use Rattle.column.specs.laws.TreeLaws.{check_exact, tree_sixteen}
use Rattle.column.specs.declared.tree.Tree.{Tree}
use Rattle.bank.specs.Banks.{State, runs, places}
use Rattle.bank.specs.Steps.{Result, accepted, refused}
use Rattle.bank.specs.Performs.{perform}
use Rattle.bank.specs.Rest.{is_refused, AtRest}
use Rattle.bank.proofs.laws.RestLaws.{rest_exact}
use Rattle.bank.specs.Dispatch.{offers, offered, first_accepted, turn, onward, dispatched, dispatch}
use Rattle.bank.proofs.laws.DispatchLaws.{stops_rest, stops_taken, take_accepted}
use Rattle.bank.specs.declared.bank.Step.{Step}
use Rattle.bank.specs.declared.bank.Step.TheVariants.{Order, Send, Take, Ack, All, Note, Halt, Back, Write}
use Rattle.agreement.specs.History.{World, columns_of, orders_after, told, run, follow}
use Rattle.agreement.specs.Dispatching.{steps_within, step_bound, is_settling, all_settling, all_accepted, RestsWithin, Settles, Rests, Within2224, Within2160}
use Rattle.agreement.proofs.bounds.Potential.{potential}
use Rattle.agreement.proofs.bounds.Ceiling.{ceiling}
use Rattle.agreement.proofs.bounds.Settling.{settling, fall}
use Rattle.agreement.proofs.relation.View.{model_of, OneMove, event}
use Rattle.agreement.proofs.refinement.RefineBack.{refines}
use Rattle.agreement.proofs.refinement.Reached.{Reached, after_every, next, reached, reached_valid}
use Rattle.agreement.proofs.Limits.{reached_room}
use Rattle.agreement.proofs.refinement.RestQuiet.{rest_refuses}

-- ---- the potential of a bank with its past

abbrev left : World → ℕ
left w = potential w.state.bank.tree (model_of w.state w.orders)

one_move : (x : Step) → is_settling x ≡ true → OneMove x
one_move (Order doors) e = tt
one_move (Send i) e = tt
one_move (Take place) e = tt
one_move (Ack i) e = tt
one_move (All i) e = tt
one_move (Note i j) e = tt
one_move (Halt m) e = absurd (true≢false (sym e))
one_move (Back j) e = absurd (true≢false (sym e))
one_move (Write i offset value) e = absurd (true≢false (sym e))

event_settling : (s : State) (x : Step) (o : OneMove x) → settling (event s x o) ≡ is_settling x
event_settling s (Order doors) o = refl
event_settling s (Send i) o = refl
event_settling s (Take place) o = refl
event_settling s (Ack i) o = refl
event_settling s (All i) o = refl
event_settling s (Note i j) o = refl
event_settling s (Halt m) o = absurd o
event_settling s (Back j) o = refl
event_settling s (Write i offset value) o = absurd o

is_tree : (w : World) → Reached w → IsTree w.state.bank.tree
is_tree w r = (check_exact w.state.bank.tree).0 r.tree

left_most : (w : World) → Reached w → left w ≤ step_bound (columns_of w)
left_most w r = ceiling w.state.bank.tree (is_tree w r) r.invariant r.validity r.bounded

left_within : (w : World) → Reached w → left w ≤ steps_within (columns_of w)
left_within w r = omega (arith, left_most w r, (is_tree w r).some, mul-sub (columns_of w) (columns_of w) 1)

left_falls : (w : World) → Reached w → (x : Step) → is_settling x ≡ true → (s : State) → perform w.state x ≡ accepted s → left (told w x (accepted s)) < left w
unfolding told
left_falls w r x h s e =
    let one = one_move x h in
    let f = refines w.state r.formed w.orders x one s e in
    subst (λ (t : Tree). potential t (model_of s (orders_after w.orders x)) < left w) (sym f.same_tree)
    (fall w.state.bank.tree (is_tree w r) r.invariant r.validity r.bounded.spreads f.move
    (event_settling w.state x one ∙ h))

-- ---- lists of accepted steps

few_left : (w : World) (xs : List Step) → Reached w → all_settling xs ≡ true → all_accepted w xs ≡ true → length xs ≤ left w
unfolding all_settling all_accepted
few_left w [] r a e = omega arith
few_left w (x ∷ xs) r a e = go (perform w.state x) refl e (λ z. few_left (told w x (perform w.state x)) xs (next w x r) (and_right (is_settling x) _ a) z)
  where
    go : (o : Result State) → perform w.state x ≡ o → (not (is_refused o) && all_accepted (told w x o) xs) ≡ true
        → (all_accepted (told w x (perform w.state x)) xs ≡ true → length xs ≤ left (told w x (perform w.state x))) → suc (length xs) ≤ left w
    go (accepted s) p q ih = omega (
      arith,
      left_falls w r x (and_left (is_settling x) _ a) s p,
      subst (λ (o : Result State). length xs ≤ left (told w x o)) p (ih (ap (λ (o : Result State). all_accepted (told w x o) xs) p ∙ q)),
    )
    go (refused n s) p q ih = absurd (true≢false (sym q))

-- ---- the dispatcher's steps

settling_append : (xs ys : List Step) → all_settling xs ≡ true → all_settling ys ≡ true → all_settling (xs ++ ys) ≡ true
unfolding all_settling
settling_append [] ys a b = b
settling_append (x ∷ xs) ys a b =
    ap₂ ◌&&◌ (and_left (is_settling x) _ a) (settling_append xs ys (and_right (is_settling x) _ a) b)

settling_notes : (i n : ℕ) → all_settling (places (λ j. Note i j) n) ≡ true
unfolding places all_settling
settling_notes i zero = refl
settling_notes i (suc n) = settling_append (places (λ j. Note i j) n) (Note i n ∷ []) (settling_notes i n) refl

settling_offers : (n i : ℕ) → all_settling (offers n i) ≡ true
unfolding all_settling
settling_offers n i = settling_append (places (λ j. Note i j) n) (Send i ∷ Ack i ∷ All i ∷ []) (settling_notes i n) refl

settling_offered : (s : State) (k : ℕ) → all_settling (offered s k) ≡ true
unfolding offered all_settling
settling_offered s zero = refl
settling_offered s (suc k) = settling_append (offered s k) _ (settling_offered s k) (go (runs s.bank k))
  where
    go : (b : Bool) → all_settling (cond b (offers s.bank.tree.columns k) []) ≡ true
    go true = settling_offers s.bank.tree.columns k
    go false = refl

settling_first : (s : State) (xs : List Step) (other : Step) → all_settling xs ≡ true → is_settling other ≡ true → is_settling (first_accepted s xs other) ≡ true
unfolding first_accepted all_settling
settling_first s [] other a b = b
settling_first s (x ∷ xs) other a b = go (is_refused (perform s x)) (settling_first s xs other (and_right (is_settling x) _ a) b)
  where
    go : (c : Bool) → is_settling (first_accepted s xs other) ≡ true → is_settling (cond c (first_accepted s xs other) x) ≡ true
    go true h = h
    go false h = and_left (is_settling x) _ a

settling_turn : (s : State) → is_settling (turn s) ≡ true
unfolding turn
settling_turn s = settling_first s (offered s s.bank.tree.columns) (Take 0) (settling_offered s s.bank.tree.columns) refl

pub settling_dispatched : (k : ℕ) (s : State) → all_settling (dispatched k s) ≡ true
unfolding dispatched all_settling
settling_dispatched zero s = refl
settling_dispatched (suc k) s = go (perform s (turn s)) (λ x. settling_dispatched k x)
  where
    go : (o : Result State) → ((x : State) → all_settling (dispatched k x) ≡ true) → all_settling (onward o [] (λ next. turn s ∷ dispatched k next)) ≡ true
    go (accepted x) ih = ap₂ ◌&&◌ (settling_turn s) (ih x)
    go (refused n x) ih = refl

accepted_dispatched : (k : ℕ) (w : World) → all_accepted w (dispatched k w.state) ≡ true
unfolding dispatched all_accepted told
accepted_dispatched zero w = refl
accepted_dispatched (suc k) w = go (perform w.state (turn w.state)) refl (λ v. accepted_dispatched k v)
  where
    x : Step
    x = turn w.state

    go : (o : Result State) → perform w.state x ≡ o → ((v : World) → all_accepted v (dispatched k v.state) ≡ true)
        → all_accepted w (onward o [] (λ next. x ∷ dispatched k next)) ≡ true
    go (accepted s) p ih = subst (λ (o : Result State). (not (is_refused o) && all_accepted (told w x o) (dispatched k s)) ≡ true) (sym p) (ih (told w x (accepted s)))
    go (refused n s) p ih = refl

lead : (k : ℕ) (w : World) → (run w (dispatched k w.state)).state ≡ dispatch k w.state
unfolding dispatched dispatch run told
lead zero w = refl
lead (suc k) w = go (perform w.state (turn w.state)) refl (λ v. lead k v)
  where
    x : Step
    x = turn w.state

    go : (o : Result State) → perform w.state x ≡ o → ((v : World) → (run v (dispatched k v.state)).state ≡ dispatch k v.state)
        → (run w (onward o [] (λ next. x ∷ dispatched k next))).state ≡ onward o w.state (λ next. dispatch k next)
    go (accepted s) p ih = subst (λ (o : Result State). (run (told w x o) (dispatched k s)).state ≡ dispatch k s) (sym p) (ih (told w x (accepted s)))
    go (refused n s) p ih = refl

-- ---- a dispatcher that stops before its limit

abbrev Stopped : State → Type 0
Stopped s = is_refused (perform s (turn s)) ≡ true

stopped : (k : ℕ) (s : State) → length (dispatched k s) < k → Stopped (dispatch k s)
unfolding dispatched dispatch
stopped zero s h = absurd (omega arith)
stopped (suc k) s h = go (perform s (turn s)) refl h (λ x. stopped k x)
  where
    go : (o : Result State) → perform s (turn s) ≡ o → length (onward o [] (λ next. turn s ∷ dispatched k next)) < suc k
        → ((x : State) → length (dispatched k x) < k → Stopped (dispatch k x)) → Stopped (onward o s (λ next. dispatch k next))
    go (accepted x) p l ih = ih x (omega (arith, l))
    go (refused n x) p l ih = ap is_refused p

-- with one step more it stops there too
one_more : (k : ℕ) (s : State) → length (dispatched (suc k) s) < suc k → dispatch (suc k) s ≡ dispatch k s
unfolding dispatched dispatch
one_more zero s h = go (perform s (turn s)) h
  where
    go : (o : Result State) → length (onward o [] (λ next. turn s ∷ [])) < 1 → onward o s (λ next. next) ≡ s
    go (accepted x) l = absurd (omega (arith, l))
    go (refused n x) l = refl
one_more (suc k) s h = go (perform s (turn s)) h (λ x. one_more k x)
  where
    go : (o : Result State) → length (onward o [] (λ next. turn s ∷ dispatched (suc k) next)) < suc (suc k)
        → ((x : State) → length (dispatched (suc k) x) < suc k → dispatch (suc k) x ≡ dispatch k x)
        → onward o s (λ next. dispatch (suc k) next) ≡ onward o s (λ next. dispatch k next)
    go (accepted x) l ih = ih x (omega (arith, l))
    go (refused n x) l ih = refl

-- a reached bank whose turn is refused is at rest: it takes its packets, since its network is never full
stopped_rests : (w : World) → Reached w → Stopped w.state → AtRest w.state
stopped_rests w r e = ⊎_elim
    (λ z. (rest_exact w.state).0 (stops_rest w.state z e))
    (λ z. absurd (true≢false (sym (stops_taken w.state e)
    ∙ take_accepted w.state (reached_valid w r) 0 (omega (arith, z)) (reached_room w r))))
    (equal_cases w.state.bank.count 0)

-- ---- the theorem

module _ (w : World) (r : Reached w) where
  few_dispatched : (limit : ℕ) → length (dispatched limit w.state) ≤ left w
  few_dispatched limit = few_left w (dispatched limit w.state) r (settling_dispatched limit w.state) (accepted_dispatched limit w)

  until : (limit : ℕ) → length (dispatched limit w.state) < limit → AtRest (dispatch limit w.state)
  until limit h = subst AtRest (lead limit w) (stopped_rests (run w (dispatched limit w.state)) (reached w (dispatched limit w.state) r)
      (subst Stopped (sym (lead limit w)) (stopped limit w.state h)))

  -- a limit that is never passed
  enough : (limit : ℕ) → left w ≤ limit → AtRest (dispatch limit w.state)
  enough limit h =
      let l : length (dispatched (suc limit) w.state) < suc limit = omega (arith, few_dispatched (suc limit), h) in
      subst AtRest (one_more limit w.state l) (until (suc limit) l)

  within : (most : ℕ) → left w ≤ most → RestsWithin most w
  within most h = record {
    any_steps = λ xs a e. omega (arith, h, few_left w xs r a e);
    few = λ limit. omega (arith, h, few_dispatched limit);
    rests = λ limit l. enough limit (omega (arith, h, l));
  }

  pub settles : Settles w
  unfolding follow
  settles = record {
    within = within (steps_within (columns_of w)) (left_within w r);
    sooner = within (step_bound (columns_of w)) (left_most w r);
    none_left = (λ h. stopped_rests w r (h (turn w.state) (settling_turn w.state)), rest_refuses w.state);
    until = until;
    steps_accepted = λ limit. accepted_dispatched limit w;
    steps_lead = λ limit. lead limit w;
    command_leads = λ limit. lead limit w;
  }

pub rests : Rests
rests = after_every Settles settles

-- ---- sixteen columns

bound_2160 : (n : ℕ) → n ≤ 16 → step_bound n ≤ 2160
bound_2160 n h =
    let less : n - 1 ≤ 15 = omega arith in
    let z : n * (n - 1) ≤ 16 * 15 = mul-le-mul h less in
    omega (arith, z)

left_2160 : (w : World) → Reached w → left w ≤ 2160
left_2160 w r = omega (arith, left_most w r, bound_2160 (columns_of w) (tree_sixteen w.state.bank.tree r.tree))

pub within_2160 : Within2160
within_2160 = after_every (RestsWithin 2160) (λ w r. within w r 2160 (left_2160 w r))

pub within_2224 : Within2224
within_2224 = after_every (RestsWithin 2224) (λ w r. within w r 2224 (omega (arith, left_2160 w r)))
