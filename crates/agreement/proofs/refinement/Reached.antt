-- What holds after every list of steps from a fresh bank. Assumes nothing.
use Prim.Native.Nat.{ℕ, ◌≤◌, ◌<◌}
use native.Mathlib.Omega.{arith}
use mathlib.Core.Path.{◌≡◌, refl, sym, ap, subst, ◌∙◌}
use mathlib.Core.Logic.{⊎_elim}
use mathlib.Core.Bool.{Bool, true, ◌&&◌}
use mathlib.Core.List.{List, [], ◌∷◌}
use lib.Dec.{eqb, ltb}
use lib.ListN.{length}
use borrow.Author.Tests.{ltb-true, lt-ltb}
use Rattle.column.specs.laws.Cases.{and_left, and_right}
use Rattle.column.specs.Sets.{has}
use Rattle.column.specs.laws.SetLaws.{has_none}
use Rattle.column.specs.Trees.{IsTree, tree_refusal}
use Rattle.column.specs.laws.TreeLaws.{check_exact}
use Rattle.column.specs.Columns as columns
use Rattle.column.specs.Packets.{receiver}
use Rattle.column.specs.laws.StateLaws.{acceptable_passes}
use Rattle.column.specs.declared.tree.Tree.{Tree}
use Rattle.column.specs.declared.state.Column.{Column}
use Rattle.bank.specs.Banks.{State, state, column_at, packet_at, fresh_bank, capacity, bank_refusal}
use Rattle.bank.specs.laws.ValidityLaws.{fresh_at, fresh_unused, fresh_length}
use Rattle.bank.specs.laws.NetworkLaws.{packets_meant, packets_of, packets_length, packet_at_lem}
use Rattle.bank.specs.laws.ValidityLaws as bank
use Rattle.bank.specs.Steps.{Result, accepted, refused, halt_refusal, halt}
use Rattle.bank.specs.Performs.{perform}
use Rattle.bank.specs.Strips.{halt_one, and_then, singles}
use Rattle.bank.specs.laws.strips.StripLaws.{singly, listed, distinct_listed, members_listed}
use Rattle.bank.proofs.laws.RestSteps.{unchanged}
use Rattle.bank.specs.declared.bank.Step.{Step}
use Rattle.bank.specs.declared.bank.Step.TheVariants.{Order, Send, Take, Ack, All, Note, Halt, Back, Write}
use Rattle.agreement.specs.History.{World, root_of, told, run, Command, steps_of, follow}
use Rattle.agreement.specs.Agreement.{begin, AfterEveryList}
use Rattle.agreement.specs.Returning.{Formed}
use Rattle.agreement.proofs.relation.Model as model
use Rattle.agreement.proofs.relation.Model.{Holds, taken_held}
use Rattle.agreement.proofs.invariant.Invariant.{Invariant, Fresh, fresh_invariant}
use Rattle.agreement.proofs.invariant.Still.{below_cases}
use Rattle.agreement.proofs.invariant.InvariantKept.{kept}
use Rattle.agreement.proofs.invariant.Validity.{Deliverable, Validity, fresh_validity, validity_kept, valid_passes}
use Rattle.agreement.proofs.relation.Move.{Event, halts}
use Rattle.agreement.proofs.refinement.ReceivedByMoves as moves
use Rattle.agreement.proofs.bounds.Bounded.{Bounded}
use Rattle.agreement.proofs.bounds.BoundedKept.{bounded_kept, fresh_bounded}
use Rattle.agreement.proofs.refinement.ReceivedByMoves.{received_after_lem, awaits_after_lem}
use Rattle.agreement.proofs.relation.View.{view, model_of, OneMove, event}
use Rattle.agreement.proofs.refinement.RefineCommon.{Refined, accepted_goes}
use Rattle.agreement.proofs.refinement.RefineTake.{taken_place, refines_halt}
use Rattle.agreement.proofs.refinement.RefineBack.{refines}
use Rattle.agreement.proofs.refinement.Told.{received_told, awaits_told, next_state, plain_at, same_model, written_is, written_formed}

pub record Reached (w : World) : Type 0 where
  pub tree : tree_refusal w.state.bank.tree ≡ 0
  pub formed : Formed w.state
  pub room : w.state.bank.count ≤ capacity
  pub invariant : Invariant w.state.bank.tree (model_of w.state w.orders)
  pub validity : Validity w.state.bank.tree (model_of w.state w.orders)
  pub bounded : Bounded w.state.bank.tree (model_of w.state w.orders)
  -- what a column holds is what it received last
  pub received_is : (i : ℕ) → (column_at w.state.bank i).number ≡ w.received i
  pub awaits_is : (q : ℕ) → has (column_at w.state.bank (root_of w.state)).awaited q ≡ w.awaits q

-- ---- the fresh bank

-- the model of a fresh bank is fresh
pub fresh_model : (t : Tree) → tree_refusal t ≡ 0 → (heads doors : List ℕ) → Fresh t (model_of (state (fresh_bank t) heads doors) [])
unfolding packets_meant
fresh_model t ok heads doors = record {
  columns_fresh = λ i l. ap (view t i) (fresh_at t ok i l) ∙ running i l;
  nobody_else = λ i l r. absurd (omega (arith, l, ltb-true i t.columns (and_left _ _ r)));
  no_packet = refl;
  no_order = refl;
}
  where
    running : (i : ℕ) → i < t.columns → view t i (columns.fresh t i) ≡ columns.fresh t i
    running i l = λ k. record {
      running = ap (λ (b : Bool). b && true) (lt-ltb i t.columns l) k;
      number = 0;
      doors = 0;
      send = 0;
      awaited = 0;
      owed = 0;
      noted = 0;
      whole = eqb i t.root;
      sender = t.root;
      mask = 0;
      pending = 0;
    }

pub start : (t : Tree) → tree_refusal t ≡ 0 → (heads doors : List ℕ) → length heads ≡ capacity → length doors ≡ capacity
    → Reached (begin t heads doors)
unfolding packets_meant
start t ok heads doors h d = record {
  tree = ok;
  formed = record {
    places = fresh_length t;
    whole = record { heads_length = h; doors_length = d };
    numbers_fit = λ i. omega (arith, zero_number i);
  };
  room = omega arith;
  invariant = fresh_invariant t (fresh_model t ok heads doors) below;
  validity = fresh_validity t below (fresh_model t ok heads doors);
  bounded = fresh_bounded t below (fresh_model t ok heads doors);
  received_is = zero_number;
  awaits_is = λ q. ap (λ (c : Column). has c.awaited q) (fresh_at t ok t.root below) ∙ has_none q;
}
  where
    s : State
    s = state (fresh_bank t) heads doors

    below : t.root < t.columns
    below = ((check_exact t).0 ok).root_below

    zero_number : (i : ℕ) → (column_at (fresh_bank t) i).number ≡ 0
    zero_number i =
        ⊎_elim (λ l. ap (λ (c : Column). c.number) (fresh_at t ok i l)) (λ l. ap (λ (c : Column). c.number) (fresh_unused t ok i l)) (below_cases i t.columns)

-- ---- a step

module _ (w w' : World) (e : Event) (r : Reached w) (f : Refined w.state w.orders w'.orders e w'.state)
    (received : (i : ℕ) → w'.received i ≡ moves.received_after w.state.bank.tree (model_of w.state w.orders) e w.received i)
    (awaits : (q : ℕ) → w'.awaits q ≡ moves.awaits_after w.state.bank.tree (model_of w.state w.orders) e w.awaits q) where
  abbrev before : Tree
  before = w.state.bank.tree

  abbrev m' : model.State
  m' = model_of w'.state w'.orders

  pub carried : Reached w'
  carried = record {
    tree = ap tree_refusal f.same_tree ∙ r.tree;
    formed = f.formed;
    room = f.room;
    invariant = subst (λ (u : Tree). Invariant u m') (sym f.same_tree) (kept ((check_exact before).0 r.tree) r.invariant f.move);
    validity = subst (λ (u : Tree). Validity u m') (sym f.same_tree) (validity_kept ((check_exact before).0 r.tree) r.invariant r.validity f.move);
    bounded = subst (λ (u : Tree). Bounded u m') (sym f.same_tree) (bounded_kept ((check_exact before).0 r.tree) r.invariant r.bounded f.move);
    received_is = λ i. received_after_lem r.invariant r.validity w.received r.received_is f.move i ∙ sym (received i);
    awaits_is = λ q. ap (λ (u : Tree). has (column_at w'.state.bank u.root).awaited q) f.same_tree
        ∙ awaits_after_lem r.invariant w.awaits r.awaits_is f.move q ∙ sym (awaits q);
  }

-- ---- a halt: one move for each member, by the theorem that the members halt singly

-- the world with another bank, and the same past
abbrev pub moved : World → State → World
moved w s = record { state = s; orders = w.orders; received = w.received; awaits = w.awaits }

halted_singly : (l : List ℕ) (w : World) (s' : State) → Reached w → singles w.state l ≡ accepted s' → Reached (moved w s')
unfolding singles
halted_singly [] w s' r e = let same : w.state ≡ s' = cc in subst (λ (s : State). Reached (moved w s)) same r
halted_singly (i ∷ l) w s' r e = go (λ v q h. halted_singly l v s' q h) (halt_one w.state i) refl e
  where
    go : ((v : World) → Reached v → singles v.state l ≡ accepted s' → Reached (moved v s'))
        → (o : Result State) → halt_one w.state i ≡ o → and_then o (λ (t : State). singles t l) ≡ accepted s' → Reached (moved w s')
    go rest (accepted s1) z h =
        rest (moved w s1) (carried w (moved w s1) (halts i) r (refines_halt w.state r.formed w.orders i s1 z) (λ j. refl) (λ q. refl)) h
    go rest (refused n s1) z h = let z : ◌≡◌ {A = ℕ} 0 1 = cc in absurd (omega arith)

halted_together : (w : World) (m : ℕ) (s' : State) → Reached w → halt w.state m ≡ accepted s' → Reached (moved w s')
halted_together w m s' r e =
    let s = w.state in
    let z = (accepted_goes s s' (halt_refusal s m) _ e).0 in
    let l = listed (has m) s.bank.tree.columns in
    halted_singly l w s' r (singly s r.formed.whole m z l (distinct_listed (has m) s.bank.tree.columns) (members_listed s m z) ∙ e)

-- ---- a write: no move, since the model leaves out what it alters

written_kept : (w : World) (i offset value : ℕ) → Reached w → Reached (moved w (next_state w.state i offset value))
written_kept w i offset value r =
    let t = w.state.bank.tree in
    let same = sym (same_model w.state i offset value w.orders) in
    let at = plain_at w.state i offset value in
    record {
      tree = r.tree;
      formed = written_formed w.state i offset value r.formed;
      room = r.room;
      invariant = subst (Invariant t) same r.invariant;
      validity = subst (Validity t) same r.validity;
      bounded = subst (Bounded t) same r.bounded;
      received_is = λ j. ap (λ (c : Column). c.number) (at j) ∙ r.received_is j;
      awaits_is = λ q. ap (λ (c : Column). has c.awaited q) (at t.root) ∙ r.awaits_is q;
    }

-- ---- any step

one_move : (w : World) (x : Step) (o : OneMove x) (s' : State) → Reached w → perform w.state x ≡ accepted s' → Reached (told w x (accepted s'))
unfolding told
one_move w x o s' r e =
    carried w (told w x (accepted s')) (event w.state x o) r (refines w.state r.formed w.orders x o s' e) (received_told w x o s' e) (awaits_told w x o)

step_kept : (w : World) (x : Step) (s' : State) → Reached w → perform w.state x ≡ accepted s' → Reached (told w x (accepted s'))
unfolding told perform
step_kept w (Order d) s' r e = one_move w (Order d) tt s' r e
step_kept w (Send i) s' r e = one_move w (Send i) tt s' r e
step_kept w (Take place) s' r e = one_move w (Take place) tt s' r e
step_kept w (Ack i) s' r e = one_move w (Ack i) tt s' r e
step_kept w (All i) s' r e = one_move w (All i) tt s' r e
step_kept w (Note i j) s' r e = one_move w (Note i j) tt s' r e
step_kept w (Halt m) s' r e = halted_together w m s' r e
step_kept w (Back j) s' r e = one_move w (Back j) tt s' r e
step_kept w (Write i offset value) s' r e =
    subst (λ (u : State). Reached (moved w u)) (written_is w.state i offset value s' e) (written_kept w i offset value r)

pub next : (w : World) (x : Step) → Reached w → Reached (told w x (perform w.state x))
unfolding told
next w x r = go (perform w.state x) refl
  where
    go : (o : Result State) → perform w.state x ≡ o → Reached (told w x o)
    go (accepted s') e = step_kept w x s' r e
    go (refused n s') e = subst (λ (s : State). Reached (told w x (refused n s))) (sym (unchanged w.state x n s' e)) r

pub reached : (w : World) (xs : List Step) → Reached w → Reached (run w xs)
unfolding run
reached w [] r = r
reached w (x ∷ xs) r = reached (told w x (perform w.state x)) xs (next w x r)

pub reached_commands : (w : World) (commands : List Command) → Reached w → Reached (follow w commands)
unfolding follow
reached_commands w [] r = r
reached_commands w (x ∷ commands) r = reached_commands (run w (steps_of w x)) commands (reached w (steps_of w x) r)

-- after every list of commands from a fresh bank
pub after_every : (P : World → Type 0) → ((w : World) → Reached w → P w) → AfterEveryList P
after_every P f t ok heads doors h d commands =
    let w = begin t heads doors in
    f (follow w commands) (reached_commands w commands (start t ok heads doors h d))

-- ---- it passes rows 2, 3 and 4

module _ (w : World) (r : Reached w) where
  abbrev s : State
  s = w.state

  abbrev t : Tree
  t = s.bank.tree

  is_tree : IsTree t
  is_tree = (check_exact t).0 r.tree

  -- the packet of a place is one of the network's
  delivered : (k : ℕ) → k < s.bank.count → Deliverable t (model_of s w.orders) (packet_at s k)
  delivered k h =
      let whole = r.formed.whole in
      let p = packet_at s k in
      r.validity.packets p (subst (Holds (packets_of s)) (packet_at_lem s whole k p h r.room)
      (taken_held (taken_place (packets_of s) k p (omega (arith, h, packets_length s whole r.room)))))

  pub reached_valid : bank.Valid s
  reached_valid = record {
    tree = r.tree;
    columns = λ i h. valid_passes t is_tree i (column_at s.bank i) h (let z = r.validity.each_valid i h in record {
      send = z.send;
      awaited = z.awaited;
      owed = z.owed;
      noted = z.noted;
      owes_others = z.owes_others;
      root_whole = z.root_whole;
      sender = z.sender;
    });
    room = r.room;
    packets = λ k h. acceptable_passes t (packet_at s k) (delivered k h).acceptable;
    receivers = λ k h. and_right (ltb (receiver (packet_at s k)) t.columns) _ (delivered k h).runs;
  }

  pub reached_passes : bank_refusal s ≡ 0
  reached_passes = bank.valid_passes s reached_valid
