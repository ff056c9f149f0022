-- Document 02, Point 7: the theorems. Assumes nothing.
use Prim.Native.Nat.{ℕ, ◌<◌}
use native.Mathlib.Nat.{lt_of_lt_of_le}
use native.Mathlib.Omega.{arith}
use mathlib.Core.Path.{◌≡◌, refl, sym, ap, subst, ◌∙◌}
use mathlib.Core.Logic.{⊎_elim}
use mathlib.Core.Bool.{Bool, true, false, cond, true≢false}
use mathlib.Core.List.{List, [], ◌∷◌, map}
use lib.Dec.{eqb, ltb}
use lib.Pow.{pow_mono}
use borrow.Author.Tests.{eq-eqb, ne_eqb, eqb-true, eqb-false}
use Rattle.column.specs.laws.Cases.{truth, and_right}
use Rattle.column.specs.Sets.{has, single}
use Rattle.column.specs.laws.SetLaws.{has_single}
use Rattle.column.specs.laws.TreeLaws.{check_exact, tree_sixteen}
use Rattle.column.specs.Columns.{stopped}
use Rattle.column.specs.Returns.{struck}
use Rattle.column.specs.declared.state.Column.{Column}
use Rattle.bank.specs.Banks.{State, state, column_at, runs, bank_refusal}
use Rattle.bank.specs.Networks.{vanished}
use Rattle.bank.specs.Steps.{Result, accepted, halted}
use Rattle.bank.specs.Performs.{perform}
use Rattle.bank.specs.Rest.{Running, AtRest}
use Rattle.bank.specs.Returns.{back_refusal, returned}
use Rattle.bank.proofs.laws.ReturnLaws.{Returning, returning, place_mine, place_struck}
use Rattle.bank.proofs.laws.RestLaws.{rest_exact, broken_rests}
use Rattle.bank.specs.laws.strips.StripStates.{column_at_lem}
use Rattle.bank.specs.Strips.{among, Distinct}
use Rattle.bank.specs.declared.bank.Bank.{Bank}
use Rattle.bank.specs.declared.bank.Step.TheVariants.{Note, Halt, Back}
use Rattle.agreement.specs.History.{World, told, run}
use Rattle.agreement.specs.Dispatching.{all_accepted}
use Rattle.agreement.specs.Returning.{RestsAfterAny, StillRests, RestsAfter, noticed, Restored, Undone, Restores}
use Rattle.agreement.proofs.relation.Members.{absent}
use Rattle.agreement.proofs.invariant.Rest.{none_awaited}
use Rattle.agreement.proofs.relation.Conditions.{not_member, widths}
use Rattle.agreement.proofs.refinement.Quiet.{quiet_rest}
use Rattle.agreement.proofs.refinement.RefineCommon.{accepted_goes}
use Rattle.agreement.proofs.refinement.RefineOwn.{model_runs}
use Rattle.agreement.proofs.refinement.RefineBack.{rests_after}
use Rattle.agreement.proofs.refinement.RestQuiet.{rest_quiet}
use Rattle.agreement.proofs.refinement.Away.{stepped, halts_alone, Held, each_notes}
use Rattle.agreement.proofs.refinement.Reached.{Reached, after_every, reached_valid, reached_passes}

-- ---- what an accepted return leaves, and what it asked

module _ (s : State) (j : ℕ) where
  abbrev next : State
  next = state (returned s.bank j) s.heads s.doors

  came_back_lem : (s' : State) → perform s (Back j) ≡ accepted s' → Returning s j × (next ≡ s')
  unfolding perform
  came_back_lem s' e =
      let g = accepted_goes s s' (back_refusal s j) (accepted next) e in
      (returning s j g.0, let same : accepted next ≡ accepted s' = g.1 in cc)

-- ---- "The bank is at rest afterwards."

pub rests_after_any : RestsAfterAny
unfolding returned
rests_after_any s formed j s' e =
    let left = next s j in
    let known = (came_back_lem s j s' e).0 in
    subst AtRest (came_back_lem s j s' e).1 (⊎_elim
    (λ good. rest_quiet left [] known.at_rest.no_packet (eqb-true (bank_refusal left) 0 good) (rests_after s formed [] j known))
    (λ bad. (rest_exact left).0 (broken_rests left known.at_rest.no_packet (eqb-false (bank_refusal left) 0 bad)))
    (truth (eqb (bank_refusal left) 0)))

pub rests_after_back : RestsAfter
rests_after_back = after_every StillRests (λ w r j s e. rests_after_any w.state r.formed j s e)

-- ---- back, halt, notes

module _ (w : World) (r : Reached w) (j : ℕ) (s1 : State) (e1 : perform w.state (Back j) ≡ accepted s1) (noters : List ℕ)
    (running : (i : ℕ) → among noters i ≡ true → Running w.state i) where
  abbrev b : Bank
  b = w.state.bank

  known : Returning w.state j
  known = (came_back_lem w.state j s1 e1).0

  abbrev back_there : State
  back_there = next w.state j

  comes : perform w.state (Back j) ≡ accepted back_there
  comes = e1 ∙ sym (ap accepted (came_back_lem w.state j s1 e1).1)

  abbrev w1 : World
  w1 = told w (Back j) (accepted back_there)

  r1 : Reached w1
  r1 = stepped w (Back j) back_there r comes

  place : j < 16
  place = omega (arith, known.below, tree_sixteen b.tree r.tree)

  apart_from : (i : ℕ) → Running w.state i → i ≡ j → ⊥
  apart_from i h e = true≢false (sym h.1 ∙ ap (λ (k : ℕ). runs b k) e ∙ known.halted)

  abbrev s2 : State
  s2 = halted back_there (has (single j))

  goes_away : perform back_there (Halt (single j)) ≡ accepted s2
  unfolding told returned
  goes_away = halts_alone back_there (reached_passes w1 r1) j known.below
      (ap (λ (c : Column). c.running) (place_mine b j (omega (arith, r.formed.places, place))))

  abbrev w2 : World
  w2 = told w1 (Halt (single j)) (accepted s2)

  r2 : Reached w2
  unfolding told
  r2 = stepped w1 (Halt (single j)) s2 r1 goes_away

  -- who ran before has j struck out, and all else as it was
  ran_before : (i : ℕ) → Running w.state i → column_at s2.bank i ≡ struck (column_at b i) j
  ran_before i h =
      column_at_lem back_there (has (single j)) i
      ∙ ap (λ (x : Bool). cond x (stopped (column_at back_there.bank i)) (column_at back_there.bank i)) (has_single j i ∙ ne_eqb i j (apart_from i h))
      ∙ place_struck b j i (apart_from i h) h.0

  gone : runs s2.bank j ≡ false
  gone =
      ap (λ (c : Column). c.running) (column_at_lem back_there (has (single j)) j
      ∙ ap (λ (x : Bool). cond x (stopped (column_at back_there.bank j)) (column_at back_there.bank j)) (has_single j j ∙ eq-eqb j j refl))

  still_below : (i : ℕ) → i < b.tree.columns → i < s2.bank.tree.columns
  unfolding halted vanished returned
  still_below i h = h

  -- at rest everybody has noted who is halted, and nobody awaits anybody
  held_before : (i : ℕ) → Running w.state i → Held 16 j (column_at b) i
  held_before i h =
      let t = b.tree in
      let tree = (check_exact t).0 r.tree in
      let st = reached_valid w r in
      let rest = quiet_rest w.state w.orders (reached_passes w r) known.at_rest in
      let there = model_runs w.state st i h.0 w.orders h.1 in
      record {
        fits_in = lt_of_lt_of_le (widths t i (column_at b i) (st.columns i h.0)).noted (pow_mono (tree_sixteen t r.tree));
        noted_it = ⊎_elim (λ e. e)
            (λ e. absurd (rest.no_note i j there known.below (λ q. true≢false (sym (and_right (ltb j t.columns) _ q) ∙ known.halted))
            (λ z. apart_from i h (sym z)) (not_member e)))
            (truth (has (column_at b i).noted j));
        unawaited = absent (column_at b i).awaited j (none_awaited t tree r.invariant rest i there j);
      }

  restored : Distinct noters → Restored w j noters
  unfolding all_accepted run told
  restored distinct =
      let z = each_notes 16 j place (column_at b) noters distinct (λ i m. held_before i (running i m)) w2 (record {
        reached = r2;
        below = still_below j known.below;
        away = gone;
        running = λ i m. let h = running i m in (still_below i h.0, ap (λ (c : Column). c.running) (ran_before i h) ∙ h.1);
        struck_out = λ i m. ran_before i (running i m);
      }) in
      record {
        none_refused = rw (comes, goes_away) z.0;
        as_before = λ i m.
            ap (λ (o : Result State). column_at (run (told w (Back j) o) (Halt (single j) ∷ map (λ (q : ℕ). Note q j) noters)).state.bank i) comes
            ∙ ap (λ (o : Result State). column_at (run (told w1 (Halt (single j)) o) (map (λ (q : ℕ). Note q j) noters)).state.bank i) goes_away
            ∙ z.1 i ∙ ap (λ (x : Bool). cond x (noticed (column_at b i)) (column_at s2.bank i)) m;
      }

pub restores : Restores
restores = after_every Undone (λ w r j s e noters distinct running. restored w r j s e noters running distinct)
