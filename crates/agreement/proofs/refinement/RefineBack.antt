-- An accepted return of the bank is a move of the model, and the bank is at rest afterwards; so every accepted step but a halt is a move. Assumes nothing.
use Prim.Native.Nat.{ℕ, ◌^◌, ◌≤◌, ◌<◌}
use mathlib.Core.Path.{◌≡◌, refl, sym, ap, ap₂, subst, ◌∙◌}
use mathlib.Core.Logic.{⊎_elim}
use mathlib.Core.Bool.{Bool, true, false, not, ◌&&◌, true≢false}
use mathlib.Core.List.{List}
use native.Mathlib.Omega.{arith}
use lib.Dec.{eqb, ltb}
use borrow.Author.Tests.{ne_eqb, eqb-false, lt-ltb, ltb-true, not-true}
use Rattle.column.specs.laws.Cases.{truth, equal_cases, and_left, and_right}
use Rattle.column.specs.Sets.{has}
use Rattle.column.specs.laws.SetLaws.{has_without, without_lt, selected_lt, selected_has, member_lt}
use Rattle.column.specs.Columns.{plain, numbers}
use Rattle.column.specs.Returns.{rejoined}
use Rattle.column.specs.laws.TreeLaws.{tree_sixteen, check_exact}
use Rattle.column.specs.declared.tree.Tree.{Tree}
use Rattle.column.specs.declared.state.Column.{Column}
use Rattle.bank.specs.Banks.{State, state, column_at, runs, running_of, halted_of}
use Rattle.bank.specs.laws.ValidityLaws.{valid_passes}
use Rattle.bank.specs.Steps.{accepted}
use Rattle.bank.specs.Returns.{lowest_running, remaining, back_refusal, returned, back}
use Rattle.bank.proofs.laws.ReturnLaws.{Returning, returning, returned_length, place_mine, place_struck, place_unused}
use Rattle.bank.specs.Performs.{perform}
use Rattle.bank.specs.declared.bank.Bank.{Bank}
use Rattle.bank.specs.declared.bank.Step.{Step}
use Rattle.bank.specs.declared.bank.Step.TheVariants.{Order, Send, Take, Ack, All, Note, Halt, Back, Write}
use Rattle.agreement.specs.Returning.{Formed}
use Rattle.agreement.specs.History.{orders_after}
use Rattle.agreement.proofs.relation.Model.{In, Runs}
use Rattle.agreement.proofs.relation.Move as move
use Rattle.agreement.proofs.relation.Conditions.{member}
use Rattle.agreement.proofs.invariant.Still.{below_cases, back_rests}
use Rattle.agreement.proofs.relation.View.{view, model_of, OneMove, event}
use Rattle.agreement.proofs.refinement.Quiet.{quiet_rest}
use Rattle.agreement.proofs.refinement.RefineCommon.{Refined, Refines, refines_unless}
use Rattle.agreement.proofs.refinement.RefineOwn.{model_runs, lowest_in, refines_order, refines_send, refines_ack, refines_all, refines_note}
use Rattle.agreement.proofs.refinement.RefineTake.{refines_take}

module _ (s : State) (formed : Formed s) (orders : List ℕ) (j : ℕ) where
  abbrev b : Bank
  b = s.bank

  abbrev t : Tree
  t = b.tree

  abbrev l : ℕ
  l = lowest_running b

  abbrev next : State
  next = state (returned b j) s.heads s.doors

  module _ (known : Returning s j) where
    sixteen : t.columns ≤ 16
    sixteen = tree_sixteen t known.valid.tree

    -- ---- the column that is copied

    some_lt : running_of b < 2 ^ t.columns
    some_lt = selected_lt (runs b) t.columns t.columns (omega arith)

    l_in : In (running_of b) l
    l_in = lowest_in t known.valid.tree (running_of b) some_lt known.some_run

    l_below : l < t.columns
    l_below = member_lt t.columns (running_of b) l some_lt l_in.holds

    l_runs : Runs (model_of s orders) l
    l_runs = model_runs s known.valid l l_below orders (sym (selected_has (runs b) t.columns l l_below) ∙ l_in.holds)

    -- ---- who remains halted

    not_running : (q : ℕ) → runs b q ≡ false → ¬ Runs (model_of s orders) q
    not_running q h r = true≢false (sym (and_right (ltb q t.columns) _ r) ∙ h)

    halted : (q : ℕ) → q < t.columns → ¬ Runs (model_of s orders) q → runs b q ≡ false
    halted q h n = ⊎_elim (λ r. absurd (n (ap₂ (λ (x y : Bool). x && y) (lt-ltb q t.columns h) r))) (λ e. e) (truth (runs b q))

    remains_has : (q : ℕ) → q < t.columns → has (remaining b j) q ≡ (not (runs b q) && not (eqb q j))
    remains_has q h = has_without (halted_of b) j q ∙ ap (λ (x : Bool). x && not (eqb q j)) (selected_has (λ i. not (runs b i)) t.columns q h)

    remain : move.Remaining t (model_of s orders) j (remaining b j)
    remain = record {
      fits = fits;
      remains = λ q m.
          let h = member_lt t.columns (remaining b j) q fits m.holds in
          let e : (not (runs b q) && not (eqb q j)) ≡ true = sym (remains_has q h) ∙ m.holds in (
            h,
            not_running q (not-true (runs b q) (and_left (not (runs b q)) _ e)),
            eqb-false q j (not-true (eqb q j) (and_right (not (runs b q)) (not (eqb q j)) e)),
          );
      all_remaining = λ q h n ne. member (remains_has q h ∙ ap₂ (λ (x y : Bool). not x && not y) (halted q h n) (ne_eqb q j ne));
    }
      where
        fits : remaining b j < 2 ^ t.columns
        fits = without_lt t.columns (halted_of b) j (selected_lt (λ i. not (runs b i)) t.columns t.columns (omega arith)) known.below

    -- ---- the columns after it, as the model sees them

    root_below : t.root < t.columns
    root_below = ((check_exact t).0 known.valid.tree).root_below

    there : column_at (returned b j) j ≡ rejoined (column_at b j) (column_at b l) (remaining b j) (not (runs b t.root)) l
    there = place_mine b j (omega (arith, formed.places, known.below, sixteen))

    returns : move.Returns t (model_of s orders) (model_of next orders) j (move.came_back t (model_of s orders) j l (remaining b j))
    unfolding returned
    returns = record {
      mine = ap (view t j) there
          ∙ ap₂ (λ (running whole : Bool). move.with_running running (plain (rejoined (column_at b j) (column_at b l) (remaining b j) whole l)))
          (ap (λ (x : Bool). x && true) (lt-ltb j t.columns known.below))
          (sym (ap (λ (x : Bool). not (x && runs b t.root)) (lt-ltb t.root t.columns root_below)));
      strikes = λ i n h. ap (view t i) (place_struck b j i n h);
      unused = λ i n h. ap (view t i) (place_unused b j i n h);
      packets = refl;
      told = refl;
    }

    number_fits : (i : ℕ) → (column_at (returned b j) i).number < numbers
    number_fits i = ⊎_elim
        (λ e. subst (λ (x : ℕ). (column_at (returned b j) x).number < numbers) (sym e) (fits there (formed.numbers_fit l)))
        (λ n. ⊎_elim (λ h. fits (place_struck b j i n h) (formed.numbers_fit i)) (λ h. fits (place_unused b j i n h) (formed.numbers_fit i)) (below_cases i t.columns))
        (equal_cases i j)
      where
        fits : {c d : Column} → c ≡ d → d.number < numbers → c.number < numbers
        fits e h = subst (λ (x : Column). x.number < numbers) (sym e) h

    rests : move.Rest t (model_of s orders)
    rests = quiet_rest s orders (valid_passes s known.valid) known.at_rest

    -- "The bank is at rest afterwards."
    pub rests_after : move.Rest t (model_of next orders)
    rests_after = back_rests t j l (remaining b j) (λ i r. ltb-true i t.columns (and_left _ _ r)) rests l_runs remain returns

    refined : Refined s orders orders (move.backs j l) next
    unfolding returned
    refined = record {
      move = move.back j l (remaining b j) rests known.below (not_running j known.halted) known.not_root l_runs remain returns;
      formed = record {
        places = returned_length b j ∙ formed.places;
        whole = record { heads_length = formed.whole.heads_length; doors_length = formed.whole.doors_length };
        numbers_fit = number_fits;
      };
      same_tree = refl;
      room = known.valid.room;
    }

  pub refines_back : Refines s orders orders (move.backs j l) (back s j)
  refines_back = refines_unless s orders orders (move.backs j l) (back_refusal s j) (accepted next)
      (λ ok s' q. let same : next ≡ s' = cc in subst (Refined s orders orders (move.backs j l)) same (refined (returning s j ok)))

pub refines : (s : State) → Formed s → (orders : List ℕ) (x : Step) (o : OneMove x)
    → Refines s orders (orders_after orders x) (event s x o) (perform s x)
unfolding perform
refines s f orders (Order doors) o = refines_order s f orders doors
refines s f orders (Send i) o = refines_send s f orders i
refines s f orders (Take place) o = refines_take s f orders place
refines s f orders (Ack i) o = refines_ack s f orders i
refines s f orders (All i) o = refines_all s f orders i
refines s f orders (Note i j) o = refines_note s f orders i j
refines s f orders (Halt m) o = absurd o
refines s f orders (Back j) o = refines_back s f orders j
refines s f orders (Write i offset value) o = absurd o
