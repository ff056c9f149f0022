-- The turns of the dispatcher in a valid bank, by the step that the sets give: one that is refused ends the dispatch; after one that
-- is accepted the bank is valid, or it is not and refuses every step. Assumes nothing.
use Rattle.std.specs.Prelude.{ℕ, zero, suc, ◌+◌, ◌-◌, ◌≤◌, ◌<◌, ◌≡◌, refl, Bool, true, false, not, ◌&&◌, ◌||◌, List, eqb, ltb, get_or, Ok, Err}
use Rattle.std.specs.Prelude as prelude
use Rattle.column.specs.Refusals.{refusal_number}
use Rattle.column.specs.declared.error.Refusal.{Refusal}
use Rattle.std.proofs.Common.{arith, subst, ◌∙◌, true≢false, eqb-true}
use Rattle.std.proofs.Math.Path.{sym, ap}
use Rattle.std.proofs.Math.ListN.{length}
use Rattle.column.specs.laws.Cases.{and_left, and_right}
use Rattle.column.specs.laws.TreeLaws.{tree_sixteen}
use Rattle.column.specs.declared.tree.Tree.{Tree}
use Rattle.bank.specs.Banks.{State, state, column_at, runs, running_of, halted_of, bank_refusal}
use Rattle.bank.specs.inner.Surveys.{newest_valid}
use Rattle.bank.specs.laws.ValidityLaws.{valid}
use Rattle.bank.proofs.laws.ValidityOn.{room_on, tree_on, runs_on, actor_on, valid_on}
use Rattle.bank.specs.Steps.{Result, accepted, refused}
use Rattle.bank.specs.Performs.{perform}
use Rattle.bank.proofs.laws.RestSteps.{unchanged, broken_refused}
use Rattle.bank.specs.Rest.{is_refused}
use Rattle.bank.specs.inner.Changes.{Handed, RunningIs, TellsNewest, changed}
use Rattle.bank.proofs.laws.ChangeLaws.{running_is_of, running_is_on, halted_on}
use Rattle.bank.specs.inner.Moves.{acts}
use Rattle.bank.specs.Dispatch.{turn, dispatched, dispatch}
use Rattle.bank.specs.inner.Turning.{ready_of, quick_turn, acting_in}
use Rattle.bank.proofs.laws.turns.FirstAccepted.{quick_turn_lem}
use Rattle.bank.specs.laws.turns.LowestReady.{ready_none}
use Rattle.bank.proofs.laws.turns.TurnLaws.{Turning, turning, turn_none}
use Rattle.bank.specs.declared.bank.Bank.{Bank}
use Rattle.bank.specs.declared.bank.Step.{Step}
use Rattle.bank.specs.declared.settling.Change.{Change}

-- ---- a turn

refused_with : (o : Result State) → is_refused o ≡ true → (n : ℕ) × (m : State) × (o ≡ refused n m)
refused_with (accepted s) e = absurd (true≢false (sym e))
refused_with (refused n s) e = (n, s, refl)

module _ (s : State) (ok : bank_refusal s ≡ 0) (x : Step) (quick : x ≡ quick_turn s.bank) where
  own : perform s x ≡ perform s (turn s)
  own = ap (perform s) (quick ∙ sym (quick_turn_lem s (valid s ok)))

  module _ (k : ℕ) where
    stops : (n : ℕ) (s' : State) → refused n s' ≡ perform s x → (length (dispatched (suc k) s) ≡ 0) × (dispatch (suc k) s ≡ s')
    unfolding dispatched dispatch
    stops n s' e = rw (sym (e ∙ own)) (refl, sym (unchanged s x n s' (sym e)))

    goes : (s' : State) → accepted s' ≡ perform s x → (length (dispatched (suc k) s) ≡ suc (length (dispatched k s'))) × (dispatch (suc k) s ≡ dispatch k s')
    unfolding dispatched dispatch
    goes s' e = rw (sym (e ∙ own)) (refl, refl)

-- a bank that is not valid takes no step
pub broken : (limit : ℕ) (s : State) → (bank_refusal s ≡ 0 → ⊥) → (0 ≡ length (dispatched limit s)) × (s ≡ dispatch limit s)
unfolding dispatched dispatch
broken zero s ne = (refl, refl)
broken (suc k) s ne = rw (refused_with (perform s (turn s)) (broken_refused s (turn s) ne)).2 (refl, refl)

-- ---- the dispatch from s on its way: `steps` were taken, and now it is at m

pub record Going (limit steps : ℕ) (s m : State) : Type 0 where
  pub within : steps ≤ limit
  pub counted : length (dispatched limit s) ≡ steps + length (dispatched (limit - steps) m)
  pub leads : dispatch limit s ≡ dispatch (limit - steps) m

-- the dispatch from s ended so
abbrev pub Over : ℕ → ℕ → State → State → Type 0
Over limit steps s m = (steps ≡ length (dispatched limit s)) × (m ≡ dispatch limit s)

-- a turn from m to m', in which column i acted
pub record Turned (limit steps : ℕ) (s m m' : State) (i : ℕ) : Type 0 where
  pub on : Going limit (steps + 1) s m'
  -- what the test of the next turn asks
  pub within : (m'.bank.tree.columns ≤ 16) × (m'.bank.count ≤ 512)
  pub same : (j : ℕ) → runs m'.bank j ≡ runs m.bank j
  pub actor : (i < m.bank.tree.columns) × (runs m.bank i ≡ true)
  pub test : newest_valid m' ≡ eqb (bank_refusal m') 0

-- the dispatch stands at m, a valid bank of that tree, of whose columns the sets say who runs, who does not and who can do anything
pub record Standing (limit steps : ℕ) (s m : State) (t : Tree) (running halted ready : ℕ) : Type 0 where
  pub going : Going limit steps s m
  pub ok : bank_refusal m ≡ 0
  pub tree_is : m.bank.tree ≡ t
  pub running_is : RunningIs running m.bank
  pub halted_is : halted ≡ halted_of m.bank
  pub ready_is : ready ≡ ready_of m.bank

-- what a turn to the bank b leaves of that
module _ {limit steps : ℕ} {s m : State} {b : Bank} {heads doors : List ℕ} {i : ℕ} {t : Tree} {running halted ready : ℕ}
    (stands : Standing limit steps s m t running halted ready) (w : Turned limit steps s m (state b heads doors) i) (same_tree : b.tree ≡ m.bank.tree) where
  pub halted_still : halted ≡ halted_of b
  halted_still = stands.halted_is ∙ sym (halted_on m.bank b same_tree w.same)

  running_still : RunningIs running b
  running_still = running_is_on m.bank b same_tree w.same running stands.running_is

  pub valid_if : {n : Bool} → TellsNewest n t.columns t.root t.watch running b.count heads → n ≡ eqb (bank_refusal (state b heads doors)) 0
  valid_if tells =
      let e : b.tree ≡ t = same_tree ∙ stands.tree_is in
      tells b doors (ap (λ (t : Tree). t.columns) e) (ap (λ (t : Tree). t.root) e) (ap (λ (t : Tree). t.watch) e) running_still refl ∙ w.test

  pub stands_on : {n : Bool} → TellsNewest n t.columns t.root t.watch running b.count heads → n ≡ true → {r : ℕ} → r ≡ ready_of b
      → Standing limit (steps + 1) s (state b heads doors) t running halted r
  stands_on tells good is =
      record {
        going = w.on;
        ok = eqb-true _ 0 (sym (valid_if tells) ∙ good);
        tree_is = same_tree ∙ stands.tree_is;
        running_is = running_still;
        halted_is = halted_still;
        ready_is = is;
      }

pub going_start : (limit : ℕ) (s : State) → Going limit 0 s s
going_start limit s =
    let e : limit - 0 ≡ limit = omega arith in
    record {
      within = omega arith;
      counted = omega (arith, ap (λ (k : ℕ). length (dispatched k s)) e);
      leads = sym (ap (λ (k : ℕ). dispatch k s) e);
    }

module _ {limit steps : ℕ} {s m : State} (g : Going limit steps s m) where
  pub going_ends : limit ≤ steps → Over limit steps s m
  unfolding dispatched dispatch
  going_ends h =
      let e : limit - steps ≡ 0 = omega (arith, h) in
      (omega (arith, g.counted, ap (λ (k : ℕ). length (dispatched k m)) e), sym (g.leads ∙ ap (λ (k : ℕ). dispatch k m) e))

  pub going_broken : (bank_refusal m ≡ 0 → ⊥) → Over limit steps s m
  going_broken ne =
      let z = broken (limit - steps) m ne in
      (omega (arith, g.counted, z.0), z.1 ∙ sym g.leads)

  module _ (ok : bank_refusal m ≡ 0) (l : steps < limit) (x : Step) (quick : x ≡ quick_turn m.bank) (m' : State) where
    abbrev k : ℕ
    k = limit - (steps + 1)

    more : limit - steps ≡ suc k
    more = omega arith

    pub going_stops : {n : ℕ} → refused n m' ≡ perform m x → Over limit steps s m'
    going_stops {n} e =
        let z = stops m ok x quick k n m' e in
        (omega (arith, g.counted, ap (λ (j : ℕ). length (dispatched j m)) more, z.0), sym (g.leads ∙ ap (λ (j : ℕ). dispatch j m) more ∙ z.1))

    -- a change that is no accepted one
    pub going_unchanged : (r : prelude.Result Change Refusal) (i : ℕ) (h d : List ℕ) → ((v : Change) → r ≡ Ok v → ⊥) → changed m.bank i r h d ≡ perform m x
        → m' ≡ state m.bank h d → Over limit steps s m'
    going_unchanged (Ok v) i h d none e is = absurd (none v refl)
    going_unchanged (Err n) i h d none e is = going_stops (ap (refused (refusal_number n)) is ∙ e)

    module _ (e : accepted m' ≡ perform m x) where
      going_on : Going limit (steps + 1) s m'
      going_on =
          let z = goes m ok x quick k m' e in
          record {
            within = omega (arith, l);
            counted = omega (arith, g.counted, ap (λ (j : ℕ). length (dispatched j m)) more, z.0);
            leads = g.leads ∙ ap (λ (j : ℕ). dispatch j m) more ∙ z.1;
          }

      acting_turn : Turning m x
      acting_turn = turning m x quick

      within : (m'.bank.tree.columns ≤ 16) × (m'.bank.count ≤ 512)
      within =
          let z = acting_turn in
          let tree = tree_on m x m' _ z.moves ok (sym e) z.actor in
          let room = room_on m x m' _ z.moves ok (sym e) z.actor in
          (subst (λ (t : Tree). t.columns ≤ 16) (sym tree) (tree_sixteen m.bank.tree (valid m ok).tree), room)

      pub turned : (i : ℕ) → i ≡ acting_in x (get_or m.heads 0 0) → Turned limit steps s m m' i
      turned i is =
          let z = acting_turn in
          let acts-at = ap (acts m x) is ∙ z.actor in
          record {
            on = going_on;
            within = within;
            same = runs_on m x m' _ z.moves ok (sym e) z.actor;
            actor = actor_on m x m' i z.moves ok (sym e) acts-at;
            test = valid_on m x m' i z.moves ok (sym e) acts-at;
          }

  -- nobody can do anything, and no packet is there to take
  pub going_rests : bank_refusal m ≡ 0 → {r : ℕ} → r ≡ ready_of m.bank → steps < limit → (eqb r 0 && eqb m.bank.count 0) ≡ true → Over limit steps s m
  going_rests ok {r} is l e =
      let b = m.bank in
      let x = quick_turn b in
      let i = acting_in x (get_or m.heads 0 0) in
      let handed : Handed b b.tree (running_of b) i (column_at b i) b.count =
      record { tree_is = refl; running_is = running_is_of b refl; column_is = refl; count_is = refl } in
      let takes = sym (ready_none b (valid m ok).tree) ∙ ap (λ (n : ℕ). eqb n 0) (sym is) ∙ and_left (eqb r 0) (eqb b.count 0) e in
      going_stops ok l x refl m (turn_none m.heads m.doors handed ok x refl refl takes (eqb-true b.count 0 (and_right (eqb r 0) (eqb b.count 0) e)))
