-- Demand 3: the theorem. Assumes nothing.
use Prim.Native.Nat.{ℕ}
use native.Mathlib.Omega.{arith}
use mathlib.Core.Path.{◌≡◌, refl, sym, ap, ap₂, ◌∙◌}
use mathlib.Core.Bool.{Bool, true, false, ◌&&◌, cond}
use lib.Dec.{eqb, ltb}
use borrow.Author.Tests.{lt-ltb}
use Rattle.column.specs.Sets.{has}
use Rattle.column.specs.Trees.{choose}
use Rattle.column.specs.laws.TreeLaws.{check_exact}
use Rattle.column.specs.Columns.{validity_refusal}
use Rattle.column.specs.Steps as core
use Rattle.column.specs.declared.tree.Tree.{Tree}
use Rattle.column.specs.declared.state.Column.{Column}
use Rattle.bank.specs.Banks.{State, column_at, capacity}
use Rattle.bank.specs.Rest.{Running}
use Rattle.bank.specs.laws.ValidityLaws.{acting_passes}
use Rattle.bank.specs.Steps.{accepted, refused, unless, fitting, settled, acted}
use Rattle.agreement.specs.History.{World, root_of}
use Rattle.agreement.specs.Agreement.{NeitherSends, Agreement, Agrees}
use Rattle.agreement.proofs.relation.Model.{Empty, Runs}
use Rattle.agreement.proofs.relation.Move.{Idle}
use Rattle.agreement.proofs.invariant.Rest.{rest_agrees, served}
use Rattle.agreement.proofs.relation.Conditions.{empty, not_member}
use Rattle.agreement.proofs.relation.View.{model_of}
use Rattle.agreement.proofs.refinement.Quiet.{quiet_rest, send_passes}
use Rattle.agreement.proofs.refinement.Reached.{Reached, after_every, reached_valid, reached_passes}

-- ---- "A running root sends while send there isn't refused with 6"

-- an accepted step or a 9 is no 6
fitting_six : (s next : State) → fitting s next ≡ refused 6 s → ⊥
unfolding fitting
fitting_six s next = go (ltb capacity next.bank.count)
  where
    go : (b : Bool) → cond b (refused 9 s) (accepted next) ≡ refused 6 s → ⊥
    go true e = let z : ◌≡◌ {A = ℕ} 9 6 = cc in omega arith
    go false e = let z : ◌≡◌ {A = ℕ} 0 1 = cc in omega arith

module _ (s : State) (i : ℕ) where
  NotSix : core.Result → Type 0
  NotSix r = settled s s i r ≡ refused 6 s → ⊥

  either : (b : Bool) (x y : core.Result) → NotSix x → NotSix y → NotSix (cond b x y)
  either true x y f g = f
  either false x y f g = g

  send_not_six : (t : Tree) (c : Column) → NotSix (core.send_effect t i c)
  unfolding core.send_effect NotSix
  send_not_six t c =
      let x = choose t c.send in
      either (eqb x i) _ _ (fitting_six s _) (either (has c.noted x) _ _ (fitting_six s _) (fitting_six s _))

module _ (w : World) (r : Reached w) where
  abbrev s : State
  s = w.state

  abbrev t : Tree
  t = s.bank.tree

  column_runs : (i : ℕ) → Running s i → Runs (model_of s w.orders) i
  column_runs i h = ap₂ (λ (x y : Bool). x && y) (lt-ltb i t.columns h.0) h.1

  none_to_send : Running s (root_of s) → NeitherSends s → Empty (column_at s.bank (root_of s)).send
  unfolding acted NotSix
  none_to_send h six q m =
      let b = root_of s in
      let c = column_at s.bank b in
      let st = reached_valid w r in
      let column_valid : validity_refusal t b c ≡ 0 = rw st.tree (st.columns b h.0) in
      let goes = send_passes t b c column_valid h.1 (λ z. empty z q m) in
      send_not_six s b t c (sym (ap (λ (n : ℕ). settled s s b (core.unless n c (core.send_effect t b c))) goes)
      ∙ sym (ap (λ (n : ℕ). unless n s (settled s s b (core.send t b c))) (acting_passes s st b h.0)) ∙ six)

  pub agrees : Agreement w
  agrees = record {
    at_rest = λ rest i h.
        let issued = r.invariant.records i (column_runs i h) in
        let same : (j : ℕ) → Running s j → w.received j ≡ (column_at s.bank i).number =
        λ j k. sym (r.received_is j)
        ∙ rest_agrees t ((check_exact t).0 r.tree) r.invariant (quiet_rest s w.orders (reached_passes w r) rest) j i (column_runs j k) (column_runs i h) in (
          (column_at s.bank i).number,
          record { was_given = issued.at_most; number_is = refl; doors_are = issued.doors_given },
          record { bound = λ j k. omega (arith, same j k); attained = (i, h, same i h) },
        );
    served = λ root six none i h.
        let idle : Idle (column_at s.bank (root_of s)) = (none_to_send root six, λ q. not_member (r.awaits_is q ∙ none q)) in
        let z = served t r.invariant (column_runs (root_of s) root) idle i (column_runs i h) in
        record { was_given = omega arith; number_is = z.0; doors_are = z.1 };
  }

pub agreement : Agrees
agreement = after_every Agreement agrees
