-- A halted column comes back to a bank at rest: the invariant holds. Assumes nothing.
use Prim.Native.Nat.{ℕ, ◌<◌}
use native.Mathlib.Omega.{arith}
use mathlib.Core.Path.{◌≡◌, refl, sym, ap, subst, ◌∙◌}
use mathlib.Core.Logic.{◌≢◌, ⊎_elim}
use mathlib.Core.List.{List}
use lib.ListN.{length}
use Rattle.column.specs.Sets.{without}
use Rattle.column.specs.Trees.{IsTree}
use Rattle.column.specs.Returns.{struck}
use Rattle.column.specs.declared.tree.Tree.{Tree}
use Rattle.column.specs.declared.state.Column.{Column}
use Rattle.column.specs.declared.packet.Packet.{Packet}
use Rattle.agreement.specs.History.{given}
use Rattle.agreement.proofs.relation.Model.{In, State, Runs, count, Holds, holds_none}
use Rattle.agreement.proofs.relation.Members.{in_none, without_in, without_other, without_cases}
use Rattle.agreement.proofs.relation.Move.{Rest, Remaining, came_back, Returns}
use Rattle.agreement.proofs.invariant.Invariant.{number, Issued, reached, Local, Coverage, Invariant}
use Rattle.agreement.proofs.invariant.Still.{each_running}
use Rattle.agreement.proofs.invariant.Rest.{none_awaited, rest_agrees}
use Rattle.agreement.proofs.invariant.Back.{runs_before, numbers_same, local_mine, back_linked}

module _ (t : Tree) (tree : IsTree t) {s s' : State} (j l noted : ℕ) (inv : Invariant t s) (rest : Rest t s)
    (hj : j < t.columns) (halted : ¬ Runs s j) (nj : j ≢ t.root) (rl : Runs s l) (k : Remaining t s j noted)
    (b : Returns t s s' j (came_back t s j l noted)) where
  ran : (i : ℕ) → i ≢ j → Runs s' i → Runs s i
  ran = runs_before t tree j l noted inv rest hj halted nj rl k b

  same : (i : ℕ) → Runs s' i → number s' i ≡ number s l
  same = numbers_same t tree j l noted inv rest hj halted nj rl k b

  same_count : count s' ≡ count s
  same_count = ap length b.told

  root_still : Runs s' t.root → Runs s t.root
  root_still = ran t.root (λ e. nj (sym e))

  issued_still : {n d : ℕ} → Issued s n d → Issued s' n d
  issued_still {n} g = record {
    at_most = omega (arith, g.at_most, same_count);
    doors_given = g.doors_given ∙ sym (ap (λ (orders : List ℕ). given orders n) b.told);
  }

  -- ---- one column

  local_other : (i : ℕ) → Runs s i → Local t i (struck (s.columns i) j)
  local_other i h = record {
    root_whole = (inv.locals i h).root_whole;
    members = (inv.locals i h).members;
    own = (inv.locals i h).own;
    self_awaited = (inv.locals i h).self_awaited;
    apart = λ q m n. (inv.locals i h).apart q m (without_in (s.columns i).noted j n);
    shuns = λ w. record {
      root_noted = λ o n. still (((inv.locals i h).shuns w).root_noted o n);
      root_sent = λ m. still (((inv.locals i h).shuns w).root_sent m);
      root_owes = ((inv.locals i h).shuns w).root_owes;
    };
  }
    where
      still : In (s.columns i).noted t.root → In (without (s.columns i).noted j) t.root
      still m = ⊎_elim (λ z. z) (λ e. absurd (nj (sym e))) (without_cases (s.columns i).noted j m)

  -- all numbers are the same
  coverage : (i : ℕ) (x : Column) → x.number ≡ number s l → ((q : ℕ) → In x.noted q → Runs s' q → ⊥) → Coverage t s' i x
  coverage i x e f = record {
    own_covered = λ o p h _. reached (omega (arith, e, same p h));
    all_covered = λ o p h. reached (omega (arith, e, same p h));
    settled = λ o n p h u. omega (arith, e, same p h);
    noted_halted = f;
  }

  noted_mine : (q : ℕ) → In noted q → Runs s' q → ⊥
  noted_mine q m h = (k.remains q m).1 (ran q (k.remains q m).2 h)

  noted_other : (i : ℕ) → Runs s i → (q : ℕ) → In (without (s.columns i).noted j) q → Runs s' q → ⊥
  noted_other i h q m r = (inv.coverages i h).noted_halted q (without_in (s.columns i).noted j m)
      (ran q (without_other (s.columns i).noted j m) r)

  -- ---- the invariant

  pub back_invariant : Invariant t s'
  back_invariant = record {
    inside = each_running b inv.inside (λ (i : ℕ) (x : Column). i < t.columns) hj (λ i n h. inv.inside i h);
    near = λ i h. omega (arith, same_count, same i h, inv.near l rl);
    root_newest = λ h. same t.root h ∙ rest_agrees t tree inv rest l t.root rl (root_still h) ∙ inv.root_newest (root_still h)
        ∙ sym same_count;
    records = each_running b inv.inside (λ (i : ℕ) (x : Column). Issued s' x.number x.doors)
        (issued_still (inv.records l rl)) (λ i n h. issued_still (inv.records i h));
    locals = each_running b inv.inside (Local t) (local_mine t tree j l noted inv rest hj halted nj rl k b) (λ i n h. local_other i h);
    coverages = each_running b inv.inside (Coverage t s')
        (coverage j (came_back t s j l noted) refl noted_mine)
        (λ i n h. coverage i (struck (s.columns i) j) (rest_agrees t tree inv rest i l h rl) (noted_other i h));
    packets = λ p m. absurd (holds_none (subst (λ (x : List Packet). Holds x p) (b.packets ∙ rest.no_packet) m));
    outstanding = λ p q h r m. absurd (none_awaited_now p h q m);
    linked = back_linked t tree j l noted inv rest hj halted nj rl k b;
  }
    where
      none_awaited_now : (p : ℕ) → Runs s' p → (q : ℕ) → In (s'.columns p).awaited q → ⊥
      none_awaited_now = each_running b inv.inside (λ (p : ℕ) (x : Column). (q : ℕ) → In x.awaited q → ⊥)
          (λ q m. in_none m) (λ p n h q m. none_awaited t tree inv rest p h q m)
