-- A halted column comes back to a bank at rest with the record of a running one: every number is the same, it has nobody to serve, and where
-- senders are watched it is linked to the one that it copied. Assumes nothing.
use Prim.Native.Nat.{ℕ, suc, ◌<◌}
use native.Mathlib.Omega.{arith}
use mathlib.Core.Path.{◌≡◌, refl, sym, ap, subst, ◌∙◌}
use mathlib.Core.Logic.{◌≢◌, ⊎_elim}
use mathlib.Core.Bool.{true, false, not, true≢false}
use Rattle.column.specs.Trees.{IsTree}
use Rattle.column.specs.declared.tree.Tree.{Tree}
use Rattle.column.specs.declared.state.Column.{Column}
use Rattle.agreement.proofs.relation.Model.{State, Runs}
use Rattle.agreement.proofs.relation.Members.{in_none}
use Rattle.agreement.proofs.relation.Move.{Rest, Remaining, came_back, Returns}
use Rattle.agreement.proofs.invariant.Invariant.{number, Unserved, Local, Link, sender_halted, sender_ahead, sender_earlier, Linked, Invariant, ranked, ranked_here, ranked_other}
use Rattle.agreement.proofs.invariant.Still.{returned_each, each_running}
use Rattle.agreement.proofs.invariant.Rest.{none_awaited, sender_runs, rest_agrees}

module _ (t : Tree) (tree : IsTree t) {s s' : State} (j l noted : ℕ) (inv : Invariant t s) (rest : Rest t s)
    (hj : j < t.columns) (halted : ¬ Runs s j) (nj : j ≢ t.root) (rl : Runs s l) (k : Remaining t s j noted)
    (b : Returns t s s' j (came_back t s j l noted)) where
  abbrev c : Column
  c = came_back t s j l noted

  -- ---- what is the same afterwards

  pub runs_before : (i : ℕ) → i ≢ j → Runs s' i → Runs s i
  runs_before i n h =
      returned_each b (λ (i : ℕ) (x : Column). i ≢ j → x.running ≡ true → Runs s i) (λ n. absurd (n refl)) (λ i _ _ _ r. r) (λ i _ _ _ r. r) i n h

  -- every running column has the number that l had
  pub numbers_same : (i : ℕ) → Runs s' i → number s' i ≡ number s l
  numbers_same = each_running b inv.inside (λ (i : ℕ) (x : Column). x.number ≡ number s l) refl (λ i n h. rest_agrees t tree inv rest i l h rl)

  -- ---- one column

  -- nobody at rest has anybody to serve
  none_unserved : (i : ℕ) → Runs s i → (q : ℕ) → Unserved (s.columns i) q → ⊥
  none_unserved i h q u = ⊎_elim (rest.no_send i h q) (none_awaited t tree inv rest i h q) u

  pub local_mine : Local t j c
  local_mine = record {
    root_whole = λ e. absurd (nj e);
    members = λ q u. absurd (⊎_elim in_none in_none u);
    own = λ o q u. absurd (⊎_elim in_none in_none u);
    self_awaited = in_none;
    apart = λ q m n. in_none m;
    shuns = λ _. record {
      root_noted = λ o _. k.all_remaining t.root tree.root_below (λ r. true≢false (sym o ∙ ap not r)) (λ e. nj (sym e));
      root_sent = λ m. absurd (in_none m);
      root_owes = λ e q m. in_none m;
    };
  }

  -- ---- where senders are watched: nobody with the own goal had its record from j, and j ranks after l

  module _ (w : t.watch ≡ true) where
    known : Linked t s
    known = inv.linked w

    abbrev rank : ℕ → ℕ
    rank = ranked known.rank j (suc (known.rank l))

    l_other : l ≢ j
    l_other z = halted (subst (Runs s) z rl)

    number_same : (x : ℕ) → x ≢ j → number s' x ≡ number s x
    number_same x n = returned_each b (λ (i : ℕ) (c : Column). i ≢ j → c.number ≡ number s i)
        (λ n. absurd (n refl)) (λ i _ _ _. refl) (λ i _ _ _. refl) x n

    from_running : (i : ℕ) → Runs s i → (s.columns i).whole ≡ false → (s.columns i).sender ≢ j
    from_running i h o z = halted (subst (Runs s) z (sender_runs t tree inv rest w i h o))

    link_still : (i x n : ℕ) → i ≢ j → x ≢ j → Link s known.rank i x n → Link s' rank i x n
    link_still i x n ni nx (sender_halted h) = sender_halted (λ r. h (runs_before x nx r))
    link_still i x n ni nx (sender_ahead h) = sender_ahead (subst (λ (y : ℕ). n < y) (sym (number_same x nx)) h)
    link_still i x n ni nx (sender_earlier z h) = sender_earlier (z ∙ sym (number_same x nx)) (omega (
      arith,
      h,
      ranked_other known.rank j (suc (known.rank l)) i ni,
      ranked_other known.rank j (suc (known.rank l)) x nx,
    ))

    pub back_linked : Linked t s'
    back_linked = record {
      rank = rank;
      senders = each_running b inv.inside (λ (i : ℕ) (x : Column). x.whole ≡ false → x.sender < t.columns)
          (λ _. inv.inside l rl) (λ i n h o. known.senders i h o);
      links = each_running b inv.inside (λ (i : ℕ) (x : Column). x.whole ≡ false → Link s' rank i x.sender x.number)
          (λ _. sender_earlier (sym (number_same l l_other))
          (omega (arith, ranked_here known.rank j (suc (known.rank l)), ranked_other known.rank j (suc (known.rank l)) l l_other)))
          (λ i n h o. link_still i (s.columns i).sender (number s i) n (from_running i h o) (known.links i h o));
    }
