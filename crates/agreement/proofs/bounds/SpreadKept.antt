-- Nobody whom a column has still to serve is under another, whoever is watched: every move but a return keeps it. Assumes nothing.
use Prim.Native.Nat.{ℕ, ◌<◌}
use mathlib.Core.Path.{◌≡◌, refl, sym, subst}
use mathlib.Core.Logic.{◌≢◌, ⊎_elim, inl, inr}
use mathlib.Core.Bool.{true, true≢false}
use mathlib.Core.List.{List}
use borrow.Author.Tests.{eqb-true}
use Rattle.column.specs.Sets.{without}
use Rattle.column.specs.Trees.{IsTree, children}
use Rattle.column.specs.laws.SubtreeLaws.{Under, subtree_trans, child_in}
use Rattle.column.specs.declared.tree.Tree.{Tree}
use Rattle.column.specs.declared.state.Column.{Column}
use Rattle.column.specs.declared.packet.Packet.{Packet}
use Rattle.agreement.proofs.relation.Model.{In, State, Runs, Becomes}
use Rattle.agreement.proofs.relation.Move.{Event, orders, sends, takes, acknowledges, widens, notes, halts, backs, Move, order, send_self, send_noted, send_message, take_acknowledgement, take_stale, take_equal, take_lower, take_left, take_higher, acknowledge, widen, note_awaited, note_other, halt, back}
use Rattle.agreement.proofs.relation.Members.{in_none, in_single, insert_cases, without_in, without_other, join_cases, Below}
use Rattle.agreement.proofs.invariant.Invariant.{Invariant, Fresh, fresh_invariant}
use Rattle.agreement.proofs.invariant.InvariantCarried.{each}
use Rattle.agreement.proofs.bounds.SpreadLaws.{Spread, child_not, spread_fewer, spread_children, spread_anew, spread_root}

-- whoever is under a child of x is properly below x
pub under_child : (t : Tree) → IsTree t → (x z q : ℕ) → x < t.columns → In (children t x) z → Under t z q → Below t x q
under_child t tree x z q h c u =
    let k = child_in t tree x z c.holds in
    record { under = subtree_trans t tree x z q h k.0 u; other = λ e. k.1 (subst (Under t z) e u) }

-- no return
abbrev pub Onward : Event → Type 0
Onward (orders d) = Unit {0}
Onward (sends i x) = Unit {0}
Onward (takes p o) = Unit {0}
Onward (acknowledges i o) = Unit {0}
Onward (widens i) = Unit {0}
Onward (notes i j) = Unit {0}
Onward (halts i) = Unit {0}
Onward (backs j l) = ⊥

abbrev pub AllSpread : Tree → State → Type 0
AllSpread t s = (i : ℕ) → Runs s i → Spread t i (s.columns i)

module _ (t : Tree) (tree : IsTree t) {s : State} (inv : Invariant t s) (g : AllSpread t s) where
  carry : {s' : State} {a : ℕ} {c : Column} {network : List Packet} {orders : List ℕ} → Becomes s s' a c network orders
      → (c.running ≡ true → Spread t a c) → AllSpread t s'
  carry b h = each b (λ (j : ℕ) (x : Column). x.running ≡ true → Spread t j x) h (λ j n. g j)

  not_self : (a : ℕ) → Runs s a → (x : ℕ) → ¬ Runs s x → x ≢ a
  not_self a r x n e = n (subst (Runs s) (sym e) r)

  pub spread_kept : {s' : State} {e : Event} → Move t s s' e → Onward e → AllSpread t s'
  spread_kept (order d r idle free b) o = carry b (λ _. spread_anew t tree t.root (λ x m. m) idle.1 (λ _ n. n refl))
  spread_kept (send_self a x r e m b) o = carry b (λ _. spread_fewer t tree (g a r)
      (λ y u. ⊎_elim (λ k. inl (without_in (s.columns a).send x k)) (λ k. inr k) u) (λ w. w)
      (λ y u v. (g a r).disjoint y (without_in (s.columns a).send x u) v))
  spread_kept (send_noted a x r m n b) o = carry b (λ _.
      spread_children t tree x (inv.locals a r).members (g a r) (inl m) (not_self a r x ((inv.coverages a r).noted_halted x n)) (inv.inside a r)
      (λ y k. ⊎_elim (λ z. inl (without_in (s.columns a).send x z)) (λ z. inr z) (join_cases (without (s.columns a).send x) (children t x) k))
      (λ y k. k)
      (λ u. ⊎_elim (λ k. ⊎_elim (λ z. without_other (s.columns a).send x z refl) (λ z. child_not t tree x z)
      (join_cases (without (s.columns a).send x) (children t x) k)) (λ k. (g a r).disjoint x m k) u) (λ w. w))
  spread_kept (send_message a x r e m n b) o = carry b (λ _. spread_fewer t tree (g a r)
      (λ y u. ⊎_elim (λ k. inl (without_in (s.columns a).send x k))
      (λ k. ⊎_elim (λ z. inr z) (λ z. inl (subst (In (s.columns a).send) (sym z) m)) (insert_cases (s.columns a).awaited x k)) u) (λ w. w)
      (λ y u v. ⊎_elim ((g a r).disjoint y (without_in (s.columns a).send x u)) (without_other (s.columns a).send x u)
      (insert_cases (s.columns a).awaited x v)))
  spread_kept (take_acknowledgement a q k r e taken b) o = carry b (λ _. spread_fewer t tree (g a r)
      (λ y u. ⊎_elim (λ m. inl m) (λ m. inr (without_in (s.columns a).awaited q m)) u) (λ w. w)
      (λ y u v. (g a r).disjoint y u (without_in (s.columns a).awaited q v)))
  spread_kept (take_stale a q k r e taken b) o = carry b (λ _. g a r)
  spread_kept (take_equal a q k d r e taken b) o = carry b (λ _. spread_fewer t tree (g a r) (λ y u. u) (λ w. w) (g a r).disjoint)
  spread_kept (take_lower a q k d r lt taken b) o = carry b (λ _. g a r)
  spread_kept (take_left a q k d x r lt taken m b) o = carry b (λ _. spread_fewer t tree (g a r) (λ y u. u) (λ w. w) (g a r).disjoint)
  spread_kept (take_higher a q k d r lt taken e b) o =
      carry b (λ _. spread_anew t tree a (λ x m. m) (λ x m. in_none m) (λ w n. n (eqb-true a t.root w)))
  spread_kept (acknowledge a x r m f b) o = carry b (λ _. spread_fewer t tree (g a r) (λ y u. u) (λ w. w) (g a r).disjoint)
  spread_kept (widen a r n m w idle b) o = carry b (λ _. spread_root t tree a (inv.inside a r) (λ q k. in_single t.root k) idle.1)
  spread_kept (note_awaited a j r h n m b) o = carry b (λ _.
      spread_children t tree j (inv.locals a r).members (g a r) (inr m) (not_self a r j n) (inv.inside a r)
      (λ y k. join_cases (s.columns a).send (children t j) k) (λ y k. without_in (s.columns a).awaited j k)
      (λ u. ⊎_elim (λ k. ⊎_elim (λ z. (g a r).disjoint j z m) (λ z. child_not t tree j z) (join_cases (s.columns a).send (children t j) k))
      (λ k. without_other (s.columns a).awaited j k refl) u) (λ w. w))
  spread_kept (note_other a j r h n m u b) o = carry b (λ _. spread_fewer t tree (g a r) (λ y u. u) (λ w. w) (g a r).disjoint)
  spread_kept (halt a r b) o = carry b (λ h. absurd (true≢false (sym h)))
  spread_kept (back j l noted rest h n nr r k b) o = absurd o

pub spread_fresh : (t : Tree) {s : State} → t.root < t.columns → Fresh t s → AllSpread t s
spread_fresh t below f i h = subst (Spread t i) (sym (f.columns_fresh i ((fresh_invariant t f below).inside i h))) record {
  disjoint = λ y u. absurd (in_none u);
  antichain = λ y z u. absurd (⊎_elim in_none in_none u);
  outside = λ w n y u. absurd (⊎_elim in_none in_none u);
}
