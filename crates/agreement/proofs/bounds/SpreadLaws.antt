-- Whom one column has still to serve, whoever is watched: none is below another, and the subtree of who took over is served. Each part has its
-- reason. And what keeps that. Assumes nothing.
use Prim.Native.Nat.{ℕ, zero, suc, ◌<◌}
use mathlib.Core.Path.{◌≡◌, sym, ap, subst, ◌∙◌}
use mathlib.Core.Logic.{◌≢◌, ◌⊎◌, ⊎_elim, inl, inr}
use mathlib.Core.Bool.{true}
use Rattle.column.specs.Trees.{parent, climb, IsTree, children}
use Rattle.column.specs.laws.ChildLaws.{child_parent}
use Rattle.column.specs.laws.SubtreeLaws.{Under, subtree_self, subtree_trans, subtree_climb, subtree_antisym, child_in}
use Rattle.column.specs.declared.tree.Tree.{Tree}
use Rattle.column.specs.declared.state.Column.{Column}
use Rattle.agreement.proofs.relation.Model.{In, Empty}
use Rattle.agreement.proofs.relation.Members.{Below, children_inside, under_cases, under_root}
use Rattle.agreement.proofs.invariant.Invariant.{Unserved}

pub record Spread (t : Tree) (i : ℕ) (c : Column) : Type 0 where
  -- nobody is sent to again while awaited; no column to serve is below another, so no column is served twice
  pub disjoint : (q : ℕ) → In c.send q → In c.awaited q → ⊥
  pub antichain : (q r : ℕ) → Unserved c q → Unserved c r → Under t q r → r ≡ q
  -- the subtree of a column was served before it took over the bank
  pub outside : c.whole ≡ true → i ≢ t.root → (q : ℕ) → Unserved c q → Below t i q → ⊥

-- q is to be served by c: in the subtree of one to send to, or below one who is awaited
pub data ToServe (t : Tree) (c : Column) (q : ℕ) : Type 0 where
  to_send : (y : ℕ) → In c.send y → Under t y q → ToServe t c q
  to_await : (y : ℕ) → In c.awaited y → Below t y q → ToServe t c q

module _ (t : Tree) (tree : IsTree t) where
  -- ---- above a child

  -- who is above a child of x is the child, or above x
  pub above_child : (y x : ℕ) {q : ℕ} → y < t.columns → In (children t x) q → Under t y q → (q ≡ y) ⊎ Under t y x
  unfolding climb
  above_child y x {q} h m u =
      let up = child_parent t x q m.holds in
      let w = (subtree_climb t tree y q h).0 u in
      go w.1.0 w.1.1 up (subst (λ (z : ℕ). z < t.columns) up (tree.parent_below q w.0))
    where
      go : (k : ℕ) → climb t k q ≡ y → parent t q ≡ x → x < t.columns → (q ≡ y) ⊎ Under t y x
      go zero e up l = inl e
      go (suc k) e up l = inr ((subtree_climb t tree y x h).1 (l, (k, ap (climb t k) (sym up) ∙ e)))

  pub below_root : {i : ℕ} → i < t.columns → Below t i t.root → ⊥
  below_root {i} h b = b.other (subtree_antisym t tree i t.root h b.under (under_root t tree i h))

  pub child_not : (x : ℕ) → In (children t x) x → ⊥
  child_not x m = (child_in t tree x x m.holds).1 (subtree_self t tree x)

  -- ---- fewer are to be served

  pub spread_fewer : {i : ℕ} {c c' : Column} → Spread t i c → ((q : ℕ) → Unserved c' q → Unserved c q) → (c'.whole ≡ true → c.whole ≡ true) →
      ((q : ℕ) → In c'.send q → In c'.awaited q → ⊥) → Spread t i c'
  spread_fewer old f w d = record {
    disjoint = d;
    antichain = λ q r u v. old.antichain q r (f q u) (f r v);
    outside = λ z n q u. old.outside (w z) n q (f q u);
  }

  -- ---- the children of x take its place

  module _ {i : ℕ} {c c' : Column} (x : ℕ) (inside : (q : ℕ) → Unserved c q → q < t.columns) (old : Spread t i c) (was : Unserved c x)
      (other : x ≢ i) (here : i < t.columns) where
    pub spread_children : ((q : ℕ) → In c'.send q → In c.send q ⊎ In (children t x) q) → ((q : ℕ) → In c'.awaited q → In c.awaited q) →
        (Unserved c' x → ⊥) → (c'.whole ≡ true → c.whole ≡ true) → Spread t i c'
    spread_children sends awaits gone w = record {
      disjoint = λ q m n. ⊎_elim (λ z. old.disjoint q z (awaits q n)) (λ z. fresh_child q z (inr (awaits q n))) (sends q m);
      antichain = λ q r u v k. chain q r u v k (before q u) (before r v);
      outside = λ z n q u b. ⊎_elim (λ k. old.outside (w z) n q k b) (λ k. below q n (w z) k b) (before q u);
    }
      where
        -- a child of x was not to be served before
        fresh_child : (q : ℕ) → In (children t x) q → Unserved c q → ⊥
        fresh_child q m u =
            let e = old.antichain x q was u (child_in t tree x q m.holds).0 in
            child_not x (subst (In (children t x)) e m)

        before : (q : ℕ) → Unserved c' q → Unserved c q ⊎ In (children t x) q
        before q u = ⊎_elim (λ m. ⊎_elim (λ z. inl (inl z)) (λ z. inr z) (sends q m)) (λ m. inl (inr (awaits q m))) u

        chain : (q r : ℕ) → Unserved c' q → Unserved c' r → Under t q r → Unserved c q ⊎ In (children t x) q → Unserved c r ⊎ In (children t x) r → r ≡ q
        chain q r u v k (inl a) (inl b) = old.antichain q r a b k
        chain q r u v k (inl a) (inr b) = ⊎_elim (λ e. e)
            (λ z. absurd (gone (subst (Unserved c') (sym (old.antichain q x a was z)) u))) (above_child q x (inside q a) b k)
        chain q r u v k (inr a) (inl b) =
            let z = subtree_trans t tree x q r (inside x was) (child_in t tree x q a.holds).0 k in
            absurd (gone (subst (Unserved c') (old.antichain x r was b z) v))
        chain q r u v k (inr a) (inr b) = ⊎_elim (λ e. e) (λ z. absurd ((child_in t tree x q a.holds).1 z))
            (above_child q x (children_inside t x a) b k)

        below : (q : ℕ) → i ≢ t.root → c.whole ≡ true → In (children t x) q → Below t i q → ⊥
        below q n z m b = ⊎_elim b.other
            (λ u. ⊎_elim other (λ k. old.outside z n x was k) (under_cases t i x u)) (above_child i x here m b.under)

  -- ---- the sets anew

  pub spread_anew : (i : ℕ) {c : Column} → ((q : ℕ) → In c.send q → In (children t i) q) → Empty c.awaited → (c.whole ≡ true → i ≢ t.root → ⊥) →
      Spread t i c
  spread_anew i {c} sends none goal = record {
    disjoint = λ q m n. none q n;
    antichain = λ q r u v k. ⊎_elim (λ e. e) (λ z. absurd ((child_in t tree i q (child q u).holds).1 z))
        (above_child q i (children_inside t i (child q u)) (child r v) k);
    outside = λ w n. absurd (goal w n);
  }
    where
      child : (q : ℕ) → Unserved c q → In (children t i) q
      child q u = ⊎_elim (sends q) (λ m. absurd (none q m)) u

  -- only the root is to be sent to
  pub spread_root : (i : ℕ) {c : Column} → i < t.columns → ((q : ℕ) → In c.send q → q ≡ t.root) → Empty c.awaited → Spread t i c
  spread_root i {c} h sends none = record {
    disjoint = λ q m n. none q n;
    antichain = λ q r u v k. root r v ∙ sym (root q u);
    outside = λ w n q u b. below_root h (subst (Below t i) (root q u) b);
  }
    where
      root : (q : ℕ) → Unserved c q → q ≡ t.root
      root q u = ⊎_elim (sends q) (λ m. absurd (none q m)) u
