-- A send and a note keep the invariant. Assumes nothing.
use Prim.Native.Nat.{ℕ}
use native.Mathlib.Omega.{arith}
use mathlib.Core.Path.{◌≡◌, refl, sym, subst}
use mathlib.Core.Logic.{◌≢◌, ◌⊎◌, ⊎_elim, inl, inr}
use mathlib.Core.Bool.{true, false}
use Rattle.column.specs.laws.Cases.{truth}
use Rattle.column.specs.Sets.{join, insert, without}
use Rattle.column.specs.Trees.{IsTree, children}
use Rattle.column.specs.laws.SubtreeLaws.{Under}
use Rattle.column.specs.declared.tree.Tree.{Tree}
use Rattle.column.specs.declared.state.Column.{Column}
use Rattle.column.specs.declared.packet.Packet.{Packet}
use Rattle.column.specs.declared.packet.Packet.TheVariants.{Message}
use Rattle.agreement.proofs.relation.Model.{In, State, Runs, post, Becomes, Holds, post_cases, post_old, post_new}
use Rattle.agreement.proofs.relation.Move.{serving, noting}
use Rattle.agreement.proofs.relation.Members.{insert_cases, insert_old, insert_new, without_in, without_other, without_cases, join_cases, join_left, join_right, under_cases, below_child}
use Rattle.agreement.proofs.invariant.Invariant.{Unserved, Covered, pending, reached, Truthful, message_truthful, message_sent, acknowledgement_owed, acknowledgement_sent, Invariant}
use Rattle.agreement.proofs.invariant.Packets.{outstanding_cases}
use Rattle.agreement.proofs.invariant.Adjusting.{adjust, silent}

-- a column that is to send to itself has the whole bank for its goal, and is not the root
module _ (t : Tree) {s : State} (a : ℕ) (inv : Invariant t s) (ra : Runs s a) (self : In (s.columns a).send a) where
  self_whole : (s.columns a).whole ≡ true
  self_whole = ⊎_elim (λ w. w) (λ w. absurd (((inv.locals a ra).own (inl w) a (inl self)).other refl)) (truth (s.columns a).whole)

  pub self_root : a ≢ t.root
  self_root e = ((inv.locals a ra).own (inr e) a (inl self)).other refl

module _ (t : Tree) (tree : IsTree t) {s : State} (a : ℕ) (inv : Invariant t s) (ra : Runs s a) where
  abbrev c : Column
  c = s.columns a

  -- only the set to send to changes: who joins it is a child of one not yet served, and who runs in the subtree of such a one stays covered
  keep_serving : {s' : State} (send : ℕ) →
      ((q : ℕ) → In send q → In c.send q ⊎ ((j : ℕ) × Unserved c j × In (children t j) q)) →
      ((q p : ℕ) → Unserved c q → Runs s p → Under t q p → Covered t s (serving c send c.awaited) p) →
      Becomes s s' a (serving c send c.awaited) s.network s.orders → Invariant t s'
  keep_serving send sends covers b = adjust t tree a inv ra
      record {
        sends = sends;
        awaits = λ q k. inl k;
        owes = λ o. ((inv.locals a ra).shuns o).root_owes;
        notes = λ q k. k;
        halts = (inv.coverages a ra).noted_halted;
        parts = (inv.locals a ra).apart;
        covers = covers;
      }
      b (silent t tree a inv ra (λ q k. k) (λ p k. k))

  pub keep_send_self : {s' : State} → In c.send a →
      Becomes s s' a (serving c (without c.send a) c.awaited) s.network s.orders → Invariant t s'
  keep_send_self m = keep_serving (without c.send a) (λ q k. inl (without_in c.send a k))
      (λ q p u h v. ⊎_elim
      (λ k. ⊎_elim (λ z. pending q (inl z) v)
      (λ e. reached ((inv.coverages a ra).settled (self_whole t a inv ra m) (self_root t a inv ra m) p h
      (subst (λ (x : ℕ). Under t x p) e v)))
      (without_cases c.send a k))
      (λ k. pending q (inr k) v) u)

  -- the subtree of a halted column x is x and the subtrees of its children
  halted_covers : {c' : Column} (x p : ℕ) → ¬ Runs s x → ((q : ℕ) → In (children t x) q → In c'.send q) →
      Runs s p → Under t x p → Covered t s c' p
  halted_covers x p n f h u = ⊎_elim (λ e. absurd (n (subst (Runs s) e h)))
      (λ b. let k = below_child t tree b in pending k.0 (inl (f k.0 k.1)) k.2) (under_cases t x p u)

  pub keep_send_noted : {s' : State} (x : ℕ) → In c.send x → In c.noted x →
      Becomes s s' a (serving c (join (without c.send x) (children t x)) c.awaited) s.network s.orders → Invariant t s'
  keep_send_noted x m n = keep_serving (join (without c.send x) (children t x))
      (λ q k. ⊎_elim (λ z. inl (without_in c.send x z)) (λ z. inr (x, inl m, z)) (join_cases (without c.send x) (children t x) k))
      (λ q p u h v. ⊎_elim
      (λ k. ⊎_elim (λ z. pending q (inl (join_left (without c.send x) (children t x) z)) v)
      (λ e. halted_covers x p ((inv.coverages a ra).noted_halted x n) (λ y z. join_right (without c.send x) (children t x) z) h
      (subst (λ (y : ℕ). Under t y p) e v))
      (without_cases c.send x k))
      (λ k. pending q (inr k) v) u)

  -- those noted are halted, also with j noted
  halted_with : (j : ℕ) → ¬ Runs s j → (q : ℕ) → In (insert c.noted j) q → Runs s q → ⊥
  halted_with j n q k h =
      ⊎_elim (λ z. (inv.coverages a ra).noted_halted q z h) (λ e. n (subst (Runs s) e h)) (insert_cases c.noted j k)

  pub keep_note_awaited : {s' : State} (j : ℕ) → ¬ Runs s j → In c.awaited j →
      Becomes s s' a (noting c (join c.send (children t j)) (without c.awaited j) (insert c.noted j)) s.network s.orders →
      Invariant t s'
  keep_note_awaited j n m b = adjust t tree a inv ra
      record {
        sends = λ q k. ⊎_elim (λ z. inl z) (λ z. inr (j, inr m, z)) (join_cases c.send (children t j) k);
        awaits = λ q k. inl (without_in c.awaited j k);
        owes = λ o. ((inv.locals a ra).shuns o).root_owes;
        notes = λ q k. insert_old c.noted j k;
        halts = halted_with j n;
        parts = λ q k l. ⊎_elim (λ z. (inv.locals a ra).apart q (without_in c.awaited j k) z)
            (λ e. without_other c.awaited j k e) (insert_cases c.noted j l);
        covers = λ q p u h v. ⊎_elim
            (λ k. pending q (inl (join_left c.send (children t j) k)) v)
            (λ k. ⊎_elim (λ z. pending q (inr z) v)
            (λ e. halted_covers j p n (λ y z. join_right c.send (children t j) z) h (subst (λ (y : ℕ). Under t y p) e v))
            (without_cases c.awaited j k)) u;
      }
      b (silent t tree a inv ra (λ q k. without_in c.awaited j k) (λ p k. k))

  pub keep_note_other : {s' : State} (j : ℕ) → ¬ Runs s j → ¬ In c.awaited j →
      Becomes s s' a (noting c c.send c.awaited (insert c.noted j)) s.network s.orders → Invariant t s'
  keep_note_other j n m b = adjust t tree a inv ra
      record {
        sends = λ q k. inl k;
        awaits = λ q k. inl k;
        owes = λ o. ((inv.locals a ra).shuns o).root_owes;
        notes = λ q k. insert_old c.noted j k;
        halts = halted_with j n;
        parts = λ q k l. ⊎_elim (λ z. (inv.locals a ra).apart q k z) (λ e. m (subst (In c.awaited) e k)) (insert_cases c.noted j l);
        covers = λ q p u h v. pending q u v;
      }
      b (silent t tree a inv ra (λ q k. k) (λ p k. k))

  pub keep_send_message : {s' : State} (x : ℕ) → x ≢ a → In c.send x → ¬ In c.noted x →
      Becomes s s' a (serving c (without c.send x) (insert c.awaited x)) (post s (Message a x c.number c.doors) s.network)
      s.orders → Invariant t s'
  keep_send_message x ne m n b = adjust t tree a inv ra
      record {
        sends = λ q k. inl (without_in c.send x k);
        awaits = λ q k. ⊎_elim (λ z. inl z)
            (λ e. inr (subst (λ (y : ℕ). In c.send y × (¬ In c.noted y) × (y ≢ a)) (sym e) (m, n, ne))) (insert_cases c.awaited x k);
        owes = λ o. ((inv.locals a ra).shuns o).root_owes;
        notes = λ q k. k;
        halts = (inv.coverages a ra).noted_halted;
        parts = λ q k l. ⊎_elim (λ z. (inv.locals a ra).apart q z l) (λ e. n (subst (In c.noted) e l)) (insert_cases c.awaited x k);
        covers = λ q p u h v. ⊎_elim
            (λ k. ⊎_elim (λ z. pending q (inl z) v)
            (λ e. pending q (inr (subst (In (insert c.awaited x)) (sym e) (insert_new c.awaited x))) v) (without_cases c.send x k))
            (λ k. pending q (inr (insert_old c.awaited x k)) v) u;
      }
      b
      record {
        new = λ r k. ⊎_elim (λ z. inl z)
            (λ z. inr (subst (Truthful t s) (sym z.0) (message_truthful (inv.records a ra) to_other (inv.inside a ra) (λ _. omega arith)))) (post_cases s message s.network k);
        old = λ r k. inl (kept k);
        awaits = λ q nq h k. ⊎_elim
            (λ z. outstanding_cases (inv.outstanding a q ra h z)
            (λ d v. message_sent d (kept v)) (λ o e. acknowledgement_owed o e) (λ v. acknowledgement_sent (kept v)))
            (λ e. message_sent c.doors
            (subst (λ (y : ℕ). Holds (post s message s.network) (Message a y c.number c.doors)) (sym e)
            (post_new s message s.network (subst (Runs s) e h))))
            (insert_cases c.awaited x k);
        awaited = λ p np h w. outstanding_cases w
            (λ d v. message_sent d (kept v)) (λ o e. acknowledgement_owed o e) (λ v. acknowledgement_sent (kept v));
      }
    where
      message : Packet
      message = Message a x c.number c.doors

      kept : {r : Packet} → Holds s.network r → Holds (post s message s.network) r
      kept k = post_old s message s.network k

      to_other : t.watch ≡ false → x ≢ t.root
      to_other o e = n (subst (In c.noted) (sym e) (((inv.locals a ra).shuns o).root_sent (subst (In c.send) e m)))
