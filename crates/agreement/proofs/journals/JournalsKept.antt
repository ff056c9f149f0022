-- The journals beside the columns: every move keeps that no line is written twice and that what was got was sent. Assumes nothing.
use Prim.Native.Nat.{ℕ, ◌<◌}
use mathlib.Core.Path.{◌≡◌, refl, sym, subst, ◌∙◌}
use mathlib.Core.Logic.{◌≢◌, ◌⊎◌, ⊎_elim, inl, inr}
use mathlib.Core.Bool.{true, true≢false}
use mathlib.Core.List.Memᴰ
use mathlib.Core.List.{List, []}
use native.Mathlib.Omega.{arith}
use lib.Dec.{eqb}
use Rattle.column.specs.laws.Cases.{truth}
use Rattle.column.specs.Sets.{single, insert, without}
use Rattle.column.specs.Trees.{IsTree, children}
use Rattle.column.specs.laws.SubtreeLaws.{subtree_self}
use Rattle.column.specs.Packets.{receiver}
use Rattle.column.specs.Columns.{numbers}
use Rattle.column.specs.declared.tree.Tree.{Tree}
use Rattle.column.specs.declared.state.Column.{Column}
use Rattle.column.specs.declared.packet.Packet.{Packet}
use Rattle.column.specs.declared.packet.Packet.TheVariants.{Message, Acknowledgement}
use Rattle.journals.specs.Journals.{line}
use Rattle.journals.specs.PacketLines.{got_line}
use Rattle.journals.specs.declared.line.Way.TheVariants.{Sent, Got}
use Rattle.journals.specs.declared.line.Kind.TheVariants as kind-is
use Rattle.journals.specs.declared.line.Line.{Line}
use Rattle.agreement.specs.Journals.{Journals, written, all_got, all_sent, Wrote, Proper, Consistent}
use Rattle.agreement.proofs.relation.Model.{In, Empty, State, Runs, post, Taken, Becomes, taken_held}
use Rattle.agreement.proofs.relation.Move.{renewed, serving, owing, Event, Move, order, send_self, send_noted, send_message, take_acknowledgement, take_stale, take_equal, take_lower, take_left, take_higher, acknowledge, widen, note_awaited, note_other, halt, back}
use Rattle.agreement.proofs.relation.Members.{in_none, in_single, insert_cases, without_in, without_other, join_cases}
use Rattle.agreement.proofs.invariant.Invariant.{number, Unserved, Invariant, Fresh, fresh_invariant}
use Rattle.agreement.proofs.invariant.InvariantCarried.{each}
use Rattle.agreement.proofs.invariant.Adjusting.{adjusted}
use Rattle.agreement.proofs.journals.PacketsLogged.{got_sent, way_of, kind_of_lem, other_of, number_of_lem, written_other, wrote_cases, wrote_new, Logged, logged_none, logged_others, logged_got, logged_proper}
use Rattle.agreement.proofs.bounds.SpreadKept.{under_child, Onward, AllSpread, spread_kept, spread_fresh}
use Rattle.agreement.proofs.journals.Dues.{posted, gots, puts, moved, Ahead, to_send, beyond, Served, Dues, Recorded, one_two, dues_adjusted, dues_got, dues_acknowledged, dues_served, logged_posted, posted_other, posted_mine}

-- ---- every move keeps it

module _ (t : Tree) (tree : IsTree t) {s : State} {j : Journals} (inv : Invariant t s) (fits : (i : ℕ) → number s i < numbers) (g : Recorded t s j) where
  -- only column a and its journal change
  dues_each : {s' : State} {a : ℕ} {c : Column} {network : List Packet} {orders : List ℕ} {j' : Journals} → Becomes s s' a c network orders
      → ((i : ℕ) → i ≢ a → j' i ≡ j i) → (c.running ≡ true → Dues t a c (j' a)) → (i : ℕ) → Runs s' i → Dues t i (s'.columns i) (j' i)
  dues_each {j'} b f h = each b (λ (i : ℕ) (x : Column). x.running ≡ true → Dues t i x (j' i)) h
      (λ i n r. subst (λ (l : List Line). Dues t i (s.columns i) l) (sym (f i n)) (g.dues i r))

  logged_as : {s' : State} {a : ℕ} {c : Column} {network : List Packet} {orders : List ℕ} {j' : Journals} → Becomes s s' a c network orders
      → Logged t.columns network j' → Logged t.columns s'.network j'
  logged_as {j' = j'} b h = subst (λ (l : List Packet). Logged t.columns l j') (sym b.packets) h

  -- nothing is got or put
  quiet : {s' : State} {a : ℕ} {c : Column} {orders : List ℕ} → Becomes s s' a c s.network orders → AllSpread t s'
      → (c.running ≡ true → Dues t a c (j a)) → Recorded t s' j
  quiet b sp d = record { logged = logged_as b g.logged; dues = dues_each b (λ i n. refl) d; spread = sp }

  -- a packet is got, and nothing put
  getting : {s' : State} {a : ℕ} {c : Column} {orders : List ℕ} {l : List Packet} (p : Packet) → receiver p ≡ a → Taken s.network p l
      → Becomes s s' a c l orders → AllSpread t s' → Dues t a c (written j a (got_line p) a) → Recorded t s' (written j a (got_line p))
  getting {s'} {a} {c} {l = l} p e taken b sp d = record {
    logged = logged_as b (subst (λ (i : ℕ). Logged t.columns l (written j i (got_line p))) e (logged_got g.logged taken));
    dues = dues_each b (λ i n. written_other j a (got_line p) i n) (λ _. d);
    spread = sp;
  }

  module _ (a : ℕ) (ra : Runs s a) where
    abbrev c : Column
    c = s.columns a

    here : Dues t a c (j a)
    here = g.dues a ra

    -- whoever is sent to or awaited in place of x, and whoever is under them, was ahead
    ahead_children : {send awaited owed noted : ℕ} (x : ℕ) → Unserved c x
        → ((y : ℕ) → In send y → In c.send y ⊎ In (children t x) y) → ((y : ℕ) → In awaited y → In c.awaited y)
        → (q : ℕ) → Ahead t (adjusted c send awaited owed noted) q → Ahead t c q
    ahead_children x m f h q (beyond y k u) = beyond y (h y k) u
    ahead_children x m f h q (to_send y k u) = ⊎_elim (λ z. to_send y z u)
        (λ z. let v = under_child t tree x y q ((inv.locals a ra).members x m) z u in ⊎_elim (λ w. to_send x w v.under) (λ w. beyond x w v) m) (f y k)

    ahead_fewer : {send awaited owed noted : ℕ} → ((y : ℕ) → In send y → In c.send y) → ((y : ℕ) → In awaited y → In c.awaited y)
        → (q : ℕ) → Ahead t (adjusted c send awaited owed noted) q → Ahead t c q
    ahead_fewer f h q (to_send y k u) = to_send y (f y k) u
    ahead_fewer f h q (beyond y k u) = beyond y (h y k) u

    -- an answer to a message
    turned : (q k : ℕ) → Wrote j q (line Sent kind-is.Message a k) → Proper t.columns a (line Sent kind-is.Acknowledgement q k)
    turned q k w = let z = g.logged.proper q a kind-is.Message k w in record {
      owner_below = z.other_below;
      other_below = z.owner_below;
      other_apart = λ e. z.other_apart (sym e);
      number_fits = z.number_fits;
    }

    -- an acknowledgement of the present number to r, who is owed
    acknowledging : {s' : State} (r : ℕ) → In c.owed r
        → Becomes s s' a (owing c (without c.owed r)) (post s (Acknowledgement a r c.number) s.network) s.orders → AllSpread t s'
        → Recorded t s' (all_sent j (posted s (Acknowledgement a r c.number)))
    unfolding post
    acknowledging r m b sp = record {
      logged = logged_as b (logged_posted j p g.logged (turned r c.number (g.logged.heard a r kind-is.Message c.number (here.owed_got r m))) (here.owed_open r m)
          (λ q n e. subst (λ (x : ℕ). Wrote j a (line Got kind-is.Message x n)) (sym (other_of e))
          (subst (λ (x : ℕ). Wrote j a (line Got kind-is.Message r x)) (sym (number_of_lem e)) (here.owed_got r m))) (s.columns r).running);
      dues = dues_each b (posted_other j p (s.columns r).running) (λ _.
          posted_mine j p (Dues t a (owing c (without c.owed r))) adjust
          (dues_acknowledged t a j adjust r c.number (λ x k e _. without_other c.owed r k e)) (s.columns r).running);
      spread = sp;
    }
      where
        p : Packet
        p = Acknowledgement a r c.number

        adjust : Dues t a (owing c (without c.owed r)) (j a)
        adjust = dues_adjusted t a here (λ x k. without_in c.owed r k) (ahead_fewer (λ y k. k) (λ y k. k))

    -- a message got whose number the column has now: its sender is owed
    owing_new : (q k d : ℕ) {l : List Packet} → Taken s.network (Message q a k d) l → Wrote (written j a (line Got kind-is.Message q k)) a (line Sent kind-is.Acknowledgement q k) → ⊥
    owing_new q k d taken w = ⊎_elim (λ z. g.logged.not_got (Message q a k d) (taken_held taken) (g.logged.acknowledged a q k z))
        (λ z. got_sent (sym (way_of z.1))) (wrote_cases j a (line Got kind-is.Message q k) a w)

    recorded_send : {s' : State} (x : ℕ) → x ≢ a → In c.send x
        → Becomes s s' a (serving c (without c.send x) (insert c.awaited x)) (post s (Message a x c.number c.doors) s.network) s.orders
        → AllSpread t s' → Recorded t s' (all_sent j (posted s (Message a x c.number c.doors)))
    unfolding post
    recorded_send x ne m b sp = record {
      logged = logged_as b (logged_posted j p g.logged good new (λ q n e. absurd (one_two (sym (kind_of_lem e)))) (s.columns x).running);
      dues = dues_each b (posted_other j p (s.columns x).running) (λ _.
          posted_mine j p (Dues t a (serving c (without c.send x) (insert c.awaited x))) adjust
          (dues_served t a j adjust x c.number first_time) (s.columns x).running);
      spread = sp;
    }
      where
        p : Packet
        p = Message a x c.number c.doors

        good : Proper t.columns a (line Sent kind-is.Message x c.number)
        good = record {
          owner_below = inv.inside a ra;
          other_below = (inv.locals a ra).members x (inl m);
          other_apart = ne;
          number_fits = fits a;
        }

        new : Wrote j a (line Sent kind-is.Message x c.number) → ⊥
        new w =
            let z = (here.served x c.number w).done refl (to_send x m (subtree_self t tree x)) in
            (g.spread a ra).outside z.0 z.1 x (inl m) z.2

        adjust : Dues t a (serving c (without c.send x) (insert c.awaited x)) (j a)
        adjust = dues_adjusted t a here (λ y k. k) before
          where
            before : (q : ℕ) → Ahead t (serving c (without c.send x) (insert c.awaited x)) q → Ahead t c q
            before q (to_send y k u) = to_send y (without_in c.send x k) u
            before q (beyond y k u) = ⊎_elim (λ z. beyond y z u) (λ e. to_send y (subst (In c.send) (sym e) m) u.under) (insert_cases c.awaited x k)

        first_time : Served t a (serving c (without c.send x) (insert c.awaited x)) x c.number
        first_time = record { at_most = omega arith; own = λ _ w. (inv.locals a ra).own (inl w) x (inl m); done = λ _ h. absurd (never h) }
          where
            never : Ahead t (serving c (without c.send x) (insert c.awaited x)) x → ⊥
            never (to_send y k u) = without_other c.send x k (sym ((g.spread a ra).antichain y x (inl (without_in c.send x k)) (inl m) u))
            never (beyond y k u) = ⊎_elim (λ z. u.other ((g.spread a ra).antichain y x (inr z) (inl m) u.under)) (λ e. u.other (sym e))
                (insert_cases c.awaited x k)

    recorded_lower : {s' : State} (q k d : ℕ) {l : List Packet} → k < c.number → Taken s.network (Message q a k d) l
        → Becomes s s' a c (post s (Acknowledgement a q k) l) s.orders → AllSpread t s'
        → Recorded t s' (all_sent (written j a (line Got kind-is.Message q k)) (posted s (Acknowledgement a q k)))
    unfolding post
    recorded_lower q k d lt taken b sp = record {
      logged = logged_as b (logged_posted j₁ p (logged_got g.logged taken) (turned q k (g.logged.was_sent (Message q a k d) (taken_held taken))) (owing_new q k d taken)
          (λ x n e. subst (λ (y : ℕ). Wrote j₁ a (line Got kind-is.Message y n)) (sym (other_of e))
          (subst (λ (y : ℕ). Wrote j₁ a (line Got kind-is.Message q y)) (sym (number_of_lem e)) (wrote_new j a (line Got kind-is.Message q k)))) (s.columns q).running);
      dues = dues_each b (λ i n. posted_other j₁ p (s.columns q).running i n ∙ written_other j a (line Got kind-is.Message q k) i n) (λ _.
          posted_mine j₁ p (Dues t a c) got
          (dues_acknowledged t a j₁ got q k (λ x m e f. omega (arith, lt, f))) (s.columns q).running);
      spread = sp;
    }
      where
        p : Packet
        p = Acknowledgement a q k

        j₁ : Journals
        j₁ = written j a (line Got kind-is.Message q k)

        got : Dues t a c (j₁ a)
        got = dues_got t a j here (line Got kind-is.Message q k) refl

    recorded_equal : {s' : State} (q d : ℕ) {l : List Packet} → Taken s.network (Message q a c.number d) l
        → Becomes s s' a (owing c (insert c.owed q)) l s.orders → AllSpread t s' → Recorded t s' (written j a (line Got kind-is.Message q c.number))
    recorded_equal q d taken b sp = getting (Message q a c.number d) refl taken b sp record {
      owed_got = λ p m. ⊎_elim (got.owed_got p) (λ e. subst (λ (y : ℕ). Wrote j₁ a (line Got kind-is.Message y c.number)) (sym e) (wrote_new j a x)) (insert_cases c.owed q m);
      owed_open = λ p m w. ⊎_elim (λ z. got.owed_open p z w)
          (λ e. owing_new q c.number d taken (subst (λ (y : ℕ). Wrote j₁ a (line Sent kind-is.Acknowledgement y c.number)) e w)) (insert_cases c.owed q m);
      served = λ y k w. let z = got.served y k w in record { at_most = z.at_most; own = z.own; done = λ e h. z.done e (ahead_fewer (λ y k. k) (λ y k. k) y h) };
    }
      where
        x : Line
        x = line Got kind-is.Message q c.number

        j₁ : Journals
        j₁ = written j a x

        got : Dues t a c (j₁ a)
        got = dues_got t a j here x refl

    recorded_higher : {s' : State} (q k d : ℕ) {l : List Packet} → c.number < k → Taken s.network (Message q a k d) l
        → Becomes s s' a (renewed c k d (children t a) 0 (single q) (eqb a t.root) q) l s.orders → AllSpread t s' → Recorded t s' (written j a (line Got kind-is.Message q k))
    recorded_higher q k d lt taken b sp = getting (Message q a k d) refl taken b sp record {
      owed_got = λ p m. subst (λ (y : ℕ). Wrote j₁ a (line Got kind-is.Message y k)) (sym (in_single q m)) (wrote_new j a x);
      owed_open = λ p m w. owing_new q k d taken (subst (λ (y : ℕ). Wrote j₁ a (line Sent kind-is.Acknowledgement y k)) (in_single q m) w);
      served = λ y n w. let z = (got.served y n w).at_most in record {
        at_most = omega (arith, z, lt);
        own = λ e. absurd (omega (arith, z, lt, e));
        done = λ e. absurd (omega (arith, z, lt, e));
      };
    }
      where
        x : Line
        x = line Got kind-is.Message q k

        j₁ : Journals
        j₁ = written j a x

        got : Dues t a c (j₁ a)
        got = dues_got t a j here x refl

  -- the root owes nobody where it gives an order: nobody sends to it where it is watched, and elsewhere the order asks for it
  order_owes : Runs s t.root → (t.watch ≡ true → Empty (s.columns t.root).owed) → Empty (s.columns t.root).owed
  order_owes r free = ⊎_elim free (λ o. ((inv.locals t.root r).shuns o).root_owes refl) (truth t.watch)

  recorded_move : {s' : State} {e : Event} (m : Move t s s' e) → Onward e → AllSpread t s' → Recorded t s' (moved j m)
  unfolding gots puts all_got all_sent
  recorded_move (order d r idle free b) o sp = quiet b sp (λ _. record {
    owed_got = λ p m. absurd (order_owes r free p m);
    owed_open = λ p m. absurd (order_owes r free p m);
    served = λ y n w. let z = ((g.dues t.root r).served y n w).at_most in record {
      at_most = omega (arith, z);
      own = λ e. absurd (omega (arith, z, e));
      done = λ e. absurd (omega (arith, z, e));
    };
  })
  recorded_move (send_self a x r e m b) o sp = quiet b sp
      (λ _. dues_adjusted t a (g.dues a r) (λ p k. k) (ahead_fewer a r (λ y k. without_in (s.columns a).send x k) (λ y k. k)))
  recorded_move (send_noted a x r m n b) o sp = quiet b sp
      (λ _. dues_adjusted t a (g.dues a r) (λ p k. k) (ahead_children a r x (inl m)
      (λ y k. ⊎_elim (λ z. inl (without_in (s.columns a).send x z)) (λ z. inr z) (join_cases (without (s.columns a).send x) (children t x) k)) (λ y k. k)))
  recorded_move (send_message a x r e m n b) o sp = recorded_send a r x e m b sp
  recorded_move (take_acknowledgement a q k r e taken b) o sp =
      getting (Acknowledgement q a k) refl taken b sp
      (dues_got t a j (dues_adjusted t a (g.dues a r) (λ p m. m) (ahead_fewer a r (λ y m. m) (λ y m. without_in (s.columns a).awaited q m))) (line Got kind-is.Acknowledgement q k) refl)
  recorded_move (take_stale a q k r e taken b) o sp =
      getting (Acknowledgement q a k) refl taken b sp
      (dues_got t a j (g.dues a r) (line Got kind-is.Acknowledgement q k) refl)
  recorded_move {s'} (take_equal a q k d {l} r e taken b) o sp =
      subst (λ (y : ℕ). Recorded t s' (written j a (line Got kind-is.Message q y))) (sym e)
      (recorded_equal a r q d (subst (λ (y : ℕ). Taken s.network (Message q a y d) l) e taken) b
      sp)
  recorded_move (take_lower a q k d r lt taken b) o sp = recorded_lower a r q k d lt taken b sp
  recorded_move (take_left a q k d x r lt taken m b) o sp = acknowledging a r x m b sp
  recorded_move (take_higher a q k d r lt taken e b) o sp = recorded_higher a r q k d lt taken b sp
  recorded_move (acknowledge a x r m f b) o sp = acknowledging a r x m b sp
  recorded_move (widen a r n m w idle b) o sp = quiet b sp (λ _. record {
    owed_got = (g.dues a r).owed_got;
    owed_open = (g.dues a r).owed_open;
    served = λ q k h. let z = (g.dues a r).served q k h in record {
      at_most = z.at_most;
      own = λ _ f. absurd (true≢false f);
      done = λ e _. (refl, n, z.own e w);
    };
  })
  recorded_move (note_awaited a x r h n m b) o sp = quiet b sp
      (λ _. dues_adjusted t a (g.dues a r) (λ p k. k) (ahead_children a r x (inr m)
      (λ y k. join_cases (s.columns a).send (children t x) k) (λ y k. without_in (s.columns a).awaited x k)))
  recorded_move (note_other a x r h n m u b) o sp = quiet b sp
      (λ _. dues_adjusted t a (g.dues a r) (λ p k. k) (ahead_fewer a r (λ y k. k) (λ y k. k)))
  recorded_move (halt a r b) o sp = record {
    logged = logged_as b (logged_others g.logged a);
    dues = dues_each b (λ i n. refl) (λ h. absurd (true≢false (sym h)));
    spread = sp;
  }
  recorded_move (back j l noted rest h n nr r k b) o sp = absurd o

  pub recorded_kept : {s' : State} {e : Event} (m : Move t s s' e) → Onward e → Recorded t s' (moved j m)
  recorded_kept m o = recorded_move m o (spread_kept t tree inv g.spread m o)

-- ---- the fresh bank, and what Point 11 claims

pub recorded_fresh : (t : Tree) {s : State} → t.root < t.columns → Fresh t s → Recorded t s (λ i. [])
recorded_fresh t below f = record {
  logged = subst (λ (l : List Packet). Logged t.columns l (λ i. [])) (sym f.no_packet) (logged_none t.columns);
  dues = λ i h. subst (λ (c : Column). Dues t i c []) (sym (f.columns_fresh i ((fresh_invariant t f below).inside i h))) record {
    owed_got = λ p m. absurd (in_none m);
    owed_open = λ p m. absurd (in_none m);
    served = λ q k w. absurd (Memᴰ.not-nil w);
  };
  spread = spread_fresh t below f;
}

pub consistent : {t : Tree} {s : State} {j : Journals} → Recorded t s j → Consistent t.columns j
consistent g = record { proper = logged_proper g.logged; once = g.logged.once; heard = g.logged.heard }
