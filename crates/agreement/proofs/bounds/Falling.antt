-- The potential falls with each send, take, ack, all and note, and does not rise with a halt. Assumes nothing.
use Prim.Native.Nat.{ℕ, ◌+◌, ◌≤◌, ◌<◌}
use native.Mathlib.Omega.{arith}
use mathlib.Core.Path.{◌≡◌, refl, sym, ap, ap₂, subst, ◌∙◌}
use mathlib.Core.Logic.{◌≢◌, ⊎_elim, inl, inr}
use mathlib.Core.Bool.{Bool, true, false, not, ◌&&◌, true≢false}
use mathlib.Core.List.{List}
use lib.Dec.{ltb}
use borrow.Author.Tests.{lt-ltb, le-ltb, not-true}
use Rattle.column.specs.laws.Cases.{truth}
use Rattle.column.specs.Sets.{has, single, join, insert, without}
use Rattle.column.specs.laws.SetLaws.{member_lt}
use Rattle.column.specs.Trees.{IsTree, children}
use Rattle.column.specs.laws.SubtreeLaws.{Under, subtree_self, subtree_trans, child_in}
use Rattle.column.specs.declared.tree.Tree.{Tree}
use Rattle.column.specs.declared.state.Column.{Column}
use Rattle.column.specs.declared.packet.Packet.{Packet}
use Rattle.column.specs.declared.packet.Packet.TheVariants.{Message, Acknowledgement}
use Rattle.bank.specs.laws.NetworkLaws.{others}
use Rattle.agreement.proofs.relation.Model.{In, State, Runs, count, post, Taken, Becomes, taken_held}
use Rattle.agreement.proofs.relation.Move.{renewed, serving, owing, noting, halted}
use Rattle.agreement.proofs.relation.Members.{absent, in_none, in_single, insert_cases, insert_old, insert_new, without_in, without_other, join_cases, Below}
use Rattle.agreement.proofs.invariant.Invariant.{Invariant}
use Rattle.agreement.proofs.invariant.Adjusting.{adjusted}
use Rattle.agreement.proofs.invariant.Packets.{message_issued}
use Rattle.agreement.proofs.invariant.Validity.{Validity}
use Rattle.agreement.proofs.bounds.TokenLaws.{one}
use Rattle.agreement.proofs.bounds.SpreadLaws.{Spread, ToServe, to_send, to_await}
use Rattle.agreement.proofs.bounds.Cover.{is_below, below_true, true_below, cover, cover_serves, cover_passed, serves_cover}
use Rattle.agreement.proofs.bounds.Potential.{own_part, parts, potential, one_le, one_few, load_taken, load_post, load_others, Others, parts_le, parts_own, parts_other, debts_without, debts_with, potential_moves, falls}

-- below a child of j is below j
below_under : (t : Tree) → IsTree t → (j y q : ℕ) → j < t.columns → Under t j y × (Under t y j → ⊥) → Under t y q → Below t j q
below_under t tree j y q l k u = record { under = subtree_trans t tree j y q l k.0 u; other = λ e. k.1 (subst (Under t y) e u) }

-- smaller sets serve fewer
fewer : {t : Tree} {c c' : Column} → ((y : ℕ) → In c'.send y → In c.send y) → ((y : ℕ) → In c'.awaited y → In c.awaited y) →
    (q : ℕ) → ToServe t c' q → ToServe t c q
fewer f g q (to_send y m u) = to_send y (f y m) u
fewer f g q (to_await y m b) = to_await y (g y m) b

module _ (t : Tree) (tree : IsTree t) {s : State} (a : ℕ) (inv : Invariant t s) (ra : Runs s a) where
  abbrev c : Column
  c = s.columns a

  abbrev n : ℕ
  n = count s

  -- ---- the cover where the sets become others

  uncovered : (c' : Column) (q : ℕ) → (ToServe t c' q → ⊥) → cover t a c' q ≡ false
  uncovered c' q h = ⊎_elim (λ e. absurd (h (cover_serves t a c' q e))) (λ e. e) (truth (cover t a c' q))

  module _ (send awaited owed noted : ℕ) (f : (q : ℕ) → ToServe t (adjusted c send awaited owed noted) q → ToServe t c q)
      (g : (q : ℕ) → In c.noted q → In noted q) where
    abbrev c' : Column
    c' = adjusted c send awaited owed noted

    less : (q : ℕ) → cover t a c' q ≡ true → cover t a c q ≡ true
    less q e = serves_cover t a c q (inv.locals a ra) (f q (cover_serves t a c' q e)) (cover_passed t a c' q e)

    unnoted : (q : ℕ) → not (has noted q) ≡ true → not (has c.noted q) ≡ true
    unnoted q e = ap not (absent c.noted q (λ m. true≢false (sym (g q m).holds ∙ not-true (has noted q) e)))

    less_own : own_part t n a c' ≤ own_part t n a c
    less_own = omega (arith, one_le (cover t a c' a) (cover t a c a) (less a))

    less_others : Others t n a c c'
    less_others q e = omega (arith, one_le (cover t a c' q) (cover t a c q) (less q), one_le (not (has noted q)) (not (has c.noted q)) (unnoted q))

    less_parts : parts t n a c' ≤ parts t n a c
    less_parts = parts_le t n a c c' less_own less_others

  -- only who is owed changes, or nothing
  same_parts : (owed : ℕ) → parts t n a (owing c owed) ≤ parts t n a c
  same_parts owed = less_parts c.send c.awaited owed c.noted (fewer {c = c} {c' = owing c owed} (λ y z. z) (λ y z. z)) (λ q z. z)

  -- ---- packets and who is owed

  -- the acknowledgement of the present number to one who is owed: an ack, and a take that leaves its packet
  pub fall_answer : {s' : State} (r : ℕ) → Validity t s → In c.owed r →
      Becomes s s' a (owing c (without c.owed r)) (post s (Acknowledgement a r c.number) s.network) s.orders → potential t s' < potential t s
  fall_answer r st m b = falls t b (inv.inside a ra) ra ra (omega (
    arith,
    load_post s (Acknowledgement a r c.number) s.network,
    same_parts (without c.owed r),
    debts_without t c.owed r (member_lt t.columns c.owed r (st.each_valid a (inv.inside a ra)).owed m.holds) m,
  ))

  pub fall_acknowledgement : {s' : State} (q k : ℕ) {l : List Packet} → Taken s.network (Acknowledgement q a k) l →
      Becomes s s' a (serving c c.send (without c.awaited q)) l s.orders → potential t s' < potential t s
  fall_acknowledgement q k taken b = falls t b (inv.inside a ra) ra ra (omega (
    arith,
    load_taken taken,
    less_parts c.send (without c.awaited q) c.owed c.noted
        (fewer {c = c} {c' = serving c c.send (without c.awaited q)} (λ y z. z) (λ y z. without_in c.awaited q z)) (λ x z. z),
  ))

  pub fall_stale : {s' : State} (q k : ℕ) {l : List Packet} → Taken s.network (Acknowledgement q a k) l →
      Becomes s s' a c l s.orders → potential t s' < potential t s
  fall_stale q k taken b = falls t b (inv.inside a ra) ra ra (omega (arith, load_taken taken))

  pub fall_equal : {s' : State} (q k d : ℕ) {l : List Packet} → Taken s.network (Message q a k d) l →
      Becomes s s' a (owing c (insert c.owed q)) l s.orders → potential t s' < potential t s
  fall_equal q k d taken b = falls t b (inv.inside a ra) ra ra (omega (
    arith,
    load_taken taken,
    same_parts (insert c.owed q),
    debts_with t c.owed (insert c.owed q) q (λ x z. insert_cases c.owed q z),
  ))

  pub fall_lower : {s' : State} (q k d : ℕ) {l : List Packet} → Taken s.network (Message q a k d) l →
      Becomes s s' a c (post s (Acknowledgement a q k) l) s.orders → potential t s' < potential t s
  fall_lower q k d {l} taken b = falls t b (inv.inside a ra) ra ra (omega (arith, load_taken taken, load_post s (Acknowledgement a q k) l))

  -- ---- whom to serve

  module _ (w : Spread t a c) (x : ℕ) (m : In c.send x) where
    -- who is to be sent to is in the cover: a column that took over the bank does not send into its subtree
    covered : cover t a c x ≡ true
    covered = serves_cover t a c x (inv.locals a ra) (to_send x m (subtree_self t tree x)) (λ z. w.outside z.0 z.1 x (inl m) z.2)

    -- nobody else to serve has it in the subtree
    sent_alone : (y : ℕ) → In (without c.send x) y → Under t y x → ⊥
    sent_alone y k u = without_other c.send x k (sym (w.antichain y x (inl (without_in c.send x k)) (inl m) u))

    awaited_alone : (y : ℕ) → In c.awaited y → Below t y x → ⊥
    awaited_alone y k u = u.other (w.antichain y x (inr k) (inl m) u.under)

  pub fall_self : {s' : State} → Spread t a c → In c.send a →
      Becomes s s' a (serving c (without c.send a) c.awaited) s.network s.orders → potential t s' < potential t s
  fall_self w m b = falls t b (inv.inside a ra) ra ra (omega (
    arith,
    parts_own t n a c c' (inv.inside a ra) (omega (arith, ap one (covered w a m), ap one (uncovered c' a gone))) (less_others (without c.send a) c.awaited c.owed c.noted f (λ q z. z)),
  ))
    where
      c' : Column
      c' = serving c (without c.send a) c.awaited

      f : (q : ℕ) → ToServe t c' q → ToServe t c q
      f = fewer (λ y z. without_in c.send a z) (λ y z. z)

      gone : ToServe t c' a → ⊥
      gone (to_send y k u) = sent_alone w a m y k u
      gone (to_await y k u) = awaited_alone w a m y k u

  pub fall_noted : {s' : State} (x : ℕ) → Spread t a c → x ≢ a → In c.send x →
      Becomes s s' a (serving c (join (without c.send x) (children t x)) c.awaited) s.network s.orders → potential t s' < potential t s
  fall_noted x w ne m b = falls t b (inv.inside a ra) ra ra (omega (
    arith,
    parts_other t n a c c' 4 x ((inv.locals a ra).members x (inl m)) ne (omega (arith, ap one (covered w x m), ap one (uncovered c' x gone)))
        (less_own send c.awaited c.owed c.noted f (λ q z. z)) (less_others send c.awaited c.owed c.noted f (λ q z. z)),
  ))
    where
      send : ℕ
      send = join (without c.send x) (children t x)

      c' : Column
      c' = serving c send c.awaited

      f : (q : ℕ) → ToServe t c' q → ToServe t c q
      f q (to_send y k u) = ⊎_elim
          (λ z. to_send y (without_in c.send x z) u)
          (λ z. to_send x m (subtree_trans t tree x y q ((inv.locals a ra).members x (inl m)) (child_in t tree x y z.holds).0 u))
          (join_cases (without c.send x) (children t x) k)
      f q (to_await y k u) = to_await y k u

      gone : ToServe t c' x → ⊥
      gone (to_send y k u) = ⊎_elim (λ z. sent_alone w x m y z u) (λ z. (child_in t tree x y z.holds).1 u) (join_cases (without c.send x) (children t x) k)
      gone (to_await y k u) = awaited_alone w x m y k u

  pub fall_message : {s' : State} (x : ℕ) → Spread t a c → x ≢ a → In c.send x →
      Becomes s s' a (serving c (without c.send x) (insert c.awaited x)) (post s (Message a x c.number c.doors) s.network) s.orders →
      potential t s' < potential t s
  fall_message x w ne m b = falls t b (inv.inside a ra) ra ra (omega (
    arith,
    load_post s (Message a x c.number c.doors) s.network,
    parts_other t n a c c' 4 x ((inv.locals a ra).members x (inl m)) ne (omega (arith, ap one (covered w x m), ap one (uncovered c' x gone)))
        (less_own (without c.send x) (insert c.awaited x) c.owed c.noted f (λ q z. z))
        (less_others (without c.send x) (insert c.awaited x) c.owed c.noted f (λ q z. z)),
  ))
    where
      c' : Column
      c' = serving c (without c.send x) (insert c.awaited x)

      f : (q : ℕ) → ToServe t c' q → ToServe t c q
      f q (to_send y k u) = to_send y (without_in c.send x k) u
      f q (to_await y k u) = ⊎_elim (λ z. to_await y z u) (λ z. to_send x m (subst (λ (j : ℕ). Under t j q) z u.under)) (insert_cases c.awaited x k)

      gone : ToServe t c' x → ⊥
      gone (to_send y k u) = sent_alone w x m y k u
      gone (to_await y k u) = ⊎_elim (λ z. awaited_alone w x m y z u) (λ z. u.other (sym z)) (insert_cases c.awaited x k)

  -- ---- notes

  -- j, which is another, is noted now and was not
  fall_note : {s' : State} (j send awaited : ℕ) → j < t.columns → j ≢ a → (In c.noted j → ⊥) →
      ((q : ℕ) → ToServe t (noting c send awaited (insert c.noted j)) q → ToServe t c q) →
      Becomes s s' a (noting c send awaited (insert c.noted j)) s.network s.orders → potential t s' < potential t s
  fall_note j send awaited l ne new f b = falls t b (inv.inside a ra) ra ra (omega (
    arith,
    parts_other t n a c c' 1 j l ne
        (omega (
          arith,
          one_le (cover t a c' j) (cover t a c j) (less send awaited c.owed noted f g j),
          ap (λ (x : Bool). one (not x)) (absent c.noted j new),
          ap (λ (x : Bool). one (not x)) (insert_new c.noted j).holds,
        ))
        (less_own send awaited c.owed noted f g) (less_others send awaited c.owed noted f g),
  ))
    where
      noted : ℕ
      noted = insert c.noted j

      c' : Column
      c' = noting c send awaited noted

      g : (q : ℕ) → In c.noted q → In noted q
      g q z = insert_old c.noted j z

  other_halted : (j : ℕ) → ¬ Runs s j → j ≢ a
  other_halted j h e = h (subst (Runs s) (sym e) ra)

  pub fall_note_awaited : {s' : State} (j : ℕ) → j < t.columns → ¬ Runs s j → In c.awaited j →
      Becomes s s' a (noting c (join c.send (children t j)) (without c.awaited j) (insert c.noted j)) s.network s.orders →
      potential t s' < potential t s
  fall_note_awaited j l h m b =
      fall_note j (join c.send (children t j)) (without c.awaited j) l (other_halted j h) ((inv.locals a ra).apart j m) f b
    where
      f : (q : ℕ) → ToServe t (noting c (join c.send (children t j)) (without c.awaited j) (insert c.noted j)) q → ToServe t c q
      f q (to_send y k u) = ⊎_elim (λ z. to_send y z u)
          (λ z. to_await j m (below_under t tree j y q l (child_in t tree j y z.holds) u))
          (join_cases c.send (children t j) k)
      f q (to_await y k u) = to_await y (without_in c.awaited j k) u

  pub fall_note_other : {s' : State} (j : ℕ) → j < t.columns → ¬ Runs s j → ¬ In c.noted j →
      Becomes s s' a (noting c c.send c.awaited (insert c.noted j)) s.network s.orders → potential t s' < potential t s
  fall_note_other j l h new b = fall_note j c.send c.awaited l (other_halted j h) new
      (fewer {c = c} {c' = noting c c.send c.awaited (insert c.noted j)} (λ y z. z) (λ y z. z)) b

  -- ---- a higher number, a takeover, a halt

  pub fall_higher : {s' : State} (q k d : ℕ) {l : List Packet} → c.number < k → Taken s.network (Message q a k d) l →
      Becomes s s' a (renewed c k d (children t a) 0 (single q) false q) l s.orders → potential t s' < potential t s
  fall_higher q k d {l} lt taken b = falls t b (inv.inside a ra) ra ra (omega (
    arith,
    load_taken taken,
    debts_with t c.owed (single q) q (λ x z. inr (in_single q z)),
    parts_le t n a c c'
        (omega (arith, lag, lag', ap one (uncovered c' a (λ z. (inside a z).other refl))))
        (λ x e. omega (arith, lag, lag', one_le (cover t a c' x) (is_below t a x) (λ z. below_true t a x (inside x (cover_serves t a c' x z))), either (is_below t a x))),
  ))
    where
      c' : Column
      c' = renewed c k d (children t a) 0 (single q) false q

      k_given : k ≤ n
      k_given = (message_issued (inv.packets (Message q a k d) (taken_held taken))).at_most

      lag : one (ltb c.number n) ≡ 1
      lag = ap one (lt-ltb c.number n (omega (arith, k_given)))

      lag' : one (ltb k n) ≡ 0
      lag' = ap one (le-ltb k n (omega (arith, inv.near a ra)))

      inside : (x : ℕ) → ToServe t c' x → Below t a x
      inside x (to_send y m u) = below_under t tree a y x (inv.inside a ra) (child_in t tree a y m.holds) u
      inside x (to_await y m u) = absurd (in_none m)

      either : (z : Bool) → one z + one (not z) ≡ 1
      either true = refl
      either false = refl

  pub fall_widen : {s' : State} → a ≢ t.root → c.whole ≡ false →
      Becomes s s' a (renewed c c.number c.doors (single t.root) c.awaited c.owed true c.sender) s.network s.orders → potential t s' < potential t s
  fall_widen ne own b = falls t b (inv.inside a ra) ra ra (omega (
    arith,
    parts_own t n a c c' (inv.inside a ra) (omega (arith, one_few (cover t a c' a), ap (λ (x : Bool). one (not x)) own))
        (λ q e. omega (arith, one_le (cover t a c' q) (not c.whole && not (is_below t a q)) (still q))),
  ))
    where
      c' : Column
      c' = renewed c c.number c.doors (single t.root) c.awaited c.owed true c.sender

      still : (q : ℕ) → cover t a c' q ≡ true → (not c.whole && not (is_below t a q)) ≡ true
      still q e = ap₂ (λ (x y : Bool). not x && not y) own
          (⊎_elim (λ z. absurd (cover_passed t a c' q e (refl, ne, true_below t a q z))) (λ z. z) (truth (is_below t a q)))

  pub rise_halt : {s' : State} → Becomes s s' a (halted c) (others a s.network) s.orders → potential t s' ≤ potential t s
  rise_halt b = omega (arith, potential_moves t b (inv.inside a ra), load_others a s.network)
