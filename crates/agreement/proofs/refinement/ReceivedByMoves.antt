-- What the columns have received and whom the root awaits, by the moves, are the numbers and the root's awaited set of the state.
-- Assumes nothing.
use Prim.Native.Nat.{ℕ, suc, ◌<◌}
use native.Mathlib.Omega.{arith}
use mathlib.Core.Path.{◌≡◌, refl, sym, ap, ap₂, subst, ◌∙◌}
use mathlib.Core.Logic.{◌≢◌, ⊎_elim}
use mathlib.Core.Bool.{Bool, true, false, not, ◌&&◌, ◌||◌, cond, and-true, and-false}
use mathlib.Core.List.{List, ◌∷◌}
use lib.Dec.{eqb, ltb}
use borrow.Author.Tests.{eq-eqb, ne_eqb, lt-ltb, le-ltb}
use Rattle.column.specs.laws.Cases.{equal_cases}
use Rattle.column.specs.Sets.{has}
use Rattle.column.specs.laws.SetLaws.{has_insert, has_without, member_pos, no_members}
use Rattle.column.specs.declared.tree.Tree.{Tree}
use Rattle.column.specs.declared.state.Column.{Column}
use Rattle.column.specs.declared.packet.Packet.{Packet}
use Rattle.column.specs.declared.packet.Packet.TheVariants.{Message, Acknowledgement}
use Rattle.agreement.proofs.relation.Model.{In, State, count, Becomes}
use Rattle.agreement.proofs.relation.Move.{Event, orders, sends, takes, acknowledges, widens, notes, halts, backs, Move, order, send_self, send_noted, send_message, take_acknowledgement, take_stale, take_equal, take_lower, take_left, take_higher, acknowledge, widen, note_awaited, note_other, halt, back}
use Rattle.agreement.proofs.relation.Members.{absent}
use Rattle.agreement.proofs.invariant.Invariant.{number, Invariant}
use Rattle.agreement.proofs.invariant.InvariantCarried.{each}
use Rattle.agreement.proofs.invariant.Links.{receiver_other}
use Rattle.agreement.proofs.invariant.Serving.{self_root}
use Rattle.agreement.proofs.invariant.Validity.{Validity}
use Rattle.agreement.proofs.invariant.Still.{returned_each}

-- ---- by the moves

-- the orders accepted so far
abbrev pub orders_after : Event → List ℕ → List ℕ
orders_after (orders d) l = d ∷ l
orders_after (sends i x) l = l
orders_after (takes p o) l = l
orders_after (acknowledges i o) l = l
orders_after (widens i) l = l
orders_after (notes i j) l = l
orders_after (halts i) l = l
orders_after (backs j x) l = l

-- a number for column a, the others as before
abbrev pub updated : (ℕ → ℕ) → ℕ → ℕ → ℕ → ℕ
updated f a k j = cond (eqb j a) k (f j)

-- a message is left where its number is higher and someone is owed
abbrev pub leaves : State → ℕ → ℕ → Bool
leaves s a k = ltb (number s a) k && not (eqb (s.columns a).owed 0)

abbrev pub heard : State → Packet → (ℕ → ℕ) → ℕ → ℕ
heard s (Message q a k d) f j = cond (ltb (f a) k && not (leaves s a k)) (updated f a k j) (f j)
heard s (Acknowledgement q a k) f j = f j

-- the highest number that each column has received
abbrev pub received_after : Tree → State → Event → (ℕ → ℕ) → ℕ → ℕ
received_after t s (orders d) f j = updated f t.root (suc (count s)) j
received_after t s (sends i x) f j = f j
received_after t s (takes p o) f j = heard s p f j
received_after t s (acknowledges i o) f j = f j
received_after t s (widens i) f j = f j
received_after t s (notes i x) f j = f j
received_after t s (halts i) f j = f j
received_after t s (backs i x) f j = updated f i (f x) j

abbrev pub answered : Tree → State → Packet → (ℕ → Bool) → ℕ → Bool
answered t s (Message x a k d) g q = g q
answered t s (Acknowledgement x a k) g q = cond (eqb a t.root && eqb k (number s a)) (g q && not (eqb q x)) (g q)

-- whether the root awaits q
abbrev pub awaits_after : Tree → State → Event → (ℕ → Bool) → ℕ → Bool
awaits_after t s (orders d) g q = g q
awaits_after t s (sends i x) g q = cond (eqb i t.root && not (has (s.columns i).noted x)) (g q || eqb q x) (g q)
awaits_after t s (takes p o) g q = answered t s p g q
awaits_after t s (acknowledges i o) g q = g q
awaits_after t s (widens i) g q = g q
awaits_after t s (notes i x) g q = cond (eqb i t.root) (g q && not (eqb q x)) (g q)
awaits_after t s (halts i) g q = g q
awaits_after t s (backs j x) g q = g q

-- ---- a test once it is known

picked : {A : Type 0} (b : Bool) (x y : A) → b ≡ true → cond b x y ≡ x
picked b x y e = ap (λ (z : Bool). cond z x y) e

passed_over : {A : Type 0} (b : Bool) (x y : A) → b ≡ false → cond b x y ≡ y
passed_over b x y e = ap (λ (z : Bool). cond z x y) e

left_false : (a b : Bool) → a ≡ false → (a && b) ≡ false
left_false a b e = ap (λ (z : Bool). z && b) e

right_false : (a b : Bool) → b ≡ false → (a && b) ≡ false
right_false a b e = ap (λ (z : Bool). a && z) e ∙ and-false a

both_true : (a b : Bool) → a ≡ true → b ≡ true → (a && b) ≡ true
both_true a b e f = ap₂ (λ (x y : Bool). x && y) e f

-- ---- the numbers

module _ {t : Tree} {s : State} (inv : Invariant t s) (v : Validity t s) (f : ℕ → ℕ) (known : (j : ℕ) → number s j ≡ f j) where
  -- the moving column's number, and the others'
  numbers_are : {s' : State} {a : ℕ} {c : Column} {network : List Packet} {l : List ℕ} → Becomes s s' a c network l →
      (g : ℕ → ℕ) → c.number ≡ g a → ((j : ℕ) → j ≢ a → f j ≡ g j) → (j : ℕ) → number s' j ≡ g j
  numbers_are b g e o = each b (λ (j : ℕ) (x : Column). x.number ≡ g j) e (λ j n. known j ∙ o j n)

  numbers_stay : {s' : State} {a : ℕ} {c : Column} {network : List Packet} {l : List ℕ} → Becomes s s' a c network l →
      c.number ≡ number s a → (j : ℕ) → number s' j ≡ f j
  numbers_stay {a = a} b e = numbers_are b f (e ∙ known a) (λ j n. refl)

  unheard : {s' : State} {a : ℕ} {c : Column} {network : List Packet} {l : List ℕ} → Becomes s s' a c network l →
      c.number ≡ number s a → (q k d : ℕ) → (ltb (f a) k && not (leaves s a k)) ≡ false → (j : ℕ) → number s' j ≡ heard s (Message q a k d) f j
  unheard {a = a} b e q k d fails j = numbers_stay b e j ∙ sym (passed_over (ltb (f a) k && not (leaves s a k)) (updated f a k j) (f j) fails)

  not_higher : (a k : ℕ) → ¬ (number s a < k) → (ltb (f a) k && not (leaves s a k)) ≡ false
  not_higher a k n = left_false (ltb (f a) k) (not (leaves s a k)) (le-ltb (f a) k (omega (arith, known a)))

  pub received_after_lem : {s' : State} {e : Event} → Move t s s' e → (j : ℕ) → number s' j ≡ received_after t s e f j
  received_after_lem (order d r idle free b) =
      let g : ℕ → ℕ = updated f t.root (suc (count s)) in
      numbers_are b g
      (omega (arith, inv.root_newest r) ∙ sym (picked (eqb t.root t.root) (suc (count s)) (f t.root) (eq-eqb t.root t.root refl)))
      (λ j n. sym (passed_over (eqb j t.root) (suc (count s)) (f j) (ne_eqb j t.root n)))
  received_after_lem (send_self a x r e m b) = numbers_stay b refl
  received_after_lem (send_noted a x r m n b) = numbers_stay b refl
  received_after_lem (send_message a x r e m n b) = numbers_stay b refl
  received_after_lem (take_acknowledgement a q k r e taken b) = numbers_stay b refl
  received_after_lem (take_stale a q k r e taken b) = numbers_stay b refl
  received_after_lem (take_equal a q k d r e taken b) = unheard b refl q k d (not_higher a k (λ l. omega (arith, e)))
  received_after_lem (take_lower a q k d r lt taken b) = unheard b refl q k d (not_higher a k (λ l. omega arith))
  received_after_lem (take_left a q k d x r lt taken m b) =
      let o = (s.columns a).owed in
      let some : eqb o 0 ≡ false = ne_eqb o 0 (λ z. omega (arith, member_pos o x m.holds)) in
      let left : leaves s a k ≡ true = both_true (ltb (number s a) k) (not (eqb o 0)) (lt-ltb (number s a) k lt) (ap not some) in
      unheard b refl q k d (right_false (ltb (f a) k) (not (leaves s a k)) (ap not left))
  received_after_lem (take_higher a q k d r lt taken e b) =
      let o = (s.columns a).owed in
      let none : o ≡ 0 = no_members t.columns o (v.each_valid a (inv.inside a r)).owed (λ i h. absent o i (e i)) in
      let stays : leaves s a k ≡ false = right_false (ltb (number s a) k) (not (eqb o 0)) (ap not (eq-eqb o 0 none)) in
      let hears : (ltb (f a) k && not (leaves s a k)) ≡ true =
      both_true (ltb (f a) k) (not (leaves s a k)) (lt-ltb (f a) k (subst (λ (x : ℕ). x < k) (known a) lt)) (ap not stays) in
      λ j. numbers_are b (updated f a k) (sym (picked (eqb a a) k (f a) (eq-eqb a a refl)))
      (λ i n. sym (passed_over (eqb i a) k (f i) (ne_eqb i a n))) j
      ∙ sym (picked (ltb (f a) k && not (leaves s a k)) (updated f a k j) (f j) hears)
  received_after_lem (acknowledge a x r m o b) = numbers_stay b refl
  received_after_lem (widen a r n m w idle b) = numbers_stay b refl
  received_after_lem (note_awaited a j r h n m b) = numbers_stay b refl
  received_after_lem (note_other a j r h n m u b) = numbers_stay b refl
  received_after_lem (halt a r b) = numbers_stay b refl
  received_after_lem (back i l noted rest h n nr r k b) =
      returned_each b (λ (j : ℕ) (x : Column). x.number ≡ updated f i (f l) j)
      (known l ∙ sym (picked (eqb i i) (f l) (f i) (eq-eqb i i refl)))
      (λ j ne _. known j ∙ sym (passed_over (eqb j i) (f l) (f j) (ne_eqb j i ne)))
      (λ j ne _. known j ∙ sym (passed_over (eqb j i) (f l) (f j) (ne_eqb j i ne)))

-- ---- whom the root awaits

module _ {t : Tree} {s : State} (inv : Invariant t s) (g : ℕ → Bool) (known : (q : ℕ) → has (s.columns t.root).awaited q ≡ g q) where
  at_root : (a : ℕ) → a ≡ t.root → (q : ℕ) → has (s.columns a).awaited q ≡ g q
  at_root a e q = ap (λ (x : ℕ). has (s.columns x).awaited q) e ∙ known q

  awaits_are : {s' : State} {a : ℕ} {c : Column} {network : List Packet} {l : List ℕ} → Becomes s s' a c network l →
      (w : ℕ → Bool) → (a ≡ t.root → (q : ℕ) → has c.awaited q ≡ w q) → (a ≢ t.root → (q : ℕ) → g q ≡ w q) →
      (q : ℕ) → has (s'.columns t.root).awaited q ≡ w q
  awaits_are b w mine other = each b (λ (j : ℕ) (x : Column). j ≡ t.root → (q : ℕ) → has x.awaited q ≡ w q) mine
      (λ j n e q. at_root j e q ∙ other (λ z. n (e ∙ sym z)) q) t.root refl

  awaits_stay : {s' : State} {a : ℕ} {c : Column} {network : List Packet} {l : List ℕ} → Becomes s s' a c network l →
      (a ≡ t.root → (q : ℕ) → has c.awaited q ≡ has (s.columns a).awaited q) → (q : ℕ) → has (s'.columns t.root).awaited q ≡ g q
  awaits_stay {a = a} b same = awaits_are b g (λ e q. same e q ∙ at_root a e q) (λ n q. refl)

  -- where `test` says that the root acts, it awaits as `now` says
  awaits_change : {s' : State} {a : ℕ} {c : Column} {network : List Packet} {l : List ℕ} → Becomes s s' a c network l →
      (test : Bool) (now : ℕ → Bool) → (a ≡ t.root → test ≡ true) → (a ≢ t.root → test ≡ false) →
      (a ≡ t.root → (q : ℕ) → has c.awaited q ≡ now q) → (q : ℕ) → has (s'.columns t.root).awaited q ≡ cond test (now q) (g q)
  awaits_change b test now acts rests mine = awaits_are b (λ q. cond test (now q) (g q))
      (λ e q. mine e q ∙ sym (picked test (now q) (g q) (acts e))) (λ n q. sym (passed_over test (now q) (g q) (rests n)))

  -- where `test` fails
  awaits_skip : {s' : State} {a : ℕ} {c : Column} {network : List Packet} {l : List ℕ} → Becomes s s' a c network l →
      (test : Bool) (now : ℕ → Bool) → test ≡ false →
      (a ≡ t.root → (q : ℕ) → has c.awaited q ≡ has (s.columns a).awaited q) →
      (q : ℕ) → has (s'.columns t.root).awaited q ≡ cond test (now q) (g q)
  awaits_skip b test now fails same q = awaits_stay b same q ∙ sym (passed_over test (now q) (g q) fails)

  struck : (a x : ℕ) → a ≡ t.root → (q : ℕ) → (has (s.columns a).awaited q && not (eqb q x)) ≡ (g q && not (eqb q x))
  struck a x e q = ap (λ (b : Bool). b && not (eqb q x)) (at_root a e q)

  -- nobody is struck out who is no member
  struck_none : (m x q : ℕ) → ¬ In m x → has m q ≡ (has m q && not (eqb q x))
  struck_none m x q n = ⊎_elim
      (λ e. absent m q (λ k. n (subst (In m) e k)) ∙ sym (left_false (has m q) (not (eqb q x)) (absent m q (λ k. n (subst (In m) e k)))))
      (λ e. sym (ap (λ (b : Bool). has m q && not b) (ne_eqb q x e) ∙ and-true (has m q)))
      (equal_cases q x)

  pub awaits_after_lem : {s' : State} {e : Event} → Move t s s' e → (q : ℕ) → has (s'.columns t.root).awaited q ≡ awaits_after t s e g q
  awaits_after_lem (order d r idle free b) = awaits_stay b (λ e q. refl)
  awaits_after_lem (send_self a x r e m b) =
      let other : a ≢ t.root = self_root t a inv r (subst (In (s.columns a).send) e m) in
      awaits_skip b (eqb a t.root && not (has (s.columns a).noted x)) (λ q. g q || eqb q x)
      (left_false (eqb a t.root) (not (has (s.columns a).noted x)) (ne_eqb a t.root other)) (λ z. absurd (other z))
  awaits_after_lem (send_noted a x r m n b) =
      awaits_skip b (eqb a t.root && not (has (s.columns a).noted x)) (λ q. g q || eqb q x)
      (right_false (eqb a t.root) (not (has (s.columns a).noted x)) (ap not n.holds)) (λ z q. refl)
  awaits_after_lem (send_message a x r e m n b) =
      awaits_change b (eqb a t.root && not (has (s.columns a).noted x)) (λ q. g q || eqb q x)
      (λ z. both_true (eqb a t.root) (not (has (s.columns a).noted x)) (eq-eqb a t.root z) (ap not (absent (s.columns a).noted x n)))
      (λ z. left_false (eqb a t.root) (not (has (s.columns a).noted x)) (ne_eqb a t.root z))
      (λ z q. has_insert (s.columns a).awaited x q ∙ ap (λ (y : Bool). y || eqb q x) (at_root a z q))
  awaits_after_lem (take_acknowledgement a x k r e taken b) =
      awaits_change b (eqb a t.root && eqb k (number s a)) (λ q. g q && not (eqb q x))
      (λ z. both_true (eqb a t.root) (eqb k (number s a)) (eq-eqb a t.root z) (eq-eqb k (number s a) e))
      (λ z. left_false (eqb a t.root) (eqb k (number s a)) (ne_eqb a t.root z))
      (λ z q. has_without (s.columns a).awaited x q ∙ struck a x z q)
  awaits_after_lem (take_stale a x k r e taken b) =
      awaits_skip b (eqb a t.root && eqb k (number s a)) (λ q. g q && not (eqb q x))
      (right_false (eqb a t.root) (eqb k (number s a)) (ne_eqb k (number s a) e)) (λ z q. refl)
  awaits_after_lem (take_equal a q k d r e taken b) = awaits_stay b (λ z y. refl)
  awaits_after_lem (take_lower a q k d r lt taken b) = awaits_stay b (λ z y. refl)
  awaits_after_lem (take_left a q k d x r lt taken m b) = awaits_stay b (λ z y. refl)
  awaits_after_lem (take_higher a q k d r lt taken e b) =
      awaits_stay b (λ z. absurd (receiver_other t inv a r lt taken z))
  awaits_after_lem (acknowledge a x r m o b) = awaits_stay b (λ z y. refl)
  awaits_after_lem (widen a r n m w idle b) = awaits_stay b (λ z y. refl)
  awaits_after_lem (note_awaited a x r h n m b) =
      awaits_change b (eqb a t.root) (λ q. g q && not (eqb q x)) (eq-eqb a t.root) (ne_eqb a t.root)
      (λ z q. has_without (s.columns a).awaited x q ∙ struck a x z q)
  awaits_after_lem (note_other a x r h n m u b) =
      awaits_change b (eqb a t.root) (λ q. g q && not (eqb q x)) (eq-eqb a t.root) (ne_eqb a t.root)
      (λ z q. struck_none (s.columns a).awaited x q m ∙ struck a x z q)
  awaits_after_lem (halt a r b) = awaits_stay b (λ z q. refl)
  awaits_after_lem (back j l noted rest h n nr r k b) =
      λ q. returned_each b (λ (i : ℕ) (c : Column). i ≡ t.root → has c.awaited q ≡ g q) (λ e. absurd (nr e)) (λ i _ _ e. at_root i e q)
      (λ i _ _ e. at_root i e q) t.root refl
