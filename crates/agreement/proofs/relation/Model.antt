-- The bank as the argument sees it: a column for each number, the packets under way, and the doors of the accepted orders.
use Prim.Native.Nat.{ℕ}
use mathlib.Core.Path.{◌≡◌, refl, sym, ap, ◌∙◌}
use mathlib.Core.Logic.{◌≢◌, ⊎_elim, ◌⊎◌, inl, inr}
use mathlib.Core.Bool.{true, cond, Bool, false, true≢false}
use mathlib.Core.List.Memᴰ
use mathlib.Core.List.{List, [], ◌∷◌, ◌++◌, Memᴰ}
use lib.ListN.{length}
use lib.Dec.{eqb}
use borrow.Author.Tests.{eq-eqb, eqb-true}
use Rattle.column.specs.Sets.{has}
use Rattle.column.specs.Packets.{receiver}
use Rattle.column.specs.declared.state.Column.{Column}
use Rattle.column.specs.declared.packet.Packet.{Packet}
use Rattle.bank.specs.laws.NetworkLaws.{others}

-- `In m q`: q is a member of the set m. A record, so that m and q can be read off it.
pub record In (m q : ℕ) : Type 0 where
  pub holds : has m q ≡ true

abbrev pub Empty : ℕ → Type 0
Empty m = (q : ℕ) → In m q → ⊥

-- a column that is none of the bank's does not run; the newest order is the first of its list
pub record State : Type 0 where
  pub columns : ℕ → Column
  pub network : List Packet
  pub orders : List ℕ

abbrev pub Runs : State → ℕ → Type 0
Runs s i = (s.columns i).running ≡ true

abbrev pub count : State → ℕ
count s = length s.orders

-- "A packet to a halted column is never put"
unfoldable pub post : State → Packet → List Packet → List Packet
post s p l = cond (s.columns (receiver p)).running (l ++ p ∷ []) l

-- `Taken l p l'`: l' is l without the packet p of some place
pub data Taken : List Packet → Packet → List Packet → Type 0 where
  first : {p : Packet} {l : List Packet} → Taken (p ∷ l) p l
  later : {p q : Packet} {l l' : List Packet} → Taken l p l' → Taken (q ∷ l) p (q ∷ l')

-- only column a differs: it becomes c; the network becomes `network`, the orders `orders`
pub record Becomes (s s' : State) (a : ℕ) (c : Column) (network : List Packet) (orders : List ℕ) : Type 0 where
  pub mine : s'.columns a ≡ c
  pub same : (j : ℕ) → j ≢ a → s'.columns j ≡ s.columns j
  pub packets : s'.network ≡ network
  pub told : s'.orders ≡ orders

abbrev pub Holds : List Packet → Packet → Type 0
Holds l p = Memᴰ p l

pub holds_none : {p : Packet} → Holds [] p → ⊥
holds_none h = Memᴰ.not-nil h

-- ---- a packet is taken

pub taken_held : {l l' : List Packet} {p : Packet} → Taken l p l' → Holds l p
taken_held first = Memᴰ.head refl
taken_held (later t) = Memᴰ.tail (taken_held t)

pub taken_back : {l l' : List Packet} {p r : Packet} → Taken l p l' → Holds l' r → Holds l r
taken_back first h = Memᴰ.tail h
taken_back (later t) h = ⊎_elim (λ e. Memᴰ.head e) (λ k. Memᴰ.tail (taken_back t k)) (Memᴰ.cases_cons h)

pub taken_cases : {l l' : List Packet} {p r : Packet} → Taken l p l' → Holds l r → Holds l' r ⊎ (r ≡ p)
taken_cases first h = ⊎_elim (λ e. inr e) (λ k. inl k) (Memᴰ.cases_cons h)
taken_cases (later t) h =
    ⊎_elim (λ e. inl (Memᴰ.head e)) (λ k. ⊎_elim (λ z. inl (Memᴰ.tail z)) (λ e. inr e) (taken_cases t k)) (Memᴰ.cases_cons h)

pub taken_keeps : {l l' : List Packet} {p r : Packet} → Taken l p l' → Holds l r → r ≢ p → Holds l' r
taken_keeps t h n = ⊎_elim (λ k. k) (λ e. absurd (n e)) (taken_cases t h)

-- ---- a packet is put, where its receiver runs

module _ (p : Packet) (l : List Packet) where
  put_cases : (b : Bool) {r : Packet} → Holds (cond b (l ++ p ∷ []) l) r → Holds l r ⊎ ((r ≡ p) × (b ≡ true))
  put_cases true h = ⊎_elim (λ k. inl k) (λ k. inr (Memᴰ.eq_of_singleton k, refl)) (Memᴰ.append_cases l h)
  put_cases false h = inl h

  put_old : (b : Bool) {r : Packet} → Holds l r → Holds (cond b (l ++ p ∷ []) l) r
  put_old true h = Memᴰ.append_left (p ∷ []) h
  put_old false h = h

  put_new : (b : Bool) → b ≡ true → Holds (cond b (l ++ p ∷ []) l) p
  put_new true e = Memᴰ.append_right l (Memᴰ.head refl)
  put_new false e = absurd (true≢false (sym e))

module _ (s : State) (p : Packet) (l : List Packet) where
  pub post_cases : {r : Packet} → Holds (post s p l) r → Holds l r ⊎ ((r ≡ p) × Runs s (receiver p))
  unfolding post
  post_cases h = put_cases p l (s.columns (receiver p)).running h

  pub post_old : {r : Packet} → Holds l r → Holds (post s p l) r
  unfolding post
  post_old h = put_old p l (s.columns (receiver p)).running h

  pub post_new : Runs s (receiver p) → Holds (post s p l) p
  unfolding post
  post_new h = put_new p l (s.columns (receiver p)).running h

-- ---- the packets to a column are gone

module _ (i : ℕ) where
  other_cases : (b : Bool) (p r : Packet) (l : List Packet) → Holds (cond b l (p ∷ l)) r → ((r ≡ p) × (b ≡ false)) ⊎ Holds l r
  other_cases true p r l h = inr h
  other_cases false p r l h = ⊎_elim (λ e. inl (e, refl)) (λ k. inr k) (Memᴰ.cases_cons h)

  other_old : (b : Bool) {r : Packet} (p : Packet) (l : List Packet) → Holds l r → Holds (cond b l (p ∷ l)) r
  other_old true p l h = h
  other_old false p l h = Memᴰ.tail h

  other_head : (b : Bool) {r : Packet} (p : Packet) (l : List Packet) → (b ≡ true → ⊥) → r ≡ p → Holds (cond b l (p ∷ l)) r
  other_head true p l n e = absurd (n refl)
  other_head false p l n e = Memᴰ.head e

  pub others_back : {r : Packet} (l : List Packet) → Holds (others i l) r → Holds l r
  unfolding others
  others_back [] h = h
  others_back {r} (p ∷ l) h =
      ⊎_elim (λ z. Memᴰ.head z.0) (λ k. Memᴰ.tail (others_back l k)) (other_cases (eqb (receiver p) i) p r (others i l) h)

  pub others_keep : {r : Packet} (l : List Packet) → receiver r ≢ i → Holds l r → Holds (others i l) r
  unfolding others
  others_keep l n (Memᴰ.head {x} {xs} e) =
      other_head (eqb (receiver x) i) x (others i xs) (λ h. n (ap receiver e ∙ eqb-true (receiver x) i h)) e
  others_keep l n (Memᴰ.tail {x} {xs} h) = other_old (eqb (receiver x) i) x (others i xs) (others_keep xs n h)

  pub others_receiver : {r : Packet} (l : List Packet) → Holds (others i l) r → receiver r ≢ i
  unfolding others
  others_receiver [] h e = holds_none h
  others_receiver {r} (p ∷ l) h e =
      ⊎_elim (λ z. true≢false (sym (eq-eqb (receiver p) i (sym (ap receiver z.0) ∙ e)) ∙ z.1)) (λ k. others_receiver l k e)
      (other_cases (eqb (receiver p) i) p r (others i l) h)
