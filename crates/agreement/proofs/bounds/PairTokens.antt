-- What carries the tokens of a pair over a move: of a column that keeps its number, and of one whose number rises. Assumes nothing.
use Prim.Native.Nat.{ℕ, zero, suc, ◌+◌, ◌≤◌, ◌<◌}
use native.Mathlib.Omega.{arith}
use mathlib.Core.Path.{◌≡◌, refl, sym, ◌∙◌, ap}
use mathlib.Core.Logic.{◌≢◌, ◌⊎◌, ⊎_elim, inl, inr}
use mathlib.Core.Bool.{Bool, true, false, ◌&&◌, ◌||◌, not}
use mathlib.Core.List.{List}
use lib.Dec.{eqb, ltb}
use borrow.Author.Tests.{eqb-true, ltb-true, lt-ltb, eq-eqb, ne_eqb}
use Rattle.column.specs.Sets.{has, without, insert, single}
use Rattle.column.specs.laws.SetLaws.{has_without, has_insert, has_single}
use Rattle.column.specs.declared.tree.Tree.{Tree}
use Rattle.column.specs.declared.state.Column.{Column}
use Rattle.column.specs.declared.packet.Packet.{Packet}
use Rattle.column.specs.declared.packet.Packet.TheVariants.{Message, Acknowledgement}
use Rattle.bank.specs.laws.NetworkLaws.{others}
use Rattle.agreement.proofs.relation.Model.{In, State, Runs, count, post, Taken, Becomes}
use Rattle.agreement.proofs.relation.Members.{Below}
use Rattle.agreement.proofs.bounds.TokenLaws.{one, tokens, any, stale, current, ahead, tokens_under, tokens_split, many, between, owes, many_taken, many_post, many_others, one_swap, tokens_become}
use Rattle.agreement.proofs.bounds.SpreadLaws.{ToServe, to_send, to_await}
use Rattle.agreement.proofs.bounds.Bounded.{PairTokens}
use Rattle.agreement.proofs.relation.Move.{owing, halted}

-- ---- column p becomes c' and keeps its number

-- the root does not run again, and orders nothing once it is halted
abbrev pub Halts : Tree → State → State → Type 0
Halts t s s' = ¬ Runs s t.root → (¬ Runs s' t.root) × (count s' ≡ count s)

pub record Carries (t : Tree) (s s' : State) (p : ℕ) (c c' : Column) (q : ℕ) : Type 0 where
  pub same : c'.number ≡ c.number
  pub holds : 0 < tokens (current c.number) s' p q → In c.awaited q → In c'.awaited q ⊎ In c'.noted q
  pub notes : In c.noted q → In c'.noted q
  pub goal : c'.whole ≡ false → c.whole ≡ false
  pub serves : 0 < tokens (current c.number) s p q → ToServe t c' q →
      (ToServe t c q × (c.whole ≡ true → c'.whole ≡ true)) ⊎ ((c'.whole ≡ true) × (p ≢ t.root) × Below t p q)

module _ {t : Tree} {s s' : State} {p q : ℕ} {c c' : Column} where
  pub carry : Halts t s s' → ((f : ℕ → Bool) → tokens f s' p q ≤ tokens f s p q) → Carries t s s' p c c' q → PairTokens t s p c q → PairTokens t s' p c' q
  carry halts falls k old = record {
    none_ahead = rw k.same (omega (arith, old.none_ahead, falls (ahead c.number)));
    one_current = rw k.same (omega (arith, old.one_current, falls (current c.number)));
    current_held = rw k.same (λ h. ⊎_elim (k.holds h) (λ m. inr (k.notes m)) (old.current_held (before h)));
    one_stale = rw k.same (λ n. omega (arith, old.one_stale n, falls (stale c.number)));
    stale_held = rw k.same (λ n h. ⊎_elim
        (λ z. inl (k.notes z.0, omega (arith, z.1, falls (current c.number))))
        (λ z. inr ((halts z.0).0, z.1 ∙ sym (halts z.0).1))
        (old.stale_held n (omega (arith, h, falls (stale c.number)))));
    current_own = rw k.same (λ h w. old.current_own (before h) (k.goal w));
    current_served = λ h w.
        let h' : 0 < tokens (current c.number) s p q = before (rw k.same at h) in
        ⊎_elim (λ z. let r = old.current_served h' z.0 in (z.1 r.0, r.1, r.2)) (λ z. z) (k.serves h' w);
  }
    where
      before : 0 < tokens (current c.number) s' p q → 0 < tokens (current c.number) s p q
      before h = omega (arith, h, falls (current c.number))

-- the sets may lose members that are to be served
pub fewer : {t : Tree} {s s' : State} {p q : ℕ} {c c' : Column} → c'.number ≡ c.number → ((y : ℕ) → In c'.send y → In c.send y) →
    ((y : ℕ) → In c'.awaited y → In c.awaited y) → c'.whole ≡ c.whole →
    (0 < tokens (current c.number) s' p q → In c.awaited q → In c'.awaited q ⊎ In c'.noted q) →
    (In c.noted q → In c'.noted q) → Carries t s s' p c c' q
fewer {t} {s} {s'} {p} {q} {c} {c'} same sends awaits goal holds notes = record {
  same = same;
  holds = holds;
  notes = notes;
  goal = λ w. sym goal ∙ w;
  serves = λ h w. inl (go w, λ z. goal ∙ z);
}
  where
    go : ToServe t c' q → ToServe t c q
    go (to_send y m u) = to_send y (sends y m) u
    go (to_await y m u) = to_await y (awaits y m) u

-- ---- the number of column p rises

module _ (m n : ℕ) (less : m < n) (k : ℕ) where
  ahead_ahead : one (ahead n k) ≤ one (ahead m k)
  ahead_ahead = go (ltb n k) refl
    where
      go : (b : Bool) → ltb n k ≡ b → one b ≤ one (ltb m k)
      go true e = rw (lt-ltb m k (omega (arith, ltb-true n k e))) (omega arith)
      go false e = omega arith

  current_ahead : one (current n k) ≤ one (ahead m k)
  current_ahead = go (eqb k n) refl
    where
      go : (b : Bool) → eqb k n ≡ b → one b ≤ one (ltb m k)
      go true e = rw (lt-ltb m k (omega (arith, eqb-true k n e))) (omega arith)
      go false e = omega arith

one_any : (b : Bool) → one b ≤ one true
one_any true = omega arith
one_any false = omega arith

pub zero_cases : (x : ℕ) → (x ≡ 0) ⊎ (0 < x)
zero_cases zero = inl refl
zero_cases (suc x) = inr (omega arith)

module _ {t : Tree} {s : State} (s' : State) {p q : ℕ} {c : Column} (c' : Column) (falls : (f : ℕ → Bool) → tokens f s' p q ≤ tokens f s p q)
    (less : c.number < c'.number) (old : PairTokens t s p c q) where
  pub risen_current : tokens (current c'.number) s' p q ≡ 0
  risen_current = omega (arith, falls (current c'.number), tokens_under (current c'.number) (ahead c.number) (current_ahead c.number c'.number less) s p q, old.none_ahead)

  pub risen_stale : tokens (stale c'.number) s' p q ≤ tokens (stale c.number) s p q + tokens (current c.number) s p q
  risen_stale = omega (arith, falls (stale c'.number), tokens_under (stale c'.number) any (λ k. one_any (stale c'.number k)) s p q, tokens_split c.number s p q, old.none_ahead)

  pub rise : (In c.noted q → In c'.noted q) → ((¬ Runs s t.root) → c.number ≡ count s → ⊥) →
      (q ≢ t.root → In c.awaited q → (¬ Runs s' t.root) × (c'.number ≡ count s')) → PairTokens t s' p c' q
  rise notes last awaits = record {
    none_ahead = omega (arith, falls (ahead c'.number), tokens_under (ahead c'.number) (ahead c.number) (ahead_ahead c.number c'.number less) s p q, old.none_ahead);
    one_current = omega (arith, risen_current);
    current_held = λ h. absurd (omega (arith, h, risen_current));
    one_stale = λ x. omega (arith, risen_stale, mixed x);
    stale_held = λ x h. ⊎_elim (λ z. inl (notes z, risen_current)) (λ z. inr z) (held x (omega (arith, h, risen_stale)));
    current_own = λ h. absurd (omega (arith, h, risen_current));
    current_served = λ h. absurd (omega (arith, h, risen_current));
  }
    where
      noted : q ≢ t.root → 0 < tokens (stale c.number) s p q → In c.noted q × (tokens (current c.number) s p q ≡ 0)
      noted x h = ⊎_elim (λ z. z) (λ z. absurd (last z.0 z.1)) (old.stale_held x h)

      mixed : q ≢ t.root → tokens (stale c.number) s p q + tokens (current c.number) s p q ≤ 1
      mixed x = ⊎_elim (λ z. omega (arith, z, old.one_current)) (λ h. omega (arith, (noted x h).1, old.one_stale x)) (zero_cases (tokens (stale c.number) s p q))

      held : q ≢ t.root → 0 < tokens (stale c.number) s p q + tokens (current c.number) s p q →
          In c.noted q ⊎ ((¬ Runs s' t.root) × (c'.number ≡ count s'))
      held x h = ⊎_elim
          (λ z. ⊎_elim (λ w. inr (awaits x w)) (λ w. inl w) (old.current_held (omega (arith, z, h))))
          (λ z. inl (noted x z).0) (zero_cases (tokens (stale c.number) s p q))

-- no pair has more tokens than before, of whatever numbers
abbrev pub Falls : State → State → Type 0
Falls s s' = (f : ℕ → Bool) (p q : ℕ) → tokens f s' p q ≤ tokens f s p q

-- ---- tests

owed_more : (r h e g : Bool) → one (r && ((h || e) && g)) ≤ one (e && (true && g)) + one (r && (h && g))
owed_more true true true g = omega arith
owed_more true true false g = omega arith
owed_more true false true g = omega arith
owed_more true false false g = omega arith
owed_more false h e g = omega arith

owed_one : (r e g : Bool) → one (r && (e && g)) ≤ one (e && (true && g))
owed_one true true g = omega arith
owed_one true false g = omega arith
owed_one false e g = omega arith

-- one who is owed, e, is struck out and acknowledged
owed_less : (h e g : Bool) → (e ≡ true → h ≡ true) → one (true && (e && g)) + one (true && ((h && not e) && g)) ≤ one (true && (h && g))
owed_less true true g f = omega arith
owed_less true false g f = omega arith
owed_less false true g f = absurd (let z : ◌≡◌ {A = ℕ} 0 1 = ap one (f refl) in omega arith)
owed_less false false g f = omega arith

module _ (s : State) (a : ℕ) where
  abbrev c : Column
  c = s.columns a

  pub fall_quiet : {s' : State} {c' : Column} {orders : List ℕ} → Becomes s s' a c' s.network orders → ((f : ℕ → Bool) (p : ℕ) → one (owes f p c') ≤ one (owes f p c)) → Falls s s'
  fall_quiet b h f p = tokens_become b f p (λ (q n : ℕ). n ≤ tokens f s p q) (omega (arith, h f p)) (λ q n. omega arith)

  -- a packet to a is taken
  pub fall_taken : {s' : State} {c' : Column} {orders : List ℕ} {x : Packet} {l : List Packet} → Taken s.network x l → Becomes s s' a c' l orders →
      ((f : ℕ → Bool) (p : ℕ) → one (owes f p c') ≤ one (between f p a x) + one (owes f p c)) → Falls s s'
  fall_taken k b h f p = tokens_become b f p (λ (q n : ℕ). n ≤ tokens f s p q)
      (omega (arith, h f p, many_taken (between f p a) k)) (λ q n. omega (arith, many_taken (between f p q) k))

  pub fall_halt : {s' : State} {orders : List ℕ} → Becomes s s' a (halted c) (others a s.network) orders → Falls s s'
  fall_halt b f p = tokens_become b f p (λ (q n : ℕ). n ≤ tokens f s p q)
      (omega (arith, many_others (between f p a) a s.network)) (λ q n. omega (arith, many_others (between f p q) a s.network))

  -- a message is answered at once
  pub fall_lower : {s' : State} {orders : List ℕ} (q k d : ℕ) {l : List Packet} → Taken s.network (Message q a k d) l →
      Becomes s s' a c (post s (Acknowledgement a q k) l) orders → Falls s s'
  fall_lower q k d {l} taken b f p = tokens_become b f p (λ (r n : ℕ). n ≤ tokens f s p r) (omega (arith, each a)) (λ r n. omega (arith, each r))
    where
      each : (r : ℕ) → many (between f p r) (post s (Acknowledgement a q k) l) ≤ many (between f p r) s.network
      each r = omega (
        arith,
        many_post (between f p r) s (Acknowledgement a q k) l,
        many_taken (between f p r) taken,
        one_swap (eqb r a) (eqb p q) (f k),
      )

  -- one who is owed is acknowledged
  pub fall_answer : {s' : State} {orders : List ℕ} (r : ℕ) → Runs s a → In c.owed r →
      Becomes s s' a (owing c (without c.owed r)) (post s (Acknowledgement a r c.number) s.network) orders → Falls s s'
  fall_answer r runs m b f p = tokens_become b f p (λ (q n : ℕ). n ≤ tokens f s p q) mine (λ q n. omega (arith, other q n))
    where
      answer : Packet
      answer = Acknowledgement a r c.number

      other : (q : ℕ) → q ≢ a → many (between f p q) (post s answer s.network) ≤ many (between f p q) s.network
      other q n =
          let z : one (between f p q answer) ≡ 0 = rw (ne_eqb q a n) refl in
          omega (arith, many_post (between f p q) s answer s.network, z)

      struck : one (true && (eqb p r && f c.number)) + one (true && (has (without c.owed r) p && f c.number)) ≤ one (true && (has c.owed p && f c.number))
      struck = rw (has_without c.owed r p) (owed_less (has c.owed p) (eqb p r) (f c.number) (λ e. rw (eqb-true p r e) m.holds))

      mine : many (between f p a) (post s answer s.network) + one (owes f p (owing c (without c.owed r))) ≤ tokens f s p a
      mine =
          let x : one (between f p a answer) ≡ one (true && (eqb p r && f c.number)) = rw (eq-eqb a a refl) refl in
          rw runs (omega (arith, many_post (between f p a) s answer s.network, x, struck))

  -- a message is sent
  pub grow_sent : {s' : State} {c' : Column} {orders : List ℕ} (x d : ℕ) → Becomes s s' a c' (post s (Message a x c.number d) s.network) orders →
      ((f : ℕ → Bool) (p : ℕ) → one (owes f p c') ≤ one (owes f p c)) →
      (f : ℕ → Bool) (p q : ℕ) → tokens f s' p q ≤ tokens f s p q + one (between f p q (Message a x c.number d))
  grow_sent x d b h f p = tokens_become b f p (λ (q n : ℕ). n ≤ tokens f s p q + one (between f p q message))
      (omega (arith, h f p, many_post (between f p a) s message s.network))
      (λ q n. omega (arith, many_post (between f p q) s message s.network))
    where
      message : Packet
      message = Message a x c.number d

  -- an acknowledgement is taken
  pub drop_taken : {s' : State} {c' : Column} {orders : List ℕ} (q k : ℕ) {l : List Packet} → Taken s.network (Acknowledgement q a k) l → Becomes s s' a c' l orders →
      ((f : ℕ → Bool) (p : ℕ) → one (owes f p c') ≤ one (owes f p c)) →
      (f : ℕ → Bool) → f k ≡ true → tokens f s' a q + 1 ≤ tokens f s a q
  drop_taken q k {l} taken b h f e = tokens_become b f a (λ (r n : ℕ). r ≡ q → n + 1 ≤ tokens f s a r)
      (λ z. omega (arith, h f a, less a z)) (λ r n z. omega (arith, less r z)) q refl
    where
      less : (r : ℕ) → r ≡ q → many (between f a r) l + 1 ≤ many (between f a r) s.network
      less r z =
          let x : one (between f a r (Acknowledgement q a k)) ≡ 1 = rw (eq-eqb r q z, eq-eqb a a refl, e) refl in
          omega (arith, many_taken (between f a r) taken, x)

-- ---- whom c owes after a take

pub owes_equal : (a q k d : ℕ) (c : Column) → k ≡ c.number → (f : ℕ → Bool) (p : ℕ) →
    one (owes f p (owing c (insert c.owed q))) ≤ one (between f p a (Message q a k d)) + one (owes f p c)
owes_equal a q k d c e f p = rw (e, has_insert c.owed q p, eq-eqb a a refl) (owed_more c.running (has c.owed p) (eqb p q) (f c.number))

pub owes_higher : (a q k d : ℕ) (c : Column) (r : Bool) (f : ℕ → Bool) (p : ℕ) →
    one (r && (has (single q) p && f k)) ≤ one (between f p a (Message q a k d)) + one (owes f p c)
owes_higher a q k d c r f p =
    let z : one (r && (has (single q) p && f k)) ≤ one (between f p a (Message q a k d)) =
    rw (has_single q p, eq-eqb a a refl) (owed_one r (eqb p q) (f k)) in
    omega (arith, z)
