-- The tokens of a pair of columns: the messages p to q under way, the acknowledgement that q owes to p, and the acknowledgements q to p under way.
-- Counted, not merely found, and by their numbers; and how many packets pass a test after a put, a take and a halt. Assumes nothing.
use Prim.Native.Nat.{ℕ, ◌+◌, ◌≤◌, ◌<◌}
use native.Mathlib.Omega.{arith}
use mathlib.Core.Path.{◌≡◌, refl, sym, ap, subst}
use mathlib.Core.Logic.{◌≢◌, ◌⊎◌, inl, inr}
use mathlib.Core.Bool.{Bool, true, false, ◌&&◌, cond}
use mathlib.Core.List.Memᴰ
use mathlib.Core.List.{List, [], ◌∷◌, ◌++◌}
use lib.Dec.{eqb, ltb}
use lib.ListN.{length}
use borrow.Author.Tests.{eq-eqb, lt-ltb}
use Rattle.column.specs.laws.Cases.{compare_cases}
use Rattle.column.specs.Sets.{has}
use Rattle.column.specs.Packets.{receiver}
use Rattle.column.specs.declared.state.Column.{Column}
use Rattle.column.specs.declared.packet.Packet.{Packet}
use Rattle.column.specs.declared.packet.Packet.TheVariants.{Message, Acknowledgement}
use Rattle.bank.specs.laws.NetworkLaws.{others}
use Rattle.agreement.proofs.relation.Model.{State, post, Taken, first, later, Becomes, Holds}
use Rattle.agreement.proofs.invariant.InvariantCarried.{each}

abbrev pub one : Bool → ℕ
one b = cond b 1 0

-- how many packets of a list pass a test
unfoldable pub many : (Packet → Bool) → List Packet → ℕ
many g [] = 0
many g (x ∷ l) = one (g x) + many g l

abbrev pub every : Packet → Bool
every x = true

-- a message p to q, or an acknowledgement q to p, with a number that passes f
abbrev pub between : (ℕ → Bool) → ℕ → ℕ → Packet → Bool
between f p q (Message from to k d) = eqb p from && (eqb q to && f k)
between f p q (Acknowledgement from to k) = eqb q from && (eqb p to && f k)

-- column c runs and owes p an acknowledgement, and its number passes f
abbrev pub owes : (ℕ → Bool) → ℕ → Column → Bool
owes f p c = c.running && (has c.owed p && f c.number)

-- the tokens of p and q whose numbers pass f
abbrev pub tokens : (ℕ → Bool) → State → ℕ → ℕ → ℕ
tokens f s p q = many (between f p q) s.network + one (owes f p (s.columns q))

-- which numbers are counted, beside the number m of column p
abbrev pub any : ℕ → Bool
any k = true

abbrev pub stale : ℕ → ℕ → Bool
stale m k = ltb k m

abbrev pub current : ℕ → ℕ → Bool
current m k = eqb k m

abbrev pub ahead : ℕ → ℕ → Bool
ahead m k = ltb m k

-- ---- packets counted

pub many_every : (l : List Packet) → many every l ≡ length l
unfolding many
many_every [] = refl
many_every (x ∷ l) = omega (arith, many_every l)

module _ (g : Packet → Bool) where
  pub many_append : (l m : List Packet) → many g (l ++ m) ≡ many g l + many g m
  unfolding many
  many_append [] m = omega arith
  many_append (x ∷ l) m = omega (arith, many_append l m)

  pub many_taken : {l l' : List Packet} {x : Packet} → Taken l x l' → many g l ≡ one (g x) + many g l'
  unfolding many
  many_taken first = refl
  many_taken (later k) = omega (arith, many_taken k)

  put_many : (b : Bool) (x : Packet) (l : List Packet) → many g (cond b (l ++ x ∷ []) l) ≤ many g l + one (g x)
  unfolding many
  put_many true x l = omega (arith, many_append l (x ∷ []))
  put_many false x l = omega arith

  pub many_post : (s : State) (x : Packet) (l : List Packet) → many g (post s x l) ≤ many g l + one (g x)
  unfolding post
  many_post s x l = put_many (s.columns (receiver x)).running x l

  pub many_others : (i : ℕ) (l : List Packet) → many g (others i l) ≤ many g l
  unfolding many others
  many_others i [] = omega arith
  many_others i (x ∷ l) = go (eqb (receiver x) i) (many_others i l)
    where
      go : (b : Bool) → many g (others i l) ≤ many g l → many g (cond b (others i l) (x ∷ others i l)) ≤ one (g x) + many g l
      go true h = omega (arith, h)
      go false h = omega (arith, h)

  pub many_none : (l : List Packet) → ((x : Packet) → Holds l x → g x ≡ false) → many g l ≡ 0
  unfolding many
  many_none [] h = refl
  many_none (x ∷ l) h = omega (arith, ap one (h x (Memᴰ.head refl)), many_none l (λ y m. h y (Memᴰ.tail m)))

  pub many_held : {x : Packet} {l l' : List Packet} → Taken l x l' → g x ≡ true → 0 < many g l
  many_held k e = omega (arith, many_taken k, ap one e)

-- what each packet weighs, they weigh together
module _ (g a b c : Packet → Bool) (h : (x : Packet) → one (g x) ≤ one (a x) + (one (b x) + one (c x))) where
  pub many_parts : (l : List Packet) → many g l ≤ many a l + (many b l + many c l)
  unfolding many
  many_parts [] = omega arith
  many_parts (x ∷ l) = omega (arith, h x, many_parts l)

pub many_under : (g h : Packet → Bool) → ((x : Packet) → one (g x) ≤ one (h x)) → (l : List Packet) → many g l ≤ many h l
unfolding many
many_under g h f [] = omega arith
many_under g h f (x ∷ l) = omega (arith, f x, many_under g h f l)

-- ---- tests

-- behind two other tests
pub one_and : (a b x y : Bool) → one x ≤ one y → one (a && (b && x)) ≤ one (a && (b && y))
one_and true true x y h = h
one_and true false x y h = omega arith
one_and false b x y h = omega arith

one_parts : (a b w x y z : Bool) → one w ≤ one x + (one y + one z) →
    one (a && (b && w)) ≤ one (a && (b && x)) + (one (a && (b && y)) + one (a && (b && z)))
one_parts true true w x y z h = h
one_parts true false w x y z h = omega arith
one_parts false b w x y z h = omega arith

pub one_swap : (a b c : Bool) → one (a && (b && c)) ≡ one (b && (a && c))
one_swap true true c = refl
one_swap true false c = refl
one_swap false true c = refl
one_swap false false c = refl

-- ---- tokens

-- what weighs less by each number weighs less
pub tokens_under : (f h : ℕ → Bool) → ((k : ℕ) → one (f k) ≤ one (h k)) → (s : State) (p q : ℕ) → tokens f s p q ≤ tokens h s p q
tokens_under f h w s p q = omega (arith, many_under (between f p q) (between h p q) packet s.network, owed)
  where
    packet : (x : Packet) → one (between f p q x) ≤ one (between h p q x)
    packet (Message from to k d) = one_and (eqb p from) (eqb q to) (f k) (h k) (w k)
    packet (Acknowledgement from to k) = one_and (eqb q from) (eqb p to) (f k) (h k) (w k)

    owed : one (owes f p (s.columns q)) ≤ one (owes h p (s.columns q))
    owed =
        let k = (s.columns q).number in
        one_and (s.columns q).running (has (s.columns q).owed p) (f k) (h k) (w k)

number_split : (m k : ℕ) → 1 ≤ one (stale m k) + (one (current m k) + one (ahead m k))
number_split m k = go (compare_cases k m)
  where
    go : (k < m) ⊎ ((k ≡ m) ⊎ (m < k)) → 1 ≤ one (ltb k m) + (one (eqb k m) + one (ltb m k))
    go (inl l) = rw (lt-ltb k m l) (omega arith)
    go (inr (inl e)) = rw (eq-eqb k m e) (omega arith)
    go (inr (inr l)) = rw (lt-ltb m k l) (omega arith)

-- a token has a lower number than p, that number, or a higher one
pub tokens_split : (m : ℕ) (s : State) (p q : ℕ) → tokens any s p q ≤ tokens (stale m) s p q + (tokens (current m) s p q + tokens (ahead m) s p q)
tokens_split m s p q = omega (arith, many_parts (between any p q) (between (stale m) p q) (between (current m) p q) (between (ahead m) p q) packet s.network, owed)
  where
    packet : (x : Packet) → one (between any p q x) ≤ one (between (stale m) p q x) + (one (between (current m) p q x) + one (between (ahead m) p q x))
    packet (Message from to k d) = one_parts (eqb p from) (eqb q to) true (stale m k) (current m k) (ahead m k) (number_split m k)
    packet (Acknowledgement from to k) = one_parts (eqb q from) (eqb p to) true (stale m k) (current m k) (ahead m k) (number_split m k)

    owed : one (owes any p (s.columns q)) ≤ one (owes (stale m) p (s.columns q)) + (one (owes (current m) p (s.columns q)) + one (owes (ahead m) p (s.columns q)))
    owed =
        let k = (s.columns q).number in
        one_parts (s.columns q).running (has (s.columns q).owed p) true (stale m k) (current m k) (ahead m k) (number_split m k)

-- the tokens after a move, column by column
module _ {s s' : State} {a : ℕ} {c : Column} {network : List Packet} {orders : List ℕ} (b : Becomes s s' a c network orders) where
  pub tokens_become : (f : ℕ → Bool) (p : ℕ) (R : ℕ → ℕ → Type 0) →
      R a (many (between f p a) network + one (owes f p c)) →
      ((q : ℕ) → q ≢ a → R q (many (between f p q) network + one (owes f p (s.columns q)))) → (q : ℕ) → R q (tokens f s' p q)
  tokens_become f p R h g q =
      subst (λ (l : List Packet). R q (many (between f p q) l + one (owes f p (s'.columns q)))) (sym b.packets)
      (each b (λ (j : ℕ) (x : Column). R j (many (between f p j) network + one (owes f p x))) h g q)
