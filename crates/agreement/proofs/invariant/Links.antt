-- Who sent a record, where senders are watched: every move but a return keeps the links from a column to the one that sent its record.
-- Assumes nothing.
use Prim.Native.Nat.{ℕ, suc, ◌≤◌, ◌<◌}
use native.Mathlib.Omega.{arith}
use mathlib.Core.Path.{◌≡◌, sym, ap, subst}
use mathlib.Core.Logic.{◌≢◌, ◌⊎◌, ⊎_elim, inl, inr}
use mathlib.Core.Bool.{Bool, true, false}
use mathlib.Core.List.{List}
use Rattle.column.specs.laws.Cases.{compare_cases, equal_cases}
use Rattle.column.specs.Sets.{single}
use Rattle.column.specs.Trees.{children}
use Rattle.column.specs.declared.tree.Tree.{Tree}
use Rattle.column.specs.declared.state.Column.{Column}
use Rattle.column.specs.declared.packet.Packet.{Packet}
use Rattle.column.specs.declared.packet.Packet.TheVariants.{Message}
use Rattle.agreement.proofs.relation.Model.{State, Runs, count, Taken, Becomes, taken_held}
use Rattle.agreement.proofs.relation.Move.{renewed}
use Rattle.agreement.proofs.invariant.Invariant.{number, running_cases, Link, sender_halted, sender_ahead, sender_earlier, Linked, Invariant, ranked, ranked_here, ranked_other}
use Rattle.agreement.proofs.invariant.InvariantCarried.{each}
use Rattle.agreement.proofs.invariant.Packets.{message_issued, message_sent_by}

-- ---- numbers only rise and columns only stop

module _ {s s' : State} (rank : ℕ → ℕ) (stops : (j : ℕ) → Runs s' j → Runs s j) (rises : (j : ℕ) → number s j ≤ number s' j) where
  link_later : {i x k : ℕ} → Link s rank i x k → Link s' rank i x k
  link_later (sender_halted n) = sender_halted (λ h. n (stops _ h))
  link_later {x = x} (sender_ahead l) = sender_ahead (omega (arith, l, rises x))
  link_later {i = i} {x = x} {k = k} (sender_earlier e l) = go (compare_cases k (number s' x))
    where
      go : (k < number s' x) ⊎ ((k ≡ number s' x) ⊎ (number s' x < k)) → Link s' rank i x k
      go (inl h) = sender_ahead h
      go (inr (inl h)) = sender_earlier h l
      go (inr (inr h)) = absurd (omega (arith, rises x))

-- what is asked of the record of column j, which is c, where its goal is its own subtree
abbrev Sent : Tree → State → (ℕ → ℕ) → ℕ → Column → Type 0
Sent t s rank j c = c.running ≡ true → c.whole ≡ false → (c.sender < t.columns) × Link s rank j c.sender c.number

linked_by : {t : Tree} {s : State} (rank : ℕ → ℕ) → ((j : ℕ) → Sent t s rank j (s.columns j)) → Linked t s
linked_by rank f = record { rank = rank; senders = λ i h o. (f i h o).0; links = λ i h o. (f i h o).1 }

module _ (t : Tree) {s s' : State} {a : ℕ} {c : Column} {network : List Packet} {orders : List ℕ} (b : Becomes s s' a c network orders) (known : Linked t s) where
  stopping : Runs s a → (j : ℕ) → Runs s' j → Runs s j
  stopping r = each b (λ (j : ℕ) (x : Column). x.running ≡ true → Runs s j) (λ _. r) (λ j n h. h)

  rising : number s a ≤ c.number → (j : ℕ) → number s j ≤ number s' j
  rising h = each b (λ (j : ℕ) (x : Column). number s j ≤ x.number) h (λ j n. omega arith)

  -- a move that leaves the column's record, or makes the whole bank its goal
  pub linked_stays : Runs s a → number s a ≤ c.number
      → (c.running ≡ true → c.whole ≡ false → ((s.columns a).whole ≡ false) × (c.sender ≡ (s.columns a).sender) × (c.number ≡ number s a))
      → Linked t s'
  linked_stays r h f =
      linked_by known.rank
      (each b (Sent t s' known.rank)
      (λ runs o.
      let z = f runs o in (
        subst (λ (x : ℕ). x < t.columns) (sym z.1) (known.senders a r z.0),
        subst (λ (x : ℕ). Link s' known.rank a x c.number) (sym z.1)
            (subst (λ (k : ℕ). Link s' known.rank a (s.columns a).sender k) (sym z.2)
            (link_later known.rank (stopping r) (rising h) (known.links a r z.0))),
      ))
      (λ j nj runs o. (known.senders j runs o, link_later known.rank (stopping r) (rising h) (known.links j runs o))))

-- ---- a higher number is received

-- no number is above the root's, so it is not the root that receives one
pub receiver_other : (t : Tree) {s : State} → Invariant t s → (a : ℕ) → Runs s a → {q k d : ℕ} {l : List Packet} → number s a < k
    → Taken s.network (Message q a k d) l → a ≢ t.root
receiver_other t {s} inv a ra {q} {k} {d} lt taken e =
    let newest = subst (λ (x : ℕ). Runs s x → number s x ≡ count s) (sym e) inv.root_newest ra in
    omega (arith, newest, (message_issued (inv.packets (Message q a k d) (taken_held taken))).at_most)

-- the receiver ranks after the sender
module _ (t : Tree) {s s' : State} (a q k d : ℕ) {l network : List Packet} {orders : List ℕ} {whole : Bool}
    (inv : Invariant t s) (known : Linked t s) (ra : Runs s a) (lt : number s a < k) (taken : Taken s.network (Message q a k d) l)
    (b : Becomes s s' a (renewed (s.columns a) k d (children t a) 0 (single q) whole q) network orders) where
  abbrev received : ℕ → ℕ
  received = ranked known.rank a (suc (known.rank q))

  stops : (j : ℕ) → Runs s' j → Runs s j
  stops = stopping t b known ra

  rises : (j : ℕ) → number s j ≤ number s' j
  rises = rising t b known (omega arith)

  number_here : number s' a ≡ k
  number_here = ap (λ (c : Column). c.number) b.mine

  sent : (q < t.columns) × (Runs s q → k ≤ number s q)
  sent = message_sent_by (inv.packets (Message q a k d) (taken_held taken))

  -- a column that had its record from a is behind now
  from_a : {i n : ℕ} → Link s known.rank i a n → n < number s' a
  from_a (sender_halted h) = absurd (h ra)
  from_a (sender_ahead h) = omega (arith, number_here)
  from_a (sender_earlier e h) = omega (arith, number_here)

  -- one that had it from another ranks as before
  from_other : {i x n : ℕ} → i ≢ a → x ≢ a → Link s' known.rank i x n → Link s' received i x n
  from_other ni nx (sender_halted h) = sender_halted h
  from_other ni nx (sender_ahead h) = sender_ahead h
  from_other {i} {x} ni nx (sender_earlier e h) = sender_earlier e (omega (
    arith,
    ranked_other known.rank a (suc (known.rank q)) i ni,
    ranked_other known.rank a (suc (known.rank q)) x nx,
  ))

  others_linked : (j : ℕ) → j ≢ a → (x n : ℕ) → Link s known.rank j x n → Link s' received j x n
  others_linked j nj x n h = ⊎_elim
      (λ e. sender_ahead (subst (λ (y : ℕ). n < number s' y) (sym e) (from_a (subst (λ (y : ℕ). Link s known.rank j y n) e h))))
      (λ nx. from_other nj nx (link_later known.rank stops rises h))
      (equal_cases x a)

  mine_linked : Link s' received a q k
  mine_linked = ⊎_elim runs (λ n. sender_halted (λ h. n (stops q h))) (running_cases s q)
    where
      runs : Runs s q → Link s' received a q k
      runs h =
          let behind : k ≤ number s q = sent.1 h in
          let other : q ≢ a = λ e. omega (arith, behind, ap (number s) e) in
          go other (compare_cases k (number s' q))
        where
          go : q ≢ a → (k < number s' q) ⊎ ((k ≡ number s' q) ⊎ (number s' q < k)) → Link s' received a q k
          go other (inl z) = sender_ahead z
          go other (inr (inl z)) = sender_earlier z (omega (
            arith,
            ranked_here known.rank a (suc (known.rank q)),
            ranked_other known.rank a (suc (known.rank q)) q other,
          ))
          go other (inr (inr z)) = absurd (omega (arith, sent.1 h, rises q))

  pub linked_received : Linked t s'
  linked_received =
      linked_by received
      (each b (Sent t s' received) (λ _ _. (sent.0, mine_linked))
      (λ j nj runs o. (known.senders j runs o, others_linked j nj (s.columns j).sender (number s j) (known.links j runs o))))
