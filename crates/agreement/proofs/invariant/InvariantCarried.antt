-- What carries the invariant over a move: numbers only rise and columns only stop, so what is left to show of a move is its own column,
-- its new packets, and who awaits whom. Assumes nothing.
use Prim.Native.Nat.{ℕ, suc, ◌≤◌}
use native.Mathlib.Omega.{arith}
use mathlib.Core.Path.{◌≡◌, refl, sym, ap, subst, ◌∙◌}
use mathlib.Core.Logic.{◌≢◌, ◌⊎◌, ⊎_elim, inl, inr}
use mathlib.Core.Bool.{true}
use mathlib.Core.List.{List}
use lib.ListN.{length}
use Rattle.column.specs.laws.Cases.{equal_cases}
use Rattle.column.specs.laws.SubtreeLaws.{Under}
use Rattle.column.specs.Packets.{receiver}
use Rattle.column.specs.declared.tree.Tree.{Tree}
use Rattle.column.specs.declared.state.Column.{Column}
use Rattle.column.specs.declared.packet.Packet.{Packet}
use Rattle.agreement.specs.History.{given}
use Rattle.agreement.proofs.relation.Model.{In, State, Runs, count, Becomes, Holds}
use Rattle.agreement.proofs.invariant.Invariant.{number, Covered, pending, reached, Local, Coverage, Issued, Truthful, message_truthful, acknowledgement_truthful, Outstanding, message_sent, acknowledgement_owed, acknowledgement_sent, Linked, Invariant}

-- ---- a later state: fewer run, numbers are no lower, and what was given stays given

pub record Later (s s' : State) : Type 0 where
  pub runs : (i : ℕ) → Runs s' i → Runs s i
  pub rises : (i : ℕ) → number s i ≤ number s' i
  pub counts : count s ≤ count s'
  pub gave : (k : ℕ) → k ≤ count s → given s'.orders k ≡ given s.orders k

module _ (t : Tree) {s s' : State} (l : Later s s') where
  covered_later : {c : Column} {p : ℕ} → Covered t s c p → Covered t s' c p
  covered_later (pending q o u) = pending q o u
  covered_later {c} {p} (reached h) = reached (omega (arith, l.rises p))

  pub coverage_later : {i : ℕ} {c : Column} → Coverage t s i c → Coverage t s' i c
  coverage_later r = record {
    own_covered = λ w p h b. covered_later (r.own_covered w p (l.runs p h) b);
    all_covered = λ w p h. covered_later (r.all_covered w p (l.runs p h));
    settled = λ w n p h u. omega (arith, r.settled w n p (l.runs p h) u, l.rises p);
    noted_halted = λ q m h. r.noted_halted q m (l.runs q h);
  }

  pub issued_later : {k d : ℕ} → Issued s k d → Issued s' k d
  issued_later {k} g = record {
    at_most = omega (arith, g.at_most, l.counts);
    doors_given = g.doors_given ∙ sym (l.gave k g.at_most);
  }

  pub truthful_later : {r : Packet} → Truthful t s r → Truthful t s' r
  truthful_later (message_truthful {f = f} g n b m) = message_truthful (issued_later g) n b (λ h. omega (arith, m (l.runs f h), l.rises f))
  truthful_later (acknowledgement_truthful {f = f} {k = k} g) =
      acknowledgement_truthful {k = k} (λ (p : ℕ) (h : Runs s' p) (u : Under t f p). omega (arith, g p (l.runs p h) u, l.rises p))

-- ---- column by column

-- what holds of column a after the move and of each other column before it holds of each column after it
module _ {s s' : State} {a : ℕ} {c : Column} {network : List Packet} {orders : List ℕ} (b : Becomes s s' a c network orders) where
  pub each : (P : ℕ → Column → Type 0) → P a c → ((j : ℕ) → j ≢ a → P j (s.columns j)) → (j : ℕ) → P j (s'.columns j)
  each P h f j = ⊎_elim
      (λ e. subst (λ (x : ℕ). P x (s'.columns x)) (sym e) (subst (P a) (sym b.mine) h))
      (λ n. subst (P j) (sym (b.same j n)) (f j n))
      (equal_cases j a)

-- who awaits whom, where neither is the column that moves
still : {l l' : List Packet} {cp cq : Column} {p q a : ℕ} → p ≢ a → q ≢ a →
    ((r : Packet) → Holds l r → Holds l' r ⊎ (receiver r ≡ a)) → Outstanding l cp cq p q → Outstanding l' cp cq p q
still np nq old (message_sent d m) = ⊎_elim (λ h. message_sent d h) (λ e. absurd (nq e)) (old _ m)
still np nq old (acknowledgement_owed h e) = acknowledgement_owed h e
still np nq old (acknowledgement_sent m) = ⊎_elim (λ h. acknowledgement_sent h) (λ e. absurd (np e)) (old _ m)

-- ---- what a move of column a, which becomes c while the network becomes `network`, has to show

pub record Keeps (t : Tree) (s s' : State) (a : ℕ) (c : Column) (network : List Packet) : Type 0 where
  pub later : Later s s'
  pub near : (i : ℕ) → Runs s' i → count s' ≤ suc (number s' i)
  pub newest : Runs s' t.root → number s' t.root ≡ count s'
  pub issued : c.running ≡ true → Issued s' c.number c.doors
  pub local : c.running ≡ true → Local t a c
  pub coverage : c.running ≡ true → Coverage t s' a c
  pub new : (r : Packet) → Holds network r → Holds s.network r ⊎ Truthful t s' r
  pub old : (r : Packet) → Holds s.network r → Holds network r ⊎ (receiver r ≡ a)
  pub awaits : c.running ≡ true → (q : ℕ) → q ≢ a → Runs s q → In c.awaited q → Outstanding network c (s.columns q) a q
  pub awaited : c.running ≡ true → (p : ℕ) → p ≢ a → Runs s p → Outstanding s.network (s.columns p) (s.columns a) p a →
      Outstanding network (s.columns p) c p a

pub keep : (t : Tree) {s s' : State} {a : ℕ} {c : Column} {network : List Packet} {orders : List ℕ} →
    Invariant t s → Runs s a → Becomes s s' a c network orders → (t.watch ≡ true → Linked t s') → Keeps t s s' a c network → Invariant t s'
keep t {s} {s'} {a} {c} {network} inv ra b linked k = record {
  inside = λ i h. inv.inside i (k.later.runs i h);
  near = k.near;
  root_newest = k.newest;
  records = each b (λ (j : ℕ) (x : Column). x.running ≡ true → Issued s' x.number x.doors) k.issued
      (λ j n h. issued_later t k.later (inv.records j h));
  locals = each b (λ (j : ℕ) (x : Column). x.running ≡ true → Local t j x) k.local (λ j n. inv.locals j);
  coverages = each b (λ (j : ℕ) (x : Column). x.running ≡ true → Coverage t s' j x) k.coverage
      (λ j n h. coverage_later t k.later (inv.coverages j h));
  packets = λ r m. ⊎_elim (λ o. truthful_later t k.later (inv.packets r o)) (λ z. z)
      (k.new r (subst (λ (l : List Packet). Holds l r) b.packets m));
  outstanding = λ p q h h' m.
      subst (λ (l : List Packet). Outstanding l (s'.columns p) (s'.columns q) p q) (sym b.packets) (waiting p h q h' m);
  linked = linked;
}
  where
    waiting : (p : ℕ) → Runs s' p → (q : ℕ) → Runs s' q → In (s'.columns p).awaited q → Outstanding network (s'.columns p) (s'.columns q) p q
    waiting = each b
        (λ (p : ℕ) (x : Column). x.running ≡ true → (q : ℕ) → Runs s' q → In x.awaited q → Outstanding network x (s'.columns q) p q)
        (λ h. each b (λ (q : ℕ) (y : Column). y.running ≡ true → In c.awaited q → Outstanding network c y a q)
        (λ h' m. absurd ((k.local h).self_awaited m)) (λ q n h' m. k.awaits h q n h' m))
        (λ p np h. each b
        (λ (q : ℕ) (y : Column). y.running ≡ true → In (s.columns p).awaited q → Outstanding network (s.columns p) y p q)
        (λ h' m. k.awaited h' p np h (inv.outstanding p a h ra m))
        (λ q nq h' m. still np nq k.old (inv.outstanding p q h h' m)))

-- ---- a move that orders nothing

pub record Steady (t : Tree) (s : State) (a : ℕ) (c : Column) (network : List Packet) : Type 0 where
  pub rises : number s a ≤ c.number
  pub newest : a ≡ t.root → c.running ≡ true → c.number ≡ count s
  pub issued : c.running ≡ true → Issued s c.number c.doors
  pub local : c.running ≡ true → Local t a c
  pub coverage : c.running ≡ true → Coverage t s a c
  pub new : (r : Packet) → Holds network r → Holds s.network r ⊎ Truthful t s r
  pub old : (r : Packet) → Holds s.network r → Holds network r ⊎ (receiver r ≡ a)
  pub awaits : c.running ≡ true → (q : ℕ) → q ≢ a → Runs s q → In c.awaited q → Outstanding network c (s.columns q) a q
  pub awaited : c.running ≡ true → (p : ℕ) → p ≢ a → Runs s p → Outstanding s.network (s.columns p) (s.columns a) p a →
      Outstanding network (s.columns p) c p a

pub steady : (t : Tree) {s s' : State} {a : ℕ} {c : Column} {network : List Packet} →
    Invariant t s → Runs s a → Becomes s s' a c network s.orders → (t.watch ≡ true → Linked t s') → Steady t s a c network → Invariant t s'
steady t {s} {s'} {a} {c} {network} inv ra b linked k =
    keep t inv ra b linked record {
      later = l;
      near = λ i h. omega (arith, ap length b.told, near i h);
      newest = λ h. newest t.root refl h ∙ sym (ap length b.told);
      issued = λ h. issued_later t l (k.issued h);
      local = k.local;
      coverage = λ h. coverage_later t l (k.coverage h);
      new = λ r m. ⊎_elim (λ o. inl o) (λ z. inr (truthful_later t l z)) (k.new r m);
      old = k.old;
      awaits = k.awaits;
      awaited = k.awaited;
    }
  where
    l : Later s s'
    l = record {
      runs = each b (λ (j : ℕ) (x : Column). x.running ≡ true → Runs s j) (λ _. ra) (λ j n h. h);
      rises = each b (λ (j : ℕ) (x : Column). number s j ≤ x.number) k.rises (λ j n. omega arith);
      counts = omega (arith, ap length b.told);
      gave = λ i h. ap (λ (orders : List ℕ). given orders i) b.told;
    }

    near : (i : ℕ) → Runs s' i → count s ≤ suc (number s' i)
    near = each b (λ (j : ℕ) (x : Column). x.running ≡ true → count s ≤ suc x.number)
        (λ h. omega (arith, k.rises, inv.near a ra)) (λ j n h. inv.near j h)

    newest : (i : ℕ) → i ≡ t.root → Runs s' i → number s' i ≡ count s
    newest = each b (λ (j : ℕ) (x : Column). j ≡ t.root → x.running ≡ true → x.number ≡ count s) k.newest
        (λ j n e. subst (λ (x : ℕ). Runs s x → number s x ≡ count s) (sym e) inv.root_newest)
