-- The bank at rest: its running columns have one number. And the bank whose running root serves nobody: it has the newest order.
-- Assumes nothing.
use Prim.Native.Nat.{ℕ, zero, suc, ◌+◌, ◌≤◌, ◌<◌}
use native.Mathlib.Omega.{arith}
use mathlib.Core.Path.{◌≡◌, refl, sym, ap, subst, ◌∙◌}
use mathlib.Core.Logic.{◌≢◌, ◌⊎◌, ⊎_elim, inl, inr}
use mathlib.Core.Bool.{Bool, true, false, cond, true≢false}
use mathlib.Core.List.{List}
use Rattle.column.specs.laws.Cases.{truth, equal_cases}
use Rattle.column.specs.Trees.{IsTree}
use Rattle.column.specs.laws.Descents.{depth, depth_le}
use Rattle.column.specs.Columns.{watched}
use Rattle.column.specs.declared.tree.Tree.{Tree}
use Rattle.column.specs.declared.packet.Packet.{Packet}
use Rattle.agreement.specs.History.{given}
use Rattle.agreement.proofs.relation.Model.{In, Empty, State, Runs, count, Holds, holds_none}
use Rattle.agreement.proofs.relation.Move.{Idle, Free, Rest}
use Rattle.agreement.proofs.relation.Members.{below_deeper}
use Rattle.agreement.proofs.invariant.Invariant.{number, running_cases, Covered, pending, reached, Link, sender_halted, sender_ahead, sender_earlier, Linked, Invariant}
use Rattle.agreement.proofs.invariant.Packets.{outstanding_cases}
use Rattle.agreement.proofs.invariant.RecordMoves.{root_served}

module _ (t : Tree) (tree : IsTree t) {s : State} (inv : Invariant t s) (rest : Rest t s) where
  -- ---- nobody is awaited

  -- whom p awaits runs and owes p an acknowledgement, so it awaits someone itself
  awaited_awaits : (p : ℕ) → Runs s p →
      ((q : ℕ) → Runs s q → ((s.columns q).whole ≡ false) ⊎ (q ≡ t.root) → In (s.columns p).awaited q → Empty (s.columns q).awaited) →
      Empty (s.columns p).awaited
  awaited_awaits p h f q m = ⊎_elim runs
      (λ n. rest.no_note p q h ((inv.locals p h).members q (inr m)) n (λ e. n (subst (Runs s) (sym e) h)) (λ k. (inv.locals p h).apart q m k))
      (running_cases s q)
    where
      gone : {r : Packet} → Holds s.network r → ⊥
      gone {r} k = holds_none (subst (λ (l : List Packet). Holds l r) rest.no_packet k)

      free : Runs s q → Free t q (s.columns q)
      free k = ⊎_elim (λ e. inr (rest.no_send q k, f q k (inr e) m))
          (λ n. ⊎_elim (λ w. inl (w, λ _. n)) (λ w. inr (rest.no_send q k, f q k (inl w) m)) (truth (s.columns q).whole))
          (equal_cases q t.root)

      runs : Runs s q → ⊥
      runs k = outstanding_cases (inv.outstanding p q h k m) (λ d v. gone v) (λ o e. rest.no_ack q p k o (free k)) (λ v. gone v)

  -- and that one is deeper in the tree, which has an end: `n` levels are left below p
  deeper : (n p : ℕ) → 15 ≤ depth t p + n → Runs s p → ((s.columns p).whole ≡ false) ⊎ (p ≡ t.root) → Empty (s.columns p).awaited
  deeper zero p d h w q m = omega (
    arith,
    below_deeper t tree (inv.inside p h) ((inv.locals p h).own w q (inr m)),
    depth_le t tree q ((inv.locals p h).members q (inr m)),
  )
  deeper (suc n) p d h w q m = awaited_awaits p h
      (λ q k v m. deeper n q (omega (arith, below_deeper t tree (inv.inside p h) ((inv.locals p h).own w q (inr m)))) k v) q m

  pub none_awaited : (p : ℕ) → Runs s p → Empty (s.columns p).awaited
  none_awaited p h = awaited_awaits p h (λ q k v m. deeper 15 q (omega arith) k v)

  pub none_owed : (p : ℕ) → Runs s p → Empty (s.columns p).owed
  none_owed p h q m = rest.no_ack p q h m (inr (rest.no_send p h, none_awaited p h))

  -- ---- a column with the own goal watches one that runs

  pub own_other : (i : ℕ) → Runs s i → (s.columns i).whole ≡ false → i ≢ t.root
  own_other i h w e = true≢false (sym ((inv.locals i h).root_whole e) ∙ w)

  watched_runs : (i : ℕ) → Runs s i → (s.columns i).whole ≡ false → watched t (s.columns i) < t.columns → Runs s (watched t (s.columns i))
  watched_runs i h w below = ⊎_elim (λ r. r)
      (λ n. absurd (rest.no_note i (watched t (s.columns i)) h below n (λ e. n (subst (Runs s) (sym e) h))
      (λ m. rest.no_all i h (own_other i h w) m w (rest.no_send i h, none_awaited i h))))
      (running_cases s (watched t (s.columns i)))

  root_runs : t.watch ≡ false → (i : ℕ) → Runs s i → (s.columns i).whole ≡ false → Runs s t.root
  root_runs o i h w =
      let e : watched t (s.columns i) ≡ t.root = ap (λ (b : Bool). cond b (s.columns i).sender t.root) o in
      subst (Runs s) e (watched_runs i h w (subst (λ (x : ℕ). x < t.columns) (sym e) tree.root_below))

  pub sender_runs : t.watch ≡ true → (i : ℕ) → Runs s i → (s.columns i).whole ≡ false → Runs s (s.columns i).sender
  sender_runs o i h w =
      let e : watched t (s.columns i) ≡ (s.columns i).sender = ap (λ (b : Bool). cond b (s.columns i).sender t.root) o in
      subst (Runs s) e (watched_runs i h w (subst (λ (x : ℕ). x < t.columns) (sym e) ((inv.linked o).senders i h w)))

  -- ---- every running column is led by one whose goal is the whole bank

  Leads : ℕ → Type 0
  Leads i = (j : ℕ) × Runs s j × ((s.columns j).whole ≡ true) × (number s i ≤ number s j)

  itself : (i : ℕ) → Runs s i → (s.columns i).whole ≡ true → Leads i
  unfolding Leads
  itself i h w = (i, h, w, omega arith)

  -- by the root, where that is watched
  led_by_root : t.watch ≡ false → (i : ℕ) → Runs s i → Leads i
  unfolding Leads
  led_by_root o i h = ⊎_elim (itself i h)
      (λ w. let r = root_runs o i h w in
      (t.root, r, (inv.locals t.root r).root_whole refl, omega (arith, (inv.records i h).at_most, inv.root_newest r)))
      (truth (s.columns i).whole)

  -- by its sender, who is ahead, or received the same number earlier
  module _ (o : t.watch ≡ true) where
    known : Linked t s
    known = inv.linked o

    follow : (i j : ℕ) → number s i ≤ number s j → Leads j → Leads i
    unfolding Leads
    follow i j h z = (z.0, z.1, z.2, omega (arith, z.3))

    -- one step along the links
    along : (i : ℕ) → Runs s i → ((x : ℕ) → Runs s x → number s i < number s x → Leads x)
        → ((x : ℕ) → Runs s x → number s i ≡ number s x → known.rank x < known.rank i → Leads x) → Leads i
    along i h ahead before = ⊎_elim (itself i h) (λ w. go (sender_runs o i h w) (known.links i h w)) (truth (s.columns i).whole)
      where
        go : Runs s (s.columns i).sender → Link s known.rank i (s.columns i).sender (number s i) → Leads i
        go r (sender_halted n) = absurd (n r)
        go r (sender_ahead z) = follow i (s.columns i).sender (omega arith) (ahead (s.columns i).sender r z)
        go r (sender_earlier z y) = follow i (s.columns i).sender (omega arith) (before (s.columns i).sender r z y)

    -- among those numbered m the rank falls
    earlier : (m : ℕ) → ((x : ℕ) → Runs s x → m < number s x → Leads x) → (r i : ℕ) → known.rank i < r → Runs s i → number s i ≡ m → Leads i
    earlier m ahead zero i l h k = absurd (omega arith)
    earlier m ahead (suc r) i l h k =
        along i h (λ x y z. ahead x y (omega arith)) (λ x y z u. earlier m ahead r x (omega arith) y (sym z ∙ k))

    -- no number is above that of the last order
    ahead_of : (d i : ℕ) → Runs s i → count s ≤ number s i + d → Leads i
    ahead_of zero i h l = earlier (number s i) (λ x r z. absurd (omega (arith, (inv.records x r).at_most))) (suc (known.rank i)) i (omega arith) h refl
    ahead_of (suc d) i h l =
        earlier (number s i) (λ x r z. ahead_of d x r (omega arith)) (suc (known.rank i)) i (omega arith) h refl

    led_by_sender : (i : ℕ) → Runs s i → Leads i
    led_by_sender i h = ahead_of (count s) i h (omega arith)

  led : (i : ℕ) → Runs s i → Leads i
  led = ⊎_elim led_by_sender led_by_root (truth t.watch)

  -- ---- agreement: no running column has a lower number than one that answers for the bank

  none_lower : (i p : ℕ) → Runs s i → Runs s p → number s i ≤ number s p
  unfolding Leads
  none_lower i p h k =
      let z = led i h in
      omega (arith, z.3, go z.0 z.1 ((inv.coverages z.0 z.1).all_covered z.2 p k))
    where
      go : (j : ℕ) → Runs s j → Covered t s (s.columns j) p → number s j ≤ number s p
      go j r (pending q u v) = absurd (⊎_elim (rest.no_send j r q) (none_awaited j r q) u)
      go j r (reached z) = z

  -- each running column's record is given, by the invariant's `records`
  pub rest_agrees : (i p : ℕ) → Runs s i → Runs s p → number s i ≡ number s p
  rest_agrees i p h k = omega (arith, none_lower i p h k, none_lower p i k h)

pub served : (t : Tree) {s : State} → Invariant t s → Runs s t.root → Idle (s.columns t.root) →
    (i : ℕ) → Runs s i → (number s i ≡ count s) × ((s.columns i).doors ≡ given s.orders (count s))
served t {s} inv r idle i h =
    let e : number s i ≡ count s = root_served t inv r idle i h in
    (e, (inv.records i h).doors_given ∙ ap (given s.orders) e)
