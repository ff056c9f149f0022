-- The invariant of a bank: what holds of the running columns and of the network after every move. Each part is marked J1 to J10 and has
-- its reason. Assumes nothing.
use Prim.Native.Nat.{ℕ, suc, ◌≤◌, ◌<◌}
use native.Mathlib.Omega.{arith}
use mathlib.Core.Path.{◌≡◌, refl, sym, ap, subst, ◌∙◌}
use mathlib.Core.Logic.{◌≢◌, ◌⊎◌, ⊎_elim, inl, inr}
use mathlib.Core.Bool.{Bool, true, false, cond, true≢false}
use mathlib.Core.List.{List, []}
use lib.Dec.{eqb}
use lib.ListN.{length}
use borrow.Author.Tests.{eq-eqb, ne_eqb, eqb-true}
use Rattle.column.specs.laws.Cases.{compare_cases, truth}
use Rattle.column.specs.laws.SubtreeLaws.{Under}
use Rattle.column.specs.Columns.{fresh}
use Rattle.column.specs.declared.tree.Tree.{Tree}
use Rattle.column.specs.declared.state.Column.{Column}
use Rattle.column.specs.declared.packet.Packet.{Packet}
use Rattle.column.specs.declared.packet.Packet.TheVariants.{Message, Acknowledgement}
use Rattle.agreement.specs.History.{given}
use Rattle.agreement.proofs.relation.Model.{In, Empty, State, Runs, count, Holds, holds_none}
use Rattle.agreement.proofs.relation.Members.{in_none, Below}

abbrev pub number : State → ℕ → ℕ
number s i = (s.columns i).number

pub running_cases : (s : State) (i : ℕ) → Runs s i ⊎ (Runs s i → ⊥)
running_cases s i = ⊎_elim (λ e. inl e) (λ e. inr (λ r. true≢false (sym r ∙ e))) (truth (s.columns i).running)

-- q is still to be served by a column: sent to, or awaited
abbrev pub Unserved : Column → ℕ → Type 0
Unserved c q = In c.send q ⊎ In c.awaited q

-- a record is one that an order gave: `doors` under `number`
pub record Issued (s : State) (number doors : ℕ) : Type 0 where
  pub at_most : number ≤ count s
  pub doors_given : doors ≡ given s.orders number

-- what holds of a running column i where the root is watched, and only there: nobody sends to a running root
pub record Shuns (t : Tree) (i : ℕ) (c : Column) : Type 0 where
  -- J2: only who noted the root takes over the whole bank, and then the root is served as a noted column is: by its children
  pub root_noted : c.whole ≡ true → i ≢ t.root → In c.noted t.root
  pub root_sent : In c.send t.root → In c.noted t.root
  -- J9: so the root owes nobody
  pub root_owes : i ≡ t.root → Empty c.owed

module _ (t : Tree) where
  -- p is in the subtree of one whom c has still to serve, or has the number of c or a higher one
  pub data Covered (s : State) (c : Column) (p : ℕ) : Type 0 where
    pending : (q : ℕ) → Unserved c q → Under t q p → Covered s c p
    reached : c.number ≤ number s p → Covered s c p

  -- what holds of the sets and the goal of a running column i, whatever the others do
  pub record Local (i : ℕ) (c : Column) : Type 0 where
    -- J2: "the root's goal is always the whole bank"
    pub root_whole : i ≡ t.root → c.whole ≡ true
    -- J9: a column that is none of the bank's can not be noted, so it would be awaited for ever
    pub members : (q : ℕ) → Unserved c q → q < t.columns
    -- J2: at rest whoever is awaited under the own goal, or by the root, is deeper in the tree than its awaiter
    pub own : (c.whole ≡ false) ⊎ (i ≡ t.root) → (q : ℕ) → Unserved c q → Below t i q
    -- a column that is to send to itself is done with itself at once
    pub self_awaited : In c.awaited i → ⊥
    -- J7: a noted column is never awaited, so at rest whoever is awaited runs
    pub apart : (q : ℕ) → In c.awaited q → In c.noted q → ⊥
    pub shuns : t.watch ≡ false → Shuns t i c

  -- what holds of it beside the others
  pub record Coverage (s : State) (i : ℕ) (c : Column) : Type 0 where
    -- J3: the column with the own goal answers for its subtree
    pub own_covered : c.whole ≡ false → (p : ℕ) → Runs s p → Below t i p → Covered s c p
    -- J4: the column with the whole goal answers for the bank
    pub all_covered : c.whole ≡ true → (p : ℕ) → Runs s p → Covered s c p
    -- J5: a column takes over the bank once its subtree is served, so it may acknowledge and need not send to itself
    pub settled : c.whole ≡ true → i ≢ t.root → (p : ℕ) → Runs s p → Under t i p → c.number ≤ number s p
    -- J7
    pub noted_halted : (q : ℕ) → In c.noted q → Runs s q → ⊥

  -- J1, J9: a message carries an issued record, and never goes to the root where that is watched; its sender is a column of the bank, and
  -- while it runs has the message's number or a higher one. J6: an acknowledgement numbered k says that all that run in the sender's subtree
  -- have k
  pub data Truthful (s : State) : Packet → Type 0 where
    message_truthful : {f r k d : ℕ} → Issued s k d → (t.watch ≡ false → r ≢ t.root) → f < t.columns → (Runs s f → k ≤ number s f) →
        Truthful s (Message f r k d)
    acknowledgement_truthful : {f r k : ℕ} → ((p : ℕ) → Runs s p → Under t f p → k ≤ number s p) → Truthful s (Acknowledgement f r k)

-- J8: p awaits q and both run: the message is under way, or q owes the acknowledgement, or that is under way
pub data Outstanding (network : List Packet) (cp cq : Column) (p q : ℕ) : Type 0 where
  message_sent : (d : ℕ) → Holds network (Message p q cp.number d) → Outstanding network cp cq p q
  acknowledgement_owed : In cq.owed p → cq.number ≡ cp.number → Outstanding network cp cq p q
  acknowledgement_sent : Holds network (Acknowledgement q p cp.number) → Outstanding network cp cq p q

-- ---- who sent a record, where senders are watched

-- column i holds a record numbered k that x sent: x is halted, or has a higher number, or has the same one and had it earlier
pub data Link (s : State) (rank : ℕ → ℕ) (i x k : ℕ) : Type 0 where
  sender_halted : (Runs s x → ⊥) → Link s rank i x k
  sender_ahead : k < number s x → Link s rank i x k
  sender_earlier : k ≡ number s x → rank x < rank i → Link s rank i x k

-- J10: so no chain of senders comes back to where it began, and at rest it ends at a column that answers for the bank. A column with the whole
-- goal answers itself. The rank is none of the bank's: it says who received before whom
pub record Linked (t : Tree) (s : State) : Type 0 where
  pub rank : ℕ → ℕ
  pub senders : (i : ℕ) → Runs s i → (s.columns i).whole ≡ false → (s.columns i).sender < t.columns
  pub links : (i : ℕ) → Runs s i → (s.columns i).whole ≡ false → Link s rank i (s.columns i).sender (number s i)

pub record Invariant (t : Tree) (s : State) : Type 0 where
  pub inside : (i : ℕ) → Runs s i → i < t.columns
  -- J1: the root orders again only where everybody that runs has the newest order, so a column lags by one at most; an older number may
  -- be acknowledged at once
  pub near : (i : ℕ) → Runs s i → count s ≤ suc (number s i)
  pub root_newest : Runs s t.root → number s t.root ≡ count s
  pub records : (i : ℕ) → Runs s i → Issued s (number s i) (s.columns i).doors
  pub locals : (i : ℕ) → Runs s i → Local t i (s.columns i)
  pub coverages : (i : ℕ) → Runs s i → Coverage t s i (s.columns i)
  pub packets : (p : Packet) → Holds s.network p → Truthful t s p
  pub outstanding : (p q : ℕ) → Runs s p → Runs s q → In (s.columns p).awaited q → Outstanding s.network (s.columns p) (s.columns q) p q
  pub linked : t.watch ≡ true → Linked t s

-- ---- a rank for column a, the others as before

abbrev pub ranked : (ℕ → ℕ) → ℕ → ℕ → ℕ → ℕ
ranked rank a v j = cond (eqb j a) v (rank j)

module _ (rank : ℕ → ℕ) (a v : ℕ) where
  pub ranked_here : ranked rank a v a ≡ v
  ranked_here = ap (λ (b : Bool). cond b v (rank a)) (eq-eqb a a refl)

  pub ranked_other : (j : ℕ) → j ≢ a → ranked rank a v j ≡ rank j
  ranked_other j n = ap (λ (b : Bool). cond b v (rank j)) (ne_eqb j a n)

-- ---- the fresh bank

pub record Fresh (t : Tree) (s : State) : Type 0 where
  pub columns_fresh : (i : ℕ) → i < t.columns → s.columns i ≡ fresh t i
  pub nobody_else : (i : ℕ) → t.columns ≤ i → Runs s i → ⊥
  pub no_packet : s.network ≡ []
  pub no_order : s.orders ≡ []

module _ (t : Tree) {s : State} (f : Fresh t s) where
  inside_fresh : (i : ℕ) → Runs s i → i < t.columns
  inside_fresh i h = go (compare_cases i t.columns)
    where
      go : (i < t.columns) ⊎ ((i ≡ t.columns) ⊎ (t.columns < i)) → i < t.columns
      go (inl l) = l
      go (inr (inl e)) = absurd (f.nobody_else i (omega arith) h)
      go (inr (inr l)) = absurd (f.nobody_else i (omega arith) h)

  number_fresh : (i : ℕ) → Runs s i → number s i ≡ 0
  number_fresh i h = ap (λ (c : Column). c.number) (f.columns_fresh i (inside_fresh i h))

  local_fresh : (i : ℕ) → Local t i (fresh t i)
  local_fresh i = record {
    root_whole = λ e. eq-eqb i t.root e;
    members = λ q u. absurd (⊎_elim in_none in_none u);
    own = λ w q u. absurd (⊎_elim in_none in_none u);
    self_awaited = in_none;
    apart = λ q m n. in_none m;
    shuns = λ _. record {
      root_noted = λ w n. absurd (n (eqb-true i t.root w));
      root_sent = λ m. m;
      root_owes = λ e q m. in_none m;
    };
  }

  coverage_fresh : (i : ℕ) → Coverage t s i (fresh t i)
  coverage_fresh i = record {
    own_covered = λ w p r b. reached (omega arith);
    all_covered = λ w p r. reached (omega arith);
    settled = λ w n p r u. omega arith;
    noted_halted = λ q m r. in_none m;
  }

  -- the root first
  fresh_linked : t.root < t.columns → Linked t s
  fresh_linked below = record {
    rank = ranked (λ _. 1) t.root 0;
    senders = λ i h _. subst (λ (x : ℕ). x < t.columns) (sym (from i h)) below;
    links = λ i h o.
        let other : i ≢ t.root = λ e. true≢false (sym (eq-eqb i t.root e) ∙ sym (ap (λ (c : Column). c.whole) (f.columns_fresh i (inside_fresh i h))) ∙ o) in
        sender_earlier
        (number_fresh i h ∙ sym (ap (number s) (from i h) ∙ ap (λ (c : Column). c.number) (f.columns_fresh t.root below)))
        (subst (λ (x : ℕ). ranked (λ _. 1) t.root 0 x < ranked (λ _. 1) t.root 0 i) (sym (from i h))
        (omega (arith, ranked_here (λ _. 1) t.root 0, ranked_other (λ _. 1) t.root 0 i other)));
  }
    where
      from : (i : ℕ) → Runs s i → (s.columns i).sender ≡ t.root
      from i h = ap (λ (c : Column). c.sender) (f.columns_fresh i (inside_fresh i h))

  pub fresh_invariant : t.root < t.columns → Invariant t s
  unfolding given
  fresh_invariant below = record {
    inside = inside_fresh;
    near = λ i h. omega (arith, ap length f.no_order);
    root_newest = λ h. number_fresh t.root h ∙ sym (ap length f.no_order);
    records = λ i h. record {
      at_most = omega (arith, number_fresh i h);
      doors_given = ap (λ (c : Column). c.doors) (f.columns_fresh i (inside_fresh i h))
          ∙ sym (ap (λ (l : List ℕ). given l (number s i)) f.no_order);
    };
    locals = λ i h. subst (Local t i) (sym (f.columns_fresh i (inside_fresh i h))) (local_fresh i);
    coverages = λ i h. subst (Coverage t s i) (sym (f.columns_fresh i (inside_fresh i h))) (coverage_fresh i);
    packets = λ p m. absurd (holds_none (subst (λ (l : List Packet). Holds l p) f.no_packet m));
    outstanding = λ p q h k m.
        absurd (in_none (subst (λ (c : Column). In c.awaited q) (f.columns_fresh p (inside_fresh p h)) m));
    linked = λ _. fresh_linked below;
  }
