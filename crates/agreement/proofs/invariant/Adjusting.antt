-- The moves that change only the sets of a column and the network: what of the invariant is left to show for them. Assumes nothing.
use Prim.Native.Nat.{ℕ}
use native.Mathlib.Omega.{arith}
use mathlib.Core.Path.{◌≡◌, refl, sym, subst}
use mathlib.Core.Logic.{◌≢◌, ◌⊎◌, ⊎_elim, inl, inr}
use mathlib.Core.Bool.{false}
use mathlib.Core.List.{List}
use Rattle.column.specs.Trees.{IsTree, children}
use Rattle.column.specs.laws.SubtreeLaws.{Under}
use Rattle.column.specs.Packets.{receiver}
use Rattle.column.specs.declared.tree.Tree.{Tree}
use Rattle.column.specs.declared.state.Column.{Column}
use Rattle.column.specs.declared.packet.Packet.{Packet}
use Rattle.agreement.proofs.relation.Model.{In, Empty, State, Runs, count, Becomes, Holds}
use Rattle.agreement.proofs.relation.Move.{noting}
use Rattle.agreement.proofs.relation.Members.{children_inside, root_child, child_descends}
use Rattle.agreement.proofs.invariant.Invariant.{number, Unserved, Covered, pending, reached, Local, Coverage, Truthful, Outstanding, message_sent, acknowledgement_owed, acknowledgement_sent, Invariant}
use Rattle.agreement.proofs.invariant.InvariantCarried.{steady}
use Rattle.agreement.proofs.invariant.Links.{linked_stays}
use Rattle.agreement.proofs.invariant.Packets.{outstanding_cases}

-- a column with other sets
abbrev pub adjusted : Column → ℕ → ℕ → ℕ → ℕ → Column
adjusted c send awaited owed noted = record (noting c send awaited noted) { owed = owed }

module _ (t : Tree) (tree : IsTree t) {s : State} (a : ℕ) (inv : Invariant t s) (ra : Runs s a) where
  abbrev c : Column
  c = s.columns a

  -- the new sets beside the old ones
  pub record Adjusts (send awaited owed noted : ℕ) : Type 0 where
    pub sends : (q : ℕ) → In send q → In c.send q ⊎ ((j : ℕ) × Unserved c j × In (children t j) q)
    pub awaits : (q : ℕ) → In awaited q → In c.awaited q ⊎ (In c.send q × (¬ In c.noted q) × (q ≢ a))
    pub owes : t.watch ≡ false → a ≡ t.root → Empty owed
    pub notes : (q : ℕ) → In c.noted q → In noted q
    pub halts : (q : ℕ) → In noted q → Runs s q → ⊥
    pub parts : (q : ℕ) → In awaited q → In noted q → ⊥
    pub covers : (q p : ℕ) → Unserved c q → Runs s p → Under t q p → Covered t s (adjusted c send awaited owed noted) p

  -- what a move does to the network and to who awaits whom
  pub record Delivers (c' : Column) (network : List Packet) : Type 0 where
    pub new : (r : Packet) → Holds network r → Holds s.network r ⊎ Truthful t s r
    pub old : (r : Packet) → Holds s.network r → Holds network r ⊎ (receiver r ≡ a)
    pub awaits : (q : ℕ) → q ≢ a → Runs s q → In c'.awaited q → Outstanding network c' (s.columns q) a q
    pub awaited : (p : ℕ) → p ≢ a → Runs s p → Outstanding s.network (s.columns p) c p a → Outstanding network (s.columns p) c' p a

  module _ {send awaited owed noted : ℕ} (k : Adjusts send awaited owed noted) where
    adjusted_local : Local t a (adjusted c send awaited owed noted)
    adjusted_local = record {
      root_whole = (inv.locals a ra).root_whole;
      members = λ q u. ⊎_elim
          (λ m. ⊎_elim (λ b. (inv.locals a ra).members q (inl b)) (λ z. children_inside t z.0 z.2) (k.sends q m))
          (λ m. (inv.locals a ra).members q (awaited_before q m)) u;
      own = λ w q u. ⊎_elim
          (λ m. ⊎_elim (λ b. (inv.locals a ra).own w q (inl b))
          (λ z. child_descends t tree a z.0 (inv.inside a ra) ((inv.locals a ra).own w z.0 z.1).under z.2) (k.sends q m))
          (λ m. (inv.locals a ra).own w q (awaited_before q m)) u;
      self_awaited = λ m. ⊎_elim (λ b. (inv.locals a ra).self_awaited b) (λ z. z.2 refl) (k.awaits a m);
      apart = k.parts;
      shuns = λ o. record {
        root_noted = λ w n. k.notes t.root (((inv.locals a ra).shuns o).root_noted w n);
        root_sent = λ m. ⊎_elim (λ b. k.notes t.root (((inv.locals a ra).shuns o).root_sent b)) (λ z. absurd (root_child t z.0 z.2))
            (k.sends t.root m);
        root_owes = k.owes o;
      };
    }
      where
        awaited_before : (q : ℕ) → In awaited q → Unserved c q
        awaited_before q m = ⊎_elim (λ b. inr b) (λ z. inl z.0) (k.awaits q m)

    adjusted_coverage : Coverage t s a (adjusted c send awaited owed noted)
    adjusted_coverage = record {
      own_covered = λ w p h b. go p h ((inv.coverages a ra).own_covered w p h b);
      all_covered = λ w p h. go p h ((inv.coverages a ra).all_covered w p h);
      settled = (inv.coverages a ra).settled;
      noted_halted = k.halts;
    }
      where
        go : (p : ℕ) → Runs s p → Covered t s c p → Covered t s (adjusted c send awaited owed noted) p
        go p h (pending q u v) = k.covers q p u h v
        go p h (reached b) = reached b

    pub adjust : {s' : State} {network : List Packet} → Becomes s s' a (adjusted c send awaited owed noted) network s.orders →
        Delivers (adjusted c send awaited owed noted) network → Invariant t s'
    adjust b d = steady t inv ra b (λ o. linked_stays t b (inv.linked o) ra (omega arith) (λ _ w. (w, refl, refl))) record {
      rises = omega arith;
      newest = λ e _. subst (λ (x : ℕ). Runs s x → number s x ≡ count s) (sym e) inv.root_newest ra;
      issued = λ _. inv.records a ra;
      local = λ _. adjusted_local;
      coverage = λ _. adjusted_coverage;
      new = d.new;
      old = d.old;
      awaits = λ _. d.awaits;
      awaited = λ _. d.awaited;
    }

  -- no packet moves, nobody more is awaited, nobody owed is struck out
  pub silent : {send awaited owed noted : ℕ} → ((q : ℕ) → In awaited q → In c.awaited q) → ((p : ℕ) → In c.owed p → In owed p) →
      Delivers (adjusted c send awaited owed noted) s.network
  silent f g = record {
    new = λ r m. inl m;
    old = λ r m. inl m;
    awaits = λ q n h m. outstanding_cases (inv.outstanding a q ra h (f q m))
        (λ d k. message_sent d k) (λ o e. acknowledgement_owed o e) (λ k. acknowledgement_sent k);
    awaited = λ p n h w. outstanding_cases w (λ d k. message_sent d k) (λ o e. acknowledgement_owed (g p o) e) (λ k. acknowledgement_sent k);
  }
