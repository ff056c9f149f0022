-- What bounds the packets under way and the steps to rest, whoever is watched: where senders are watched, messages go to a running root too.
-- Each part has its reason.
use Prim.Native.Nat.{ℕ, suc, ◌+◌, ◌*◌, ◌≤◌, ◌<◌}
use mathlib.Core.Path.{◌≡◌}
use mathlib.Core.Logic.{◌≢◌, ◌⊎◌}
use mathlib.Core.Bool.{Bool, true, false}
use Rattle.column.specs.laws.SubtreeLaws.{Under}
use Rattle.column.specs.declared.tree.Tree.{Tree}
use Rattle.column.specs.declared.state.Column.{Column}
use Rattle.column.specs.declared.packet.Packet.TheVariants.{Message, Acknowledgement}
use Rattle.agreement.proofs.relation.Model.{In, State, Runs, count, Holds}
use Rattle.agreement.proofs.relation.Members.{Below}
use Rattle.agreement.proofs.invariant.Invariant.{number, Unserved}
use Rattle.agreement.proofs.bounds.Sums.{sum}
use Rattle.agreement.proofs.bounds.TokenLaws.{one, tokens, any, stale, current, ahead}
use Rattle.agreement.proofs.bounds.SpreadLaws.{ToServe}
use Rattle.agreement.proofs.bounds.SpreadKept.{AllSpread}

-- ---- while the root runs

-- column c has nobody to serve but the root
abbrev pub ServesRootOnly : Tree → Column → Type 0
ServesRootOnly t c = (q : ℕ) → Unserved c q → q ≡ t.root

-- column c has a number above k, or number k and nobody to serve but the root
pub data DoneWith (t : Tree) (k : ℕ) (c : Column) : Type 0 where
  above : k < c.number → DoneWith t k c
  done_at : c.number ≡ k → ServesRootOnly t c → DoneWith t k c

-- p is in the subtree of one, not the root, whom c has still to serve, or has done what c has
pub data PendingOrDone (t : Tree) (s : State) (c : Column) (p : ℕ) : Type 0 where
  pending : (q : ℕ) → Unserved c q → q ≢ t.root → Under t q p → PendingOrDone t s c p
  finished : DoneWith t c.number (s.columns p) → PendingOrDone t s c p

pub record EarlierDone (t : Tree) (s : State) : Type 0 where
  -- who has not yet the newest order is done with the one before, but for the root
  pub lagging : (i : ℕ) → Runs s i → (count s ≤ number s i) ⊎ ServesRootOnly t (s.columns i)
  -- a column that took over serves the root alone: the whole bank is in the root's subtree
  pub over : (i : ℕ) → Runs s i → i ≢ t.root → (s.columns i).whole ≡ true → ServesRootOnly t (s.columns i)
  pub descending : (i : ℕ) → Runs s i → (p : ℕ) → Runs s p → Below t i p → PendingOrDone t s (s.columns i) p
  pub acknowledged : (f r k : ℕ) → Holds s.network (Acknowledgement f r k) → (p : ℕ) → Runs s p → Under t f p → DoneWith t k (s.columns p)

-- ---- the tokens of p and q, where p runs and has the record of c

pub record PairTokens (t : Tree) (s : State) (p : ℕ) (c : Column) (q : ℕ) : Type 0 where
  pub none_ahead : tokens (ahead c.number) s p q ≡ 0
  pub one_current : tokens (current c.number) s p q ≤ 1
  pub current_held : 0 < tokens (current c.number) s p q → In c.awaited q ⊎ In c.noted q
  pub one_stale : q ≢ t.root → tokens (stale c.number) s p q ≤ 1
  pub stale_held : q ≢ t.root → 0 < tokens (stale c.number) s p q →
      (In c.noted q × (tokens (current c.number) s p q ≡ 0)) ⊎ ((¬ Runs s t.root) × (c.number ≡ count s))
  -- under the own goal p sends into its subtree only
  pub current_own : 0 < tokens (current c.number) s p q → c.whole ≡ false → Below t p q
  -- p has not to serve q again; a column that took over does not serve its own subtree
  pub current_served : 0 < tokens (current c.number) s p q → ToServe t c q → (c.whole ≡ true) × (p ≢ t.root) × Below t p q

-- ---- the tokens of p and the root, while the root runs

-- how many columns halted before p
abbrev pub halted_before : (ℕ → ℕ → Bool) → ℕ → ℕ → ℕ
halted_before before n p = sum (λ q. one (before p q)) n

-- h columns have halted, g k of them when order k was given. Who takes over with number k had its record from a column that had k and is
-- halted: it halted after order k was given
pub record RootPairTokens (t : Tree) (s : State) (g : ℕ → ℕ) (h p : ℕ) (c : Column) : Type 0 where
  pub sends_root : In c.send t.root → g c.number < h
  pub current_root : 0 < tokens (current c.number) s p t.root → g c.number < h
  -- each halt pays for the two numbers that a column could have meanwhile
  pub newest : c.number ≡ count s → tokens (stale c.number) s p t.root ≤ g c.number + h
  pub older : suc c.number ≡ count s → tokens (stale c.number) s p t.root ≤ g c.number + g (count s)
  pub sender_ran : c.whole ≡ false → t.watch ≡ true → Runs s c.sender ⊎ (g c.number < h)

pub record HaltCounts (t : Tree) (s : State) (g : ℕ → ℕ) (h : ℕ) (before : ℕ → ℕ → Bool) : Type 0 where
  pub most : (k : ℕ) → g k ≤ h
  -- who sent a message of number k ran with that number: it runs still, or halted after order k was given
  pub messages : (f r k d : ℕ) → Holds s.network (Message f r k d) → Runs s f ⊎ (g k < h)
  pub root_pairs : (p : ℕ) → Runs s p → p ≢ t.root → RootPairTokens t s g h p (s.columns p)
  -- all that halted did so before those that run
  pub counted : (p : ℕ) → Runs s p → h ≤ halted_before before t.columns p

-- `before p q`: q halted before p, while the root ran. None of the bank's: a history of the halts since the last return
pub record HaltHistory (t : Tree) (s : State) (g : ℕ → ℕ) (h : ℕ) (before : ℕ → ℕ → Bool) : Type 0 where
  pub stopped : (p q : ℕ) → before p q ≡ true → ¬ Runs s q
  pub one_way : (p q : ℕ) → before p q ≡ true → before q p ≡ true → ⊥
  pub not_root : (p : ℕ) → before p t.root ≡ true → ⊥
  -- they had one token at most then, and nothing is put to a halted column
  pub apart : (p q : ℕ) → q ≢ t.root → (before p q ≡ true) ⊎ (before q p ≡ true) → tokens any s p q ≤ 1
  pub to_root : (p : ℕ) → p ≢ t.root → tokens any s p t.root ≤ 2 * halted_before before t.columns p
  pub counts : Runs s t.root → HaltCounts t s g h before

pub record SomeHaltHistory (t : Tree) (s : State) : Type 0 where
  pub given : ℕ → ℕ
  pub halts : ℕ
  pub before : ℕ → ℕ → Bool
  pub history : HaltHistory t s given halts before

-- ---- the invariant

pub record Bounded (t : Tree) (s : State) : Type 0 where
  pub spreads : AllSpread t s
  pub earlier_done : Runs s t.root → EarlierDone t s
  pub pair_tokens : (p q : ℕ) → Runs s p → PairTokens t s p (s.columns p) q
  -- one token for each pair while the root runs, two later, of halted columns too
  pub single : Runs s t.root → (p q : ℕ) → q ≢ t.root → tokens any s p q ≤ 1
  pub two : (p q : ℕ) → q ≢ t.root → tokens any s p q ≤ 2
  pub root_row : (q : ℕ) → q ≢ t.root → tokens any s t.root q ≤ 1
  pub halt_history : SomeHaltHistory t s
