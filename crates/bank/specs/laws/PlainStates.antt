-- Banks without their masks and what is pending: what is stored and put commutes with leaving these out. Assumes nothing.
use Rattle.std.specs.Prelude.{ℕ, zero, suc, ◌≡◌, refl, Bool, true, false, cond, List, [], ◌∷◌, map, eqb, ltb, set}
use Rattle.std.proofs.Common.{sym, ap, ap₂, ◌∙◌}
use Rattle.std.proofs.Math.ListN.{get_or-map}
use Rattle.column.specs.Columns.{plain}
use Rattle.column.specs.Packets.{receiver}
use Rattle.column.specs.laws.PlainLaws.{plain_result}
use Rattle.column.specs.Steps as core
use Rattle.column.specs.declared.state.Column.{Column}
use Rattle.column.specs.declared.packet.Packet.{Packet}
use Rattle.bank.specs.Banks.{State, state, column_at, runs, no_column, capacity}
use Rattle.bank.specs.Networks.{with_packet, put, puts}
use Rattle.bank.specs.Steps.{Result, accepted, refused, unless, with_column, fitting, settled, rewriting}
use Rattle.bank.specs.Apart.{plain_bank, plain_state, plain_outcome}
use Rattle.bank.specs.declared.bank.Bank.{Bank}

-- ---- lists of columns

pub plain_twice : (l : List Column) → map plain (map plain l) ≡ map plain l
plain_twice [] = refl
plain_twice (c ∷ l) = ap (λ (k : List Column). plain c ∷ k) (plain_twice l)

pub plain_set : (l : List Column) (i : ℕ) (c : Column) → map plain (set l i c) ≡ set (map plain l) i (plain c)
plain_set [] i c = refl
plain_set (x ∷ l) zero c = refl
plain_set (x ∷ l) (suc i) c = ap (λ (k : List Column). plain x ∷ k) (plain_set l i c)

pub plain_rewriting : (f : Column → Column) → ((c : Column) → plain (f c) ≡ f (plain c)) → (member : ℕ → Bool) (k : ℕ) (l : List Column)
    → map plain (rewriting f member k l) ≡ rewriting f member k (map plain l)
unfolding rewriting
plain_rewriting f e member k [] = refl
plain_rewriting f e member k (c ∷ l) = ap₂ ◌∷◌ (go (member k)) (plain_rewriting f e member (suc k) l)
  where
    go : (b : Bool) → plain (cond b (f c) c) ≡ cond b (f (plain c)) (plain c)
    go true = e c
    go false = refl

-- ---- states and outcomes

pub twice : (s : State) → plain_state (plain_state s) ≡ plain_state s
twice s = ap (λ (l : List Column). state (record { tree = s.bank.tree; columns = l; count = s.bank.count }) s.heads s.doors) (plain_twice s.bank.columns)

pub column_plain : (b : Bank) (i : ℕ) → column_at (plain_bank b) i ≡ plain (column_at b i)
column_plain b i = get_or-map plain b.columns i no_column

pub plain_cond : (b : Bool) (s s' : State) → plain_state (cond b s s') ≡ cond b (plain_state s) (plain_state s')
plain_cond true s s' = refl
plain_cond false s s' = refl

pub plain_unless : (n : ℕ) (s : State) (o : Result State) → plain_outcome (unless n s o) ≡ unless n (plain_state s) (plain_outcome o)
plain_unless n s o = go (eqb n 0)
  where
    go : (b : Bool) → plain_outcome (cond b o (refused n s)) ≡ cond b (plain_outcome o) (refused n (plain_state s))
    go true = refl
    go false = refl

pub plain_fitting : (s next : State) → plain_outcome (fitting s next) ≡ fitting (plain_state s) (plain_state next)
unfolding fitting
plain_fitting s next = go (ltb capacity next.bank.count)
  where
    go : (b : Bool) → plain_outcome (cond b (refused 9 s) (accepted next)) ≡ cond b (refused 9 (plain_state s)) (accepted (plain_state next))
    go true = refl
    go false = refl

pub plain_put : (s : State) (p : Packet) → plain_state (put s p) ≡ put (plain_state s) p
unfolding put
plain_put s p =
    plain_cond (runs s.bank (receiver p)) (with_packet s p) s
    ∙ sym (ap (λ (c : Column). cond c.running (with_packet (plain_state s) p) (plain_state s)) (column_plain s.bank (receiver p)))

pub plain_puts : (l : List Packet) (s : State) → plain_state (puts s l) ≡ puts (plain_state s) l
unfolding puts
plain_puts [] s = refl
plain_puts (p ∷ l) s = plain_puts l (put s p) ∙ ap (λ (u : State). puts u l) (plain_put s p)

pub plain_column : (s : State) (i : ℕ) (c : Column) → plain_state (with_column s i c) ≡ with_column (plain_state s) i (plain c)
plain_column s i c =
    ap (λ (l : List Column). state (record { tree = s.bank.tree; columns = l; count = s.bank.count }) s.heads s.doors) (plain_set s.bank.columns i c)

pub plain_settled : (s gone : State) (i : ℕ) (r : core.Result) → plain_outcome (settled s gone i r) ≡ settled (plain_state s) (plain_state gone) i (plain_result r)
plain_settled s gone i (core.refused n c) = refl
plain_settled s gone i (core.accepted c l left) =
    plain_fitting s (puts (with_column (cond left s gone) i c) l)
    ∙ ap (fitting (plain_state s)) (plain_puts l (with_column (cond left s gone) i c)
    ∙ ap (λ (u : State). puts u l) (plain_column (cond left s gone) i c ∙ ap (λ (u : State). with_column u i (plain c)) (plain_cond left s gone)))
