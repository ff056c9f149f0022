-- The column that acts in an accepted step passes row 4 after it, so that nobody tests it again. Assumes nothing.
use Rattle.std.specs.Prelude.{ℕ, ◌≡◌, Bool, cond, List, eqb, ltb, set, get_or}
use Rattle.std.proofs.Math.Path.{refl}
use Rattle.std.proofs.Common.{sym, ap, subst, ◌∙◌, true≢false, get_or-set_same, eqb-true}
use Rattle.std.proofs.Math.Bool.{true, false}
use Rattle.column.specs.laws.RefusalLaws.{earlier_none}
use Rattle.column.specs.Packets.{receiver}
use Rattle.column.specs.Columns.{state_refusal}
use Rattle.column.proofs.laws.KeptLaws.{Keeps, keeps_unless, order_keeps, send_keeps, take_keeps, ack_keeps, all_keeps, note_keeps}
use Rattle.column.specs.Steps as core
use Rattle.column.specs.declared.tree.Tree.{Tree}
use Rattle.column.specs.declared.state.Column.{Column}
use Rattle.bank.specs.Banks.{State, column_at, runs, packet_at, no_column, capacity, acting_refusal}
use Rattle.bank.specs.Networks.{removed}
use Rattle.bank.specs.Steps.{Result, accepted, refused, unless, fitting, with_column, settled, acted, delivered, note_refusal, take_refusal}
use Rattle.bank.specs.Performs.{perform}
use Rattle.bank.proofs.laws.ChangeLaws.{placed}
use Rattle.bank.specs.laws.Kinds.{by_no_column}
use Rattle.bank.specs.inner.Moves.{acts}
use Rattle.bank.proofs.laws.Places.{puts_kept}
use Rattle.bank.specs.declared.bank.Step.{Step}
use Rattle.bank.specs.declared.bank.Step.TheVariants.{Order, Send, Take, Ack, All, Note, Halt, Back, Write}

-- only place i is rewritten, by a column that row 4 lets pass
abbrev Passing : State → ℕ → Result State → Type 0
Passing s i (accepted u) = (d : Column) × (u.bank.columns ≡ set s.bank.columns i d) × (state_refusal s.bank.tree i d ≡ 0)
Passing s i (refused n u) = Unit {0}

module _ (s : State) (i : ℕ) where
  abbrev t : Tree
  t = s.bank.tree

  passing_unless : (n : ℕ) (o : Result State) → Passing s i o → Passing s i (unless n s o)
  passing_unless n o h = go (eqb n 0)
    where
      go : (b : Bool) → Passing s i (cond b o (refused n s))
      go true = h
      go false = tt

  passing_fitting : (next : State) (d : Column) → next.bank.columns ≡ set s.bank.columns i d → state_refusal t i d ≡ 0 → Passing s i (fitting s next)
  unfolding fitting
  passing_fitting next d e z = go (ltb capacity next.bank.count)
    where
      go : (b : Bool) → Passing s i (cond b (refused 9 s) (accepted next))
      go true = tt
      go false = (d, e, z)

  passing_settled : (gone : State) → gone.bank.columns ≡ s.bank.columns → (r : core.Result) → Keeps t i r → Passing s i (settled s gone i r)
  passing_settled gone same (core.refused n d) h = tt
  passing_settled gone same (core.accepted d packets left) h =
      passing_fitting _ d ((puts_kept packets (with_column (cond left s gone) i d)).1 ∙ ap (λ (l : List Column). set l i d) (go left)) h
    where
      go : (b : Bool) → (cond b s gone).bank.columns ≡ s.bank.columns
      go true = refl
      go false = same

  passing_acted : (n : ℕ) (effect : core.Result) → (n ≡ 0 → Keeps t i effect) → Passing s i (acted s i (core.unless n (column_at s.bank i) effect))
  unfolding acted
  passing_acted n effect h =
      passing_unless (acting_refusal s i) _ (passing_settled s refl (core.unless n (column_at s.bank i) effect) (keeps_unless t i n (column_at s.bank i) effect h))

  abbrev c : Column
  c = column_at s.bank i

passing : (s : State) (x : Step) → by_no_column x ≡ false → (i : ℕ) → acts s x i ≡ true → Passing s i (perform s x)
unfolding perform delivered
passing s x e i a = go x e a
  where
    at : (k : ℕ) (x : Step) → eqb i k ≡ true → Passing s k (perform s x) → Passing s i (perform s x)
    at k x a h = subst (λ (k : ℕ). Passing s k (perform s x)) (sym (eqb-true i k a)) h

    go : (x : Step) → by_no_column x ≡ false → acts s x i ≡ true → Passing s i (perform s x)
    go (Order doors) e a =
        let k = (t s i).root in
        at k (Order doors) a (passing_acted s k _ (core.order_effect (t s k) k (c s k) doors) (order_keeps (t s k) k (c s k) doors))
    go (Send k) e a = at k (Send k) a (passing_acted s k _ _ (send_keeps (t s k) k (c s k)))
    go (Take place) e a =
        let p = packet_at s place in
        let k = receiver p in
        at k (Take place) a
        (passing_unless s k (take_refusal s place) _
        (passing_settled s k (removed s place) refl (core.take (t s k) k (c s k) p)
        (keeps_unless (t s k) k (core.take_refusal (t s k) k (c s k) p) (c s k) (core.take_effect (t s k) k (c s k) p) (take_keeps (t s k) k (c s k) p))))
    go (Ack k) e a = at k (Ack k) a (passing_acted s k _ _ (ack_keeps (t s k) k (c s k)))
    go (All k) e a = at k (All k) a (passing_acted s k _ _ (all_keeps (t s k) k (c s k)))
    go (Note k j) e a =
        at k (Note k j) a
        (passing_acted s k (note_refusal s.bank k j) (core.note_effect (t s k) (c s k) j)
        (λ z. note_keeps (t s k) k (c s k) j (earlier_none (core.note_refusal (t s k) k (c s k) j) _ z).0))
    go (Halt m) e a = absurd (true≢false e)
    go (Back j) e a = absurd (true≢false e)
    go (Write k offset value) e a = absurd (true≢false e)

pub column_on : (s : State) (x : Step) (s' : State) (i : ℕ) → by_no_column x ≡ false → perform s x ≡ accepted s' → acts s x i ≡ true → runs s.bank i ≡ true
    → state_refusal s.bank.tree i (column_at s'.bank i) ≡ 0
column_on s x s' i e done a r =
    let q = subst (Passing s i) done (passing s x e i a) in
    let at : column_at s'.bank i ≡ q.0 =
    ap (λ (l : List Column). get_or l i no_column) q.1 ∙ get_or-set_same s.bank.columns i q.0 no_column (placed s.bank.columns i r) in
    ap (state_refusal s.bank.tree i) at ∙ q.2
