-- A step rewrites the places of the columns that act, and no other: "unused ones never change". They run, unless one comes back or a page is
-- written: so a halted column keeps what it holds until then, but for one that comes back meanwhile, which it strikes from those noted, and its page. Assumes nothing.
use Rattle.std.specs.Prelude.{ℕ, ◌≤◌, ◌<◌, ◌≡◌, Bool, not, cond, List, [], ◌∷◌, eqb, leb, ltb, length, get_or}
use Rattle.std.proofs.Math.Path.{refl}
use Rattle.std.proofs.Common.{sym, ap, subst, ◌∙◌, true≢false, ⊎_elim, arith, get_or-set_other}
use Rattle.std.proofs.Math.Bool.{true, false}
use borrow.Author.Tests.{eq-eqb, ne_eqb, eqb-true, eqb-false, leb-false, ltb-true, ltb-false, not-false}
use Rattle.column.specs.laws.Cases.{truth}
use Rattle.column.specs.Sets.{has}
use Rattle.column.specs.Refusals.{first, earlier}
use Rattle.column.specs.laws.RefusalLaws.{passed, earlier_none}
use Rattle.column.specs.Columns.{validity_refusal}
use Rattle.column.specs.laws.StateLaws.{validity_refusal_sound}
use Rattle.column.specs.Packets.{receiver}
use Rattle.column.specs.Returns.{struck}
use Rattle.column.specs.Steps as core
use Rattle.column.specs.declared.tree.Tree.{Tree}
use Rattle.column.specs.declared.state.Column.{Column}
use Rattle.column.specs.declared.packet.Packet.{Packet}
use Rattle.bank.specs.Banks.{State, state, column_at, runs, packet_at, capacity, no_column, bank_refusal, acting_refusal}
use Rattle.bank.specs.Networks.{with_packet, put, puts, removed, vanished}
use Rattle.bank.specs.Steps.{Result, accepted, refused, after, unless, fitting, with_column, settled, acted, delivered, take_refusal, halted, halt_conditions, halt_refusal}
use Rattle.bank.specs.Returns.{back_conditions, back_refusal, come_back, returned}
use Rattle.bank.specs.Pages.{write_refusal}
use Rattle.bank.proofs.laws.ReturnLaws.{returning, place_mine, place_struck, place_unused}
use Rattle.bank.specs.Performs.{perform}
use Rattle.bank.specs.Exact.{own_refusal, refusal_of}
use Rattle.bank.specs.laws.Kinds.{of_halted, by_no_column}
use Rattle.bank.proofs.laws.ExactLaws.{exact}
use Rattle.bank.specs.laws.strips.StripStates.{column_at_lem}
use Rattle.bank.specs.laws.strips.StripLaws.{halts}
use Rattle.bank.specs.Rest.{Running}
use Rattle.bank.specs.inner.Moves.{acts}
use Rattle.bank.specs.declared.bank.Step.{Step}
use Rattle.bank.specs.declared.bank.Step.TheVariants.{Order, Send, Take, Ack, All, Note, Halt, Back, Write}

pub one_acts : (s : State) (x : Step) (i j : ℕ) → by_no_column x ≡ false → acts s x i ≡ true → (j ≡ i → ⊥) → acts s x j ≡ false
one_acts s x i j = go x
  where
    one : (k : ℕ) → eqb i k ≡ true → (j ≡ i → ⊥) → eqb j k ≡ false
    one k h other = ne_eqb j k (λ e. other (e ∙ sym (eqb-true i k h)))

    go : (x : Step) → by_no_column x ≡ false → acts s x i ≡ true → (j ≡ i → ⊥) → acts s x j ≡ false
    go (Order doors) e = one s.bank.tree.root
    go (Send k) e = one k
    go (Take place) e = one (receiver (packet_at s place))
    go (Ack k) e = one k
    go (All k) e = one k
    go (Note k l) e = one k
    go (Halt m) e = absurd (true≢false e)
    go (Back k) e = absurd (true≢false e)
    go (Write k offset value) e = absurd (true≢false e)

-- ---- what a step keeps

put_kept : (s : State) (p : Packet) → ((put s p).bank.tree ≡ s.bank.tree) × ((put s p).bank.columns ≡ s.bank.columns)
unfolding put
put_kept s p = go (runs s.bank (receiver p))
  where
    go : (b : Bool) → let u : State = cond b (with_packet s p) s in (u.bank.tree ≡ s.bank.tree) × (u.bank.columns ≡ s.bank.columns)
    go true = (refl, refl)
    go false = (refl, refl)

pub puts_kept : (l : List Packet) (s : State) → ((puts s l).bank.tree ≡ s.bank.tree) × ((puts s l).bank.columns ≡ s.bank.columns)
unfolding puts
puts_kept [] s = (refl, refl)
puts_kept (p ∷ l) s =
    let one = put_kept s p in
    let rest = puts_kept l (put s p) in
    (rest.0 ∙ one.0, rest.1 ∙ one.1)

-- what no refusal rewrites, read off a state
module _ {A : Type 0} (read : State → A) (s : State) where
  abbrev Kept : Result State → Type 0
  Kept o = read (after o) ≡ read s

  kept_unless : (n : ℕ) (o : Result State) → Kept o → Kept (unless n s o)
  kept_unless n o h = go (eqb n 0)
    where
      go : (b : Bool) → Kept (cond b o (refused n s))
      go true = h
      go false = refl

  kept_fitting : (next : State) → read next ≡ read s → Kept (fitting s next)
  unfolding fitting
  kept_fitting next h = go (ltb capacity next.bank.count)
    where
      go : (b : Bool) → Kept (cond b (refused 9 s) (accepted next))
      go true = refl
      go false = h

  -- a step of column i keeps it, where neither a packet nor the place of column i alters it
  module _ (i : ℕ)
      (over : (u : State) (c : Column) (l : List Packet) → read u ≡ read s → read (puts (with_column u i c) l) ≡ read s) where
    kept_settled : (gone : State) → read gone ≡ read s → (r : core.Result) → Kept (settled s gone i r)
    kept_settled gone same (core.refused n c) = refl
    kept_settled gone same (core.accepted c packets left) = kept_fitting _ (over (cond left s gone) c packets (go left))
      where
        go : (b : Bool) → read (cond b s gone) ≡ read s
        go true = refl
        go false = same

    kept_acted : (r : core.Result) → Kept (acted s i r)
    unfolding acted
    kept_acted r = kept_unless (acting_refusal s i) _ (kept_settled s refl r)

-- ---- the other places

place_kept : (s : State) (i j : ℕ) → (j ≡ i → ⊥) → (u : State) (c : Column) (l : List Packet)
    → column_at u.bank j ≡ column_at s.bank j → column_at (puts (with_column u i c) l).bank j ≡ column_at s.bank j
place_kept s i j other u c l same =
    ap (λ (l : List Column). get_or l j no_column) (puts_kept l _).1 ∙ get_or-set_other u.bank.columns i j c no_column other ∙ same

kept_halted : (s : State) (m j : ℕ) → has m j ≡ false → (b : Bool)
    → column_at (after (cond b (accepted (halted s (has m))) (refused (halt_refusal s m) s))).bank j ≡ column_at s.bank j
kept_halted s m j e true = column_at_lem s (has m) j ∙ rw e
kept_halted s m j e false = refl

kept_returned : (s : State) (i j : ℕ) → ltb j s.bank.tree.columns ≡ false → (b : Bool) → eqb (back_refusal s i) 0 ≡ b
    → column_at (after (cond b (accepted (state (returned s.bank i) s.heads s.doors)) (refused (back_refusal s i) s))).bank j ≡ column_at s.bank j
kept_returned s i j e true ok =
    let high = ltb-false j s.bank.tree.columns e in
    let below = (returning s i (eqb-true (back_refusal s i) 0 ok)).below in
    place_unused s.bank i j (λ z. omega (arith, high, below, z)) high
kept_returned s i j e false ok = refl

pub others_kept : (s : State) (x : Step) (j : ℕ) → acts s x j ≡ false → column_at (after (perform s x)).bank j ≡ column_at s.bank j
unfolding perform delivered
others_kept s x j = go x
  where
    read : State → Column
    read u = column_at u.bank j

    one : (i : ℕ) → eqb j i ≡ false → (r : core.Result) → read (after (acted s i r)) ≡ read s
    one i e = kept_acted read s i (place_kept s i j (eqb-false j i e))

    go : (x : Step) → acts s x j ≡ false → read (after (perform s x)) ≡ read s
    go (Order doors) e = one _ e _
    go (Send i) e = one i e _
    go (Take place) e =
        let i = receiver (packet_at s place) in
        kept_unless read s (take_refusal s place) _
        (kept_settled read s i (place_kept s i j (eqb-false j i e)) (removed s place) refl (core.take _ _ _ _))
    go (Ack i) e = one i e _
    go (All i) e = one i e _
    go (Note i k) e = one i e _
    go (Halt m) e = kept_halted s m j e (eqb (halt_refusal s m) 0)
    go (Back i) e = kept_returned s i j e (eqb (back_refusal s i) 0) refl
    go (Write i offset value) e =
        kept_unless read s (write_refusal s i offset) _ (get_or-set_other s.bank.columns i j _ no_column (eqb-false j i e))

-- ---- the tree

pub tree_kept : (s : State) (x : Step) → (after (perform s x)).bank.tree ≡ s.bank.tree
unfolding perform delivered halted vanished returned
tree_kept s x = go x
  where
    read : State → Tree
    read u = u.bank.tree

    over : (i : ℕ) (u : State) (c : Column) (l : List Packet) → read u ≡ read s → read (puts (with_column u i c) l) ≡ read s
    over i u c l same = (puts_kept l _).0 ∙ same

    one : (i : ℕ) (r : core.Result) → read (after (acted s i r)) ≡ read s
    one i = kept_acted read s i (over i)

    go : (x : Step) → read (after (perform s x)) ≡ read s
    go (Order doors) = one _ _
    go (Send i) = one i _
    go (Take place) =
        let i = receiver (packet_at s place) in
        kept_unless read s (take_refusal s place) _ (kept_settled read s i (over i) (removed s place) refl (core.take _ _ _ _))
    go (Ack i) = one i _
    go (All i) = one i _
    go (Note i k) = one i _
    go (Halt m) = kept_unless read s (halt_refusal s m) _ refl
    go (Back j) = kept_unless read s (back_refusal s j) _ refl
    go (Write i offset value) = kept_unless read s (write_refusal s i offset) _ refl

-- ---- who acts

abbrev t : State → Tree
t s = s.bank.tree

abbrev c : State → ℕ → Column
c s i = column_at s.bank i

-- a column of the bank, which runs unless one comes back or a page is written
abbrev pub Acting : State → Step → ℕ → Type 0
Acting s x j = (j < s.bank.tree.columns) × (of_halted x ≡ false → runs s.bank j ≡ true)

module _ (s : State) (x : Step) (i : ℕ) where
  -- the core tests the column first, and among the step's own conditions that it runs
  runs_by : (m : ℕ) → (m ≡ 0 → not (c s i).running ≡ false) → earlier (validity_refusal (t s) i (c s i)) m ≡ 0
      → (j : ℕ) → eqb j i ≡ true → Acting s x j
  runs_by m five e j a =
      let q = earlier_none (validity_refusal (t s) i (c s i)) m e in
      subst (Acting s x) (sym (eqb-true j i a))
      ((validity_refusal_sound (t s) i (c s i) q.0).below, λ _. not-false (c s i).running (five q.1))

members_run_lem : (s : State) (m : ℕ) → bank_refusal s ≡ 0 → first (halt_conditions s m) ≡ 0 → (j : ℕ) → has m j ≡ true → Running s j
unfolding halt_refusal
members_run_lem s m b e j h = (halts s m (rw (eq-eqb (bank_refusal s) 0 b) e)).2 j h

own_acting : (s : State) (x : Step) → bank_refusal s ≡ 0 → own_refusal s x ≡ 0 → (j : ℕ) → acts s x j ≡ true → Acting s x j
unfolding core.order_refusal core.send_refusal core.take_refusal core.ack_refusal core.all_refusal core.note_refusal
own_acting s (Order doors) b e =
    runs_by s (Order doors) (t s).root _ (λ z. (passed (core.order_conditions (t s) (t s).root (c s (t s).root)) tt z).1.0) e
own_acting s (Send i) b e = runs_by s (Send i) i _ (λ z. (passed (core.send_conditions (t s) i (c s i)) tt z).0) e
own_acting s (Take place) b e =
    let p = packet_at s place in
    let l = core.take_conditions (t s) (receiver p) (c s (receiver p)) p in
    runs_by s (Take place) (receiver p) _ (λ z. (passed l tt (earlier_none (core.packet_refusal (t s) p) (first l) z).1).1.0)
    (earlier_none (first ((10, leb s.bank.count place) ∷ [])) _ e).1
own_acting s (Ack i) b e = runs_by s (Ack i) i _ (λ z. (passed (core.ack_conditions (t s) i (c s i)) tt z).0) e
own_acting s (All i) b e = runs_by s (All i) i _ (λ z. (passed (core.all_conditions (t s) i (c s i)) tt z).0) e
own_acting s (Note i k) b e =
    runs_by s (Note i k) i _ (λ z. (passed (core.note_conditions (t s) i (c s i) k) tt z).1.0) (earlier_none _ (first ((6, runs s.bank k) ∷ [])) e).0
own_acting s (Halt m) b e = λ j h. let r = members_run_lem s m b e j h in (r.0, λ _. r.1)
own_acting s (Back i) b e = λ j h. (ltb-true j (t s).columns h, λ n. absurd (true≢false n))
own_acting s (Write i offset value) b e = λ j h.
    let z = passed ((4, leb (t s).columns i) ∷ []) tt (earlier_none (first ((4, leb (t s).columns i) ∷ [])) _ e).0 in
    (subst (λ k. k < (t s).columns) (sym (eqb-true j i h)) (leb-false (t s).columns i z.0), λ n. absurd (true≢false n))

-- a step that is not refused is one of columns of the bank
pub acting_is : (s : State) (x : Step) → refusal_of s x ≡ 0 → (j : ℕ) → acts s x j ≡ true → Acting s x j
acting_is s x e =
    let q = earlier_none (bank_refusal s) _ e in
    own_acting s x q.0 (earlier_none (own_refusal s x) _ q.1).0

-- ---- who does not run, and what is unused

module _ (s : State) (x : Step) (j : ℕ) where
  idle_kept : (Acting s x j → ⊥) → column_at (after (perform s x)).bank j ≡ column_at s.bank j
  idle_kept idle = go (eqb (refusal_of s x) 0) refl
    where
      go : (b : Bool) → eqb (refusal_of s x) 0 ≡ b → column_at (after (perform s x)).bank j ≡ column_at s.bank j
      go true e = others_kept s x j (⊎_elim (λ a. absurd (idle (acting_is s x (eqb-true (refusal_of s x) 0 e) j a))) (λ a. a) (truth (acts s x j)))
      go false e = ap (λ (o : Result State). column_at (after o).bank j) (exact s x) ∙ rw e

  -- number, doors, sets, those noted and goal stay as they were, until a column comes back, and the page until one is written
  pub halted_kept : of_halted x ≡ false → runs s.bank j ≡ false → column_at (after (perform s x)).bank j ≡ column_at s.bank j
  halted_kept none h = idle_kept (λ a. true≢false (sym (a.1 none) ∙ h))

  -- "All sixteen places are held, whatever the count; unused ones never change."
  pub unused_kept : s.bank.tree.columns ≤ j → column_at (after (perform s x)).bank j ≡ column_at s.bank j
  unused_kept h = idle_kept (λ a. omega (arith, h, a.0))

-- ---- a return

module _ (s : State) (j : ℕ) (ok : refusal_of s (Back j) ≡ 0) where
  goes : after (perform s (Back j)) ≡ state (returned s.bank j) s.heads s.doors
  unfolding perform back_refusal
  goes =
      let q = earlier_none (bank_refusal s) _ ok in
      rw (eq-eqb (bank_refusal s) 0 q.0, eq-eqb (first (back_conditions s j)) 0 (earlier_none (first (back_conditions s j)) 0 q.1).0)

  -- "all others strike it from those noted", halted ones too, and keep all else that they hold
  pub others_struck : (k : ℕ) → (k ≡ j → ⊥) → k < s.bank.tree.columns
      → column_at (after (perform s (Back j))).bank k ≡ struck (column_at s.bank k) j
  others_struck k other h = ap (λ (u : State). column_at u.bank k) goes ∙ place_struck s.bank j k other h

  -- "The column runs with the record of the lowest running column .."
  pub comes_back : j < length s.bank.columns → column_at (after (perform s (Back j))).bank j ≡ come_back s.bank j
  comes_back h = ap (λ (u : State). column_at u.bank j) goes ∙ place_mine s.bank j h

  -- "Coming back changes neither 5 nor 6."
  pub page_kept : j < length s.bank.columns → let c = column_at (after (perform s (Back j))).bank j in
      (c.mask ≡ (column_at s.bank j).mask) × (c.pending ≡ (column_at s.bank j).pending)
  page_kept h = (ap (λ (c : Column). c.mask) (comes_back h), ap (λ (c : Column). c.pending) (comes_back h))
