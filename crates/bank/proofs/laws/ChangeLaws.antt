-- A change of one place and of the network is the step of the whole bank. Assumes nothing.
use Rattle.std.specs.Prelude.{ℕ, zero, suc, ◌+◌, ◌-◌, ◌≤◌, ◌<◌, ◌≡◌, Bool, true, false, not, ◌⊎◌, List, [], ◌∷◌, eqb, ltb, set, get_or, length, Ok, Err}
use Rattle.std.specs.Prelude as prelude
use Rattle.std.proofs.Math.Path.{refl, sym, ap}
use Rattle.std.proofs.Common.{ap₂, subst, ◌∙◌, true≢false, inl, inr, arith, get_or-set_same, eq-eqb, eqb-true, ltb-true, ltb-false}
use Rattle.column.specs.laws.Cases.{truth}
use Rattle.column.specs.Refusals.{first, earlier, refusal_number}
use Rattle.column.specs.Sets.{has, selected}
use Rattle.column.specs.laws.SetLaws.{selected_has}
use Rattle.column.specs.Packets.{receiver}
use Rattle.column.specs.Trees.{tree_refusal}
use Rattle.column.specs.Columns.{validity_refusal}
use Rattle.column.specs.laws.StateLaws.{acceptable, note_beyond}
use Rattle.column.specs.Steps as core
use Rattle.column.specs.Unchecked.{take_unchecked}
use Rattle.column.specs.laws.UncheckedLaws.{take_unchecked_lem}
use Rattle.column.specs.declared.error.Refusal.{Refusal}
use Rattle.column.specs.declared.outcome.Answer as core-answer
use Rattle.column.specs.declared.outcome.Answer.TheVariants as core_is
use Rattle.column.specs.declared.tree.Tree.{Tree}
use Rattle.column.specs.declared.state.Column.{Column}
use Rattle.column.specs.declared.packet.Packet.{Packet}
use Rattle.bank.specs.laws.ListLaws.{set_keeps}
use Rattle.bank.specs.Banks.{State, state, column_at, runs, halted_of, packet_at, no_column, acting_refusal}
use Rattle.bank.specs.laws.ValidityLaws.{Valid, acting_passes}
use Rattle.bank.specs.Networks.{with_packet, put, puts, removed}
use Rattle.bank.specs.inner.NetworkWords.{Appended, ClosedUp}
use Rattle.bank.specs.Steps.{Result, accepted, refused, with_column, fitting, settled, acted, noted, delivered}
use Rattle.bank.specs.Performs.{perform}
use Rattle.bank.specs.laws.StepLaws.{some_number, fits, put_halted, put_running, put_full, put_count, takes_off, settled_off, acted_refused, acted_settled}
use Rattle.bank.specs.inner.Changes.{Steady, Aimed, stored, changed, RunningIs, core_step}
use Rattle.bank.specs.laws.Steady.{steady_cond, steady_send, steady_take, aimed_unless, aimed_send, aimed_ack, aimed_take}
use Rattle.bank.specs.StepKinds.{is_own}
use Rattle.bank.specs.Rest.{is_refused}
use Rattle.bank.specs.inner.Moves.{acts}
use Rattle.bank.specs.declared.bank.Bank.{Bank}
use Rattle.bank.specs.declared.settling.Change.{Change}
use Rattle.bank.specs.declared.bank.Step.{Step}
use Rattle.bank.specs.declared.bank.Step.TheVariants.{Order, Send, Take, Ack, All, Note, Halt, Back, Write}

-- ---- a packet put

module _ (b : Bank) (i : ℕ) (heads doors : List ℕ) (c : Column) (count : ℕ) (count_is : b.count ≡ count) where
  abbrev s : State
  s = state b heads doors

  abbrev next : State
  next = with_column s i c

  -- the bank with column i and so many packets
  abbrev with : ℕ → List ℕ → List ℕ → State
  with n h d = state (stored b i (record { column = c; count = n })) h d

  counted : with count heads doors ≡ next
  counted = ap (λ n. with n heads doors) (sym count_is)

  pub settled_none : count ≤ 512 → accepted (with count heads doors) ≡ settled s s i (core.accepted c [] false)
  unfolding puts
  settled_none room = ap accepted counted ∙ fits s next (omega (arith, room, count_is))

  module _ (p : Packet) (running : ℕ) (running_is : RunningIs running b) (steady : c.running ≡ runs b i) (below : receiver p < b.tree.columns) where
    -- who runs is as before
    asked : has running (receiver p) ≡ runs next.bank (receiver p)
    asked = running_is (receiver p) below ∙ sym (set_keeps (λ (c : Column). c.running) no_column b.columns i c steady (receiver p))

    pub delivered_halted : has running (receiver p) ≡ false → count ≤ 512 → accepted (with count heads doors) ≡ fitting s (put next p)
    delivered_halted off room = ap accepted counted ∙ put_halted s next p (sym asked ∙ off) (omega (arith, room, count_is))

    pub delivered_full : has running (receiver p) ≡ true → count ≡ 512 → refused 9 s ≡ fitting s (put next p)
    delivered_full on full = put_full s next p (sym asked ∙ on) (count_is ∙ full)

    pub delivered_put : {h d : List ℕ} → Appended p count heads doors h d → has running (receiver p) ≡ true
        → count < 512 → accepted (with (count + 1) h d) ≡ fitting s (put next p)
    delivered_put {h = h} {d = d} words on room =
        ap accepted put_is ∙ put_running s next p (sym asked ∙ on) (omega (arith, room, count_is))
      where
        put_is : with (count + 1) h d ≡ with_packet next p
        put_is = rw (words.heads_are, words.doors_are, count_is)

  -- where the core puts a packet, and leaves the one that it was given or not
  pub settled_put : (a : core-answer.Answer) (p : Packet) → (a ≡ core_is.Put p) ⊎ (a ≡ core_is.Left p) → Steady (column_at b i) (core.answered c a)
      → Aimed b.tree (core.answered c a) → {o : Result State}
      → (c.running ≡ runs b i → receiver p < b.tree.columns → o ≡ fitting s (put next p)) → o ≡ settled s s i (core.answered c a)
  unfolding puts
  settled_put a p (inl e) steady aimed put_is =
      put_is (subst (λ (a : core-answer.Answer). Steady (column_at b i) (core.answered c a)) e steady) (subst (λ (a : core-answer.Answer). Aimed b.tree (core.answered c a)) e aimed)
      ∙ ap (λ (a : core-answer.Answer). settled s s i (core.answered c a)) (sym e)
  settled_put a p (inr e) steady aimed put_is =
      put_is (subst (λ (a : core-answer.Answer). Steady (column_at b i) (core.answered c a)) e steady) (subst (λ (a : core-answer.Answer). Aimed b.tree (core.answered c a)) e aimed)
      ∙ ap (λ (a : core-answer.Answer). settled s s i (core.answered c a)) (sym e)

-- ---- a packet taken off

module _ (b : Bank) (i : ℕ) (heads doors : List ℕ) (place : ℕ) (c : Column) (room : b.count - 1 < 512) where
  abbrev gone : State
  gone = removed (state b heads doors) place

  accepted_off : (a : core-answer.Answer) → takes_off a ≡ true → (u : State) × (settled gone gone i (core.answered c a) ≡ accepted u)
  unfolding puts
  accepted_off core_is.Done e = (with_column gone i c, sym (fits gone (with_column gone i c) (omega (arith, room))))
  accepted_off (core_is.Put p) e =
      let u = put (with_column gone i c) p in
      (u, sym (fits gone u (omega (arith, room, put_count (with_column gone i c) p))))
  accepted_off (core_is.Left p) e = absurd (true≢false (sym e))

  pub removed_words : {count : ℕ} {h d : List ℕ} → b.count ≡ count → ClosedUp place count heads doors h d → state gone.bank h d ≡ gone
  removed_words e k = rw (k.heads_are, k.doors_are, e)

  -- with the packet off, what is said of the bank without it is said of the bank
  pub changed_off : (a : core-answer.Answer) → takes_off a ≡ true → (r : prelude.Result Change Refusal) (h d : List ℕ)
      → changed gone.bank i r h d ≡ settled gone gone i (core.answered c a)
      → changed b i r h d ≡ settled (state b heads doors) gone i (core.answered c a)
  changed_off a e (Ok r) h d z = z ∙ settled_off (state b heads doors) gone i c room a e
  changed_off a e (Err n) h d z = absurd (true≢false (ap is_refused (z ∙ (accepted_off a e).1)))

-- ---- the core's step in a valid bank

module _ (s : State) (stood : Valid s) (i : ℕ) (below : i < s.bank.tree.columns) where
  abbrev t : Tree
  t = s.bank.tree

  abbrev column : Column
  column = column_at s.bank i

  pub valid_at : validity_refusal t i column ≡ 0
  valid_at = rw (eq-eqb (tree_refusal t) 0 stood.tree) (stood.columns i below)

  module _ (running : ℕ) where
    pub core_steady : (x : Step) → Steady column (core_step t running x i column)
    unfolding core.order_effect core.ack_effect core.all_effect core.note_effect
    core_steady (Order doors) = steady_cond (eqb (core.order_refusal t i column) 0) column _ _ refl tt
    core_steady (Send k) = steady_cond (eqb (core.send_refusal t i column) 0) column _ _ (steady_send t i column) tt
    core_steady (Take place) = tt
    core_steady (Ack k) = steady_cond (eqb (core.ack_refusal t i column) 0) column _ _ refl tt
    core_steady (All k) = steady_cond (eqb (core.all_refusal t i column) 0) column _ _ refl tt
    core_steady (Note k j) = steady_cond (eqb (earlier (core.note_refusal t i column j) (first ((6, has running j) ∷ []))) 0) column _ _ refl tt
    core_steady (Halt m) = tt
    core_steady (Back j) = tt
    core_steady (Write k offset value) = tt

    pub core_aimed : (x : Step) → Aimed t (core_step t running x i column)
    unfolding core.order_effect core.all_effect core.note_effect
    core_aimed (Order doors) = aimed_unless t (core.order_refusal t i column) column _ (λ e. tt)
    core_aimed (Send k) = aimed_send t i column valid_at
    core_aimed (Take place) = tt
    core_aimed (Ack k) = aimed_ack t i column valid_at
    core_aimed (All k) = aimed_unless t (core.all_refusal t i column) column _ (λ e. tt)
    core_aimed (Note k j) = aimed_unless t (earlier (core.note_refusal t i column j) (first ((6, has running j) ∷ []))) column _ (λ e. tt)
    core_aimed (Halt m) = tt
    core_aimed (Back j) = tt
    core_aimed (Write k offset value) = tt

    module _ (running_is : RunningIs running s.bank) where
      -- a j that the bank has not is refused before it is asked whether it runs
      noted_is : (j : ℕ) → core_step t running (Note i j) i column ≡ noted s.bank i j
      noted_is j = go (truth (ltb j t.columns))
        where
          tested : (a b : Bool) → a ≡ b → core.unless (earlier (core.note_refusal t i column j) (first ((6, a) ∷ []))) column (core.note_effect t column j)
              ≡ core.unless (earlier (core.note_refusal t i column j) (first ((6, b) ∷ []))) column (core.note_effect t column j)
          tested a b e = ap (λ (x : Bool). core.unless (earlier (core.note_refusal t i column j) (first ((6, x) ∷ []))) column (core.note_effect t column j)) e

          go : (ltb j t.columns ≡ true) ⊎ (ltb j t.columns ≡ false) → core_step t running (Note i j) i column ≡ noted s.bank i j
          go (inl e) = tested (has running j) (runs s.bank j) (running_is j (ltb-true j t.columns e))
          go (inr e) = rw (note_beyond t i column valid_at j (ltb-false j t.columns e))

      pub core_performs : (x : Step) → is_own x ≡ true → acts s x i ≡ true → settled s s i (core_step t running x i column) ≡ perform s x
      unfolding perform
      core_performs x own actor = settled_acted ∙ go x own actor
        where
          settled_acted : settled s s i (core_step t running x i column) ≡ acted s i (core_step t running x i column)
          settled_acted = acted_settled s i 0 (sym (acting_passes s stood i below)) (core_step t running x i column) refl refl

          go : (x : Step) → is_own x ≡ true → acts s x i ≡ true → acted s i (core_step t running x i column) ≡ perform s x
          go (Order doors) own e = ap (λ (k : ℕ). acted s k (core.order t k (column_at s.bank k) doors)) (eqb-true i t.root e)
          go (Send k) own e = ap (λ (k : ℕ). acted s k (core.send t k (column_at s.bank k))) (eqb-true i k e)
          go (Take place) own e = absurd (true≢false (sym own))
          go (Ack k) own e = ap (λ (k : ℕ). acted s k (core.ack t k (column_at s.bank k))) (eqb-true i k e)
          go (All k) own e = ap (λ (k : ℕ). acted s k (core.all t k (column_at s.bank k))) (eqb-true i k e)
          go (Note k j) own e = ap (acted s i) (noted_is j) ∙ ap (λ (k : ℕ). acted s k (noted s.bank k j)) (eqb-true i k e)
          go (Halt m) own e = absurd (true≢false (sym own))
          go (Back j) own e = absurd (true≢false (sym own))
          go (Write k offset value) own e = absurd (true≢false (sym own))

      -- what settles the core's step is the bank's
      pub own_done : (x : Step) → is_own x ≡ true → acts s x i ≡ true → {m : core.Result} {o : Result State} → m ≡ core_step t running x i column
          → (Steady column m → Aimed t m → o ≡ settled s s i m) → o ≡ perform s x
      own_done x own actor {m} e settles =
          settles (subst (Steady column) (sym e) (core_steady x)) (subst (Aimed t) (sym e) (core_aimed x)) ∙ ap (settled s s i) e ∙ core_performs x own actor

-- a step of the core whose column is refused
pub own_refused : (s : State) (x : Step) (i : ℕ) (e : Refusal) → is_own x ≡ true → acts s x i ≡ true → refusal_number e ≡ acting_refusal s i
    → refused (refusal_number e) s ≡ perform s x
unfolding perform
own_refused s x i e own actor is = go x own actor
  where
    by : (f : ℕ → core.Result) (j : ℕ) → eqb i j ≡ true → refused (refusal_number e) s ≡ acted s j (f j)
    by f j z = acted_refused s i (refusal_number e) is (f i) (some_number e) ∙ ap (λ (j : ℕ). acted s j (f j)) (eqb-true i j z)

    go : (x : Step) → is_own x ≡ true → acts s x i ≡ true → refused (refusal_number e) s ≡ perform s x
    go (Order doors) own z = by (λ (j : ℕ). core.order s.bank.tree j (column_at s.bank j) doors) s.bank.tree.root z
    go (Send j) own z = by (λ (j : ℕ). core.send s.bank.tree j (column_at s.bank j)) j z
    go (Take place) own z = absurd (true≢false (sym own))
    go (Ack j) own z = by (λ (j : ℕ). core.ack s.bank.tree j (column_at s.bank j)) j z
    go (All j) own z = by (λ (j : ℕ). core.all s.bank.tree j (column_at s.bank j)) j z
    go (Note j k) own z = by (λ (j : ℕ). noted s.bank j k) j z
    go (Halt m) own z = absurd (true≢false (sym own))
    go (Back j) own z = absurd (true≢false (sym own))
    go (Write k offset value) own z = absurd (true≢false (sym own))

-- ---- a packet given to its receiver in a valid bank

module _ (s : State) (stood : Valid s) (place : ℕ) (there : place < s.bank.count) where
  abbrev p : Packet
  p = packet_at s place

  to_below : receiver p < s.bank.tree.columns
  to_below = (acceptable s.bank.tree p (stood.packets place there)).receiver_below

  pub taken_done : (i : ℕ) → i ≡ receiver p → (m : core.Result) → m ≡ take_unchecked s.bank.tree i (column_at s.bank i) p
      → {after : Result State} → (Steady (column_at s.bank i) m → Aimed s.bank.tree m → after ≡ settled s (removed s place) i m)
      → after ≡ delivered s place p
  unfolding delivered
  taken_done i is m e settles =
      let t = s.bank.tree in
      let c = column_at s.bank i in
      let fit = stood.packets place there in
      let good = valid_at s stood i (subst (λ (j : ℕ). j < t.columns) (sym is) to_below) in
      let same : m ≡ core.take t i c p = e ∙ take_unchecked_lem t i c good p fit in
      let steady = steady_cond (eqb (core.take_refusal t i c p) 0) c (core.take_effect t i c p) (core.refused (core.take_refusal t i c p) c) (steady_take t i c p) tt in
      settles (subst (Steady c) (sym same) steady) (subst (Aimed t) (sym same) (aimed_take t i c good p fit))
      ∙ ap (settled s (removed s place) i) same
      ∙ ap (λ (j : ℕ). settled s (removed s place) j (core.take t j (column_at s.bank j) p)) is

-- ---- who runs

pub running_is_of : (b : Bank) {m : ℕ} → m ≡ selected (runs b) b.tree.columns → RunningIs m b
running_is_of b e j h = ap (λ (m : ℕ). has m j) e ∙ selected_has (runs b) b.tree.columns j h

-- a column that runs has a place
pub placed : (l : List Column) (i : ℕ) → (get_or l i no_column).running ≡ true → i < length l
placed [] i e = absurd (true≢false (sym e))
placed (c ∷ l) zero e = omega arith
placed (c ∷ l) (suc i) e = let h = placed l i e in omega (arith, h)

pub stored_at : (b : Bank) (i : ℕ) (r : Change) → runs b i ≡ true → column_at (stored b i r) i ≡ r.column
stored_at b i r e = get_or-set_same b.columns i r.column no_column (placed b.columns i e)

-- where the same run in another state of a bank
module _ (b d : Bank) (same_tree : d.tree ≡ b.tree) (same : (j : ℕ) → runs d j ≡ runs b j) where
  pub running_is_on : (m : ℕ) → RunningIs m b → RunningIs m d
  running_is_on m running_is j h = running_is j (subst (λ (t : Tree). j < t.columns) same_tree h) ∙ sym (same j)

  pub halted_on : halted_of d ≡ halted_of b
  halted_on = ap₂ (λ (f : ℕ → Bool) (t : Tree). selected (λ j. not (f j)) t.columns) (λ x j. same j x) same_tree
