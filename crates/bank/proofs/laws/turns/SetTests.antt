-- In a valid bank a step of a running column is refused exactly where the test by sets fails, and the first accepted one is found by these tests. Assumes nothing.
use Rattle.std.specs.Prelude.{ℕ, ◌^◌, ◌<◌, ◌≡◌, ◌⊎◌, Bool, ◌&&◌, ◌||◌, cond, eqb, ltb}
use Rattle.std.proofs.Math.Path.{refl, sym, ap}
use Rattle.std.proofs.Common.{◌∙◌, inl, inr, true≢false, arith, lt_of_lt_of_le, pow_mono}
use Rattle.std.proofs.Math.Bool.{true, false, not, or-true}
use mathlib.Core.List.{[], ◌∷◌}
use borrow.Author.Tests.{eq-eqb, ne_eqb, eqb-false, ltb-true, ltb-false, lt-leb, not-false, eqb-true}
use Rattle.column.specs.laws.Cases.{truth, and_left}
use Rattle.column.specs.Refusals.{first, earlier}
use Rattle.column.specs.Sets.{within, has, minus, lowest, join}
use Rattle.column.specs.Trees.{choose}
use Rattle.column.specs.laws.SetLaws.{has_minus, selected_has, within_lt, selected_lt, join_lt, has_none, member_lt}
use Rattle.column.specs.laws.Digits.{lowest_member, lowest_none}
use Rattle.column.specs.laws.TreeLaws.{tree_sixteen}
use Rattle.column.proofs.laws.ChoiceLaws.{choose_lt}
use Rattle.column.specs.Columns.{idle, validity_refusal, state_conditions, state_refusal, watched, may_acknowledge}
use Rattle.column.specs.laws.RefusalLaws.{passed}
use Rattle.column.specs.laws.StateLaws.{Sound, sound}
use Rattle.column.specs.Steps as core
use Rattle.column.specs.declared.tree.Tree.{Tree}
use Rattle.column.specs.declared.state.Column.{Column}
use Rattle.column.specs.declared.packet.Packet.TheVariants.{Message}
use Rattle.bank.specs.Banks.{State, column_at, runs, halted_of, capacity, places}
use Rattle.bank.specs.laws.ValidityLaws.{Valid, valid_passes}
use Rattle.bank.specs.Steps.{send, ack, all, note}
use Rattle.bank.specs.Performs.{perform}
use Rattle.bank.specs.Rest.{is_refused}
use Rattle.bank.proofs.laws.RestSteps.{refuses, refused_exactly, then_refuses}
use Rattle.bank.specs.Exact.{own_refusal, raises, raised, overfull}
use Rattle.bank.specs.declared.bank.Step.{Step}
use Rattle.bank.specs.declared.bank.Step.TheVariants.{Send, Ack, All, Note}
use Rattle.bank.specs.inner.Turning.{fits, can_send, can_ack, can_take_over, is_full, step_of}
use Rattle.bank.specs.declared.bank.Bank.{Bank}
use Rattle.bank.proofs.laws.turns.AcceptedLists.{first_append, first_none, first_at}
use Rattle.std.specs.Int.Bits.{xor_lt}
use Rattle.bank.specs.Dispatch.{offers, first_accepted}

-- ---- a valid bank refuses by the step's own number, and where a packet has no room

module _ (s : State) (st : Valid s) (i : ℕ) (h : i < s.bank.tree.columns) (r : runs s.bank i ≡ true) where
  abbrev b : Bank
  b = s.bank

  abbrev t : Tree
  t = b.tree

  abbrev c : Column
  c = column_at b i

  abbrev full : Bool
  full = is_full b

  abbrev halted : ℕ
  halted = halted_of b

  ok : validity_refusal t i c ≡ 0
  ok = rw st.tree (st.columns i h)

  members : Sound t i c
  members = sound t i c (st.columns i h)

  exactly : (x : Step) → is_refused (perform s x) ≡ ((raised s x && full) || refuses (own_refusal s x))
  exactly x =
      refused_exactly s x
      ∙ ap (λ (n : ℕ). refuses (earlier n (earlier (own_refusal s x) (first ((9, overfull s x) ∷ []))))) (valid_passes s st)
      ∙ then_refuses (own_refusal s x) 8 (overfull s x)
      ∙ ap (λ (f : Bool). (raised s x && f) || refuses (own_refusal s x)) (count_full (truth (ltb b.count capacity)))
    where
      count_full : (ltb b.count capacity ≡ true) ⊎ (ltb b.count capacity ≡ false) → eqb b.count capacity ≡ full
      count_full (inl l) = ne_eqb b.count capacity (λ e. omega (arith, e, ltb-true b.count capacity l)) ∙ ap not (sym l)
      count_full (inr g) = eq-eqb b.count capacity (omega (arith, st.room, ltb-false b.count capacity g)) ∙ ap not (sym g)

  halted_has : (j : ℕ) → j < t.columns → has halted j ≡ not (runs b j)
  halted_has j l = selected_has (λ k. not (runs b k)) t.columns j l

  -- the lowest of a set that row 4 passes is one of its members
  lowest_in : (m : ℕ) → within m t.columns ≡ true → eqb m 0 ≡ false → has m (lowest m) ≡ true
  lowest_in m w e =
      let small : m < 2 ^ 16 = lt_of_lt_of_le (within_lt m t.columns w) (pow_mono (tree_sixteen t st.tree)) in
      let some : 0 < m = omega (arith, eqb-false m 0 e) in
      lowest_member 16 m small some

  -- ---- send

  abbrev k : ℕ
  k = choose t c.send

  send_below : eqb c.send 0 ≡ false → k < t.columns
  unfolding state_refusal
  send_below e =
      let p = passed (state_conditions t i c) tt (st.columns i h) in
      choose_lt t st.tree c.send (within_lt c.send t.columns (not-false _ p.1.0)) (omega (arith, eqb-false c.send 0 e))

  send_own : (empty : Bool) → eqb c.send 0 ≡ empty → core.send_refusal t i c ≡ cond empty 6 0
  unfolding core.send_refusal
  send_own empty e = simp (ok, r, e)

  send_raises : raised s (Send i) ≡ (not (eqb k i) && (not (has c.noted k) && runs b k))
  unfolding core.send_effect
  send_raises = go (eqb k i) (has c.noted k) _ _ _
    where
      go : (own noted : Bool) (x y z : Column)
          → raises false b (cond own (core.accepted x [] false) (cond noted (core.accepted y [] false)
          (core.accepted z (Message i k c.number c.doors ∷ []) false)))
          ≡ (not own && (not noted && runs b k))
      go true noted x y z = refl
      go false true x y z = refl
      go false false x y z = refl

  pub send_exact : is_refused (send s i) ≡ not (can_send t full halted i c)
  unfolding perform
  send_exact =
      exactly (Send i) ∙ ap (λ (x : Bool). (x && full) || refuses (core.send_refusal t i c)) send_raises ∙ go (eqb c.send 0) refl
    where
      somebody : (own noted running none : Bool)
          → (((not own && (not noted && running)) && none) || false) ≡ not (own || (noted || (not none || not running)))
      somebody true noted running none = refl
      somebody false true running none = refl
      somebody false false true true = refl
      somebody false false true false = refl
      somebody false false false none = sym (ap not (or-true (not none)))

      over : Bool
      over = (not (eqb k i) && (not (has c.noted k) && runs b k)) && full

      go : (empty : Bool) → eqb c.send 0 ≡ empty
          → (over || refuses (core.send_refusal t i c))
          ≡ not (not empty && (eqb k i || (has c.noted k || fits full halted k)))
      go true e = ap (λ (n : ℕ). over || refuses n) (send_own true e) ∙ or-true over
      go false e =
          ap (λ (n : ℕ). over || refuses n) (send_own false e)
          ∙ somebody (eqb k i) (has c.noted k) (runs b k) full
          ∙ ap (λ (x : Bool). not (eqb k i || (has c.noted k || (not full || x)))) (sym (halted_has k (send_below e)))

  -- ---- ack

  ack_own : (nobody free : Bool) → eqb c.owed 0 ≡ nobody → may_acknowledge t i c ≡ free
      → core.ack_refusal t i c ≡ cond nobody 6 (cond (not free) 6 0)
  unfolding core.ack_refusal
  ack_own nobody free e f = simp (ok, r, e, f)

  owed_below : eqb c.owed 0 ≡ false → lowest c.owed < t.columns
  unfolding state_refusal
  owed_below e =
      let p = passed (state_conditions t i c) tt (st.columns i h) in
      members.owed_below (lowest c.owed) (lowest_in c.owed (not-false _ p.1.1.1.0) e)

  pub ack_exact : is_refused (ack s i) ≡ not (can_ack t full halted i c)
  unfolding perform core.ack_effect
  ack_exact = exactly (Ack i) ∙ go (eqb c.owed 0) refl (may_acknowledge t i c) refl
    where
      room : (running none : Bool) → ((running && none) || false) ≡ not (not none || not running)
      room true true = refl
      room true false = refl
      room false none = sym (ap not (or-true (not none)))

      over : Bool
      over = runs b (lowest c.owed) && full

      go : (nobody : Bool) → eqb c.owed 0 ≡ nobody → (free : Bool) → may_acknowledge t i c ≡ free
          → (over || refuses (core.ack_refusal t i c))
          ≡ not (not nobody && (free && fits full halted (lowest c.owed)))
      go true e free f = ap (λ (n : ℕ). over || refuses n) (ack_own true free e f) ∙ or-true over
      go false e false f = ap (λ (n : ℕ). over || refuses n) (ack_own false false e f) ∙ or-true over
      go false e true f =
          ap (λ (n : ℕ). over || refuses n) (ack_own false true e f)
          ∙ room (runs b (lowest c.owed)) full
          ∙ ap (λ (x : Bool). not (not full || x)) (sym (halted_has (lowest c.owed) (owed_below e)))

  -- ---- all

  all_own : (root noted whole quiet : Bool) → eqb i t.root ≡ root → has c.noted (watched t c) ≡ noted → c.whole ≡ whole → idle c ≡ quiet
      → refuses (core.all_refusal t i c) ≡ not (not root && (noted && (not whole && quiet)))
  unfolding core.all_refusal
  all_own root noted whole quiet e f g z = simp (ok, r, e, f, g, z) (go root noted whole quiet)
    where
      go : (root noted whole quiet : Bool) → refuses (cond root 6 (cond (not noted) 6 (cond whole 6 (cond (not quiet) 6 0))))
          ≡ not (not root && (noted && (not whole && quiet)))
      go true noted whole quiet = refl
      go false false whole quiet = refl
      go false true true quiet = refl
      go false true false true = refl
      go false true false false = refl

  pub all_exact : is_refused (all s i) ≡ not (can_take_over t i c)
  unfolding perform
  all_exact = exactly (All i) ∙ all_own (eqb i t.root) (has c.noted (watched t c)) c.whole (idle c) refl refl refl refl

  -- ---- note

  note_own : (j : ℕ) → j < t.columns → (j ≡ i → ⊥) → refuses (core.note_refusal t i c j) ≡ has c.noted j
  unfolding core.note_refusal
  note_own j l n = simp (ok, r, lt-leb t.columns j l, ne_eqb j i n) (go (has c.noted j))
    where
      go : (x : Bool) → refuses (cond x 6 0) ≡ x
      go true = refl
      go false = refl

  pub note_exact : (j : ℕ) → j < t.columns → is_refused (note s i j) ≡ not (has (minus (halted_of b) c.noted) j)
  unfolding perform
  note_exact j l =
      exactly (Note i j) ∙ then_refuses (core.note_refusal t i c j) 5 (runs b j) ∙ go (runs b j) refl
      ∙ ap not (sym (has_minus (halted_of b) c.noted j ∙ ap (λ (x : Bool). x && not (has c.noted j)) (halted_has j l)))
    where
      twice : (x : Bool) → x ≡ not (not x)
      twice true = refl
      twice false = refl

      go : (x : Bool) → runs b j ≡ x → (x || refuses (core.note_refusal t i c j)) ≡ not (not x && not (has c.noted j))
      go true e = refl
      go false e = note_own j l (λ z. true≢false (sym r ∙ ap (runs b) (sym z) ∙ e)) ∙ twice (has c.noted j)

  -- ---- the first that is accepted

  abbrev new : ℕ
  new = minus (halted_of b) c.noted

  new_lt : new < 2 ^ 16
  unfolding state_refusal
  new_lt =
      let p = passed (state_conditions t i c) tt (st.columns i h) in
      let n = tree_sixteen t st.tree in
      let small : c.noted < 2 ^ 16 = lt_of_lt_of_le (within_lt c.noted t.columns (not-false _ p.1.1.1.1.0)) (pow_mono n) in
      xor_lt 16 (join (halted_of b) c.noted) c.noted (join_lt 16 (halted_of b) c.noted (selected_lt (λ k. not (runs b k)) t.columns 16 n) small) small

  first_notes : (other : Step) → first_accepted s (places (λ j. Note i j) t.columns) other ≡ cond (eqb new 0) other (Note i (lowest new))
  unfolding perform
  first_notes other = go (eqb new 0) refl
    where
      go : (z : Bool) → eqb new 0 ≡ z → first_accepted s (places (λ j. Note i j) t.columns) other ≡ cond z other (Note i (lowest new))
      go true e = first_none s (λ j. Note i j) t.columns other (λ j l. note_exact j l ∙ ap not (ap (λ (m : ℕ). has m j) (eqb-true new 0 e) ∙ has_none j))
      go false e =
          let some : 0 < new = omega (arith, eqb-false new 0 e) in
          let here : has new (lowest new) ≡ true = lowest_member 16 new new_lt some in
          let l : lowest new < t.columns = halted_below (lowest new) here in
          first_at s (λ j. Note i j) t.columns other (lowest new) l (note_exact (lowest new) l ∙ ap not here)
          (λ k z. note_exact k (omega (arith, l, z)) ∙ ap not (lowest_none 16 new k z))
        where
          halted_below : (j : ℕ) → has new j ≡ true → j < t.columns
          halted_below j e = member_lt t.columns (halted_of b) j (selected_lt (λ k. not (runs b k)) t.columns t.columns (omega arith))
              (and_left (has (halted_of b) j) _ (sym (has_minus (halted_of b) c.noted j) ∙ e))

  pub first_column : (other : Step) → first_accepted s (offers t.columns i) other ≡ step_of t full halted i c other
  unfolding first_accepted step_of perform
  first_column other =
      first_append s (places (λ j. Note i j) t.columns) (Send i ∷ Ack i ∷ All i ∷ []) other
      ∙ first_notes _
      ∙ ap (λ (y : Step). cond (eqb new 0) y (Note i (lowest new)))
      (ap (λ (y : Step). cond (is_refused (send s i)) y (Send i))
      (ap (λ (y : Step). cond (is_refused (ack s i)) y (Ack i)) (pick (can_take_over t i c) (is_refused (all s i)) (All i) other all_exact)
      ∙ pick (can_ack t full halted i c) (is_refused (ack s i)) (Ack i) third ack_exact)
      ∙ pick (can_send t full halted i c) (is_refused (send s i)) (Send i) second send_exact)
      ∙ sym (ap (λ (x : Bool). cond x (cond (eqb new 0) (cond (can_send t full halted i c) (Send i) second) (Note i (lowest new))) other) r)
    where
      third : Step
      third = cond (can_take_over t i c) (All i) other

      second : Step
      second = cond (can_ack t full halted i c) (Ack i) third

      pick : (p q : Bool) (x y : Step) → q ≡ not p → cond q y x ≡ cond p x y
      pick p q x y e = ap (λ (z : Bool). cond z y x) e ∙ turned p
        where
          turned : (p : Bool) → cond (not p) y x ≡ cond p x y
          turned true = refl
          turned false = refl
