-- What a step of a bank comes to: refused where row 4 refuses, and otherwise what the core's result makes of the bank.
-- Assumes nothing.
use Rattle.std.specs.Prelude.{ℕ, ◌+◌, ◌≤◌, ◌<◌, ◌^◌, Bool, not, ◌||◌, List, [], ◌∷◌, eqb, leb, Ok, Err}
use Rattle.std.specs.Prelude as prelude
use Rattle.std.proofs.Math.Path.{◌≡◌, refl, ap}
use Rattle.std.proofs.Common.{sym, ◌∙◌, true≢false, arith, eq-eqb, ne_eqb, eqb-true, lt-ltb, le-ltb, leb-false}
use Rattle.std.proofs.Math.Bool.{true, false, cond}
use Rattle.std.proofs.Math.ListN as list
use Rattle.column.specs.Refusals.{first, earlier, refusal_number}
use Rattle.column.specs.laws.RefusalLaws.{passed, earlier_none, earlier_zero}
use Rattle.column.specs.Sets.{has, join, within}
use Rattle.column.specs.laws.SetLaws.{within_lt, selected_lt, selected_has}
use Rattle.column.specs.laws.TreeLaws.{tree_sixteen}
use Rattle.column.specs.Packets.{receiver}
use Rattle.column.specs.Columns.{stopped}
use Rattle.column.specs.laws.StateLaws.{acceptable}
use Rattle.column.specs.Steps as core
use Rattle.column.specs.Steps.{halt_refusal, halt_effect}
use Rattle.column.specs.declared.outcome.Answer as core-answer
use Rattle.column.specs.declared.outcome.Answer.TheVariants as core_is
use Rattle.column.specs.declared.error.Refusal.{Refusal}
use Rattle.column.specs.declared.tree.Tree.{Tree}
use Rattle.column.specs.declared.state.Column.{Column}
use Rattle.column.specs.declared.packet.Packet.{Packet}
use Rattle.bank.specs.Banks.{State, state, runs, running_of, packet_at, capacity, bank_refusal, acting_refusal}
use Rattle.bank.specs.laws.ValidityLaws.{valid, acting, every_same}
use Rattle.bank.specs.laws.SurveyLaws.{covers_members}
use Rattle.bank.specs.laws.ListSteps.{keeping_few}
use Rattle.bank.specs.Networks.{with_packet, put, puts, only, elsewhere, vanished}
use Rattle.bank.specs.Steps.{Result, accepted, refused, answered, outcome_meant, unless, with_column, fitting, settled, acted, take_refusal}
use Rattle.bank.specs.Steps as strip
use Rattle.bank.specs.inner.Returning.{halting_refusal}
use Rattle.bank.specs.declared.bank.Bank.{Bank}

-- ---- what is answered of a bank, said of the bank with words

abbrev with_words : List ℕ → List ℕ → Result Bank → Result State
with_words heads doors (accepted b) = accepted (state b heads doors)
with_words heads doors (refused n b) = refused n (state b heads doors)

module _ (before : Bank) (r : prelude.Result Bank Refusal) (b : Bank) (heads doors : List ℕ) where
  worded : (r : prelude.Result Bank Refusal) → outcome_meant before r heads doors ≡ with_words heads doors (answered before r)
  worded (Ok after) = refl
  worded (Err e) = refl

  pub accepted_words : answered before r ≡ accepted b → outcome_meant before r heads doors ≡ accepted (state b heads doors)
  accepted_words e = worded r ∙ ap (with_words heads doors) e

  pub refused_words : (n : ℕ) → answered before r ≡ refused n b → outcome_meant before r heads doors ≡ refused n (state b heads doors)
  refused_words n e = worded r ∙ ap (with_words heads doors) e

-- ---- a refusal of the code's

-- its number is never 0, which says that there is none
pub some_number : (e : Refusal) → refusal_number e ≡ 0 → ⊥
some_number e = grind arith

-- the earlier of two groups of conditions is the one that refuses, or it lets pass
pub earlier_refused : (e : Refusal) (n m : ℕ) → refusal_number e ≡ n → refusal_number e ≡ earlier n m
earlier_refused e n m is = is ∙ rw (ne_eqb n 0 (λ z. some_number e (is ∙ z)))

pub earlier_passed : {n m k : ℕ} → 0 ≡ n → k ≡ m → k ≡ earlier n m
earlier_passed z is = rw (sym z) is

-- ---- a packet put, and row 9

module _ (s next : State) where
  pub fits : next.bank.count ≤ capacity → accepted next ≡ fitting s next
  unfolding fitting
  fits l = rw (le-ltb capacity next.bank.count l)

  full : capacity < next.bank.count → refused 9 s ≡ fitting s next
  unfolding fitting
  full l = rw (lt-ltb capacity next.bank.count l)

module _ (s next : State) (p : Packet) where
  pub put_halted : runs next.bank (receiver p) ≡ false → next.bank.count ≤ capacity → accepted next ≡ fitting s (put next p)
  unfolding put
  put_halted e l = rw e (fits s next l)

  pub put_running : runs next.bank (receiver p) ≡ true → next.bank.count < capacity
      → accepted (with_packet next p) ≡ fitting s (put next p)
  unfolding put
  put_running e l = rw e (fits s (with_packet next p) (omega (arith, l)))

  pub put_full : runs next.bank (receiver p) ≡ true → next.bank.count ≡ capacity → refused 9 s ≡ fitting s (put next p)
  unfolding put
  put_full e l = rw e (full s (with_packet next p) (omega (arith, l)))

-- ---- what the core's answer takes off

-- whether an answer of the core's takes the packet of its step off
abbrev pub takes_off : core-answer.Answer → Bool
takes_off core_is.Done = true
takes_off (core_is.Put p) = true
takes_off (core_is.Left p) = false

pub put_count : (s : State) (p : Packet) → (put s p).bank.count ≤ s.bank.count + 1
unfolding put
put_count s p = go (runs s.bank (receiver p))
  where
    go : (b : Bool) → (cond b (with_packet s p) s).bank.count ≤ s.bank.count + 1
    go true = omega arith
    go false = omega arith

module _ (s gone : State) (i : ℕ) (c : Column) where
  -- a packet that is left in its place changes nothing of what is settled
  pub settled_stays : (a : core-answer.Answer) → takes_off a ≡ false → settled s s i (core.answered c a) ≡ settled s gone i (core.answered c a)
  settled_stays core_is.Done e = absurd (true≢false e)
  settled_stays (core_is.Put p) e = absurd (true≢false e)
  settled_stays (core_is.Left p) e = refl

module _ (s gone : State) (i : ℕ) (c : Column) (room : gone.bank.count < capacity) where
  fits_both : (next : State) → next.bank.count ≤ capacity → fitting gone next ≡ fitting s next
  fits_both next l = sym (fits gone next l) ∙ fits s next l

  -- a packet off leaves room for the one that is put
  pub settled_off : (a : core-answer.Answer) → takes_off a ≡ true → settled gone gone i (core.answered c a) ≡ settled s gone i (core.answered c a)
  unfolding puts
  settled_off core_is.Done e = fits_both (with_column gone i c) (omega (arith, room))
  settled_off (core_is.Put p) e = fits_both (put (with_column gone i c) p) (omega (arith, room, put_count (with_column gone i c) p))
  settled_off (core_is.Left p) e = absurd (true≢false (sym e))

-- ---- a refusal m is answered, or there is none

module _ (s : State) (effect : Result State) (m n : ℕ) where
  pub unless_refused : m ≡ n → (m ≡ 0 → ⊥) → refused m s ≡ unless n s effect
  unless_refused e z = rw (ne_eqb n 0 (λ w. z (e ∙ w))) (ap (λ k. refused k s) e)

  pub unless_goes : m ≡ n → m ≡ 0 → effect ≡ unless n s effect
  unless_goes e z = rw (eq-eqb n 0 (sym e ∙ z))

-- a refusal of the code's is answered
pub refused_unless : (s : State) (effect : Result State) (n : ℕ) (e : Refusal) → refusal_number e ≡ n → refused (refusal_number e) s ≡ unless n s effect
refused_unless s effect n e is = unless_refused s effect (refusal_number e) n is (some_number e)

module _ (s : State) (i n : ℕ) (e : n ≡ acting_refusal s i) where
  pub acts : n ≡ 0 → (i < 16) × (s.bank.count ≤ 512)
  acts z =
      let a = acting s i (sym e ∙ z) in
      (omega (arith, a.1, tree_sixteen s.bank.tree a.0.tree), a.0.room)

  -- the steps that take no packet off
  pub acted_refused : (result : core.Result) → (n ≡ 0 → ⊥) → refused n s ≡ acted s i result
  unfolding acted
  acted_refused result = unless_refused s (settled s s i result) n (acting_refusal s i) e

  pub acted_settled : (result : core.Result) {after : Result State} → n ≡ 0 → after ≡ settled s s i result → after ≡ acted s i result
  unfolding acted
  acted_settled result z a = a ∙ unless_goes s (settled s s i result) n (acting_refusal s i) e z

-- ---- note: whether j runs is one more condition

module _ (t : Tree) (i : ℕ) (c : Column) (j : ℕ) (runs : Bool) where
  abbrev believed : core.Result
  believed = core.unless (earlier (core.note_refusal t i c j) (first ((6, runs) ∷ []))) c (core.note_effect t c j)

  pub note_halted : runs ≡ false → core.note t i c j ≡ believed
  note_halted e = rw (e, earlier_zero (core.note_refusal t i c j))

  pub note_running : runs ≡ true → core.refused (earlier (core.note_refusal t i c j) 6) c ≡ believed
  note_running e = rw e (six (core.note_refusal t i c j) (eqb (core.note_refusal t i c j) 0) refl)
    where
      six : (n : ℕ) (x : Bool) → eqb n 0 ≡ x → core.refused (cond x 6 n) c ≡ core.unless (cond x 6 n) c (core.note_effect t c j)
      six n true z = refl
      six n false z = rw z

  -- the core refuses, or j runs
  pub note_refused : (e : Refusal) → refusal_number e ≡ core.note_refusal t i c j → core.refused (refusal_number e) c ≡ believed
  note_refused e is = rw (sym is, ne_eqb (refusal_number e) 0 (some_number e), ne_eqb (refusal_number e) 0 (some_number e))

  pub note_six : runs ≡ true → 0 ≡ core.note_refusal t i c j → core.refused 6 c ≡ believed
  note_six e is = rw (e, sym is)

-- ---- take

pub takes : (s : State) (place : ℕ) → take_refusal s place ≡ 0
    → (receiver (packet_at s place) < 16) × (place < s.bank.count) × (s.bank.count ≤ 512)
takes s place e =
    let late : List (ℕ × Bool) = (10, leb s.bank.count place) ∷ [] in
    let q = earlier_none (bank_refusal s) (first late) e in
    let l = leb-false s.bank.count place (passed late tt q.1).0 in
    let w = valid s q.0 in
    let p = acceptable s.bank.tree (packet_at s place) (w.packets place l) in
    (omega (arith, p.receiver_below, tree_sixteen s.bank.tree w.tree), l, w.room)

-- ---- halt

module _ (s : State) (m : ℕ) where
  abbrev columns : ℕ
  columns = s.bank.tree.columns

  members_run_lem : m < 2 ^ columns → eqb (join m (running_of s.bank)) (running_of s.bank) ≡ strip.members_run s.bank m
  members_run_lem h =
      covers_members columns m (running_of s.bank) h (selected_lt (runs s.bank) columns columns (omega arith))
      ∙ every_same _ _ columns (λ j l. ap (λ (x : Bool). not (has m j) || x) (selected_has (runs s.bank) columns j l))

  -- what the code answers is the refusal
  pub halting_refusal_lem : {n running : ℕ} → n ≡ bank_refusal s → (n ≡ 0 → running ≡ running_of s.bank)
      → halting_refusal n columns running m ≡ strip.halt_refusal s m
  unfolding strip.halt_refusal
  halting_refusal_lem {n} {running} e running_is = ap (λ (k : ℕ). halting_refusal k columns running m) e ∙ go (eqb (bank_refusal s) 0) refl
    where
      five : (w : Bool) → within m columns ≡ w
          → ◌≡◌ {A = ℕ} (cond (not w) 4 (cond (not (eqb (join m (running_of s.bank)) (running_of s.bank))) 5 0))
          (cond (not w) 4 (cond (not (strip.members_run s.bank m)) 5 0))
      five true w = ap (λ (x : Bool). cond (not x) 5 0) (members_run_lem (within_lt m columns w))
      five false w = refl

      go : (x : Bool) → eqb (bank_refusal s) 0 ≡ x
          → cond x (halting_refusal 0 columns running m) (bank_refusal s) ≡ cond x (first (strip.halt_conditions s m)) (bank_refusal s)
      go true z =
          ap (λ (r : ℕ). halting_refusal 0 columns r m) (running_is (e ∙ eqb-true (bank_refusal s) 0 z)) ∙ five (within m columns) refl
      go false z = refl

pub vanished_few : (s : State) (member : ℕ → Bool) → s.bank.count ≤ capacity → (vanished s member).bank.count ≤ capacity
unfolding vanished
vanished_few s member room =
    let h = list.take s.bank.count s.heads in
    omega (arith, room, keeping_few (elsewhere member) h h, list.length-take s.bank.count s.heads)

module _ (s : State) (i : ℕ) (c : Column) (room : s.bank.count ≤ capacity) where
  -- the core halts a column without a packet
  pub halted_settled : halt_refusal s.bank.tree i c ≡ 0
      → settled s (vanished s (only i)) i (core.halt s.bank.tree i c) ≡ accepted (with_column (vanished s (only i)) i (stopped c))
  unfolding halt_effect puts
  halted_settled e = rw e (sym (fits s (with_column (vanished s (only i)) i (stopped c)) (vanished_few s (only i) room)))
