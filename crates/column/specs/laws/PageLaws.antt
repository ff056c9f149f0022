-- Laws of the register page: when the line is up, what a write alters, and what the steps leave pending. Assumes nothing.
use Rattle.std.specs.Prelude.{ℕ, ◌+◌, ◌^◌, ◌≤◌, ◌<◌, ◌≡◌, Bool, ◌&&◌, cond, eqb}
use Rattle.std.proofs.Math.Path.{refl, ap, ap₂}
use Rattle.std.proofs.Common.{sym, ◌∙◌, arith, eq-eqb, ne_eqb, eqb-true}
use Rattle.std.proofs.Math.Bool.{true, false, not, ◌||◌, or-false, true≢false}
use Rattle.std.specs.Int.Bits.{bit_and}
use Rattle.std.proofs.lemmas.Nat.{and_le_l}
use Rattle.std.proofs.lemmas.Bool.{eqb-false, not-true}
use Rattle.column.specs.laws.Cases.{and_left, and_right}
use Rattle.column.specs.laws.RefusalLaws.{passed, earlier_none}
use Rattle.column.specs.Sets.{has, insert, minus, lowest_in}
use Rattle.column.specs.laws.SetLaws.{has_and, has_insert, has_minus, member_pos}
use Rattle.column.specs.laws.Digits.{lowest_member}
use Rattle.column.specs.Columns.{validity_refusal, record_received, halt_noted, took_over, pending_with, with_sets, with_registers, plain}
use Rattle.column.specs.Trees.{choose}
use Rattle.column.specs.Steps.{Result, accepted, refused, unless, order_refusal, order_effect, order, send_refusal, send_effect, send, ack_refusal, ack_effect, ack, all_conditions, all_refusal, all_effect, all, note_conditions, note_refusal, note_effect, note, halt_refusal, halt_effect, halt}
use Rattle.column.specs.Pages.{mask_offset, clear_offset, written, line_up}
use Rattle.column.specs.declared.tree.Tree.{Tree}
use Rattle.column.specs.declared.state.Column.{Column}

-- ---- "The line is up exactly when a bit is set in both 5 and 6."

module _ (c : Column) where
  abbrev both : ℕ
  both = bit_and c.mask c.pending

  pub up_bit : c.mask < 2 ^ 8 → line_up c ≡ true → (k : ℕ) × (has c.mask k ≡ true) × (has c.pending k ≡ true)
  up_bit h up =
      let some = eqb-false both 0 (not-true (eqb both 0) up) in
      let fits : both < 2 ^ 8 = omega (arith, h, and_le_l c.mask c.pending) in
      let k = lowest_in 8 both in
      let shared = sym (has_and c.mask c.pending k) ∙ lowest_member 8 both fits (omega (arith, some)) in
      (k, and_left (has c.mask k) (has c.pending k) shared, and_right (has c.mask k) (has c.pending k) shared)

  pub bit_up : (k : ℕ) → has c.mask k ≡ true → has c.pending k ≡ true → line_up c ≡ true
  bit_up k m p =
      let some = member_pos both k (has_and c.mask c.pending k ∙ ap₂ ◌&&◌ m p) in
      ap not (ne_eqb both 0 (λ e. omega (arith, some, e)))

  -- ---- "a write alters nothing but bytes 5 and 6"

  pub plain_written : (offset value : ℕ) → plain (written c offset value) ≡ plain c
  unfolding written
  plain_written offset value = go (eqb offset mask_offset) (eqb offset clear_offset)
    where
      go : (a b : Bool)
          → plain (cond a (with_registers c value c.pending) (cond b (with_registers c c.mask (minus c.pending value)) c)) ≡ plain c
      go true b = refl
      go false true = refl
      go false false = refl

  -- "Byte 5 keeps all eight bits written."
  pub mask_written : (value : ℕ) → written c mask_offset value ≡ with_registers c value c.pending
  unfolding written
  mask_written value = refl

  -- "a write there clears the pending bits that are 1 in it", and no others
  pub pending_cleared : (value k : ℕ) → has (written c clear_offset value).pending k ≡ (has c.pending k && not (has value k))
  unfolding written
  pending_cleared value k = has_minus c.pending value k

  pub mask_kept : (value : ℕ) → (written c clear_offset value).mask ≡ c.mask
  unfolding written
  mask_kept value = refl

-- ---- what is pending: "set at each such step and kept until cleared"

-- d is c after a step: bit 0 is set where the number is another, bit 1 where those noted are others, bit 2 where the goal has become the
-- whole bank; whatever was pending is still, and the mask is as it was
pub record Tells (c d : Column) : Type 0 where
  pub mask_same : d.mask ≡ c.mask
  pub received : has d.pending record_received ≡ (has c.pending record_received || not (eqb d.number c.number))
  pub noted : has d.pending halt_noted ≡ (has c.pending halt_noted || not (eqb d.noted c.noted))
  pub took_over_lem : has d.pending took_over ≡ (has c.pending took_over || (d.whole && not c.whole))
  pub others : (k : ℕ) → 3 ≤ k → has d.pending k ≡ has c.pending k

abbrev pub TellsOf : Column → Result → Type 0
TellsOf c (accepted d packets left) = Tells c d
TellsOf c (refused n d) = d ≡ c

-- a column with the record, those noted and the goal as they were
abbrev pub Steady : Column → Column → Type 0
Steady c d = (d.number ≡ c.number) × (d.noted ≡ c.noted) × (d.whole ≡ c.whole)

pub never : (b : Bool) → (b && not b) ≡ false
never true = refl
never false = refl

module _ (c : Column) where
  pub same : (n m : ℕ) → n ≡ m → not (eqb n m) ≡ false
  same n m e = ap not (eq-eqb n m e)

  pub itself : (n : ℕ) → not (eqb n n) ≡ false
  itself n = same n n refl

  pub kept : (d : Column) → d.mask ≡ c.mask → d.pending ≡ c.pending → Steady c d → Tells c d
  kept d m p s = record {
    mask_same = m;
    received = told record_received (same _ _ s.0);
    noted = told halt_noted (same _ _ s.1);
    took_over_lem = told took_over (ap (λ (b : Bool). b && not c.whole) s.2 ∙ never c.whole);
    others = λ k h. ap (λ (x : ℕ). has x k) p;
  }
    where
      told : (k : ℕ) {b : Bool} → b ≡ false → has d.pending k ≡ (has c.pending k || b)
      told k e = ap (λ (x : ℕ). has x k) p ∙ sym (ap (λ (b : Bool). has c.pending k || b) e ∙ or-false (has c.pending k))

  -- one bit is set, and what it says is so
  pub raised : (bit : ℕ) (d : Column) → bit < 3 → d.mask ≡ c.mask → d.pending ≡ pending_with c bit
      → not (eqb d.number c.number) ≡ eqb record_received bit
      → not (eqb d.noted c.noted) ≡ eqb halt_noted bit
      → (d.whole && not c.whole) ≡ eqb took_over bit → Tells c d
  raised bit d l m p number noted whole = record {
    mask_same = m;
    received = told record_received number;
    noted = told halt_noted noted;
    took_over_lem = told took_over whole;
    others = λ k h. at k ∙ ap (λ (b : Bool). has c.pending k || b) (ne_eqb k bit (λ e. omega (arith, l, h, e))) ∙ or-false (has c.pending k);
  }
    where
      at : (k : ℕ) → has d.pending k ≡ (has c.pending k || eqb k bit)
      at k = ap (λ (x : ℕ). has x k) p ∙ has_insert c.pending bit k

      told : (k : ℕ) {b : Bool} → b ≡ eqb k bit → has d.pending k ≡ (has c.pending k || b)
      told k e = at k ∙ sym (ap (λ (b : Bool). has c.pending k || b) e)

  pub tells_unless : (n : ℕ) (effect : Result) → (n ≡ 0 → TellsOf c effect) → TellsOf c (unless n c effect)
  tells_unless n effect h = go (eqb n 0) refl
    where
      go : (b : Bool) → eqb n 0 ≡ b → TellsOf c (cond b effect (refused n c))
      go true e = h (eqb-true n 0 e)
      go false e = refl

  pub tells_cond : (b : Bool) (r q : Result) → (b ≡ true → TellsOf c r) → (b ≡ false → TellsOf c q) → TellsOf c (cond b r q)
  tells_cond true r q h k = h refl
  tells_cond false r q h k = k refl

  pub steady : (s a o : ℕ) → Tells c (with_sets c s a o)
  steady s a o = kept _ refl refl (refl, refl, refl)

  pub unmoved : Tells c c
  unmoved = kept c refl refl (refl, refl, refl)

module _ (t : Tree) (i : ℕ) (c : Column) where
  -- "bit 0 a record received (by order at the root too)"
  pub order_tells : (doors : ℕ) → TellsOf c (order t i c doors)
  unfolding order_effect
  order_tells doors = tells_unless c (order_refusal t i c) _ (λ e.
      raised c record_received _ (omega arith) refl refl (ap not (ne_eqb (c.number + 1) c.number (λ e. omega (arith, e)))) (itself c c.noted) (never c.whole))

  pub send_tells : TellsOf c (send t i c)
  unfolding send_effect
  send_tells = tells_unless c (send_refusal t i c) _ (λ e.
      let k = choose t c.send in
      tells_cond c (eqb k i) _ _ (λ _. steady c _ _ _) (λ _. tells_cond c (has c.noted k) _ _ (λ _. steady c _ _ _) (λ _. steady c _ _ _)))

  pub ack_tells : TellsOf c (ack t i c)
  unfolding ack_effect
  ack_tells = tells_unless c (ack_refusal t i c) _ (λ e. steady c _ _ _)

  -- "bit 2 the step `all` accepted"
  pub all_tells : TellsOf c (all t i c)
  unfolding all_refusal all_effect
  all_tells = tells_unless c (all_refusal t i c) _ (λ e.
      let z = passed (all_conditions t i c) tt (earlier_none (validity_refusal t i c) _ e).1 in
      raised c took_over _ (omega arith) refl refl (itself c c.number) (itself c c.noted) (ap not z.1.1.1.0))

  -- "bit 1 a halt noted"
  pub note_tells : (j : ℕ) → TellsOf c (note t i c j)
  unfolding note_refusal note_effect
  note_tells j = tells_unless c (note_refusal t i c j) _ (λ e.
      let z = passed (note_conditions t i c j) tt (earlier_none (validity_refusal t i c) _ e).1 in
      raised c halt_noted _ (omega arith) refl refl (itself c c.number) (ap not (ne_eqb (insert c.noted j) c.noted (others z.1.1.1.0))) (never c.whole))
    where
      others : has c.noted j ≡ false → insert c.noted j ≡ c.noted → ⊥
      others none e =
          let member = has_insert c.noted j j ∙ ap₂ ◌||◌ none (eq-eqb j j refl) in
          true≢false (sym member ∙ ap (λ (x : ℕ). has x j) e ∙ none)

  pub halt_tells : TellsOf c (halt t i c)
  unfolding halt_effect
  halt_tells = tells_unless c (halt_refusal t i c) _ (λ e. kept c _ refl refl (refl, refl, refl))
