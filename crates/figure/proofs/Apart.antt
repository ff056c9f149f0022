-- Nobody awaited is noted: so it is with a fresh column, and so it stays.
-- Assumes nothing.
use Prim.Native.Nat.{ℕ, zero, suc, ◌^◌, ◌<◌}
use mathlib.Core.Path.{◌≡◌, refl, sym, ap, ap₂, ◌∙◌}
use mathlib.Core.Bool.{Bool, true, false, not, ◌&&◌, ◌||◌, cond}
use mathlib.Core.List.{[]}
use native.Mathlib.Nat.{pow-suc}
use native.Mathlib.Omega.{arith}
use lib.Bits.{bit_and, and_comm, and_le_r, and_zero_l}
use lib.Dec.{eqb, ltb}
use borrow.Author.Tests.{eqb-true, leb-false}
use Rattle.column.specs.Refusals.{first, earlier}
use Rattle.column.specs.laws.RefusalLaws.{passed, earlier_none}
use Rattle.column.specs.Sets.{has, insert, without, minus}
use Rattle.column.specs.Trees.{choose}
use Rattle.column.specs.laws.SetLaws.{has_and, has_none, has_insert, has_without, insert_lt, and_insert, no_members}
use Rattle.column.specs.laws.TreeLaws.{tree_sixteen}
use Rattle.column.specs.Columns.{validity_refusal, with_registers}
use Rattle.column.specs.Pages.{mask_offset, clear_offset, written, write_refusal}
use Rattle.column.specs.Steps.{Result, accepted, refused, unless, order_refusal, order_effect, send_conditions, send_refusal, send_effect, packet_refusal, take_conditions, take_refusal, take_effect, acknowledgement_effect, message_effect, receive_effect, ack_refusal, ack_effect, all_refusal, all_effect, note_conditions, note_refusal, note_effect, halt_refusal, halt_effect}
use Rattle.column.specs.declared.tree.Tree.{Tree}
use Rattle.column.specs.declared.state.Column.{Column}
use Rattle.column.specs.declared.packet.Packet.{Packet}
use Rattle.column.specs.declared.packet.Packet.TheVariants.{Message, Acknowledgement}
use Rattle.figure.specs.Comparison.{Apart, column_of, StaysApart, Apartness}
use Rattle.figure.proofs.Refusals.{Valid, valid, set_lt}

-- ---- sets that share nobody

-- what is struck out of one and joins the other is shared no more than before
struck_test : (x y z : Bool) → (x && y) ≡ false → ((x && not z) && (y || z)) ≡ false
struck_test true y true e = refl
struck_test true true false e = e
struck_test true false false e = refl
struck_test false y z e = refl

less_test : (x y z : Bool) → (x && z) ≡ false → ((x && y) && z) ≡ false
less_test true true z e = e
less_test true false z e = refl
less_test false y z e = refl

below_power : (n : ℕ) → n < 2 ^ n
below_power zero = omega arith
below_power (suc n) = omega (arith, below_power n, pow-suc 2 n)

module _ (a n : ℕ) (h : bit_and a n ≡ 0) where
  nobody : (q : ℕ) → (has a q && has n q) ≡ false
  nobody q = sym (has_and a n q) ∙ ap (λ (m : ℕ). has m q) h ∙ has_none q

  less_apart : (j : ℕ) → bit_and (without a j) n ≡ 0
  less_apart j = no_members n (bit_and (without a j) n) (omega (arith, and_le_r (without a j) n, below_power n)) (λ q k.
      has_and (without a j) n q ∙ ap (λ (x : Bool). x && has n q) (has_without a j q) ∙ less_test (has a q) (not (eqb q j)) (has n q) (nobody q))

  struck_apart : n < 2 ^ 16 → (j : ℕ) → j < 16 → bit_and (without a j) (insert n j) ≡ 0
  struck_apart l j below =
      no_members 16 (bit_and (without a j) (insert n j)) (omega (arith, and_le_r (without a j) (insert n j), insert_lt 16 n j l below)) (λ q k.
      has_and (without a j) (insert n j) q ∙ ap₂ ◌&&◌ (has_without a j q) (has_insert n j q) ∙ struck_test (has a q) (has n q) (eqb q j) (nobody q))

  noted_apart : a < 2 ^ 16 → (j : ℕ) → has a j ≡ false → bit_and a (insert n j) ≡ 0
  noted_apart l j e = and_insert 16 a n j l ∙ rw e h

  awaited_apart : n < 2 ^ 16 → (j : ℕ) → has n j ≡ false → bit_and (insert a j) n ≡ 0
  awaited_apart l j e = and_comm (insert a j) n ∙ and_insert 16 n a j l ∙ rw e (and_comm n a ∙ h)

-- ---- steps

unless_apart : (n : ℕ) (c : Column) (effect : Result) → Apart c → (n ≡ 0 → Apart (column_of effect)) → Apart (column_of (unless n c effect))
unless_apart n c effect h f = go (eqb n 0) refl
  where
    go : (b : Bool) → eqb n 0 ≡ b → Apart (column_of (cond b effect (refused n c)))
    go true e = f (eqb-true n 0 e)
    go false e = h

either : (b : Bool) (x y : Result) → (b ≡ true → Apart (column_of x)) → (b ≡ false → Apart (column_of y)) → Apart (column_of (cond b x y))
either true x y f g = f refl
either false x y f g = g refl

module _ (t : Tree) (i : ℕ) (c : Column) (h : Apart c) where
  awaited_lt : Valid t i c → c.awaited < 2 ^ 16
  awaited_lt s = set_lt t c.awaited s.tree s.awaited

  noted_lt : Valid t i c → c.noted < 2 ^ 16
  noted_lt s = set_lt t c.noted s.tree s.noted

  send_apart : Valid t i c → Apart (column_of (send_effect t i c))
  unfolding send_effect
  send_apart s =
      let k = choose t c.send in
      either (eqb k i) _ _ (λ e. h) (λ e. either (has c.noted k) _ _ (λ e. h) (λ e. awaited_apart c.awaited c.noted h (noted_lt s) k e))

  take_apart : Valid t i c → (p : Packet) → Apart (column_of (take_effect t i c p))
  unfolding acknowledgement_effect message_effect receive_effect
  take_apart s (Acknowledgement from to number) =
      either (eqb number c.number) _ _ (λ e. less_apart c.awaited c.noted h from) (λ e. h)
  take_apart s (Message from to number doors) =
      either (eqb number c.number) _ _ (λ e. h) (λ e.
      either (ltb number c.number) _ _ (λ e. h) (λ e. either (eqb c.owed 0) _ _ (λ e. and_zero_l c.noted) (λ e. h)))

  note_apart : Valid t i c → (j : ℕ) → j < 16 → Apart (column_of (note_effect t c j))
  unfolding note_effect
  note_apart s j below = go (has c.awaited j) refl
    where
      go : (b : Bool) → has c.awaited j ≡ b → bit_and (cond b (without c.awaited j) c.awaited) (insert c.noted j) ≡ 0
      go true e = struck_apart c.awaited c.noted h (noted_lt s) j below
      go false e = noted_apart c.awaited c.noted h (awaited_lt s) j e

  written_apart : (offset value : ℕ) → Apart (written c offset value)
  unfolding written
  written_apart offset value = go (eqb offset mask_offset) (eqb offset clear_offset)
    where
      go : (mask clear : Bool)
          → Apart (cond mask (with_registers c value c.pending) (cond clear (with_registers c c.mask (minus c.pending value)) c))
      go true clear = h
      go false true = h
      go false false = h

  stays_apart : StaysApart t i c
  unfolding send_refusal take_refusal note_refusal order_effect ack_effect all_effect halt_effect
  stays_apart = record {
    order = λ doors. unless_apart (order_refusal t i c) c (order_effect t i c doors) h (λ e. h);
    send = unless_apart (send_refusal t i c) c (send_effect t i c) h (λ e. send_apart (valid t i c (earlier_none _ (first (send_conditions t i c)) e).0));
    take = λ p.
        unless_apart (take_refusal t i c p) c (take_effect t i c p) h
        (λ e. take_apart (valid t i c (earlier_none _ (earlier (packet_refusal t p) (first (take_conditions t i c p))) e).0) p);
    ack = unless_apart (ack_refusal t i c) c (ack_effect i c) h (λ e. h);
    all = unless_apart (all_refusal t i c) c (all_effect t c) h (λ e. h);
    note = λ j. unless_apart (note_refusal t i c j) c (note_effect t c j) h (λ e.
        let q = earlier_none (validity_refusal t i c) (first (note_conditions t i c j)) e in
        let s = valid t i c q.0 in
        note_apart s j (omega (arith, tree_sixteen t s.tree, leb-false t.columns j (passed (note_conditions t i c j) tt q.1).0)));
    halt = unless_apart (halt_refusal t i c) c (halt_effect c) h (λ e. h);
    write = λ offset value. unless_apart (write_refusal t i c offset) c (accepted (written c offset value) [] false) h (λ e. written_apart offset value);
    strike = λ j. and_comm c.awaited (without c.noted j) ∙ less_apart c.noted c.awaited (and_comm c.noted c.awaited ∙ h) j;
    rejoin = λ copied noted whole sender. and_zero_l noted;
  }

pub apartness : Apartness
apartness = (λ t i. refl, stays_apart)
