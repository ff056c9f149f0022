-- What the register page says, for every column, offset and value: which offsets are refused, what each byte is, what a write leaves, and the page of
-- a fresh column. Assumes nothing.
use Rattle.std.specs.Prelude.{ℕ, zero, suc, ◌+◌, ◌^◌, ◌≤◌, ◌<◌, ◌≡◌, refl, ◌⊎◌, Bool, true, false, ◌||◌, cond, []}
use Rattle.std.proofs.Common.{sym, ap, ap₂, ◌∙◌, inl, inr, arith}
use Rattle.std.specs.Int.Count.{ones}
use borrow.Author.Tests.{eq-eqb, ne_eqb, le-leb, lt-leb}
use Rattle.column.specs.laws.Cases.{equal_cases}
use Rattle.column.specs.Refusals.{given, refused}
use Rattle.column.specs.Sets.{has, single, join, minus, without}
use Rattle.column.specs.laws.SetLaws.{has_none, has_single, has_join, has_without_self, has_without_other, without_lt, member_lt, members_lt, ones_without}
use Rattle.column.specs.Columns.{validity_refusal, fresh, with_registers}
use Rattle.column.specs.Steps as step
use Rattle.column.specs.Pages.{byte_of, read_refusal, read_byte, write_refusal, written, write}
use Rattle.column.specs.declared.tree.Tree.{Tree}
use Rattle.column.specs.declared.state.Column.{Column}

-- ---- how many columns below n are members

unfoldable pub counted : (ℕ → Bool) → ℕ → ℕ
counted f zero = 0
counted f (suc n) = cond (f n) (counted f n + 1) (counted f n)

counted_same : (f g : ℕ → Bool) (n : ℕ) → ((j : ℕ) → j < n → f j ≡ g j) → counted f n ≡ counted g n
unfolding counted
counted_same f g zero h = refl
counted_same f g (suc n) h = rw (h n (omega arith), counted_same f g n (λ j l. h j (omega (arith, l))))

-- "ones count .. the register counts": every member of a set is counted, and nobody else
pub ones_counted : (n m : ℕ) → m < 2 ^ n → ones m ≡ counted (has m) n
unfolding counted ones
ones_counted zero m h =
    let none : m ≡ 0 = omega arith in
    ap ones none
ones_counted (suc n) m h = go (λ k l. ones_counted n k l) (has m n) refl
  where
    below : (k : ℕ) → k < 2 ^ suc n → has k n ≡ false → k < 2 ^ n
    below k l e = members_lt (suc n) n k l (λ i q. within i q (equal_cases i n))
      where
        within : (i : ℕ) → has k i ≡ true → (i ≡ n) ⊎ (i ≡ n → ⊥) → i < n
        within i q (inl p) = let z : true ≡ false = sym q ∙ ap (has k) p ∙ e in let y : ◌≡◌ {A = ℕ} 0 1 = cc in absurd (omega arith)
        within i q (inr d) = omega (arith, member_lt (suc n) k i l q, d)

    go : ((k : ℕ) → k < 2 ^ n → ones k ≡ counted (has k) n) → (b : Bool) → has m n ≡ b → ones m ≡ cond b (counted (has m) n + 1) (counted (has m) n)
    go ih false e = ih m (below m h e)
    go ih true e =
        let rest = without m n in
        sym (ones_without n m e)
        ∙ ap (λ (x : ℕ). x + 1) (ih rest (below rest (without_lt (suc n) m n h (omega arith)) (has_without_self m n))
        ∙ counted_same (has rest) (has m) n (λ j l. has_without_other m n j (λ q. omega (arith, l, q))))

-- ---- what each byte is

module _ (i : ℕ) (c : Column) where
  -- "Byte 0 is the column number."
  pub byte_number : byte_of i c 0 ≡ i
  byte_number = refl

  -- "Byte 1 has bit 0 running, bit 1 goal whole bank, other bits 0."
  pub byte_running : has (byte_of i c 1) 0 ≡ c.running
  byte_running = go c.running c.whole
    where
      go : (a b : Bool) → has (join (cond a (single 0) 0) (cond b (single 1) 0)) 0 ≡ a
      go true true = refl
      go true false = refl
      go false true = refl
      go false false = refl

  pub byte_goal : has (byte_of i c 1) 1 ≡ c.whole
  byte_goal = go c.running c.whole
    where
      go : (a b : Bool) → has (join (cond a (single 0) 0) (cond b (single 1) 0)) 1 ≡ b
      go true true = refl
      go true false = refl
      go false true = refl
      go false false = refl

  pub byte_others : (k : ℕ) → 2 ≤ k → has (byte_of i c 1) k ≡ false
  byte_others k h =
      has_join _ _ k ∙ ap₂ (λ (a b : Bool). a || b) (none 0 c.running (λ e. omega (arith, h, e))) (none 1 c.whole (λ e. omega (arith, h, e)))
    where
      none : (bit : ℕ) (b : Bool) → (k ≡ bit → ⊥) → has (cond b (single bit) 0) k ≡ false
      none bit true d = has_single bit k ∙ ne_eqb k bit d
      none bit false d = has_none k

  -- "Bytes 2 to 4 count the columns to be sent to, awaited and owed."
  pub byte_send : c.send < 2 ^ 16 → byte_of i c 2 ≡ counted (has c.send) 16
  byte_send h = ones_counted 16 c.send h

  pub byte_awaited : c.awaited < 2 ^ 16 → byte_of i c 3 ≡ counted (has c.awaited) 16
  byte_awaited h = ones_counted 16 c.awaited h

  pub byte_owed : c.owed < 2 ^ 16 → byte_of i c 4 ≡ counted (has c.owed) 16
  byte_owed h = ones_counted 16 c.owed h

  -- "Byte 5 is the interrupt mask and byte 6 what is pending", "Byte 7 reads 0"
  pub byte_mask : byte_of i c 5 ≡ c.mask
  byte_mask = refl

  pub byte_pending : byte_of i c 6 ≡ c.pending
  byte_pending = refl

  pub byte_last : byte_of i c 7 ≡ 0
  byte_last = refl

-- "Fresh pages have both clear.", whichever the column
pub fresh_clear : (t : Tree) (i : ℕ) → ((fresh t i).mask ≡ 0) × ((fresh t i).pending ≡ 0)
fresh_clear t i = (refl, refl)

-- ---- which offsets are refused: of a valid column, running or halted, in any tree

module _ (t : Tree) (i : ℕ) (c : Column) (good : validity_refusal t i c ≡ 0) where
  -- "22 for an offset above 7"
  pub read_above : (offset : ℕ) → 7 < offset → read_byte t i c offset ≡ refused 22
  unfolding read_refusal
  read_above offset h = rw (eq-eqb (validity_refusal t i c) 0 good, le-leb 8 offset h)

  -- and for no other
  pub read_within : (offset : ℕ) → offset ≤ 7 → read_byte t i c offset ≡ given (byte_of i c offset)
  unfolding read_refusal
  read_within offset h = rw (eq-eqb (validity_refusal t i c) 0 good, lt-leb 8 offset (omega (arith, h)))

  -- "or a write elsewhere"
  pub write_elsewhere : (offset value : ℕ) → (offset ≡ 5 → ⊥) → (offset ≡ 7 → ⊥) → write t i c offset value ≡ step.refused 22 c
  unfolding write_refusal
  write_elsewhere offset value h k = rw (eq-eqb (validity_refusal t i c) 0 good, ne_eqb offset 5 h, ne_eqb offset 7 k)

  -- "Only 5 and 7 can be written", and always: "Byte 5 keeps all eight bits written", "a write there clears the pending bits that are 1 in it", and all
  -- else that the column holds is as it was
  pub write_mask : (value : ℕ) → write t i c 5 value ≡ step.accepted (with_registers c value c.pending) [] false
  unfolding write_refusal written
  write_mask value = rw (eq-eqb (validity_refusal t i c) 0 good)

  pub write_clear : (value : ℕ) → write t i c 7 value ≡ step.accepted (with_registers c c.mask (minus c.pending value)) [] false
  unfolding write_refusal written
  write_clear value = rw (eq-eqb (validity_refusal t i c) 0 good)

-- "after 4": of a column that is not valid, the same whatever the offset
module _ (t : Tree) (i : ℕ) (c : Column) (bad : validity_refusal t i c ≡ 0 → ⊥) where
  pub read_after : (offset : ℕ) → read_byte t i c offset ≡ refused (validity_refusal t i c)
  unfolding read_refusal
  read_after offset = rw (ne_eqb (validity_refusal t i c) 0 bad, ne_eqb (validity_refusal t i c) 0 bad)

  pub write_after : (offset value : ℕ) → write t i c offset value ≡ step.refused (validity_refusal t i c) c
  unfolding write_refusal
  write_after offset value = rw (ne_eqb (validity_refusal t i c) 0 bad, ne_eqb (validity_refusal t i c) 0 bad)
