use Rattle.std.proofs.Common.{◌≡◌, ℕ, ◌+◌, ◌*◌, ◌^◌, ◌<◌, ◌≤◌, ap, ◌∙◌, List, add-one, arith, length, get_or, take, length-take}
use mathlib.Core.List.{reverse-append}
use lib.Seq.{take-suc, take-length}
use Rattle.column.specs.Packets.{low_value, high_value}
use Rattle.column.specs.laws.NumberLaws.{bytes_take, high_value_lt}
use borrow.Author.Tests.{le-leb, lt-leb}
use Rattle.column.proofs.number_bytes.high_value.Goals as goal

-- one more byte
more : (s : List ℕ) (i : ℕ) → i < length s → high_value (take (i + 1) s) ≡ high_value (take i s) * 256 + get_or s i 0
unfolding low_value
more s i h = rw (add-one, take-suc s i 0, reverse-append) (omega arith)

small : (s : List ℕ) (i : ℕ) → ((k : ℕ) → get_or s k 0 < 256) → length s ≤ 8 → i < length s → high_value (take i s) < 256 ^ 7
small s i bytes few h = omega (arith, high_value_lt 7 (take i s) (bytes_take i s bytes) (simp length-take (omega arith)))

pub returns-then-s-gt-WORD_SIZE : goal.returns-then-s-gt-WORD_SIZE
returns-then-s-gt-WORD_SIZE c = rw (lt-leb (length c.args.s.now) 8 c.if-s-gt-WORD_SIZE.true)

pub overflow_mul-value : goal.overflow_mul-value
overflow_mul-value c =
    let l = c.loop-byte in
    let s = c.args.s.now in
    omega (arith, small s l.byte-index (λ k. omega (arith, c.type_inv.s k)) c.if-s-gt-WORD_SIZE.false c.loop-byte-test.true)

pub overflow_add-value : goal.overflow_add-value
overflow_add-value c =
    let l = c.loop-byte in
    let s = c.args.s.now in
    omega (arith, c.type_inv.s l.byte-index, small s l.byte-index (λ k. omega (arith, c.type_inv.s k)) c.if-s-gt-WORD_SIZE.false c.loop-byte-test.true)

pub loop-byte-preserved : goal.loop-byte-preserved
loop-byte-preserved c = omega (arith, more c.args.s.now c.loop-byte.byte-index (omega arith))

pub returns : goal.returns
returns c =
    let s = c.args.s.now in
    let e : c.loop-byte.byte-index ≡ length s = omega arith in
    rw (le-leb (length s) 8 (omega arith))
    (c.loop-byte.invariant ∙ ap (λ (k : ℕ). high_value (take k s)) e ∙ ap high_value (take-length s))
