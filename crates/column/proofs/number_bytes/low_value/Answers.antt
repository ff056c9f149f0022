-- `number_bytes::low_value` meets its contract. The loop's invariant: the value is that of the bytes from `i` on.
-- Assumes nothing.
use Prim.Native.Nat.{ℕ, ◌+◌, ◌-◌, ◌*◌, ◌^◌, ◌<◌}
use mathlib.Core.Path.{◌≡◌, sym, ap, ◌∙◌}
use mathlib.Core.List.{List}
use native.Mathlib.Numerals.{add-one}
use native.Mathlib.Omega.{arith}
use lib.ListN.{length, get_or, drop, length-drop}
use lib.Seq.{drop-cons, drop-length}
use Rattle.column.specs.Packets.{low_value}
use Rattle.column.specs.laws.NumberLaws.{bytes_drop, low_value_lt}
use borrow.Author.Tests.{le-leb, lt-leb}
use Rattle.column.proofs.number_bytes.low_value.Goals as goal
use Rattle.column.proofs.number_bytes.low_value.Goals.{After-shared_slice_known-1}

-- one more byte
more : (s : List ℕ) (i : ℕ) → i < length s → low_value (drop i s) ≡ low_value (drop (i + 1) s) * 256 + get_or s i 0
unfolding low_value
more s i h = rw (add-one, drop-cons s i 0) (omega arith)

small : (c : After-shared_slice_known-1) → c.loop-i.value < 256 ^ 7
small c =
    let s = c.args.s.now in
    let i = c.loop-i.i in
    omega (arith, low_value_lt 7 (drop i s) (bytes_drop i s (λ k. (c.shared_slice_known-1.given k).fits)) (simp length-drop (omega arith)))

pub returns-then-s-gt-WORD_SIZE : goal.returns-then-s-gt-WORD_SIZE
returns-then-s-gt-WORD_SIZE c = rw (lt-leb (length c.args.s.now) 8 c.if-s-gt-WORD_SIZE.true)

pub loop-i-init : goal.loop-i-init
unfolding low_value
loop-i-init c = sym (ap low_value (drop-length c.args.s.now))

pub overflow_cast-byte : goal.overflow_cast-byte
overflow_cast-byte c = omega (arith, c.shared_slice_known-1.given (c.loop-i.i - 1))

pub overflow_mul-value : goal.overflow_mul-value
overflow_mul-value c = omega (arith, small (goal.at.overflow_mul-value c).After-shared_slice_known-1)

pub overflow_add-value : goal.overflow_add-value
overflow_add-value c = omega (arith, small (goal.at.overflow_add-value c).After-shared_slice_known-1, c.shared_slice_known-1.given (c.loop-i.i - 1))

pub loop-i-preserved : goal.loop-i-preserved
loop-i-preserved c =
    let s = c.args.s.now in
    let i = c.loop-i.i in
    let e : i - 1 + 1 ≡ i = omega arith in
    omega (arith, rw e at (more s (i - 1) (omega arith)))

pub returns : goal.returns
returns c =
    let s = c.args.s.now in
    let e : c.loop-i.i ≡ 0 = omega arith in
    rw (le-leb (length s) 8 (omega arith))
    (c.loop-i.invariant ∙ ap (λ (k : ℕ). low_value (drop k s)) e)
