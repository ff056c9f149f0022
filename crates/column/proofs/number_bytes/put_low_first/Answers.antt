-- `number_bytes::put_low_first` meets its contract. The loop's invariant: the bytes written, then those of what is left of the number, are the whole.
-- Assumes nothing.
use Prim.Native.Nat.{ℕ, ◌+◌, ◌-◌, ◌/◌, ◌%◌, ◌<◌}
use mathlib.Core.Path.{◌≡◌, refl, sym, ap, ◌∙◌}
use mathlib.Core.List.{List, ◌++◌, append-nil}
use native.Mathlib.Numerals.{add-one}
use native.Mathlib.Omega.{arith}
use lib.ListN.{length, take, set, length-set}
use lib.Seq.{take-suc-set, append_snoc, take_all}
use Rattle.column.specs.Packets.{low_first}
use Rattle.column.proofs.number_bytes.put_low_first.Goals as goal

-- one more byte
more : (out : List ℕ) (i k n : ℕ) → i < length out → take (i + 1) (set out i (n % 256)) ++ low_first k (n / 256) ≡ take i out ++ low_first (k + 1) n
unfolding low_first
more out i k n h = rw (add-one i, add-one k, take-suc-set out i, append_snoc)

pub loop-i-init : goal.loop-i-init
loop-i-init c =
    let n = length c.args.out.now in
    let e : n - 0 ≡ n = omega arith in
    (refl, ap (λ (k : ℕ). low_first k c.args.number) e)

pub loop-i-preserved : goal.loop-i-preserved
loop-i-preserved c =
    let n = length c.args.out.now in
    let i = c.loop-i.i in
    let e : n - (i + 1) + 1 ≡ n - i = omega arith in (
      simp length-set c.loop-i.invariant.0,
      more c.loop-i.out i (n - (i + 1)) c.loop-i.rest (omega arith) ∙ rw e c.loop-i.invariant.1,
    )

pub returns : goal.returns
unfolding low_first
returns c =
    let e : length c.args.out.now - c.loop-i.i ≡ 0 = omega arith in
    let all : take c.loop-i.i c.loop-i.out ≡ c.loop-i.out = take_all c.loop-i.i c.loop-i.out (omega arith) in
    sym (append-nil c.loop-i.out) ∙ rw (e, all) at c.loop-i.invariant.1
