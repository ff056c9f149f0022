-- `number_bytes::put_high_first` meets its contract. The loop's invariant: the bytes of what is left of the number, then those written, are the whole.
-- Assumes nothing.
use Prim.Native.Nat.{ℕ, suc, ◌+◌, ◌-◌, ◌/◌, ◌%◌, ◌<◌}
use mathlib.Core.Path.{◌≡◌, refl, sym, ap, ◌∙◌}
use mathlib.Core.List.{List, ◌++◌, reverse, reverse-cons, append-nil}
use native.Mathlib.Numerals.{add-one}
use native.Mathlib.Omega.{arith}
use lib.ListN.{length, take, drop, set, length-set}
use lib.Seq.{set_split, drop_at, length-take-le, append_snoc, drop-length}
use Rattle.column.specs.Packets.{low_first, high_first}
use Rattle.column.proofs.number_bytes.put_high_first.Goals as goal

-- one more byte
more : (out : List ℕ) (i n : ℕ) → i < length out → high_first i (n / 256) ++ drop i (set out i (n % 256)) ≡ high_first (i + 1) n ++ drop (i + 1) out
unfolding low_first
more out i n h =
    let low = low_first i (n / 256) in
    let stored = ap (drop i) (set_split out i (n % 256) h) ∙ drop_at (take i out) _ i (length-take-le i out (omega arith)) in
    rw add-one (ap (λ t. reverse low ++ t) stored ∙ sym (append_snoc (reverse low) (n % 256) _) ∙ ap (λ t. t ++ drop (suc i) out) (sym (reverse-cons (n % 256) low)))

pub loop-i-init : goal.loop-i-init
loop-i-init c = (refl, rw drop-length (append-nil _))

pub loop-i-preserved : goal.loop-i-preserved
loop-i-preserved c =
    let i = c.loop-i.i in
    let e : i - 1 + 1 ≡ i = omega arith in (
      simp length-set c.loop-i.invariant.0,
      more c.loop-i.out (i - 1) c.loop-i.rest (omega arith) ∙ rw e c.loop-i.invariant.1,
    )

pub returns : goal.returns
unfolding low_first
returns c =
    let e : c.loop-i.i ≡ 0 = omega arith in
    rw e at c.loop-i.invariant.1
