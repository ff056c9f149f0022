-- The set so far is that of the columns below i that can do anything.
use Prim.Native.Nat.{ℕ, ◌<◌, ◌*◌, ◌^◌}
use mathlib.Core.Path.{◌≡◌, sym, ap, ◌∙◌}
use native.Mathlib.Nat.{mod-eq_of_lt}
use native.Mathlib.Numerals.{add-one}
use native.Mathlib.Omega.{arith}
use lib.Pow.{pow-lt}
use Rattle.column.specs.Sets.{selected}
use Rattle.bank.proofs.turn.ready_columns.Goals as goal
use Rattle.bank.proofs.turn.ready_columns.Goals.{then-is_ready, else-is_ready}
use Rattle.bank.proofs.turn.ready_columns.Invariants.{tests}

pub loop-i-preserved : goal.loop-i-preserved
unfolding selected
loop-i-preserved c =
    let i = c.loop-i.i in
    let inv = c.loop-i.invariant.1 in
    let told = sym c.is_ready.ensures in
    let one : 1 * 2 ^ i ≡ 2 ^ i = omega arith in
    let small : i < 16 = omega arith in (
      omega arith,
      elim c.if-is_ready.branch [
        | then-is_ready w ↦ w.set-is ∙ rw (inv, add-one i, one, mod-eq_of_lt (pow-lt small), told ∙ w.if-is_ready.true)
        | else-is_ready w ↦ w.set-is ∙ rw (inv, add-one i, told ∙ w.if-is_ready.false)
      ],
    )

pub returns : goal.returns
returns c =
    let b = c.args.b.now in
    let end : c.loop-i.i ≡ b.tree.columns = omega arith in
    c.loop-i.invariant.1 ∙ ap (selected (tests b c.args.halted)) end ∙ ap (λ (h : ℕ). selected (tests b h) b.tree.columns) c.requires.1
