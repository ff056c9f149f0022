use Prim.Native.Nat.{ℕ, ◌<◌, ◌*◌, ◌%◌, ◌^◌}
use mathlib.Core.Path.{◌≡◌, sym, ◌∙◌}
use native.Mathlib.Nat.{mod-eq_of_lt}
use native.Mathlib.Omega.{arith}
use lib.Pow.{pow-lt}
use Rattle.bank.proofs.turn.ready_after.Goals as goal

-- the shift loses nothing
shifted : (i : ℕ) → i < 16 → 1 * 2 ^ i % 2 ^ 16 ≡ 2 ^ i
shifted i h =
    let e : 1 * 2 ^ i ≡ 2 ^ i = omega arith in
    rw e (mod-eq_of_lt (pow-lt h))

pub returns-then-is_ready : goal.returns-then-is_ready
returns-then-is_ready c = rw (shifted c.args.i c.requires, sym c.is_ready.ensures ∙ c.if-is_ready.true)

pub returns : goal.returns
returns c = rw (shifted c.args.i c.requires, sym c.is_ready.ensures ∙ c.if-is_ready.false)
