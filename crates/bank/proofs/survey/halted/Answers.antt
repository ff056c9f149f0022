use Prim.Native.Nat.{ℕ, ◌<◌, ◌≤◌, ◌*◌, ◌%◌, ◌^◌}
use mathlib.Core.Path.{◌≡◌}
use native.Mathlib.Nat.{mod-eq_of_lt}
use native.Mathlib.Omega.{arith}
use lib.Pow.{pow-lt, pow_pos, pow_mono}
use Rattle.bank.proofs.survey.halted.Goals as goal

-- the shift loses nothing
shifted : (n : ℕ) → n ≤ 16 → 1 * 2 ^ n % 2 ^ 32 ≡ 2 ^ n
shifted n h =
    let e : 1 * 2 ^ n ≡ 2 ^ n = omega arith in
    let l : n < 32 = omega (arith, h) in
    rw e (mod-eq_of_lt (pow-lt l))

pub overflow_sub-every : goal.overflow_sub-every
overflow_sub-every c = omega (arith, shifted c.args.columns c.requires, pow_pos c.args.columns)

pub overflow_cast-every-2 : goal.overflow_cast-every-2
overflow_cast-every-2 c =
    let small : 2 ^ c.args.columns ≤ 2 ^ 16 = pow_mono c.requires in
    omega (arith, shifted c.args.columns c.requires, pow_pos c.args.columns)

pub returns : goal.returns
returns c = rw (shifted c.args.columns c.requires)
