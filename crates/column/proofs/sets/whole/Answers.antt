use Prim.Native.Nat.{◌*◌, ◌-◌, ◌^◌, ◌%◌, ◌≤◌, ◌<◌}
use mathlib.Core.Path.{◌≡◌, ap}
use native.Mathlib.Nat.{mod-eq_of_lt}
use native.Mathlib.Omega.{arith}
use lib.Pow.{pow-lt, pow_pos, pow_mono}
use Rattle.column.proofs.sets.whole.Goals as goal
use Rattle.column.proofs.sets.whole.Goals.{Start}

-- the shift loses nothing
shifted : (c : Start) → 1 * 2 ^ c.args.n % 2 ^ 32 ≡ 2 ^ c.args.n
shifted c =
    let n = c.args.n in
    let e : 1 * 2 ^ n ≡ 2 ^ n = omega arith in
    let l : n < 32 = omega (arith, c.requires) in
    rw e (mod-eq_of_lt (pow-lt l))

pub overflow_sub-result : goal.overflow_sub-result
overflow_sub-result c = omega (arith, shifted (goal.at.overflow_sub-result c).Start, pow_pos c.args.n)

pub overflow_cast-result-2 : goal.overflow_cast-result-2
overflow_cast-result-2 c = let small : 2 ^ c.args.n ≤ 2 ^ 16 = pow_mono c.requires in omega (arith, shifted (goal.at.overflow_cast-result-2 c).Start, pow_pos c.args.n)

pub returns : goal.returns
returns c = ap (λ x. x - 1) (shifted (goal.at.returns c).Start)
