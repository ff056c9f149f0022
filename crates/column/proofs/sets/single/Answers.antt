use Prim.Native.Nat.{◌*◌, ◌^◌}
use mathlib.Core.Path.{◌≡◌}
use native.Mathlib.Nat.{mod-eq_of_lt}
use native.Mathlib.Omega.{arith}
use lib.Pow.{pow-lt}
use Rattle.column.proofs.sets.single.Goals as goal

pub returns : goal.returns
returns c =
    let i = c.args.i in
    let e : 1 * 2 ^ i ≡ 2 ^ i = omega arith in
    rw (e, mod-eq_of_lt (pow-lt c.requires))
