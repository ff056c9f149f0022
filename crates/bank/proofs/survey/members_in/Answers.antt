use Prim.Native.Nat.{◌*◌, ◌/◌, ◌%◌}
use native.Mathlib.Omega.{arith}
use Rattle.column.specs.laws.SetLaws.{join_lt}
use Rattle.bank.specs.inner.Surveys.{kind}
use Rattle.bank.proofs.survey.members_in.Goals as goal

pub overflow_cast-result : goal.overflow_cast-result
overflow_cast-result c =
    let x = c.args.sets in
    let high = c.ranges.sets in
    let h = join_lt 16 _ (x / (kind * kind * kind)) (join_lt 16 _ (x / (kind * kind) % kind) (join_lt 16 (x % kind) (x / kind % kind) (omega arith) (omega arith)) (omega arith)) (omega (arith, high)) in
    omega (arith, h)
