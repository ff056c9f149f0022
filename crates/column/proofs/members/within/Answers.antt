use borrow.Author.Rules.{rules}
use Prim.Native.Nat.{◌^◌, ◌<◌}
use mathlib.Core.Path.{sym}
use native.Mathlib.Nat.{lt_of_lt_of_le}
use lib.Pow.{pow_mono}
use Rattle.column.specs.laws.SetLaws.{lt_within}
use Rattle.column.proofs.members.within.Goals as goal

pub returns-then-n-ge16 : goal.returns-then-n-ge16
returns-then-n-ge16 c =
    let a = c.args in
    let h : a.m < 2 ^ 16 = search rules in
    sym (lt_within a.m a.n (lt_of_lt_of_le h (pow_mono c.if-n-ge16.true)))
