use Rattle.std.proofs.Common.{sym, arith}
use Rattle.script.specs.inner.Hexadecimals.{byte_read}
use Rattle.script.specs.laws.HexadecimalLaws.{digit_is, digit_lt, digit_none}
use Rattle.script.proofs.hexadecimal.byte.Goals as goal

pub returns-in_err-digit : goal.returns-in_err-digit
unfolding byte_read
returns-in_err-digit c = rw (c.from_residual.ensures, digit_none _ (sym c.in_err-digit.ensures))

pub overflow_mul-result : goal.overflow_mul-result
overflow_mul-result c = omega (arith, digit_lt _ _ (sym c.in_ok-digit.ensures))

pub returns-in_err-digit-2 : goal.returns-in_err-digit-2
unfolding byte_read
returns-in_err-digit-2 c =
    rw (c.from_residual-in_err-digit-2.ensures, (digit_is _ _ (sym c.in_ok-digit.ensures)).test, digit_none _ (sym c.in_err-digit-2.ensures))

pub overflow_add-result : goal.overflow_add-result
overflow_add-result c =
    omega (arith, digit_lt _ _ (sym c.in_ok-digit.ensures), digit_lt _ _ (sym c.in_ok-digit-2.ensures))

pub returns : goal.returns
unfolding byte_read
returns c =
    let a = digit_is _ _ (sym c.in_ok-digit.ensures) in
    let b = digit_is _ _ (sym c.in_ok-digit-2.ensures) in
    rw (a.test, b.test, a.value, b.value)
