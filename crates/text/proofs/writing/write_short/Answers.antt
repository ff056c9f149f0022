use Rattle.std.proofs.Common.{ℕ, ◌+◌, ◌<◌, ◌/◌, ◌%◌, List, [], ◌∷◌, length, arith}
use Rattle.std.proofs.Math.ListN.{set}
use Rattle.text.specs.Text.{Writes}
use Rattle.text.specs.laws.DecimalLaws.{decimal_one, decimal_two}
use Rattle.text.specs.laws.WritingLaws.{writes_none, writes_byte}
use Rattle.text.proofs.writing.write_short.Goals as goal

-- one digit
written_digit : (out : List ℕ) (at a : ℕ) → at < length out → Writes (at + 1) (set out at a) out at (a ∷ [])
written_digit out at a room = writes_byte [] a (omega arith) (writes_none out at)

pub returns-then-n-lt10 : goal.returns-then-n-lt10
returns-then-n-lt10 c =
    rw (decimal_one c.args.n c.if-n-lt10.true) (written_digit c.args.out.now c.args.at (48 + c.args.n) (omega arith))

pub returns : goal.returns
returns c =
    let n = c.args.n in
    let w = writes_byte ((48 + n / 10) ∷ []) (48 + n % 10) (omega arith) (written_digit c.args.out.now c.args.at (48 + n / 10) (omega arith)) in
    rw (decimal_two n c.if-n-lt10.false c.requires.0) (record { place = omega (arith, w.place); left = w.left })
