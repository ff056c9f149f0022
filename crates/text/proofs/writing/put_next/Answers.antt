use Rattle.std.proofs.Common.{◌+◌, ◌≤◌, [], ◌∷◌, length, sym, ◌∙◌, leb-true, arith}
use Rattle.text.specs.Text.{comma, decimal}
use Rattle.text.specs.laws.DecimalLaws.{decimal_short}
use Rattle.text.specs.laws.WritingLaws.{writes_none, writes_byte, writes_more, writes_puts}
use Rattle.text.proofs.writing.put_next.Goals as goal

pub returns-then-first : goal.returns-then-first
returns-then-first c =
    let room : c.args.at + 3 ≤ length c.args.out.now = leb-true (c.args.at + 3) (length c.args.out.now) (sym c.has_room.ensures ∙ c.if-not-has_room.false) in
    let fits : c.args.at + length (decimal c.args.n) ≤ length c.args.out.now = omega (arith, decimal_short c.args.n c.if-n-ge100.false) in
    rw c.if-first.true (writes_puts (decimal c.args.n) fits c.write_short.ensures)

pub returns : goal.returns
returns c =
    let room : c.args.at + 3 ≤ length c.args.out.now = leb-true (c.args.at + 3) (length c.args.out.now) (sym c.has_room.ensures ∙ c.if-not-has_room.false) in
    let fits : c.args.at + length (comma ∷ decimal c.args.n) ≤ length c.args.out.now = omega (arith, decimal_short c.args.n c.if-n-ge100.false) in
    let first = writes_byte [] comma (omega arith) (writes_none c.args.out.now c.args.at) in
    rw c.if-first.false
    (writes_puts (comma ∷ decimal c.args.n) fits (writes_more (comma ∷ []) (decimal c.args.n) fits first c.write_short-2.ensures))
