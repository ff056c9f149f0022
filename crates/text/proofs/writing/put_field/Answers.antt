use Rattle.std.proofs.Common.{ℕ, ◌+◌, ◌≤◌, ◌≡◌, Bool, true, leb, [], ◌∷◌, ◌++◌, length, sym, ◌∙◌, length-append, leb-true, rules, arith}
use Rattle.text.specs.Text.{newline, decimal, field}
use Rattle.text.specs.laws.DecimalLaws.{decimal_short}
use Rattle.text.specs.laws.WritingLaws.{writes_byte, writes_more, writes_puts}
use Rattle.text.proofs.writing.put_field.Goals as goal

room : {t : Bool} (n size : ℕ) → t ≡ leb n size → t ≡ true → n ≤ size
room n size e f = leb-true n size (sym e ∙ f)

-- the end of the line has room
pub bounds-out-end : goal.bounds-out-end
bounds-out-end c =
    let has = room _ _ c.has_room.ensures c.if-not-has_room.false in
    let key = c.copy-value.ensures in
    omega (arith, has, key.place, decimal_short c.args.n c.if-n-ge100.false)

pub overflow_add-result : goal.overflow_add-result
overflow_add-result c =
    let has = room _ _ c.has_room.ensures c.if-not-has_room.false in
    let key = c.copy-value.ensures in
    let short = decimal_short c.args.n c.if-n-ge100.false in
    search (rules, has, key.place, short)

pub returns : goal.returns
returns c =
    let key = c.args.key.now in
    let digits = decimal c.args.n in
    let has = room (c.args.at + (length key + 3)) (length c.args.out.now) c.has_room.ensures c.if-not-has_room.false in
    let first = c.copy-value.ensures in
    let short = decimal_short c.args.n c.if-n-ge100.false in
    let ended = length-append digits (newline ∷ []) in
    let whole = length-append key (digits ++ (newline ∷ [])) in
    let fits : c.args.at + length (field key c.args.n) ≤ length c.args.out.now = omega (arith, has, short, ended, whole) in
    let rest = writes_byte digits newline (omega (arith, has, short, first.place)) c.write_short-end.ensures in
    writes_puts (field key c.args.n) fits (writes_more key (digits ++ (newline ∷ [])) fits first rest)
