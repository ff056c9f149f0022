-- `codec::read_in` meets its contract, for any kinds and any size of a number that fits.
-- Assumes nothing.
use Prim.Native.Nat.{◌+◌, ◌-◌}
use mathlib.Core.Path.{◌≡◌, sym, ap, ◌∙◌}
use native.Mathlib.Omega.{arith}
use lib.ListN.{length, get_or, take, drop, length-take}
use borrow.Author.Tests.{eq-eqb, ne_eqb, le-leb, lt-leb}
use Rattle.column.specs.Packets.{low_value, high_value, read_in}
use Rattle.column.specs.laws.NumberLaws.{high_value_lt, part_bytes, word_is}
use Rattle.column.specs.laws.PacketLaws.{read_short}
use Rattle.column.proofs.codec.read_in.Goals as goal
use Rattle.column.proofs.codec.read_in.Goals.{After-high_value-number}

number : (c : After-high_value-number)
    → let a = c.args in
    c.high_value-number.result ≡ high_value (take a.w.count (drop 3 a.s.now))
number c =
    let a = c.args in
    let e : 3 + a.w.count - 3 ≡ a.w.count = omega arith in
    let part = take (3 + a.w.count - 3) (drop 3 a.s.now) in
    c.high_value-number.ensures
    ∙ word_is high_value part (simp length-take (omega arith))
    ∙ ap (λ k. high_value (take k (drop 3 a.s.now))) e

pub returns-then-size-acknowledgement_size : goal.returns-then-size-acknowledgement_size
returns-then-size-acknowledgement_size c =
    let a = c.args in
    sym (read_short a.w a.s.now c.if-size-acknowledgement_size.true)

pub overflow_cast-number : goal.overflow_cast-number
overflow_cast-number c =
    let a = c.args in
    let s = a.s.now in
    let bytes = part_bytes s (λ i. (c.shared_slice_known-4-1.given i).fits) 3 a.w.count in
    omega (arith, number (goal.at.overflow_cast-number c).After-high_value-number, high_value_lt 4 (take a.w.count (drop 3 s)) bytes (simp length-take (omega arith)))

pub returns-then-size-message_size : goal.returns-then-size-message_size
unfolding read_in
returns-then-size-message_size c =
    let a = c.args in
    let s = a.s.now in
    rw (eq-eqb (get_or s 0 0) a.w.message c.if-kind-message.true, lt-leb (3 + a.w.count + 8) (length s) c.if-size-message_size.true)

pub returns-then-kind-message : goal.returns-then-kind-message
unfolding read_in
returns-then-kind-message c =
    let a = c.args in
    let s = a.s.now in
    let e : 3 + a.w.count + 8 - (3 + a.w.count) ≡ 8 = omega arith in
    let doors : c.low_value-doors.result ≡ low_value (take 8 (drop (3 + a.w.count) s)) =
    c.low_value-doors.ensures
    ∙ word_is low_value (take (3 + a.w.count + 8 - (3 + a.w.count)) (drop (3 + a.w.count) s)) (simp length-take (omega arith))
    ∙ ap (λ k. low_value (take k (drop (3 + a.w.count) s))) e in
    rw (eq-eqb (get_or s 0 0) a.w.message c.if-kind-message.true, le-leb (3 + a.w.count + 8) (length s) c.if-size-message_size.false)
    (rw (number (goal.at.returns-then-kind-message c).After-high_value-number, doors) at c.checked.ensures)

pub returns-then-kind-acknowledgement : goal.returns-then-kind-acknowledgement
unfolding read_in
returns-then-kind-acknowledgement c =
    let a = c.args in
    let s = a.s.now in
    rw (ne_eqb (get_or s 0 0) a.w.message c.if-kind-message.false, ne_eqb (get_or s 0 0) a.w.acknowledgement c.if-kind-acknowledgement.true)

pub returns : goal.returns
unfolding read_in
returns c =
    let a = c.args in
    let s = a.s.now in
    rw (ne_eqb (get_or s 0 0) a.w.message c.if-kind-message.false, eq-eqb (get_or s 0 0) a.w.acknowledgement c.if-kind-acknowledgement.false, le-leb (3 + a.w.count) (length s) c.if-size-acknowledgement_size.false)
    (rw (number (goal.at.returns c).After-high_value-number) at c.checked-2.ensures)
