use Rattle.std.proofs.Common.{ℕ, ◌+◌, ◌≤◌, ◌≡◌, Bool, leb, true, List, ◌++◌, length, sym, ap, ◌∙◌, length-append, leb-true, arith}
use Rattle.text.specs.laws.WritingLaws.{writes_more}
use Rattle.journals.specs.inner.ReadTexts.{missing_of}
use Rattle.journals.specs.laws.ComparingLaws.{placed_short, placed_all}
use Rattle.journals.specs.declared.journal.ReadJournal.{ReadJournal}
use Rattle.journals.proofs.comparison.write_missing.Goals as goal

-- what is missing of two journals, and whether a buffer holds it
module _ (one two : ReadJournal) (old : List ℕ) where
  abbrev first : List ℕ
  first = missing_of one two

  abbrev second : List ℕ
  second = missing_of two one

  roomy : {t : Bool} → t ≡ leb (length first + length second) (length old) → leb (length (first ++ second)) (length old) ≡ t
  roomy e = ap (λ (n : ℕ). leb n (length old)) (length-append first second) ∙ sym e

  room : {t : Bool} → t ≡ leb (length first + length second) (length old) → t ≡ true → length first + length second ≤ length old
  room e f = leb-true (length first + length second) (length old) (sym e ∙ f)

pub returns-then-not-has_room : goal.returns-then-not-has_room
returns-then-not-has_room c =
    let one = c.args.one.now.journal in
    let two = c.args.two.now.journal in
    let old = c.args.out.now in
    sym (placed_short old (first one two old ++ second one two old) (roomy one two old c.has_room.ensures ∙ c.if-not-has_room.true))

pub put_missing-end-requires : goal.put_missing-end-requires
put_missing-end-requires c = omega (arith, room c.args.one.now.journal c.args.two.now.journal c.args.out.now c.has_room.ensures c.if-not-has_room.false)

pub put_missing-requires : goal.put_missing-requires
put_missing-requires c =
    let fits = room c.args.one.now.journal c.args.two.now.journal c.args.out.now c.has_room.ensures c.if-not-has_room.false in
    omega (arith, fits, c.put_missing-end.ensures.place, c.put_missing-end.auto.out)

pub returns : goal.returns
returns c =
    let one = c.args.one.now.journal in
    let two = c.args.two.now.journal in
    let old = c.args.out.now in
    let f = first one two old in
    let s = second one two old in
    let fits = room one two old c.has_room.ensures c.if-not-has_room.false in
    placed_all old (f ++ s) (roomy one two old c.has_room.ensures ∙ c.if-not-has_room.false)
    (writes_more f s (omega (arith, fits, length-append f s)) c.put_missing-end.ensures c.put_missing.ensures)
