use Rattle.std.proofs.Common.{◌+◌, length, sym, ◌∙◌, le-leb, arith}
use Rattle.std.proofs.lemmas.Bool.{lt-leb}
use Rattle.journals.specs.inner.ReadTexts.{lines_of, missing_of}
use Rattle.journals.specs.laws.ReadJournalLaws.{missing_size}
use Rattle.journals.specs.laws.MissingLength.{text_within}
use Rattle.journals.proofs.comparison.has_room.Goals as goal

pub returns-then-one-two : goal.returns-then-one-two
returns-then-one-two c =
    let one = c.args.one.now.journal in
    let two = c.args.two.now.journal in
    sym (le-leb (length (missing_of one two) + length (missing_of two one)) c.args.room
    (omega (arith, c.if-one-two.true, text_within one.owner two.owner one.text.now (lines_of two), text_within two.owner one.owner two.text.now (lines_of one))))

pub returns-then-room-first : goal.returns-then-room-first
returns-then-room-first c =
    let one = c.args.one.now.journal in
    let two = c.args.two.now.journal in
    let first = c.missing_length-first.ensures ∙ missing_size one.holds two.holds in
    sym (lt-leb (length (missing_of one two) + length (missing_of two one)) c.args.room (omega (arith, c.if-room-first.true, first)))

pub returns-then-room-first-2 : goal.returns-then-room-first-2
returns-then-room-first-2 c =
    let one = c.args.one.now.journal in
    let two = c.args.two.now.journal in
    let first = c.missing_length-first.ensures ∙ missing_size one.holds two.holds in
    let second = c.missing_length-second.ensures ∙ missing_size two.holds one.holds in
    sym (lt-leb (length (missing_of one two) + length (missing_of two one)) c.args.room (omega (arith, c.if-room-first.false, c.if-room-first-2.true, first, second)))

pub returns : goal.returns
returns c =
    let one = c.args.one.now.journal in
    let two = c.args.two.now.journal in
    let first = c.missing_length-first.ensures ∙ missing_size one.holds two.holds in
    let second = c.missing_length-second.ensures ∙ missing_size two.holds one.holds in
    sym (le-leb (length (missing_of one two) + length (missing_of two one)) c.args.room (omega (arith, c.if-room-first.false, c.if-room-first-2.false, first, second)))
