use Rattle.std.proofs.Common.{◌<◌, ◌≡◌, length, get_or, eqb, refl, sym, ◌∙◌, arith, rules, tests}
use Rattle.std.proofs.lemmas.Iterator.Consumers.{YieldsList-at, YieldsList-turn, YieldsList-end}
use Rattle.std.proofs.lemmas.Iterator.Splits.{YieldsList-from_slice_split}
use Rattle.std.proofs.lemmas.List.{length_push}
use Rattle.text.specs.Pieces.{pieces, numerals}
use Rattle.text.specs.laws.ReadingLaws.{numeral_two}
use Rattle.table.specs.inner.NumberLists.{with_one}
use Rattle.table.specs.laws.NumberListLaws.{held_all, piece_read, piece_unread, pieces_read}
use Rattle.table.specs.laws.PieceLaws.{pieces_split, pieces_length}
use Rattle.table.proofs.number_list.numbers_in.Goals as goal
use Rattle.table.proofs.number_list.numbers_in.Goals.{In-Some}

-- the piece of this turn is the next of the text
turn : (c : In-Some) → let ps = pieces c.args.text.now in
    (length c.loop-piece.yielded < length ps) × (c.in-Some.piece.now ≡ get_or ps (length c.loop-piece.yielded) c.in-Some.piece.now)
turn c =
    rw pieces_split
    (YieldsList-turn
    (YieldsList-at c.into_iter-piece-iterator.ensures.into_iter_gives (YieldsList-from_slice_split _ (λ b. eqb b 44) c.args.text.now c.split-piece-items.ensures.rest c.split-piece-items.ensures.done c.split-piece-items.ensures.closure (λ x b q k. search (rules, tests))))
    c.loop-piece.yielded _ c.loop-piece.yielded_by _ _ c.in-Some.piece c.in-Some.is c.next.ensures.steps)

pub loop-piece-init : goal.loop-piece-init
loop-piece-init c = (refl, held_all (numerals (pieces c.args.text.now)))

pub returns-in_err-read_numeral : goal.returns-in_err-read_numeral
returns-in_err-read_numeral c =
    let t = turn (goal.at.returns-in_err-read_numeral c).In-Some in
    c.from_residual.ensures
    ∙ sym (c.loop-piece.invariant.1 ∙ piece_unread c.loop-piece.list _ _ c.in-Some.piece.now t (sym c.in_err-read_numeral.ensures))

pub with-list-requires : goal.with-list-requires
with-list-requires c =
    let t = turn (goal.at.with-list-requires c).In-Some in
    (omega (arith, t.0, pieces_length c.args.text.now), omega (arith, numeral_two _ _ (sym c.in_ok-read_numeral.ensures)))

pub loop-piece-preserved : goal.loop-piece-preserved
unfolding with_one
loop-piece-preserved c =
    let t = turn (goal.at.loop-piece-preserved c).In-Some in
    let n = length_push c.loop-piece.yielded c.in-Some.piece in
    rw (n, c.with-list.ensures)
    (omega arith, c.loop-piece.invariant.1 ∙ piece_read c.loop-piece.list _ _ c.in-Some.piece.now t _ (sym c.in_ok-read_numeral.ensures))

pub returns : goal.returns
returns c =
    let done = YieldsList-end
    (YieldsList-at c.into_iter-piece-iterator.ensures.into_iter_gives (YieldsList-from_slice_split _ (λ b. eqb b 44) c.args.text.now c.split-piece-items.ensures.rest c.split-piece-items.ensures.done c.split-piece-items.ensures.closure (λ x b q k. search (rules, tests))))
    c.loop-piece.yielded _ c.loop-piece.yielded_by _ _ c.in-None.is c.next.ensures.steps in
    let all = rw (← pieces_split c.args.text.now) at done.1 in
    sym (c.loop-piece.invariant.1 ∙ pieces_read c.loop-piece.list (pieces c.args.text.now) (length c.loop-piece.yielded) (omega (arith, all)))
