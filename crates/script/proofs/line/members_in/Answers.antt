use Rattle.std.proofs.Common.{rules, tests, eqb, sym}
use Rattle.std.proofs.lemmas.List.{length_push}
use Rattle.std.proofs.lemmas.Iterator.Splits.{YieldsList-from_slice_split}
use Rattle.text.specs.Text.{comma}
use Rattle.script.specs.laws.LineLaws.{piece_read, piece_unread, none_left}
use Rattle.script.proofs.Splitting.{next_piece, no_piece}
use Rattle.script.proofs.line.members_in.Goals as goal

pub returns-in_err-read_numeral : goal.returns-in_err-read_numeral
returns-in_err-read_numeral c =
    let k = c.split-piece-items.ensures in
    let p = next_piece _ _ c.args.text.now c.loop-piece.yielded c.loop-piece.yielded_by c.next.ensures.steps c.into_iter-piece-iterator.ensures.into_iter_gives (YieldsList-from_slice_split _ (λ b. eqb b comma) _ k.rest k.done k.closure (λ x b q h. search (rules, tests))) c.in-Some.is in
    rw (c.from_residual.ensures, c.loop-piece.invariant, p) (sym (piece_unread _ _ _ (sym c.in_err-read_numeral.ensures)))

pub loop-piece-preserved : goal.loop-piece-preserved
loop-piece-preserved c =
    let k = c.split-piece-items.ensures in
    let p = next_piece _ _ c.args.text.now c.loop-piece.yielded c.loop-piece.yielded_by c.next.ensures.steps c.into_iter-piece-iterator.ensures.into_iter_gives (YieldsList-from_slice_split _ (λ b. eqb b comma) _ k.rest k.done k.closure (λ x b q h. search (rules, tests))) c.in-Some.is in
    rw (c.loop-piece.invariant, p, length_push, c.with_member-set.ensures) (piece_read _ _ _ _ (sym c.in_ok-read_numeral.ensures))

pub returns : goal.returns
returns c =
    let k = c.split-piece-items.ensures in
    let p = no_piece _ _ c.args.text.now c.loop-piece.yielded c.loop-piece.yielded_by c.next.ensures.steps c.into_iter-piece-iterator.ensures.into_iter_gives (YieldsList-from_slice_split _ (λ b. eqb b comma) _ k.rest k.done k.closure (λ x b q h. search (rules, tests))) c.in-None.is in
    rw (c.loop-piece.invariant, p) (sym (none_left _))
