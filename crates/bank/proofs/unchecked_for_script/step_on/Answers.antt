use Rattle.std.specs.Prelude.{Ok, Err}
use Rattle.std.proofs.lemmas.Result.{err_from_is_err_and}
use borrow.Author.Tests.{le-leb, leb-true, not-true, not-false}
use mathlib.Core.Path.{◌≡◌, sym, ap₂, subst, ◌∙◌}
use mathlib.Core.Bool.{true, ◌&&◌, true≢false}
use lib.Dec.{leb}
use Rattle.column.specs.laws.Cases.{and_left, and_right}
use Rattle.bank.specs.Banks.{State, state, joined}
use Rattle.bank.specs.Parts.{Tells}
use Rattle.bank.proofs.laws.PartLaws.{opening_there, part_barred, part_refused, part_closed, part_opened, who_runs, place_is, part_accepted}
use Rattle.bank.proofs.unchecked_for_script.step_on.Goals as goal
use Rattle.bank.proofs.unchecked_for_script.step_on.Goals.{In_ok-running, In_err-running}

-- what is known of the bank: who runs
told : (c : In_ok-running) (s : State) → Tells c.args.known s → Tells (Ok c.in_ok-running.running) s
told c s tells =
    let was : c.args.known ≡ Ok c.in_ok-running.running = c.in_ok-running.was in
    subst (λ k. Tells k s) was tells

pub returns-in_err-running : goal.returns-in_err-running
returns-in_err-running c =
    let p = err_from_is_err_and c.from_residual.result c.from_residual.ensures.1 in
    λ columns tells move is place.
    let a = c.args in
    let s = state (joined a.t columns a.count) a.network.now.heads a.network.now.doors in
    let was : a.known ≡ Err c.in_err-running.field-0.0 = c.in_err-running.was in
    let barred = subst (λ k. Tells k s) was tells in
    rw (p.1, p.2) (part_refused s a.x a.i move is a.known tells _ _ _ (part_barred s a.x a.i move is _ barred.refuses))

pub returns-in_err-check_opening : goal.returns-in_err-check_opening
returns-in_err-check_opening c =
    let q = c.from_residual-in_err-check_opening in
    let p = err_from_is_err_and q.result q.ensures.1 in
    λ columns tells move is place.
    let a = c.args in
    let s = state (joined a.t columns a.count) a.network.now.heads a.network.now.doors in
    let t = told (goal.at.returns-in_err-check_opening c).In_ok-running s tells in
    rw (p.1, p.2) (part_refused s a.x a.i move is a.known tells _ _ _ (part_closed s a.x a.i move is _ t _ c.in_err-check_opening.ensures))

pub returns-then-not-is_move-count : goal.returns-then-not-is_move-count
returns-then-not-is_move-count c =
    λ columns tells move is place.
    let a = c.args in
    let s = state (joined a.t columns a.count) a.network.now.heads a.network.now.doors in
    let t = told (goal.at.returns-then-not-is_move-count c).In_ok-running s tells in
    let w = part_opened s a.x a.i move is _ t c.in_ok-check_opening.ensures in
    let all : (c.is_move.result && leb a.count 512) ≡ true = ap₂ ◌&&◌ (c.is_move.ensures ∙ move) (le-leb a.count 512 w.stood.room) in
    absurd (true≢false (sym all ∙ not-true _ c.if-not-is_move-count.true-raw))

pub change-requires : goal.change-requires
change-requires c =
    let a = c.args in
    let both : (c.is_move.result && leb a.count 512) ≡ true = not-false _ c.if-not-is_move-count.false-raw in (
      sym c.is_move.ensures ∙ and_left _ _ both,
      (leb-true a.count 512 (and_right c.is_move.result (leb a.count 512) both), opening_there a.t.columns a.x a.i a.count c.in_ok-check_opening.ensures),
    )

pub returns-in_err-r : goal.returns-in_err-r
returns-in_err-r c =
    let q = c.from_residual-in_err-r in
    let p = err_from_is_err_and q.result q.ensures.1 in
    λ columns tells move is place.
    let a = c.args in
    let s = state (joined a.t columns a.count) a.network.now.heads a.network.now.doors in
    let t = told (goal.at.returns-in_err-r c).In_ok-running s tells in
    let o = c.in_ok-check_opening.ensures in
    let w = part_opened s a.x a.i move is _ t o in
    rw (p.1, p.2)
    (part_refused s a.x a.i move is a.known tells _ _ _
    (c.in_err-r.ensures columns (place_is s a.x a.i move is _ t o place) (who_runs s a.x a.i move is _ t) (sym t.refuses) w.below w.actor))

pub returns : goal.returns
returns c =
    λ columns tells move is place.
    let a = c.args in
    let s = state (joined a.t columns a.count) a.network.now.heads a.network.now.doors in
    let t = told (goal.at.returns c).In_ok-running s tells in
    let o = c.in_ok-check_opening.ensures in
    let w = part_opened s a.x a.i move is _ t o in
    let r = c.in_ok-r.r in
    part_accepted s a.x a.i move is _ t o (record { column = r.column; count = r.count; known = c.known_after-known.result }) _ _
    (c.in_ok-r.ensures columns (place_is s a.x a.i move is _ t o place) (who_runs s a.x a.i move is _ t) (sym t.refuses) w.below w.actor)
    c.known_after-known.ensures a.known
