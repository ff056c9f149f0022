use Rattle.std.proofs.Common.{◌≡◌, rules, tests, eqb, Some, None, sym}
use Rattle.std.proofs.lemmas.Iterator.{YieldsList-from_slice}
use Rattle.std.proofs.lemmas.Iterator.Search.{position_from_yields_List}
use Rattle.text.specs.Text.{comma}
use Rattle.script.specs.Lines.{note_of}
use Rattle.script.specs.laws.LineLaws.{first_comma, note_without, note_around}
use Rattle.script.proofs.line.note_columns.Goals as goal
use Rattle.script.proofs.line.note_columns.Goals.{In_ok-comma}

found : (c : In_ok-comma) → Some c.in_ok-comma.comma ≡ first_comma c.args.text.now
found c = position_from_yields_List (λ b. eqb b comma) _ _ (Some c.in_ok-comma.comma) c.in_ok-comma.ensures.ran (YieldsList-from_slice _ c.iter.ensures.rest) (λ x b q k. search (rules, tests))

pub returns-in_err-comma : goal.returns-in_err-comma
returns-in_err-comma c =
    let none = position_from_yields_List (λ b. eqb b comma) _ _ None c.in_err-comma.ensures.ran (YieldsList-from_slice _ c.iter.ensures.rest) (λ x b q k. search (rules, tests)) in
    rw c.from_residual.ensures (sym (note_without c.args.text.now none))

pub returns-in_err-i : goal.returns-in_err-i
unfolding note_of
returns-in_err-i c = rw (c.from_residual-in_err-i.ensures, note_around _ _ (found (goal.at.returns-in_err-i c).In_ok-comma), ← c.in_err-i.ensures)

pub returns-in_err-j : goal.returns-in_err-j
unfolding note_of
returns-in_err-j c =
    rw (c.from_residual-in_err-j.ensures, note_around _ _ (found (goal.at.returns-in_err-j c).In_ok-comma), ← c.in_ok-i.ensures, ← c.in_err-j.ensures)

pub returns : goal.returns
unfolding note_of
returns c = rw (note_around _ _ (found (goal.at.returns c).In_ok-comma), ← c.in_ok-i.ensures, ← c.in_ok-j.ensures)
