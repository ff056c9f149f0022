use mathlib.Core.Path.{refl}
use mathlib.Core.List.{[]}
use borrow.Author.Rules.{rules}
use Rattle.text.specs.laws.WritingLaws.{writes_none}
use Rattle.script.specs.Advances.{Progress, progress_of, most_texts, saying}
use Rattle.script.specs.laws.ScriptLaws.{text_advanced, advanced_writes}
use Rattle.script.specs.laws.FillLaws.{filled_over, table, fill_later, fill_ends, fill_goes_on}
use Rattle.script.proofs.script.fill.Goals as goal
use Rattle.script.proofs.script.fill.Goals.{Start}

abbrev progressed : Start → Progress
progressed s = let a = s.args in progress_of a.r a.network.now.heads a.network.now.doors a.out.now

pub returns-then-run : goal.returns-then-run
returns-then-run c =
    let input = c.args.input.now in
    rw (filled_over input (most_texts input) (saying [] (progressed (goal.at.returns-then-run c).Start)) c.if-run.true) (text_advanced [] (writes_none c.args.out.now 0))

pub returns-then-run-2 : goal.returns-then-run-2
returns-then-run-2 c =
    let out = c.args.out.now in
    rw (fill_later c.args.input.now (progressed (goal.at.returns-then-run-2 c).Start) c.if-run-2.true c.if-run.false) (c.later.ensures out [] (writes_none out 0) refl)

pub returns-then-begun : goal.returns-then-begun
returns-then-begun c =
    let written = c.first-begun.ensures c.args.network.now.heads c.args.network.now.doors in
    rw (fill_ends c.args.input.now (progressed (goal.at.returns-then-begun c).Start) c.if-run-2.false c.if-run.false written c.if-begun.true) written

pub returns : goal.returns
returns c =
    let input = c.args.input.now in
    let written = c.first-begun.ensures c.args.network.now.heads c.args.network.now.doors in
    let text = (table input (progressed (goal.at.returns c).Start)).text in
    rw (fill_goes_on input (progressed (goal.at.returns c).Start) c.if-run-2.false c.if-run.false written c.if-begun.false)
    (c.later-2.ensures c.args.out.now text (advanced_writes written) (search rules))
