use Rattle.std.proofs.Common.{◌≡◌, true, false, sym, ◌∙◌}
use Rattle.journals.specs.Journals.{all_heard}
use Rattle.journals.specs.inner.ReadTexts.{lines_of}
use Rattle.journals.specs.laws.ReadJournalLaws.{heard_words}
use Rattle.journals.proofs.comparison.both_heard.Goals as goal

pub returns-then-heard : goal.returns-then-heard
returns-then-heard c =
    let one = c.args.one.now.journal in
    let two = c.args.two.now.journal in
    let first : all_heard one.owner two.owner (lines_of one) (lines_of two) ≡ true = sym (heard_words one.holds two.holds) ∙ sym c.heard.ensures ∙ c.if-heard.true in
    rw first (c.heard-then-heard.ensures ∙ heard_words two.holds one.holds)

pub returns-else-heard : goal.returns-else-heard
returns-else-heard c =
    let one = c.args.one.now.journal in
    let two = c.args.two.now.journal in
    let first : all_heard one.owner two.owner (lines_of one) (lines_of two) ≡ false = sym (heard_words one.holds two.holds) ∙ sym c.heard.ensures ∙ c.if-heard.false in
    rw first c.if-heard.false
