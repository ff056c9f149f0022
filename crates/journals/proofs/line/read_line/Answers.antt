use Rattle.std.proofs.Common.{ℕ, List, sym, ap, ◌∙◌}
use Rattle.text.specs.Pieces.{pieces}
use Rattle.text.specs.laws.ReadingLaws.{cut_is}
use Rattle.journals.specs.Journals.{sent_key, got_key, line_pieces}
use Rattle.journals.specs.declared.line.Way.TheVariants.{Sent, Got}
use Rattle.journals.specs.laws.FieldLaws.{sent_line, got_line, no_line}
use Rattle.journals.proofs.line.read_line.Goals as goal

pub returns-in-Some : goal.returns-in-Some
returns-in-Some c =
    let a = c.args in
    let sent = c.in-Some.ensures.cases in
    c.fields.ensures ∙ ap (λ (l : List ℕ). line_pieces a.owner Sent (pieces l)) sent.1
    ∙ sym (sent_line a.owner a.line.now (sym (cut_is sent_key a.line.now) ∙ sent.0))

pub returns-in-Some-strip_prefix : goal.returns-in-Some-strip_prefix
returns-in-Some-strip_prefix c =
    let a = c.args in
    let got = c.in-Some-strip_prefix.ensures.cases in
    c.fields-in-Some-strip_prefix.ensures ∙ ap (λ (l : List ℕ). line_pieces a.owner Got (pieces l)) got.1
    ∙ sym (got_line a.owner a.line.now (sym (cut_is sent_key a.line.now) ∙ c.in_default.ensures.cases) (sym (cut_is got_key a.line.now) ∙ got.0))

pub returns : goal.returns
returns c =
    let a = c.args in
    sym (no_line a.owner a.line.now (sym (cut_is sent_key a.line.now) ∙ c.in_default.ensures.cases) (sym (cut_is got_key a.line.now) ∙ c.in_default-strip_prefix.ensures.cases))
