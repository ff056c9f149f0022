use Rattle.std.proofs.Common.{◌≡◌, true, false, sym, ap, ap₂, ◌∙◌}
use Rattle.list.specs.Closing.{placed}
use Rattle.std.proofs.lemmas.List.{get_or-replicate}
use Rattle.std.proofs.lemmas.Result.{err_from_is_err_and}
use Rattle.journals.specs.Journals.{missing_text}
use Rattle.journals.specs.inner.Chains.{buckets}
use Rattle.journals.specs.inner.ReadTexts.{journal_said, both_heard}
use Rattle.journals.specs.laws.ChainLaws.{indexed_none}
use Rattle.journals.specs.laws.ComparingLaws.{pair_owners, first_twice, second_twice, pair_unheard, pair_placed}
use Rattle.journals.proofs.comparison.compare_read.Goals as goal

pub returns-then-one-two : goal.returns-then-one-two
returns-then-one-two c = sym (pair_owners (journal_said c.args.one) (journal_said c.args.two) _ c.if-one-two.true)

pub new-requires : goal.new-requires
new-requires c = indexed_none _ _ (λ b lt. get_or-replicate buckets b 0 0 lt)

pub returns-in_err-one : goal.returns-in_err-one
returns-in_err-one c =
    let p = err_from_is_err_and c.from_residual.result c.from_residual.ensures.1 in
    rw (p.1, p.2, c.in_err-one.ensures.0) (sym (first_twice (journal_said c.args.one) (journal_said c.args.two) _ c.if-one-two.false c.in_err-one.ensures.1))

pub new-requires-2 : goal.new-requires-2
new-requires-2 c = indexed_none _ _ (λ b lt. get_or-replicate buckets b 0 0 lt)

pub returns-in_err-two : goal.returns-in_err-two
returns-in_err-two c =
    let p = err_from_is_err_and c.from_residual-in_err-two.result c.from_residual-in_err-two.ensures.1 in
    rw (p.1, p.2, c.in_err-two.ensures.0)
    (sym (second_twice (journal_said c.args.one) (journal_said c.args.two) _ c.if-one-two.false c.in_ok-one.ensures.1 c.in_err-two.ensures.1))

pub returns-then-not-both_heard : goal.returns-then-not-both_heard
returns-then-not-both_heard c =
    let one = journal_said c.args.one in
    let two = journal_said c.args.two in
    let same = ap₂ both_heard (ap journal_said c.in_ok-one.ensures.0) (ap journal_said c.in_ok-two.ensures.0) in
    let heard : both_heard one two ≡ false = sym same ∙ sym c.both_heard.ensures ∙ c.if-not-both_heard.true in
    sym (pair_unheard one two _ c.if-one-two.false c.in_ok-one.ensures.1 c.in_ok-two.ensures.1 heard)

pub returns : goal.returns
returns c =
    let one = journal_said c.args.one in
    let two = journal_said c.args.two in
    let first = ap journal_said c.in_ok-one.ensures.0 in
    let second = ap journal_said c.in_ok-two.ensures.0 in
    let heard : both_heard one two ≡ true = sym (ap₂ both_heard first second) ∙ sym c.both_heard.ensures ∙ c.if-not-both_heard.false in
    c.write_missing.ensures ∙ ap₂ (λ j k. placed c.args.out.now 0 (missing_text j k)) first second
    ∙ sym (pair_placed one two _ c.if-one-two.false c.in_ok-one.ensures.1 c.in_ok-two.ensures.1 heard)
