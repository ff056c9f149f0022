use Rattle.std.proofs.Common.{refl, sym, ◌∙◌, length, length-take-le, arith}
use Rattle.std.proofs.lemmas.Result.{err_from_is_err_and}
use Rattle.journals.specs.laws.ReadJournalLaws.{journal_long, journal_unended, journal_unowned, journal_owned, owner_below, read_given, read_holds, read_refused}
use Rattle.journals.proofs.journal.ReadJournal.read.Goals as goal

pub returns-then-text-gt-JOURNAL : goal.returns-then-text-gt-JOURNAL
returns-then-text-gt-JOURNAL c = sym (journal_long c.args.text.now c.if-text-gt-JOURNAL.true)

pub returns-in_default : goal.returns-in_default
returns-in_default c =
    let s = c.args.text.now in
    sym (journal_unended s c.if-text-gt-JOURNAL.false (length s) (sym c.in_default.ensures.none) (omega arith) refl)

pub returns-in_err-owner : goal.returns-in_err-owner
returns-in_err-owner c =
    let p = err_from_is_err_and c.from_residual.result c.from_residual.ensures.1 in
    rw (p.1, p.2)
    (sym (journal_unowned c.args.text.now c.if-text-gt-JOURNAL.false c.in-Some.end c.in-Some.ensures.end.0 (omega (arith, c.in-Some.ensures.end.1)) (omega (arith, c.in-Some.ensures.end.1)) _ c.in_err-owner.ensures))

pub returns-in_err-count : goal.returns-in_err-count
returns-in_err-count c =
    let p = err_from_is_err_and c.from_residual-in_err-count.result c.from_residual-in_err-count.ensures.1 in
    let owned = journal_owned c.args.text.now c.if-text-gt-JOURNAL.false c.in-Some.end c.in-Some.ensures.end.0 (omega (arith, c.in-Some.ensures.end.1)) (omega (arith, c.in-Some.ensures.end.1))
    c.in_ok-owner.owner c.split_at.result.1.now c.in_ok-owner.ensures c.split_at.ensures.back in
    rw (p.1, p.2) (sym (owned ∙ read_refused c.in_ok-owner.owner c.split_at.result.1.now _ c.in_err-count.ensures.all_lines))

pub invariant_of-result : goal.invariant_of-result
invariant_of-result c = record {
  holds = read_holds c.in_ok-owner.owner c.split_at.result.1.now _ c.in_ok-count.ensures.all_lines (owner_below _ _ c.in_ok-owner.ensures)
      (omega (arith, length-take-le c.in_ok-count.count c.read_lines.new.lines c.in_ok-count.ensures.result_in_bounds.0, c.in_ok-count.ensures.result_in_bounds.1, c.split_at.ensures.back_len));
}

pub returns : goal.returns
returns c =
    let owned = journal_owned c.args.text.now c.if-text-gt-JOURNAL.false c.in-Some.end c.in-Some.ensures.end.0 (omega (arith, c.in-Some.ensures.end.1)) (omega (arith, c.in-Some.ensures.end.1))
    c.in_ok-owner.owner c.split_at.result.1.now c.in_ok-owner.ensures c.split_at.ensures.back in
    sym (owned ∙ read_given c.in_ok-owner.owner c.split_at.result.1.now _ c.in_ok-count.ensures.all_lines)
