use Rattle.std.proofs.Common.{ℕ, ◌≡◌, true, false, List, get_or, take, sym, ap, subst, ◌∙◌, arith}
use Rattle.text.specs.Text.{Puts}
use Rattle.text.specs.laws.WritingLaws.{puts_all}
use Rattle.journals.specs.inner.ReadTexts.{lines_of}
use Rattle.journals.specs.laws.MissingLaws.{missed, written_as, written_all, next_line}
use Rattle.journals.specs.laws.ReadJournalLaws.{holds_fit, written_start, line_missed, small}
use Rattle.journals.specs.declared.lines.KeyedLine.{KeyedLine}
use Rattle.journals.proofs.indexed.IndexedJournal.put_missing.Goals.{then-unmatched, else-unmatched}
use Rattle.journals.proofs.indexed.IndexedJournal.put_missing.Goals as goal

pub loop-line-init : goal.loop-line-init
loop-line-init c = written_start c.args.self.now.journal.holds c.args.other.now.journal.holds c.args.start c.args.out.now c.requires

pub split_at-requires : goal.split_at-requires
split_at-requires c =
    let mine = c.args.self.now.journal in
    let theirs = c.args.other.now.journal in
    (next_line mine.owner theirs.owner (lines_of theirs) (small mine.holds theirs.holds) (holds_fit theirs.holds) c.loop-line.invariant (record { key = 0; size = 0 }) c.loop-line-test.true).inside

pub loop-line-preserved : goal.loop-line-preserved
loop-line-preserved c =
    let mine = c.args.self.now.journal in
    let theirs = c.args.other.now.journal in
    let none : KeyedLine = record { key = 0; size = 0 } in
    let this = get_or mine.lines.now c.loop-line.line-index none in
    let next = next_line mine.owner theirs.owner (lines_of theirs) (small mine.holds theirs.holds) (holds_fit theirs.holds) c.loop-line.invariant none c.loop-line-test.true in
    let same = line_missed mine.holds theirs.holds this.key in
    elim c.if-unmatched.branch [
      | then-unmatched w ↦
          let t : missed mine.owner theirs.owner (lines_of theirs) this ≡ true = sym same ∙ sym c.unmatched.ensures ∙ w.if-unmatched.true in
          let bytes = take this.size c.loop-line.rest.now in
          let put = subst (λ (l : List ℕ). Puts w.put_all-end.result w.put_all-end.new.out c.loop-line.out c.loop-line.end l) c.split_at.ensures.front w.put_all-end.ensures in
          written_as mine.owner theirs.owner (lines_of theirs) (next.listed t (puts_all bytes (next.fitting t) put) w.put_all-end.auto.out)
          (ap (λ r. r.now) w.rest-is ∙ c.split_at.ensures.back) w.end-is w.out-is
      | else-unmatched w ↦
          let t : missed mine.owner theirs.owner (lines_of theirs) this ≡ false = sym same ∙ sym c.unmatched.ensures ∙ w.if-unmatched.false in
          written_as mine.owner theirs.owner (lines_of theirs) (next.passed t) (ap (λ r. r.now) w.rest-is ∙ c.split_at.ensures.back) w.end-is w.out-is
    ]

pub returns : goal.returns
returns c =
    let mine = c.args.self.now.journal in
    let theirs = c.args.other.now.journal in
    written_all mine.owner theirs.owner (lines_of theirs) (small mine.holds theirs.holds) (holds_fit theirs.holds) c.loop-line.invariant (omega arith)
