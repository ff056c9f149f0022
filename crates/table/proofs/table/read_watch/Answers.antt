use Rattle.std.proofs.Common.{sym, ◌∙◌}
use Rattle.text.specs.Text.{watches_root, watches_sender}
use Rattle.text.specs.laws.ReadingLaws.{starts_length}
use Rattle.table.specs.laws.TableLaws.{watch_sender, watch_unread}
use Rattle.table.proofs.table.read_watch.Goals as goal

pub returns-then-starts_with-clause-within : goal.returns-then-starts_with-clause-within
returns-then-starts_with-clause-within c = starts_length watches_root c.args.rest.now (sym c.starts_with-2.ensures ∙ c.if-starts_with.true)

pub returns-then-starts_with-2-clause-line : goal.returns-then-starts_with-2-clause-line
returns-then-starts_with-2-clause-line c =
    rw (watch_sender c.args.rest.now (sym c.starts_with.ensures ∙ c.if-not-starts_with.false) (sym c.starts_with-2.ensures ∙ c.if-starts_with.false) (sym c.starts_with-3.ensures ∙ c.if-starts_with-2.true))

pub returns-then-starts_with-2-clause-within : goal.returns-then-starts_with-2-clause-within
returns-then-starts_with-2-clause-within c = starts_length watches_sender c.args.rest.now (sym c.starts_with-3.ensures ∙ c.if-starts_with-2.true)

pub returns-clause-line : goal.returns-clause-line
returns-clause-line c =
    rw (watch_unread c.args.rest.now (sym c.starts_with.ensures ∙ c.if-not-starts_with.false) (sym c.starts_with-2.ensures ∙ c.if-starts_with.false) (sym c.starts_with-3.ensures ∙ c.if-starts_with-2.false))
