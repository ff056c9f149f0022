use Rattle.std.proofs.Common.{true, false}
use Rattle.text.specs.Text.{next_text}
use Rattle.text.specs.laws.WritingLaws.{puts_more}
use Rattle.journals.specs.Journals.{way_key}
use Rattle.firmware.specs.inner.JournalTexts.{from_kind, from_other, from_number}
use Rattle.firmware.proofs.journal.put_line.Goals as goal

pub returns : goal.returns
returns c =
    rw (← c.kind_of.ensures, ← c.number.ensures, ← c.other_of.ensures, ← c.number_of.ensures, ← c.from.ensures)
    (puts_more (way_key c.args.way) (from_kind c.number.result c.other_of.result c.from.result) c.put_key-value.ensures
    (puts_more (next_text true c.number.result) (from_other c.other_of.result c.from.result) c.put_next-column.ensures
    (puts_more (next_text false c.other_of.result) (from_number c.from.result) c.put_next-last.ensures c.put_field.ensures)))
