use Rattle.std.proofs.Common.{◌≡◌, ℕ, List, sym, ap, ◌∙◌}
use borrow.Author.Tests.{eq-eqb}
use Rattle.column.specs.Packets.{part, number_of}
use Rattle.list.specs.Closing.{placed}
use Rattle.journals.specs.Journals.{way_key}
use Rattle.firmware.specs.Blocks.{own_in}
use Rattle.firmware.specs.Calls.{list_left, line_left}
use Rattle.firmware.specs.inner.JournalTexts.{kind_of, packet_text, end_of, other_of}
use Rattle.firmware.specs.laws.JournalTextLaws.{line_begins, way_text, way_length, way_called}
use Rattle.firmware.proofs.journal.leave_line.Goals as goal

pub returns : goal.returns
unfolding line_left
returns c =
    let a = c.args in
    let q = part c.in_ok-p.field-0.packet c.in_ok-p.field-0.used in
    let p = q.packet in
    let block = c.in_ok-column_block.ensures.block in
    let room = way_length a.way a.packet.now (λ i. (c.type_inv.packet i).fits) q c.in_ok-p.ensures in
    let begins = line_begins (packet_text (way_key a.way) (kind_of p) (other_of a.way p) (number_of p)) room c.put_line-n.ensures in
    let its_own : end_of a.way p ≡ own_in a.column.now = sym c.end_of.ensures ∙ c.if-end_of-from.false ∙ c.from.ensures ∙ c.own_in-own.ensures ∙ ap (λ (s : List ℕ). own_in s) block.1 in
    rw (way_called, block.0, ← c.in_ok-p.ensures, eq-eqb (end_of a.way p) (own_in a.column.now) its_own)
    (c.leave_text.ensures ∙ ap (λ (w : List ℕ). list_left (placed a.text.now 0 w)) (begins ∙ way_text a.way p))
