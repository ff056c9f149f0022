use Rattle.std.proofs.Common.{◌≡◌, ℕ, List, ap, ◌∙◌, arith}
use Rattle.list.specs.Closing.{placed}
use Rattle.journals.specs.PacketLines.{owner_bytes}
use Rattle.firmware.specs.Blocks.{own_in}
use Rattle.firmware.specs.Calls.{list_left, owner_call}
use Rattle.firmware.specs.laws.JournalTextLaws.{owner_length, line_begins}
use Rattle.firmware.proofs.journal.owner.Goals as goal

pub returns : goal.returns
unfolding owner_call
returns c =
    let column = c.args.column.now in
    let own = c.from.result in
    let block = c.in_ok-column_block.ensures.block in
    let is : own ≡ own_in column = c.from.ensures ∙ c.own_in-own.ensures ∙ ap (λ (s : List ℕ). own_in s) block.1 in
    let begins = line_begins (owner_bytes own) (omega (arith, owner_length own (omega (arith, is, (c.type_inv.column 1).fits)))) c.put_field-n.ensures in
    rw block.0 (c.leave_text.ensures ∙ ap (λ (w : List ℕ). list_left (placed c.args.text.now 0 w)) (begins ∙ ap (λ (k : ℕ). owner_bytes k) is))
