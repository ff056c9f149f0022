use Rattle.std.proofs.Common.{ℕ, List, ◌≡◌, ap, ap₂, ◌∙◌}
use Rattle.column.specs.Refusals.{given}
use Rattle.column.specs.Pages.{read_byte}
use Rattle.firmware.specs.Blocks.{tree_in, own_in, column_in}
use Rattle.firmware.specs.declared.lone.LoneColumn.{LoneColumn}
use Rattle.firmware.specs.inner.StepCalls.{lone_in}
use Rattle.firmware.specs.Calls.{byte_call}
use Rattle.firmware.proofs.state.read_page.Goals as goal

pub returns : goal.returns
unfolding byte_call
returns c =
    let a = c.args in
    let tree = c.in_ok-tree_block.ensures.block in
    let column = c.in_ok-column_block.ensures.block in
    let is : given c.in_ok-byte.byte ≡ read_byte (tree_in a.tree.now) (own_in a.column.now) (column_in a.column.now) a.offset =
    c.in_ok-byte.ensures
    ∙ ap (λ (i : ℕ). read_byte c.in_blocks-lone.result.tree i c.in_blocks-lone.result.column a.offset) c.from.ensures
    ∙ ap (λ (x : LoneColumn). read_byte x.tree x.own x.column a.offset) (c.in_blocks-lone.ensures ∙ ap₂ (λ (s r : List ℕ). lone_in s r) tree.1 column.1) in
    rw (tree.0, column.0, ← is) c.from-2.ensures
