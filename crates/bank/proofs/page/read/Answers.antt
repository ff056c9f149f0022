use mathlib.Core.Path.{sym, ap, ◌∙◌}
use Rattle.column.specs.Pages as core
use Rattle.column.specs.declared.state.Column.{Column}
use Rattle.bank.specs.Banks.{state}
use Rattle.bank.proofs.laws.PageLaws.{page_read}
use Rattle.bank.proofs.page.read.Goals as goal

pub returns : goal.returns
returns c doors =
    let a = c.args in
    c.read.ensures ∙ ap (λ (x : Column). core.read_byte a.b.tree a.i x a.offset) c.column_at.ensures
    ∙ page_read (state a.b a.heads.now doors) a.i a.offset (sym (c.in_ok-check_acting.ensures doors))
