use Rattle.std.proofs.Common.{sym}
use borrow.Author.Tests.{leb-false}
use Rattle.column.specs.laws.RefusalLaws.{passed, earlier_none}
use Rattle.column.specs.Columns.{validity_refusal}
use Rattle.column.specs.laws.StateLaws.{validity_refusal_column}
use Rattle.column.specs.Pages.{page_size, read_conditions, read_refusal}
use Rattle.column.proofs.page.read.Goals as goal

pub page-bytes-requires : goal.page-bytes-requires
unfolding read_refusal
page-bytes-requires c =
    let a = c.args in
    validity_refusal_column a.t a.i a.c (earlier_none (validity_refusal a.t a.i a.c) _ (sym c.in_ok-check_read.ensures)).0

pub bounds-bytes-offset : goal.bounds-bytes-offset
unfolding read_refusal
bounds-bytes-offset c =
    let a = c.args in
    leb-false page_size a.offset (passed (read_conditions a.offset) tt (earlier_none (validity_refusal a.t a.i a.c) _ (sym c.in_ok-check_read.ensures)).1).0
