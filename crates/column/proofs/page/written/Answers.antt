use borrow.Author.Tests.{eq-eqb, ne_eqb}
use Rattle.column.specs.Pages.{written}
use Rattle.column.proofs.page.written.Goals as goal

pub returns-then-offset-eq-MASK_OFFSET : goal.returns-then-offset-eq-MASK_OFFSET
unfolding written
returns-then-offset-eq-MASK_OFFSET c = rw (eq-eqb _ _ c.if-offset-eq-MASK_OFFSET.true)

pub returns-then-offset-eq-CLEAR_OFFSET : goal.returns-then-offset-eq-CLEAR_OFFSET
unfolding written
returns-then-offset-eq-CLEAR_OFFSET c = rw (ne_eqb _ _ c.if-offset-eq-MASK_OFFSET.false, eq-eqb _ _ c.if-offset-eq-CLEAR_OFFSET.true)

pub returns-else-offset-eq-CLEAR_OFFSET : goal.returns-else-offset-eq-CLEAR_OFFSET
unfolding written
returns-else-offset-eq-CLEAR_OFFSET c = rw (ne_eqb _ _ c.if-offset-eq-MASK_OFFSET.false, ne_eqb _ _ c.if-offset-eq-CLEAR_OFFSET.false)
