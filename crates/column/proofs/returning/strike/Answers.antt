use borrow.Author.Rules.{rules}
use Rattle.column.specs.laws.SetLaws.{has_above, without_none}
use Rattle.column.proofs.returning.strike.Goals as goal

-- a mask of sixteen columns has no member from 16 on
pub returns-then-j-ge16 : goal.returns-then-j-ge16
returns-then-j-ge16 c =
    let a = c.args in
    rw (without_none 16 a.c.noted a.j (search rules) (has_above 16 a.c.noted a.j (search rules) (search rules)))

pub returns : goal.returns
returns c = rw c.without.ensures
