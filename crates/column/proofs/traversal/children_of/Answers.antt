use Rattle.column.specs.laws.ChildLaws.{naming_children, naming_all}
use Rattle.column.proofs.traversal.children_of.Goals as goal

pub returns-then-root-ge16 : goal.returns-then-root-ge16
returns-then-root-ge16 c =
    let a = c.args in
    rw (c.whole.ensures, c.named.ensures) (naming_all a.t a.c c.requires.0 c.if-root-ge16.true)

pub returns : goal.returns
returns c =
    let a = c.args in
    rw (c.without.ensures, c.whole.ensures, c.named.ensures) (naming_children a.t a.c c.requires.0 c.if-root-ge16.false)
