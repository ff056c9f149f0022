use borrow.Author.Rules.{rules}
use mathlib.Core.Path.{sym}
use Rattle.column.specs.laws.SetLaws.{has_above}
use Rattle.column.proofs.members.has.Goals as goal

pub returns-then-i-ge16 : goal.returns-then-i-ge16
returns-then-i-ge16 c = sym (has_above 16 c.args.m c.args.i (search rules) (search rules))
