use mathlib.Core.Path.{sym, ◌∙◌}
use native.Mathlib.Omega.{arith}
use Rattle.text.specs.Text.{rest_yes, rest_no}
use Rattle.text.specs.laws.WritingLaws.{puts_all}
use Rattle.script.proofs.script.put_rest.Goals as goal

pub returns-then-at_rest : goal.returns-then-at_rest
returns-then-at_rest c = rw (sym c.at_rest.ensures ∙ c.if-at_rest.true) (puts_all rest_yes (omega (arith, c.requires)) c.put_all.ensures)

pub returns : goal.returns
returns c = rw (sym c.at_rest.ensures ∙ c.if-at_rest.false) (puts_all rest_no (omega (arith, c.requires)) c.put_all-2.ensures)
