use Rattle.std.proofs.Common.{[], ◌∷◌, ◌++◌}
use Rattle.text.specs.Text.{newline, decimal}
use Rattle.text.specs.laws.WritingLaws.{puts_more}
use Rattle.text.proofs.writing.put_line.Goals as goal

pub returns : goal.returns
returns c =
    puts_more c.args.key.now (decimal c.args.n ++ (newline ∷ [])) c.put_all-value.ensures
    (puts_more (decimal c.args.n) (newline ∷ []) c.put_number-end.ensures c.put_byte.ensures)
