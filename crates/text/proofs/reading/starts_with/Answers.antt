use Rattle.std.proofs.Common.{◌∙◌}
use Rattle.text.specs.laws.ReadingLaws.{starts_is}
use Rattle.text.proofs.reading.starts_with.Goals as goal

pub returns : goal.returns
returns c = c.starts_with.ensures.value ∙ starts_is c.args.key.now c.args.text.now
