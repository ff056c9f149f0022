use Rattle.std.proofs.Common.{ap, ◌∙◌}
use Rattle.std.proofs.Math.ListN.{set}
use Rattle.bank.specs.laws.ListSteps.{closed_block}
use Rattle.bank.proofs.network.close_up.Goals as goal

pub returns : goal.returns
returns c =
    let a = c.args in
    ap (λ l. set l a.last 0) c.copy_within.ensures.after ∙ closed_block a.words.now a.place a.last 0 c.requires.0 c.requires.1
