use mathlib.Core.Path.{ap}
use lib.ListN.{set}
use Rattle.bank.proofs.bank.Network.append.Goals as goal

pub returns : goal.returns
returns c =
    let a = c.args in
    record {
      heads_are = ap (set a.self.now.heads a.count) c.head.ensures;
      doors_are = ap (set a.self.now.doors a.count) c.doors_of.ensures;
    }
