use Rattle.std.proofs.Common.{◌≡◌, ◌-◌, arith, ap, ◌∙◌}
use Rattle.std.proofs.Math.ListN.{length, take, drop, replicate, length-take, length-drop}
use Rattle.bank.specs.laws.ListSteps.{padded_block}
use Rattle.bank.proofs.network.clear.Goals as goal

pub returns : goal.returns
returns c =
    let a = c.args in
    let s = a.words.now in
    let many : length (take (a.to - a.from) (drop a.from s)) ≡ a.to - a.from = simp (length-take, length-drop) (omega arith) in
    padded_block s c.fill.new.self a.from a.to 0 c.requires.0 c.requires.1
    (c.fill.ensures.after (λ y e. e) ∙ ap (λ n. replicate n 0) many)
