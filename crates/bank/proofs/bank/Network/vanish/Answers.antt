use borrow.Author.Rules.{rules}
use Prim.Native.Nat.{◌≤◌}
use mathlib.Core.Path.{◌≡◌, ◌∙◌}
use native.Mathlib.Omega.{arith}
use lib.ListN.{length, take, length-take}
use Rattle.bank.specs.Networks.{keeping, elsewhere, vanished, counting}
use Rattle.bank.specs.laws.ListSteps.{keeping_few, keeping_same, partly_padded}
use Rattle.column.specs.Sets.{has}
use Rattle.bank.specs.Banks.{state}
use Rattle.bank.proofs.bank.Network.vanish.Goals as goal
use Rattle.bank.proofs.bank.Network.vanish.Goals.{After-keep-kept}

lengths : (c : After-keep-kept) → let a = c.args in
    (a.count ≤ length a.self.now.heads) × (a.count ≤ length a.self.now.doors)
lengths c = (search (rules, c.told-self), search (rules, c.told-self))

few : (c : After-keep-kept) → c.keep-kept.result ≤ c.args.count
few c =
    let a = c.args in
    let h = take a.count a.self.now.heads in
    omega (arith, c.keep-kept.ensures.many, keeping_few (elsewhere (has a.m)) h h, length-take a.count a.self.now.heads)

same : (c : After-keep-kept) → let a = c.args in
    let h = take a.count a.self.now.heads in
    length (keeping (elsewhere (has a.m)) h h) ≡ length (keeping (elsewhere (has a.m)) h (take a.count a.self.now.doors))
same c =
    let a = c.args in
    let h = take a.count a.self.now.heads in
    keeping_same (elsewhere (has a.m)) h h (take a.count a.self.now.doors) (simp length-take (omega (arith, lengths c)))

pub clear-requires : goal.clear-requires
clear-requires c =
    let e : length c.keep-kept.new.heads ≡ length c.args.self.now.heads = c.keep-kept.auto.heads in
    (few (goal.at.clear-requires c).After-keep-kept, omega (arith, e, (lengths (goal.at.clear-requires c).After-keep-kept).0))

pub clear-requires-2 : goal.clear-requires-2
clear-requires-2 c =
    let e : length c.keep-kept.new.doors ≡ length c.args.self.now.doors = c.keep-kept.auto.doors in
    (few (goal.at.clear-requires-2 c).After-keep-kept, omega (arith, e, (lengths (goal.at.clear-requires-2 c).After-keep-kept).1))

pub returns : goal.returns
unfolding vanished
returns c =
    let a = c.args in
    let h = a.self.now.heads in
    let d = a.self.now.doors in
    let f = elsewhere (has a.m) in
    let n = a.count in
    let s = c.keep-kept.ensures in
    let r = c.keep-kept.result in
    let heads = c.clear.ensures ∙ partly_padded f h h 0 0 n r n 0 _ s.heads_are s.many (few (goal.at.returns c).After-keep-kept) in
    let doors = c.clear-2.ensures ∙ partly_padded f h d 0 0 n r n 0 _ s.doors_are (s.many ∙ same (goal.at.returns c).After-keep-kept) (few (goal.at.returns c).After-keep-kept) in
    λ b t. state (counting b (s.many t)) (heads t) (doors t)
