use Rattle.std.specs.Prelude.{ℕ, List}
use Rattle.std.proofs.Common.{◌≡◌, ◌+◌, ◌-◌, ◌<◌, refl, sym, ap₂, arith, ◌∙◌}
use Rattle.bank.specs.Networks.{closed_up}
use Rattle.bank.specs.inner.NetworkWords.{ClosedUp}
use Rattle.bank.proofs.bank.Network.remove.Goals as goal

-- the words move up from a place, which is named or known
closed : (heads doors : List ℕ) {place at count : ℕ} {heads' doors' : List ℕ} → place ≡ at → place < count
    → heads' ≡ closed_up heads at (count - 1 + 1) 0 → doors' ≡ closed_up doors at (count - 1 + 1) 0 → ClosedUp place count heads doors heads' doors'
closed heads doors {place} {at} {count} e l h d =
    let n : count - 1 + 1 ≡ count = omega (arith, l) in
    record {
      heads_are = h ∙ ap₂ (λ at n. closed_up heads at n 0) (sym e) n;
      doors_are = d ∙ ap₂ (λ at n. closed_up doors at n 0) (sym e) n;
    }

pub returns-then-place-eq0 : goal.returns-then-place-eq0
returns-then-place-eq0 c =
    let a = c.args in
    closed a.self.now.heads a.self.now.doors c.if-place-eq0.true c.requires.0 c.close_up.ensures c.close_up-then-place-eq0.ensures

pub returns : goal.returns
returns c =
    let a = c.args in
    closed a.self.now.heads a.self.now.doors refl c.requires.0 c.close_up-2.ensures c.close_up-3.ensures
