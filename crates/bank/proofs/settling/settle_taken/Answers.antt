use Prim.Native.Nat.{ℕ, ◌-◌, ◌<◌}
use mathlib.Core.Path.{◌≡◌, ap, ◌∙◌}
use mathlib.Core.Bool.{true}
use mathlib.Core.Logic.{⊎_elim}
use native.Mathlib.Omega.{arith}
use Rattle.column.specs.Steps.{stepped}
use Rattle.bank.specs.Banks.{State}
use Rattle.bank.specs.Networks.{counting}
use Rattle.bank.specs.Steps.{settled}
use Rattle.bank.specs.laws.StepLaws.{takes_off}
use Rattle.bank.proofs.laws.ChangeLaws.{changed_off, removed_words}
use Rattle.bank.proofs.settling.settle_taken.Goals as goal

pub returns-in-Done : goal.returns-in-Done
returns-in-Done c =
    λ b i n running_is steady aimed.
    let a = c.args in
    let room : b.count - 1 < 512 = omega (arith, n, c.requires.0, c.requires.1) in
    let off : takes_off a.o.answer ≡ true = ⊎_elim (λ e. ap takes_off e) (λ e. ap takes_off e.1) c.in-Done.is in
    changed_off b i a.network.now.heads a.network.now.doors a.place a.o.column room a.o.answer off c.settle-in-Done.result _ _
    (c.settle-in-Done.ensures (counting b (b.count - 1)) i (ap (λ (k : ℕ). k - 1) n) running_is steady aimed
    ∙ ap (λ (x : State). settled x x i (stepped a.o)) (removed_words b i a.network.now.heads a.network.now.doors a.place a.o.column room n c.remove.ensures))
