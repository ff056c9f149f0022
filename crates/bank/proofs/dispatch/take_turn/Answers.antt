use Rattle.std.proofs.lemmas.Result.{err_from_is_err_and}
use mathlib.Core.Path.{◌≡◌, refl, sym, ap, ◌∙◌}
use native.Mathlib.Omega.{arith}
use Rattle.column.specs.Steps.{stepped}
use Rattle.column.specs.Unchecked.{bounded_take}
use Rattle.bank.proofs.laws.turns.TurnLaws.{turn_own, turn_taken}
use Rattle.bank.proofs.dispatch.take_turn.Goals as goal

pub settle_taken-requires : goal.settle_taken-requires
settle_taken-requires c = (c.requires.1 (sym c.is_take.ensures ∙ c.if-is_take.true), c.requires.0)

pub returns-in_err-o : goal.returns-in_err-o
returns-in_err-o c =
    let p = err_from_is_err_and c.from_residual.result c.from_residual.ensures.1 in
    λ b handed ok quick is.
    let a = c.args in
    let takes = sym c.is_take.ensures ∙ c.if-is_take.true in
    let some : a.count ≡ 0 → ⊥ = λ z. omega (arith, z, c.requires.1 takes) in
    rw (p.1, p.2)
    (turn_taken a.network.now.heads a.network.now.doors handed ok a.x quick is takes some _
    (c.in_err-o.ensures ∙ ap (bounded_take a.t a.i a.c) c.packet-p.ensures) (λ steady aimed. refl))

pub returns-then-is_take : goal.returns-then-is_take
returns-then-is_take c =
    λ b handed ok quick is.
    let a = c.args in
    let takes = sym c.is_take.ensures ∙ c.if-is_take.true in
    let some : a.count ≡ 0 → ⊥ = λ z. omega (arith, z, c.requires.1 takes) in
    turn_taken a.network.now.heads a.network.now.doors handed ok a.x quick is takes some (stepped c.in_ok-o.o)
    (c.in_ok-o.ensures ∙ ap (bounded_take a.t a.i a.c) c.packet-p.ensures)
    (c.settle_taken.ensures b a.i handed.count_is handed.running_is)

pub returns-in_err-o-2 : goal.returns-in_err-o-2
returns-in_err-o-2 c =
    let p = err_from_is_err_and c.from_residual-in_err-o-2.result c.from_residual-in_err-o-2.ensures.1 in
    λ b handed ok quick is.
    let a = c.args in
    rw (p.1, p.2)
    (turn_own a.network.now.heads a.network.now.doors handed ok a.x quick is (sym c.is_take.ensures ∙ c.if-is_take.false) _ c.in_err-o-2.ensures (λ steady aimed. refl))

pub returns : goal.returns
returns c =
    λ b handed ok quick is.
    let a = c.args in
    turn_own a.network.now.heads a.network.now.doors handed ok a.x quick is (sym c.is_take.ensures ∙ c.if-is_take.false) (stepped c.in_ok-o-2.o) c.in_ok-o-2.ensures
    (c.settle.ensures b a.i handed.count_is handed.running_is)
