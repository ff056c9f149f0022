use Rattle.std.proofs.lemmas.Result.{err_from_is_err_and}
use Prim.Native.Nat.{ℕ}
use mathlib.Core.Path.{◌≡◌, refl, sym, ap, ◌∙◌}
use Rattle.column.specs.Sets.{has}
use Rattle.column.specs.laws.TreeLaws.{tree_sixteen}
use Rattle.bank.specs.Banks.{State, state}
use Rattle.bank.specs.laws.ValidityLaws.{valid}
use Rattle.bank.specs.laws.StepLaws.{refused_unless, unless_goes, earlier_refused, halting_refusal_lem}
use Rattle.bank.specs.Steps.{accepted, halt_refusal, halted, with_stopped}
use Rattle.bank.specs.declared.bank.Bank.{Bank}
use Rattle.bank.specs.inner.Returning.{own_halting}
use Rattle.bank.proofs.step.halt_columns.Goals as goal
use Rattle.bank.proofs.step.halt_columns.Goals.{In_ok-running}

pub returns-in_err-running : goal.returns-in_err-running
unfolding halt_refusal
returns-in_err-running c =
    let a = c.args in
    let p = err_from_is_err_and c.from_residual.result c.from_residual.ensures.1 in
    rw (p.1, p.2) (refused_unless (state a.b a.network.now.heads a.network.now.doors) _ (halt_refusal (state a.b a.network.now.heads a.network.now.doors) a.m) _ (earlier_refused _ _ _ (c.in_err-running.ensures.refuses a.network.now.doors)))

pub halting_set-requires : goal.halting_set-requires
halting_set-requires c =
    let a = c.args in
    tree_sixteen a.b.tree (valid (state a.b a.network.now.heads a.network.now.doors) (sym (c.in_ok-running.ensures.refuses a.network.now.doors))).tree

-- what the set is refused by is what the halt is
own : (c : In_ok-running) → let a = c.args in own_halting a.b.tree.columns c.in_ok-running.running a.m ≡ halt_refusal (state a.b a.network.now.heads a.network.now.doors) a.m
own c =
    let a = c.args in
    let v = c.in_ok-running.ensures in
    halting_refusal_lem (state a.b a.network.now.heads a.network.now.doors) a.m (v.refuses a.network.now.doors) (λ _. v.running_is)

pub returns-in_err-set : goal.returns-in_err-set
returns-in_err-set c =
    let a = c.args in
    let q = c.from_residual-in_err-set in
    let p = err_from_is_err_and q.result q.ensures.1 in
    rw (p.1, p.2)
    (refused_unless (state a.b a.network.now.heads a.network.now.doors) _ (halt_refusal (state a.b a.network.now.heads a.network.now.doors) a.m) _
    (c.in_err-set.ensures.refuses ∙ own (goal.at.returns-in_err-set c).In_ok-running))

pub vanish-requires : goal.vanish-requires
vanish-requires c =
    let a = c.args in
    (valid (state a.b a.network.now.heads a.network.now.doors) (sym (c.in_ok-running.ensures.refuses a.network.now.doors))).room

pub returns : goal.returns
unfolding halted
returns c =
    let a = c.args in
    let s = state a.b a.network.now.heads a.network.now.doors in
    let set = c.in_ok-set in
    ap (λ (x : Bank). accepted (state x c.vanish.new.self.heads c.vanish.new.self.doors)) c.stop.ensures
    ∙ ap (λ (x : State). accepted (state (with_stopped x.bank (has set.set)) x.heads x.doors)) (c.vanish.ensures a.b)
    ∙ ap (λ (m : ℕ). accepted (halted s (has m))) set.ensures.set
    ∙ unless_goes s (accepted (halted s (has a.m))) 0 (halt_refusal s a.m) (set.ensures.refuses ∙ own (goal.at.returns c).In_ok-running) refl
