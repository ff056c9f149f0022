use Rattle.std.proofs.lemmas.Result.{err_from_is_err_and}
use mathlib.Core.Path.{◌≡◌, refl, sym, ap, subst, ◌∙◌}
use mathlib.Core.Bool.{true, false}
use Rattle.column.specs.Columns.{validity_refusal}
use Rattle.column.specs.declared.state.Column.{Column}
use Prim.Native.Nat.{ℕ, ◌<◌}
use native.Mathlib.Omega.{arith}
use Rattle.column.specs.Packets.{receiver}
use Rattle.column.specs.Steps as core
use Rattle.bank.specs.Banks.{State, state, column_at, packet_at, joined, bank_refusal}
use Rattle.bank.specs.Steps.{Result, delivered, settled}
use Rattle.bank.specs.Performs.{perform}
use Rattle.bank.specs.StepKinds.{is_move, is_take}
use Rattle.bank.specs.inner.Moves.{place_in, acts}
use Rattle.bank.specs.laws.Kinds.{no_take}
use Rattle.bank.specs.laws.ValidityLaws.{valid}
use Rattle.bank.specs.inner.Changes.{Steady, Aimed, RunningIs, core_step}
use Rattle.bank.proofs.laws.ChangeLaws.{valid_at, own_done}
use Rattle.bank.proofs.laws.MoveLaws.{own_is, take_acts, take_performs}
use Rattle.bank.specs.declared.bank.Step.{Step}
use Rattle.bank.proofs.step.change.Goals as goal

pub taken-requires : goal.taken-requires
taken-requires c = (omega (arith, ap place_in c.in-Take.is, c.requires.1.1 (ap is_take c.in-Take.is)), c.requires.1.0)

pub returns-in-Take : goal.returns-in-Take
returns-in-Take c =
    λ columns is running_is ok below actor.
    let a = c.args in
    let s = state (joined a.t columns a.count) a.network.now.heads a.network.now.doors in
    let takes = ap is_take c.in-Take.is in
    let at : place_in a.x ≡ c.in-Take.place = ap place_in c.in-Take.is in
    c.taken.ensures (joined a.t columns a.count) (record { tree_is = refl; running_is = running_is; column_is = is; count_is = refl }) ok
    (take_acts s a.x a.i takes actor ∙ ap (λ (m : ℕ). receiver (packet_at s m)) at)
    ∙ ap (λ (m : ℕ). delivered s m (packet_at s m)) (sym at)
    ∙ take_performs s a.x takes ok (c.requires.1.1 takes)

-- the core's own step of the column that is lent beside its bank: what settles it is the bank's step
own_change : (s : State) (x : Step) (i : ℕ) (c : Column) (running : ℕ) → is_move x ≡ true → is_take x ≡ false → column_at s.bank i ≡ c
    → RunningIs running s.bank → bank_refusal s ≡ 0 → i < s.bank.tree.columns → acts s x i ≡ true → {m : core.Result} {o : Result State}
    → (validity_refusal s.bank.tree i c ≡ 0 → m ≡ core_step s.bank.tree running x i c)
    → (Steady (column_at s.bank i) m → Aimed s.bank.tree m → o ≡ settled s s i m) → o ≡ perform s x
own_change s x i c running moves other is running_is ok below actor answers settles =
    let w = valid s ok in
    let good : validity_refusal s.bank.tree i c ≡ 0 = subst (λ (c : Column). validity_refusal s.bank.tree i c ≡ 0) is (valid_at s w i below) in
    own_done s w i below running running_is x (own_is x moves other) actor
    (answers good ∙ ap (core_step s.bank.tree running x i) (sym is)) settles

pub returns-in_err-o : goal.returns-in_err-o
returns-in_err-o c =
    let p = err_from_is_err_and c.from_residual.result c.from_residual.ensures.1 in
    λ columns is running_is ok below actor.
    let a = c.args in
    rw (p.1, p.2)
    (own_change (state (joined a.t columns a.count) a.network.now.heads a.network.now.doors) a.x a.i a.c a.running
    c.requires.0 (no_take a.x c.in_default.not-Take) is running_is ok below actor c.in_err-o.ensures (λ steady aimed. refl))

pub returns : goal.returns
returns c =
    λ columns is running_is ok below actor.
    let a = c.args in
    let b = joined a.t columns a.count in
    own_change (state b a.network.now.heads a.network.now.doors) a.x a.i a.c a.running
    c.requires.0 (no_take a.x c.in_default.not-Take) is running_is ok below actor c.in_ok-o.ensures (c.settle.ensures b a.i refl running_is)
