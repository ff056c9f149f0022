use Rattle.std.proofs.lemmas.Result.{err_from_is_err_and}
use mathlib.Core.Path.{◌≡◌, refl, sym, ap, ◌∙◌}
use native.Mathlib.Omega.{arith}
use Prim.Native.Nat.{◌<◌}
use Rattle.column.specs.Steps as core
use Rattle.column.specs.Unchecked.{take_unchecked}
use Rattle.column.specs.declared.tree.Tree.{Tree}
use Rattle.column.specs.declared.state.Column.{Column}
use Rattle.bank.specs.Banks.{state, column_at, packet_at}
use Rattle.bank.specs.inner.Changes.{Handed}
use Rattle.bank.specs.laws.ValidityLaws.{valid}
use Rattle.bank.specs.declared.bank.Bank.{Bank}
use Rattle.bank.proofs.laws.ChangeLaws.{taken_done}
use Rattle.bank.proofs.step.taken.Goals as goal
use Rattle.bank.proofs.step.taken.Goals.{After-packet-p}

-- what the core is asked is what the bank has
asked : (c : After-packet-p) (b : Bank) → let a = c.args in Handed b a.t a.running a.i a.c a.count
    → take_unchecked a.t a.i a.c c.packet-p.result ≡ take_unchecked b.tree a.i (column_at b a.i) (packet_at (state b a.network.now.heads a.network.now.doors) a.place)
asked c b handed =
    let a = c.args in
    let q = c.packet-p in
    ap (λ (t : Tree). take_unchecked t a.i a.c q.result) (sym handed.tree_is)
    ∙ ap (λ (c : Column). take_unchecked b.tree a.i c q.result) (sym handed.column_is)
    ∙ ap (take_unchecked b.tree a.i (column_at b a.i)) q.ensures

pub returns-in_err-o : goal.returns-in_err-o
returns-in_err-o c =
    let p = err_from_is_err_and c.from_residual.result c.from_residual.ensures.1 in
    λ b handed ok is.
    let a = c.args in
    let there : a.place < b.count = omega (arith, c.requires.0, handed.count_is) in
    rw (p.1, p.2)
    (taken_done (state b a.network.now.heads a.network.now.doors) (valid _ ok) a.place there a.i is _
    (c.in_err-o.ensures ∙ asked (goal.at.returns-in_err-o c).After-packet-p b handed) (λ steady aimed. refl))

pub returns : goal.returns
returns c =
    λ b handed ok is.
    let a = c.args in
    let there : a.place < b.count = omega (arith, c.requires.0, handed.count_is) in
    taken_done (state b a.network.now.heads a.network.now.doors) (valid _ ok) a.place there a.i is (core.stepped c.in_ok-o.o)
    (c.in_ok-o.ensures ∙ asked (goal.at.returns c).After-packet-p b handed)
    (c.settle_taken.ensures b a.i handed.count_is handed.running_is)
