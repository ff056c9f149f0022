use Prim.Native.Nat.{ℕ}
use mathlib.Core.Path.{◌≡◌, sym, ap, ◌∙◌}
use mathlib.Core.List.{List}
use native.Mathlib.Omega.{arith}
use lib.ListN.{get_or, set}
use Rattle.column.specs.Sets.{has}
use Rattle.column.specs.declared.state.Column.{Column}
use Rattle.bank.specs.Banks.{no_column}
use Rattle.bank.specs.Steps.{with_stopped}
use Rattle.column.specs.Columns.{stopped}
use Rattle.bank.specs.laws.strips.Rewriting.{upto, rewrite_start, rewrite_yes, rewrite_no, rewrite_end}
use Rattle.bank.specs.declared.bank.Bank.{Bank}
use Rattle.bank.proofs.strip.stop.Goals as goal
use Rattle.bank.proofs.strip.stop.Goals.{then-has, else-has}

abbrev placed : Bank → List Column → Bank
placed b l = record { tree = b.tree; columns = l; count = b.count }

pub loop-j-init : goal.loop-j-init
loop-j-init c = let a = c.args in (omega arith, ap (placed a.b) (sym (rewrite_start stopped (has a.m) a.b.columns)))

pub loop-j-preserved : goal.loop-j-preserved
loop-j-preserved c =
    let a = c.args in
    let v = c.loop-j.invariant in
    let j = c.loop-j.j in (
      omega arith,
      elim c.if-has.branch [
        | then-has w ↦
            w.b-is
            ∙ ap (λ (x : Column). placed c.loop-j.b (set c.loop-j.b.columns j x)) w.stopped.ensures
            ∙ ap (λ (x : Bank). placed x (set x.columns j (stopped (get_or x.columns j no_column)))) v.1
            ∙ ap (placed a.b) (rewrite_yes (has a.m) j stopped a.b.columns (sym c.has.ensures ∙ w.if-has.true))
        | else-has w ↦
            w.b-is ∙ v.1 ∙ ap (placed a.b) (rewrite_no (has a.m) j stopped a.b.columns (sym c.has.ensures ∙ w.if-has.false))
      ],
    )

pub returns : goal.returns
returns c =
    let a = c.args in
    let e : c.loop-j.j ≡ 16 = omega arith in
    c.loop-j.invariant.1 ∙ ap (λ (n : ℕ). with_stopped a.b (upto (has a.m) n)) e
    ∙ ap (placed a.b) (rewrite_end stopped 16 a.m (omega (arith, c.ranges.m)) a.b.columns)
