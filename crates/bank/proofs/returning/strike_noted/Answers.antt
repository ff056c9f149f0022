-- The columns below i have j no longer noted.
use mathlib.Core.Path.{◌≡◌, refl, sym, ap, ◌∙◌}
use mathlib.Core.Bool.{true}
use mathlib.Core.List.{List}
use native.Mathlib.Omega.{arith}
use lib.ListN.{get_or, set}
use Rattle.column.specs.Returns.{struck}
use Rattle.column.specs.declared.state.Column.{Column}
use Rattle.bank.specs.Banks.{no_column}
use Rattle.bank.specs.laws.strips.Rewriting.{rewrite_start, rewrite_yes}
use Rattle.bank.specs.declared.bank.Bank.{Bank}
use Rattle.bank.proofs.returning.strike_noted.Goals as goal
use Rattle.bank.proofs.returning.strike_noted.Invariants.{struck_below}

abbrev placed : Bank → List Column → Bank
placed b l = record { tree = b.tree; columns = l; count = b.count }

pub loop-i-init : goal.loop-i-init
loop-i-init c =
    let a = c.args in
    (omega arith, ap (placed a.b) (sym (rewrite_start (λ (x : Column). struck x a.j) (λ k. true) a.b.columns)))

pub loop-i-preserved : goal.loop-i-preserved
loop-i-preserved c =
    let a = c.args in
    let i = c.loop-i.i in (
      omega arith,
      ap (λ (x : Column). placed c.loop-i.b (set c.loop-i.b.columns i x)) c.strike.ensures
          ∙ ap (λ (x : Bank). placed x (set x.columns i (struck (get_or x.columns i no_column) a.j))) c.loop-i.invariant.1
          ∙ ap (placed a.b) (rewrite_yes (λ q. true) i (λ (x : Column). struck x a.j) a.b.columns refl),
    )

pub returns : goal.returns
returns c =
    let a = c.args in
    let e : c.loop-i.i ≡ a.b.tree.columns = omega arith in
    c.loop-i.invariant.1 ∙ ap (struck_below a.b a.j) e
