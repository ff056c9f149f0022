use borrow.Author.Rules.{rules}
use mathlib.Core.Path.{◌≡◌, sym}
use native.Mathlib.Omega.{arith}
use lib.ListN.{length, get_or-eq_default}
use Rattle.bank.specs.Banks.{no_column}
use Rattle.bank.specs.laws.ListSteps.{length_mapped}
use Rattle.bank.proofs.settling.column_at.Goals as goal

pub returns-then-i-ge16 : goal.returns-then-i-ge16
returns-then-i-ge16 c =
    let places = c.args.b.columns in
    let e : length places ≡ 16 = search (rules, length_mapped) in
    sym (get_or-eq_default places no_column (omega (arith, e, c.if-i-ge16.true)))
