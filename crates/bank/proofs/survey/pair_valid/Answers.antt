use borrow.Author.Tests.{lt-ltb, le-ltb, eq-eqb, ne_eqb}
use Prim.Native.Nat.{ℕ, ◌/◌, ◌%◌}
use Rattle.bank.specs.inner.Surveys.{pair_valid}
use Rattle.bank.specs.Words.{ends}
use Rattle.bank.proofs.survey.pair_valid.Goals as goal

abbrev sender : ℕ → ℕ
sender pair = pair / ends % ends

abbrev receiver : ℕ → ℕ
receiver pair = pair % ends

pub returns-then-from-to : goal.returns-then-from-to
unfolding pair_valid
returns-then-from-to c = let pair = c.args.pair in rw (eq-eqb (sender pair) (receiver pair) c.if-from-to.true)

pub returns-then-columns-from : goal.returns-then-columns-from
unfolding pair_valid
returns-then-columns-from c =
    let a = c.args in
    rw (ne_eqb (sender a.pair) (receiver a.pair) c.if-from-to.false, le-ltb (sender a.pair) a.columns c.if-columns-from.true)

pub returns-then-columns-to : goal.returns-then-columns-to
unfolding pair_valid
returns-then-columns-to c =
    let a = c.args in
    rw (
      ne_eqb (sender a.pair) (receiver a.pair) c.if-from-to.false,
      lt-ltb (sender a.pair) a.columns c.if-columns-from.false,
      le-ltb (receiver a.pair) a.columns c.if-columns-to.true,
    )

pub returns-then-to-barred : goal.returns-then-to-barred
unfolding pair_valid
returns-then-to-barred c =
    let a = c.args in
    rw (
      ne_eqb (sender a.pair) (receiver a.pair) c.if-from-to.false,
      lt-ltb (sender a.pair) a.columns c.if-columns-from.false,
      lt-ltb (receiver a.pair) a.columns c.if-columns-to.false,
      ne_eqb (receiver a.pair) a.barred c.if-to-barred.true,
    )

pub returns : goal.returns
unfolding pair_valid
returns c =
    let a = c.args in
    rw (
      ne_eqb (sender a.pair) (receiver a.pair) c.if-from-to.false,
      lt-ltb (sender a.pair) a.columns c.if-columns-from.false,
      lt-ltb (receiver a.pair) a.columns c.if-columns-to.false,
      eq-eqb (receiver a.pair) a.barred c.if-to-barred.false,
    )
