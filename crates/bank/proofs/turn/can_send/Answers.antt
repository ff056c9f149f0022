use borrow.Author.Tests.{eq-eqb, ne_eqb, not-true}
use mathlib.Core.Bool.{or-true}
use lib.Dec.{eqb}
use Rattle.column.specs.Sets.{has}
use Rattle.column.specs.Trees.{choose}
use Rattle.bank.proofs.turn.can_send.Goals as goal

pub returns-then-set-eq0 : goal.returns-then-set-eq0
returns-then-set-eq0 c = rw (eq-eqb c.args.c.send 0 c.if-set-eq0.true)

pub returns-then-not-full : goal.returns-then-not-full
returns-then-not-full c =
    let a = c.args in
    let k = choose a.t a.c.send in
    rw (ne_eqb a.c.send 0 c.if-set-eq0.false, not-true a.full c.if-not-full.true-raw, or-true (has a.c.noted k), or-true (eqb k a.i))

pub returns-then-k-i : goal.returns-then-k-i
returns-then-k-i c =
    let a = c.args in
    rw (ne_eqb a.c.send 0 c.if-set-eq0.false, eq-eqb (choose a.t a.c.send) a.i (rw c.choose-k.ensures at c.if-k-i.true))

pub returns : goal.returns
returns c =
    let a = c.args in
    rw (
      ne_eqb a.c.send 0 c.if-set-eq0.false,
      ne_eqb (choose a.t a.c.send) a.i (rw c.choose-k.ensures at c.if-k-i.false),
      c.fits.ensures,
      c.has.ensures,
      c.choose-k.ensures,
    )
