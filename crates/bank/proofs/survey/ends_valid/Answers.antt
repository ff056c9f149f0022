use borrow.Author.Tests.{lt-ltb, le-ltb, eq-eqb, ne_eqb}
use Prim.Native.Nat.{ℕ}
use mathlib.Core.Bool.{Bool, true, false, not, ◌&&◌, ◌||◌, true≢false}
use mathlib.Core.Path.{◌≡◌, refl, sym}
use lib.Dec.{eqb, leb, ltb}
use Rattle.bank.specs.inner.Surveys.{ends_valid}
use Rattle.bank.specs.Words.{acknowledging, receiver_in, sender_in}
use Rattle.bank.proofs.survey.ends_valid.Goals as goal
use Rattle.bank.proofs.survey.ends_valid.Goals.{Else-from-to}

-- the ends are columns, and differ
apart : (c : Else-from-to) → let a = c.args in
    (ltb (receiver_in a.head) a.columns && (ltb (sender_in a.head) a.columns && not (eqb (sender_in a.head) (receiver_in a.head)))) ≡ true
apart c =
    let a = c.args in
    rw (
      lt-ltb (receiver_in a.head) a.columns (rw c.receiver_in-to.ensures at c.if-columns-to.false),
      lt-ltb (sender_in a.head) a.columns (rw c.sender_in-from.ensures at c.if-columns-from.false),
      ne_eqb (sender_in a.head) (receiver_in a.head) (rw (c.sender_in-from.ensures, c.receiver_in-to.ensures) at c.if-from-to.false),
    )

-- so that a message to the root is what is left to test
left : (columns root : ℕ) (watch : Bool) (head : ℕ)
    → (ltb (receiver_in head) columns && (ltb (sender_in head) columns && not (eqb (sender_in head) (receiver_in head)))) ≡ true
    → ends_valid columns root watch head ≡ (leb acknowledging head || (not (eqb (receiver_in head) root) || watch))
unfolding ends_valid
left columns root watch head e = go (ltb (receiver_in head) columns) (ltb (sender_in head) columns && not (eqb (sender_in head) (receiver_in head))) e
  where
    go : (a b : Bool) → (a && b) ≡ true → {x : Bool} → (a && (b && x)) ≡ x
    go true true e = refl
    go true false e = absurd (true≢false (sym e))
    go false b e = absurd (true≢false (sym e))

or-true : (b : Bool) → true ≡ (b || true)
or-true true = refl
or-true false = refl

pub returns-then-columns-to : goal.returns-then-columns-to
unfolding ends_valid
returns-then-columns-to c =
    let a = c.args in
    rw (le-ltb (receiver_in a.head) a.columns (rw c.receiver_in-to.ensures at c.if-columns-to.true))

pub returns-then-columns-from : goal.returns-then-columns-from
unfolding ends_valid
returns-then-columns-from c =
    let a = c.args in
    rw (
      lt-ltb (receiver_in a.head) a.columns (rw c.receiver_in-to.ensures at c.if-columns-to.false),
      le-ltb (sender_in a.head) a.columns (rw c.sender_in-from.ensures at c.if-columns-from.true),
    )

pub returns-then-from-to : goal.returns-then-from-to
unfolding ends_valid
returns-then-from-to c =
    let a = c.args in
    rw (
      lt-ltb (receiver_in a.head) a.columns (rw c.receiver_in-to.ensures at c.if-columns-to.false),
      lt-ltb (sender_in a.head) a.columns (rw c.sender_in-from.ensures at c.if-columns-from.false),
      eq-eqb (sender_in a.head) (receiver_in a.head) (rw (c.sender_in-from.ensures, c.receiver_in-to.ensures) at c.if-from-to.true),
    )

pub returns-then-to-root : goal.returns-then-to-root
returns-then-to-root c =
    let a = c.args in
    rw (left a.columns a.root a.watch a.head (apart (goal.at.returns-then-to-root c).Else-from-to), ne_eqb (receiver_in a.head) a.root (rw c.receiver_in-to.ensures at c.if-to-root.true))
    (or-true (leb acknowledging a.head))

pub returns-then-watch : goal.returns-then-watch
returns-then-watch c =
    let a = c.args in
    rw (
      left a.columns a.root a.watch a.head (apart (goal.at.returns-then-watch c).Else-from-to),
      eq-eqb (receiver_in a.head) a.root (rw c.receiver_in-to.ensures at c.if-to-root.false),
      c.if-watch.true,
    )
    (or-true (leb acknowledging a.head))

pub returns : goal.returns
returns c =
    let a = c.args in
    rw (
      left a.columns a.root a.watch a.head (apart (goal.at.returns c).Else-from-to),
      eq-eqb (receiver_in a.head) a.root (rw c.receiver_in-to.ensures at c.if-to-root.false),
      c.if-watch.false,
    )
    (or_none (leb acknowledging a.head))
  where
    or_none : (b : Bool) → b ≡ (b || false)
    or_none true = refl
    or_none false = refl
