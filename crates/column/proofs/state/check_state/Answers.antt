use Prim.Native.Nat.{ℕ}
use mathlib.Core.Path.{◌≡◌, sym, ◌∙◌}
use mathlib.Core.Bool.{Bool, true, false, not, ◌&&◌}
use borrow.Author.Tests.{lt-leb, le-leb, not-true, not-false}
use mathlib.Core.List.{List, [], ◌∷◌}
use lib.Dec.{eqb, leb}
use Rattle.column.specs.laws.Cases.{cond_and}
use Rattle.column.specs.Sets.{has, join, within}
use Rattle.column.specs.laws.SetLaws.{within_join}
use Rattle.column.specs.Refusals.{first}
use Rattle.column.specs.Columns.{state_refusal}
use Rattle.column.specs.declared.tree.Tree.{Tree}
use Rattle.column.specs.declared.state.Column.{Column}
use Rattle.column.proofs.state.check_state.Goals as goal
use Rattle.column.proofs.state.check_state.Goals.{Else-has, Else-n-i, Else-not-within}

-- row 4's conditions, the four sets as one
abbrev tests : Tree → ℕ → Column → List (ℕ × Bool)
tests t i c =
    (4, leb t.columns i)
    ∷ (4, not (within (join (join (join c.send c.awaited) c.owed) c.noted) t.columns))
    ∷ (4, has c.owed i)
    ∷ (4, eqb i t.root && not c.whole)
    ∷ (4, leb t.columns c.sender)
    ∷ []

together : (t : Tree) (i : ℕ) (c : Column) → first (tests t i c) ≡ state_refusal t i c
unfolding state_refusal
together t i c = simp (within_join, cond_and)

-- the arguments, and what each condition that is passed by gives
beyond : (c : Else-n-i) → let a = c.args in leb a.t.columns a.i ≡ false
beyond c = let a = c.args in lt-leb a.t.columns a.i c.if-n-i.false

inside : (c : Else-not-within) → let a = c.args in
    within (join (join (join a.c.send a.c.awaited) a.c.owed) a.c.noted) a.t.columns ≡ true
inside c = sym c.within.ensures ∙ not-false _ c.if-not-within.false-raw

owes : (c : Else-has) → let a = c.args in has a.c.owed a.i ≡ false
owes c = sym c.has.ensures ∙ c.if-has.false

pub returns-then-n-i : goal.returns-then-n-i
returns-then-n-i c =
    let a = c.args in
    let e : 4 ≡ first (tests a.t a.i a.c) = simp (le-leb a.t.columns a.i c.if-n-i.true) in
    e ∙ together a.t a.i a.c

pub returns-then-not-within : goal.returns-then-not-within
returns-then-not-within c =
    let a = c.args in
    let e : 4 ≡ first (tests a.t a.i a.c) = simp (beyond (goal.at.returns-then-not-within c).Else-n-i, sym c.within.ensures ∙ not-true _ c.if-not-within.true-raw) in
    e ∙ together a.t a.i a.c

pub returns-then-has : goal.returns-then-has
returns-then-has c =
    let a = c.args in
    let e : 4 ≡ first (tests a.t a.i a.c) = simp (beyond (goal.at.returns-then-has c).Else-n-i, inside (goal.at.returns-then-has c).Else-not-within, sym c.has.ensures ∙ c.if-has.true) in
    e ∙ together a.t a.i a.c

pub returns-then-i-root : goal.returns-then-i-root
returns-then-i-root c =
    let a = c.args in
    let e : 4 ≡ first (tests a.t a.i a.c) = simp (beyond (goal.at.returns-then-i-root c).Else-n-i, inside (goal.at.returns-then-i-root c).Else-not-within, owes (goal.at.returns-then-i-root c).Else-has, c.if-i-root.true) in
    e ∙ together a.t a.i a.c

pub returns-then-n-sender : goal.returns-then-n-sender
returns-then-n-sender c =
    let a = c.args in
    let e : 4 ≡ first (tests a.t a.i a.c) =
    simp (beyond (goal.at.returns-then-n-sender c).Else-n-i, inside (goal.at.returns-then-n-sender c).Else-not-within, owes (goal.at.returns-then-n-sender c).Else-has, c.if-i-root.false, le-leb a.t.columns a.c.sender c.if-n-sender.true) in
    e ∙ together a.t a.i a.c

pub returns : goal.returns
returns c =
    let a = c.args in
    let e : 0 ≡ first (tests a.t a.i a.c) =
    simp (beyond (goal.at.returns c).Else-n-i, inside (goal.at.returns c).Else-not-within, owes (goal.at.returns c).Else-has, c.if-i-root.false, lt-leb a.t.columns a.c.sender c.if-n-sender.false) in
    e ∙ together a.t a.i a.c
