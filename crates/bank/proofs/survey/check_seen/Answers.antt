use Rattle.std.proofs.lemmas.Result.{err_from_is_err_and}
use mathlib.Core.Path.{◌≡◌, sym, ap, ◌∙◌}
use mathlib.Core.Bool.{Bool, true, false, not, ◌&&◌, ◌||◌}
use mathlib.Core.List.{List, [], ◌∷◌}
use Prim.Native.Nat.{ℕ, ◌≤◌, ◌<◌}
use lib.ListN.{get_or}
use borrow.Author.Tests.{eq-eqb, ne_eqb, lt-leb, lt-ltb, le-ltb, not-true, not-false}
use lib.Dec.{leb}
use Rattle.column.specs.Refusals.{first}
use Rattle.column.specs.Sets.{has, within}
use Rattle.column.specs.Trees.{every, tree_refusal}
use Rattle.column.specs.laws.TreeLaws.{check_exact, tree_sixteen, tree_root}
use Rattle.column.specs.declared.state.Column.{Column}
use Rattle.bank.specs.Banks.{state, column_at, columns_valid, packets_valid, capacity, bank_refusal, joined}
use Rattle.bank.specs.inner.Surveys.{head_valid, tells, Saw}
use Rattle.bank.specs.laws.ValidityLaws.{heads_valid}
use Rattle.bank.specs.laws.StepLaws.{some_number}
use Rattle.bank.proofs.survey.check_seen.Goals as goal
use Rattle.bank.proofs.survey.check_seen.Goals.{After-heads_valid, After-within, Else-not-within-v, In_ok-check_tree}

-- the columns are seen
abbrev Sees : In_ok-check_tree → List Column → Type 0
Sees c columns = let a = c.args in a.t.columns ≤ 16 → Saw a.v (joined a.t columns a.count) a.t.columns

-- `whole` is the root's goal
abbrev Goal : In_ok-check_tree → List Column → Type 0
Goal c columns = let a = c.args in a.t.root < 16 → a.whole ≡ (column_at (joined a.t columns a.count) a.t.root).whole

tree_is : (c : In_ok-check_tree) → tree_refusal c.args.t ≡ 0
tree_is c = sym c.in_ok-check_tree.ensures

sixteen : (c : In_ok-check_tree) → c.args.t.columns ≤ 16
sixteen c = tree_sixteen c.args.t (tree_is c)

low : (c : In_ok-check_tree) → (c.args.t.root < 16) × (c.args.t.root < c.args.t.columns)
low c = (tree_root c.args.t (tree_is c), ((check_exact c.args.t).0 (tree_is c)).root_below)

columns_tell : (c : After-within) (columns : List Column) → let a = c.args in
    Sees c.before.before.before columns → Goal c.before.before.before columns
    → (c.within.result && (a.v.sent && (not (has a.v.own 32) && a.whole))) ≡ columns_valid (joined a.t columns a.count)
columns_tell c columns so goes =
    let a = c.args in
    let root = a.t.root in
    let n = a.t.columns in
    let v = a.v in
    let goal_is = (column_at (joined a.t columns a.count) root).whole in
    let past : leb n root ≡ false = lt-leb n root (low c.before.before.before).1 in
    ap (λ (x : Bool). x && (v.sent && (not (has v.own 32) && a.whole)))
    (c.within.ensures ∙ ap (λ (x : ℕ). within x n) c.members_in.ensures)
    ∙ ap (λ (x : Bool). tells v n x) (goes (low c.before.before.before).0 ∙ sym (ap (λ (x : Bool). x || goal_is) past))
    ∙ (so (sixteen c.before.before.before)).valid_so

columns_are : (c : Else-not-within-v) (columns : List Column) → let a = c.args in
    let p = c.before.before.before.before.before in
    Sees p columns → Goal p columns → columns_valid (joined a.t columns a.count) ≡ true
columns_are c columns so goes = sym (columns_tell c.before.before columns so goes) ∙ not-false _ c.if-not-within-v.false-raw

-- what the heads say of the packets is what is left to test
past_count : (c : After-heads_valid) (columns : List Column) (doors : List ℕ) → let a = c.args in
    let p = c.before.before.before.before.before.before.before in
    Sees p columns → Goal p columns → bank_refusal (state (joined a.t columns a.count) a.heads.now doors) ≡ first ((4, not c.heads_valid.result) ∷ [])
unfolding bank_refusal
past_count c columns doors so goes =
    let a = c.args in
    let p = c.before.before.before.before.before.before.before in
    let b = joined a.t columns a.count in
    let packets : c.heads_valid.result ≡ packets_valid (state b a.heads.now doors) =
    c.heads_valid.ensures
    ∙ ap (λ (m : ℕ). every (λ (k : ℕ). head_valid a.t.columns a.t.root a.t.watch m (get_or a.heads.now k 0)) a.count) (so (sixteen p)).running_so
    ∙ heads_valid b a.heads.now doors in
    rw (eq-eqb (tree_refusal a.t) 0 (tree_is p), columns_are c.before.before columns so goes, le-ltb capacity a.count c.if-count-gt-CAPACITY.false, sym packets)

pub returns-in_err-check_tree : goal.returns-in_err-check_tree
unfolding bank_refusal
returns-in_err-check_tree c =
    let is = c.in_err-check_tree.ensures in
    let p = err_from_is_err_and c.from_residual.result c.from_residual.ensures.1 in
    λ columns so goes doors. rw (p.1, p.2, ne_eqb (tree_refusal c.args.t) 0 (λ z. some_number _ (is ∙ z))) is

pub returns-then-not-within-v : goal.returns-then-not-within-v
unfolding bank_refusal
returns-then-not-within-v c =
    λ columns so goes doors.
    rw (eq-eqb (tree_refusal c.args.t) 0 (sym c.in_ok-check_tree.ensures), sym (columns_tell (goal.at.returns-then-not-within-v c).After-within columns so goes) ∙ not-true _ c.if-not-within-v.true-raw)

pub returns-then-count-gt-CAPACITY : goal.returns-then-count-gt-CAPACITY
unfolding bank_refusal
returns-then-count-gt-CAPACITY c =
    let a = c.args in
    λ columns so goes doors. rw (eq-eqb (tree_refusal a.t) 0 (sym c.in_ok-check_tree.ensures), columns_are (goal.at.returns-then-count-gt-CAPACITY c).Else-not-within-v columns so goes, lt-ltb capacity a.count c.if-count-gt-CAPACITY.true)

pub heads_valid-requires : goal.heads_valid-requires
heads_valid-requires c =
    let p = (goal.at.heads_valid-requires c).In_ok-check_tree in
    (sixteen p, ((low p).0, c.if-count-gt-CAPACITY.false))

pub returns-then-not-heads_valid : goal.returns-then-not-heads_valid
returns-then-not-heads_valid c = λ columns so goes doors. rw (past_count (goal.at.returns-then-not-heads_valid c).After-heads_valid columns doors so goes, c.if-not-heads_valid.true-raw)

pub returns : goal.returns
returns c = λ columns so goes doors. rw (past_count (goal.at.returns c).After-heads_valid columns doors so goes, c.if-not-heads_valid.false-raw)
