-- The packets before place k have valid ends, and whether they are valid is whether their receivers, gathered, run.
use Prim.Native.Nat.{ℕ, ◌<◌, ◌*◌, ◌/◌, ◌%◌, ◌^◌}
use mathlib.Core.Bool.{Bool, ◌&&◌}
use mathlib.Core.Path.{◌≡◌, sym, ap, ◌∙◌}
use native.Mathlib.Nat.{mod-eq_of_lt}
use native.Mathlib.Numerals.{add-one}
use native.Mathlib.Omega.{arith}
use lib.ListN.{get_or, take}
use Rattle.std.proofs.lemmas.List.{get_or-take}
use lib.Pow.{pow-lt, pow_pos}
use borrow.Author.Tests.{not-true, not-false}
use Rattle.column.specs.Sets.{has}
use Rattle.column.specs.laws.SetLaws.{insert_lt}
use Rattle.column.specs.Trees.{every}
use Rattle.column.specs.laws.TreeLaws.{every_fails}
use Rattle.column.specs.Columns.{numbers}
use Rattle.bank.specs.inner.Surveys.{pair_valid, head_valid}
use Rattle.bank.specs.laws.HeadLaws.{pair_below, head_pair, covers_none, covers_insert}
use Rattle.bank.specs.Words.{receiver_in}
use Rattle.bank.proofs.survey.heads_valid.Goals as goal
use Rattle.bank.proofs.survey.heads_valid.Goals.{After-pair_valid, Else-not-pair_valid}

-- the packet at k is one of those that are walked
abbrev walked : After-pair_valid → ℕ
walked c = get_or (take c.args.count c.args.heads.now) c.loop-head.head-index 0

-- what is known by the packet at k, once its ends are tested
tells : (c : After-pair_valid) → let a = c.args in
    head_valid a.columns a.root a.watch a.running (get_or a.heads.now c.loop-head.head-index 0) ≡ (c.pair_valid.result && has a.running (receiver_in (walked c)))
tells c =
    let a = c.args in
    let head = walked c in
    ap (head_valid a.columns a.root a.watch a.running) (sym (get_or-take a.count a.heads.now c.loop-head.head-index 0 (omega arith)))
    ∙ head_pair a.columns a.root a.watch a.running head c.requires.0 c.requires.1.0
    ∙ ap (λ (x : Bool). x && has a.running (receiver_in head)) (sym (c.pair_valid.ensures ∙ ap (λ (x : ℕ). pair_valid a.columns x (head / numbers)) c.barred-closed.ensures))

-- the receiver of the packet at k is a column
below : (c : Else-not-pair_valid) → receiver_in (walked c.before) < 16
below c =
    let h = pair_below c.args.columns _ _ (sym c.pair_valid.ensures ∙ not-false _ c.if-not-pair_valid.false-raw) in
    omega (arith, h, c.requires.0)

pub loop-head-init : goal.loop-head-init
unfolding every
loop-head-init c = (omega arith, (pow_pos 16, covers_none 16 c.args.running (omega (arith, c.ranges.running))))

pub returns-then-not-pair_valid : goal.returns-then-not-pair_valid
returns-then-not-pair_valid c =
    let a = c.args in
    let head = walked (goal.at.returns-then-not-pair_valid c).After-pair_valid in
    sym (every_fails (λ (j : ℕ). head_valid a.columns a.root a.watch a.running (get_or a.heads.now j 0)) a.count c.loop-head.head-index
    (tells (goal.at.returns-then-not-pair_valid c).After-pair_valid ∙ ap (λ (x : Bool). x && has a.running (receiver_in head)) (not-true c.pair_valid.result c.if-not-pair_valid.true-raw))
    (omega arith))

pub overflow_shl-receivers : goal.overflow_shl-receivers
overflow_shl-receivers c = let h = below (goal.at.overflow_shl-receivers c).Else-not-pair_valid in omega (arith, h)

pub loop-head-preserved : goal.loop-head-preserved
unfolding every
loop-head-preserved c =
    let a = c.args in
    let k = c.loop-head.head-index in
    let to = receiver_in (walked (goal.at.loop-head-preserved c).After-pair_valid) in
    let m = c.loop-head.receivers in
    let inv = c.loop-head.invariant.1 in
    let f : ℕ → Bool = λ j. head_valid a.columns a.root a.watch a.running (get_or a.heads.now j 0) in
    let h = below (goal.at.loop-head-preserved c).Else-not-pair_valid in
    let wide : to < 64 = omega (arith, h) in
    let one : 1 * 2 ^ to % 2 ^ 64 ≡ 2 ^ to = let z : 1 * 2 ^ to ≡ 2 ^ to = omega arith in rw z (mod-eq_of_lt (pow-lt wide)) in
    let is : f k ≡ has a.running to = tells (goal.at.loop-head-preserved c).After-pair_valid ∙ ap (λ (x : Bool). x && has a.running to) (not-false c.pair_valid.result c.if-not-pair_valid.false-raw) in (
      omega arith,
      (
        rw one (insert_lt 16 m to inv.0 h),
        rw (one, add-one k)
            (covers_insert 16 a.running m to inv.0 (omega (arith, c.ranges.running)) h
            ∙ ap (λ (x : Bool). x && has a.running to) inv.1
            ∙ ap (λ (x : Bool). every f k && x) (sym is)),
      ),
    )

pub returns : goal.returns
returns c =
    let a = c.args in
    c.loop-head.invariant.1.1 ∙ ap (every (λ (j : ℕ). head_valid a.columns a.root a.watch a.running (get_or a.heads.now j 0))) (omega arith)
