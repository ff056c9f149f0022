-- The texts so far are carried on, and what is known of the bank is so.
use Rattle.std.proofs.Common.{ℕ, ◌+◌, ◌≤◌, ◌<◌, ◌≡◌, Bool, true, ◌&&◌, leb, ltb, length, refl, sym, ap, ◌∙◌, arith, leb-true, le-leb, ltb-true, ltb-false}
use Rattle.column.specs.laws.Cases.{and_left, and_right}
use Rattle.list.specs.Closing.{longest_list}
use Rattle.script.specs.Advances.{room}
use Rattle.script.specs.laws.ScriptLaws.{line_on}
use Rattle.script.specs.laws.FillLaws.{carried_line}
use Rattle.script.proofs.script.lines.Goals as goal
use Rattle.script.proofs.script.lines.Goals.{After-next_line-line}

-- there is a line, and its text begins where the longest fits
module _ (at position size : ℕ) (test : (leb at room && ltb position size) ≡ true) where
  fits : at ≤ room
  fits = leb-true at room (and_left _ _ test)

  more : position < size
  more = ltb-true position size (and_right (leb at room) (ltb position size) test)

roomy : (n : After-next_line-line) → n.loop-at.at + longest_list ≤ length n.loop-at.out
roomy n =
    let h : n.loop-at.at ≤ room = fits _ _ _ n.loop-at-test.true in
    omega (arith, n.requires, h)

pub loop-at-init : goal.loop-at-init
loop-at-init c = (λ old text w same. record { text = text; left = w; same = refl }, tt)

pub next_line-line-requires : goal.next_line-line-requires
next_line-line-requires c = more _ _ _ c.loop-at-test.true

pub answer_line-at-requires : goal.answer_line-at-requires
answer_line-at-requires c = record { tells = c.loop-at.invariant.1; room = roomy (goal.at.answer_line-at-requires c).After-next_line-line }

pub loop-at-smaller : goal.loop-at-smaller
loop-at-smaller c =
    let n = (goal.at.loop-at-smaller c).After-next_line-line in
    let h : n.loop-at.position < length n.args.input.now = more n.loop-at.at n.loop-at.position (length n.args.input.now) n.loop-at-test.true in
    omega (arith, h, line_on n.next_line-line.result n.args.input.now n.loop-at.position n.next_line-line.ensures h)

pub loop-at-preserved : goal.loop-at-preserved
loop-at-preserved c = (
  λ old text w same.
      let test = c.loop-at-test.true in
      let within : c.loop-at.at ≤ length c.loop-at.out = omega (arith, roomy (goal.at.loop-at-preserved c).After-next_line-line) in
      let kept : length c.answer_line-at.new.out ≡ length old = omega (arith, same) in
      carried_line (c.loop-at.invariant.0 old text w same) c.next_line-line.result (more _ _ _ test) (fits _ _ _ test) c.next_line-line.ensures kept within
      c.answer_line-at.ensures.answers,
  c.answer_line-at.ensures.knows,
)

pub returns : goal.returns
returns c =
    let m = c.loop-at in
    let size = length c.args.input.now in
    rw c.run_to.ensures
    (record {
      run_is = refl;
      carries = m.invariant.0;
      all_read = λ full. ltb-false m.position size (ap (λ (b : Bool). b && ltb m.position size) (sym (le-leb m.at room full)) ∙ c.loop-at-test.false);
    })
