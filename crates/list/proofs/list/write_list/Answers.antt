use Rattle.std.proofs.Common.{ℕ, ◌+◌, ◌^◌, ◌<◌, ◌≡◌, List, length, take, replicate, sym, ap, ◌∙◌, le-leb, rules, arith}
use Rattle.std.proofs.Math.Path.{ap₂}
use Rattle.std.proofs.lemmas.Bool.{lt-leb}
use Rattle.column.specs.Refusals.{given}
use Rattle.text.specs.Text.{Writes}
use Rattle.text.specs.laws.WritingLaws.{written_taken, writes_within, puts_all}
use Rattle.list.specs.Closing.{longest_list, list_text, placed}
use Rattle.list.specs.laws.ClosingLaws.{list_of_any}
use Rattle.list.proofs.list.write_list.Goals as goal
use Rattle.list.proofs.list.write_list.Goals.{After-put_list-n}

abbrev scratch : List ℕ
scratch = replicate (longest_list + 18) 0

-- the scratch begins with the whole list
module _ (c : After-put_list-n) where
  abbrev text : List ℕ
  text = list_text c.args.i c.args.c

  writes : Writes c.put_list-n.result c.put_list-n.new.out scratch 0 text
  writes =
      let number : c.args.c.number < 2 ^ 32 = search rules in
      let few = list_of_any c.args.i c.args.c c.ranges.i.fits (omega (arith, number)) (search rules) in
      puts_all text (omega (arith, few)) c.put_list-n.ensures.puts

  size : c.put_list-n.result ≡ length text
  size = omega (arith, writes.place)

  begins : take c.put_list-n.result c.put_list-n.new.out ≡ text
  begins = ap₂ (λ k l. take k l) size writes.left ∙ written_taken scratch text

pub returns-then-out-n : goal.returns-then-out-n
unfolding placed
returns-then-out-n c =
    let e = size (goal.at.returns-then-out-n c).After-put_list-n in
    rw (lt-leb (0 + length (list_text c.args.i c.args.c)) (length c.args.out.now) (omega (arith, e)))

pub slice_bounds-scratch-end : goal.slice_bounds-scratch-end
slice_bounds-scratch-end c =
    let w = writes (goal.at.slice_bounds-scratch-end c).After-put_list-n in
    omega (arith, writes_within (omega arith) w, c.put_list-n.auto.out)

pub slice_bounds-put_all-end : goal.slice_bounds-put_all-end
slice_bounds-put_all-end c =
    let e = size (goal.at.slice_bounds-put_all-end c).After-put_list-n in
    let text = begins (goal.at.slice_bounds-put_all-end c).After-put_list-n in
    e ∙ sym (ap length text)

pub returns : goal.returns
unfolding placed
returns c =
    let old = c.args.out.now in
    let text = list_text c.args.i c.args.c in
    let e = size (goal.at.returns c).After-put_list-n in
    let first = begins (goal.at.returns c).After-put_list-n in
    let left = (puts_all text (omega (arith, e)) (rw first at c.put_all.ensures)).left in
    rw (le-leb (0 + length text) (length old) (omega (arith, e))) (ap₂ (λ n l. record { answer = given n; buffer = l }) e left)
