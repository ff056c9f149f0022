use Rattle.std.proofs.Common.{rules, ◌≡◌, ℕ, ◌+◌, ◌-◌, ◌<◌, ◌==◌, false, true, List, sym, ap, ◌∙◌, arith, length, take, drop, length-drop}
use Rattle.std.proofs.lemmas.Grind.{common_steps}
use lib.Seq.{take_all}
use Rattle.firmware.specs.laws.PacketCopies.{counted_from, count_start, count_full, count_refused, count_more, count_end}
use Rattle.firmware.proofs.laws.ReadLaws.{read_refused, read_some, read_among}
use Rattle.firmware.proofs.frames.count.Goals as goal

some : (n : ℕ) → false ≡ (n == 0) → 0 < n
some n e = grind arith

none : (n : ℕ) → true ≡ (n == 0) → n ≡ 0
none n e = grind arith

-- what a packet leaves of the bytes that it is at the start of
whole : (s : List ℕ) (used : ℕ) → drop used s ≡ take (length s - used) (drop used s)
whole s used = sym (take_all (length s - used) (drop used s) (simp length-drop (omega arith)))

pub loop-rest-init : goal.loop-rest-init
loop-rest-init c = record { few = omega arith; is_counted = count_start c.args.frame.now }

pub returns-then-count-eq-CAPACITY : goal.returns-then-count-eq-CAPACITY
returns-then-count-eq-CAPACITY c =
    let l = c.loop-rest in
    sym (l.invariant.is_counted ∙ count_full l.rest.now l.count 0 (some _ c.loop-rest-test.ensures) c.if-count-eq-CAPACITY.true)

pub returns-in_err-rest : goal.returns-in_err-rest
returns-in_err-rest c =
    let l = c.loop-rest in
    let twelve = read_refused l.rest.now _ c.in_err-rest.ensures in
    let bad = l.invariant.is_counted
    ∙ count_refused l.rest.now l.count 0 (some _ c.loop-rest-test.ensures) (omega arith) _ (sym c.in_err-rest.ensures) in
    grind (arith, common_steps, twelve, bad)

pub slice_bounds-rest-count : goal.slice_bounds-rest-count
slice_bounds-rest-count c = read_among c.loop-rest.rest.now _ c.in_ok-rest.ensures

pub slice_bounds-rest-start : goal.slice_bounds-rest-start
slice_bounds-rest-start c = let k = read_among c.loop-rest.rest.now _ c.in_ok-rest.ensures in search (rules, k)

pub loop-rest-smaller : goal.loop-rest-smaller
loop-rest-smaller c =
    let s = c.loop-rest.rest.now in
    let used = c.in_ok-rest.field-0.used in
    rw (sym (whole s used), length-drop) (omega (arith, read_some s _ c.in_ok-rest.ensures, read_among s _ c.in_ok-rest.ensures))

pub loop-rest-preserved : goal.loop-rest-preserved
loop-rest-preserved c =
    let l = c.loop-rest in
    let s = l.rest.now in
    let used = c.in_ok-rest.field-0.used in
    let none_more : 0 + used ≡ used = omega arith in
    record {
      few = omega arith;
      is_counted =
          l.invariant.is_counted
          ∙ count_more s l.count 0 (some _ c.loop-rest-test.ensures) (omega arith) _ (sym c.in_ok-rest.ensures)
          ∙ ap (λ (n : ℕ). counted_from s (l.count + 1) n) none_more
          ∙ ap (λ (r : List ℕ). counted_from r (l.count + 1) 0) (whole s used);
    }

pub returns : goal.returns
returns c =
    let l = c.loop-rest in
    sym (l.invariant.is_counted ∙ count_end l.rest.now l.count 0 (omega (arith, none _ c.loop-rest-test.ensures)))
