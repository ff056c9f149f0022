use Prim.Native.Nat.{◌+◌, ◌≤◌, ◌<◌}
use mathlib.Core.Path.{◌≡◌, refl, sym, ap, ◌∙◌}
use mathlib.Core.Bool.{true, false, not}
use native.Mathlib.Omega.{arith}
use Rattle.column.specs.Sets.{has}
use lib.ListN.{length, set, take, get_or, length-set}
use Rattle.bank.specs.Networks.{keeping, elsewhere}
use Rattle.bank.specs.laws.ListSteps.{keeping_longer, keeping_no, partly_start, partly_read, partly_yes, partly_no}
use Rattle.bank.specs.inner.NetworkWords.{partly}
use Rattle.bank.proofs.network.keep.Goals as goal
use Rattle.bank.proofs.network.keep.Goals.{then-not-has, else-not-has}

pub loop-j-init : goal.loop-j-init
unfolding keeping
loop-j-init c =
    let a = c.args in
    let h = a.heads.now in
    let d = a.doors.now in
    let f = elsewhere (has a.m) in
    (omega arith, omega arith, refl, refl, refl, refl, sym (partly_start f h h 0 0), sym (partly_start f h d 0 0))

pub loop-j-preserved : goal.loop-j-preserved
loop-j-preserved c =
    let a = c.args in
    let v = c.loop-j.invariant in
    let j = c.loop-j.j in
    let h = a.heads.now in
    let d = a.doors.now in
    let f = elsewhere (has a.m) in
    let hl : j < length h = omega arith in
    let dl : j < length d = omega arith in
    let kh : length (keeping f (take j h) (take j h)) ≤ j = omega arith in
    let kd : length (keeping f (take j h) (take j d)) ≤ j = omega arith in
    let hr : get_or c.loop-j.heads j 0 ≡ get_or h j 0 = rw v.6 (partly_read f h h 0 0 j kh) in
    let dr : get_or c.loop-j.doors j 0 ≡ get_or d j 0 = rw v.7 (partly_read f h d 0 0 j kd) in
    let tested : f (get_or h j 0) ≡ not c.has.result =
    ap f (sym hr) ∙ ap (λ n. not (has a.m n)) (sym c.receiver_in.ensures) ∙ ap not (sym c.has.ensures) in
    elim c.if-not-has.branch [
      | then-not-has w ↦
          let y : f (get_or h j 0) ≡ true = tested ∙ ap not w.if-not-has.true in (
            omega arith,
            omega (arith, w.kept-is),
            ap length w.heads-is ∙ length-set c.loop-j.heads c.loop-j.kept _ ∙ v.2,
            ap length w.doors-is ∙ length-set c.loop-j.doors c.loop-j.kept _ ∙ v.3,
            w.kept-is ∙ ap (λ n. n + 1) v.4 ∙ sym (keeping_longer f h h 0 0 j hl hl y),
            w.kept-is ∙ ap (λ n. n + 1) v.5 ∙ sym (keeping_longer f h d 0 0 j hl dl y),
            w.heads-is ∙ (λ k. set (v.6 k) (v.4 k) (hr k)) ∙ partly_yes f h h 0 0 j hl hl kh y,
            w.doors-is ∙ (λ k. set (v.7 k) (v.5 k) (dr k)) ∙ partly_yes f h d 0 0 j hl dl kd y,
          )
      | else-not-has w ↦
          let y : f (get_or h j 0) ≡ false = tested ∙ ap not w.if-not-has.false in (
            omega arith,
            omega (arith, w.kept-is),
            ap length w.heads-is ∙ v.2,
            ap length w.doors-is ∙ v.3,
            w.kept-is ∙ v.4 ∙ ap length (sym (keeping_no f h h 0 0 j hl hl y)),
            w.kept-is ∙ v.5 ∙ ap length (sym (keeping_no f h d 0 0 j hl dl y)),
            w.heads-is ∙ v.6 ∙ partly_no f h h 0 0 j hl hl y,
            w.doors-is ∙ v.7 ∙ partly_no f h d 0 0 j hl dl y,
          )
    ]

pub shape_of-heads : goal.shape_of-heads
shape_of-heads c = c.loop-j.invariant.2

pub shape_of-doors : goal.shape_of-doors
shape_of-doors c = c.loop-j.invariant.3

pub returns : goal.returns
returns c =
    let l = c.loop-j in
    let a = c.args in
    let f = elsewhere (has a.m) in
    let h = a.heads.now in
    let e : l.j ≡ a.count = omega arith in
    record {
      many = l.invariant.4 ∙ ap (λ m. length (keeping f (take m h) (take m h))) e;
      heads_are = l.invariant.6 ∙ ap (partly f h h) e;
      doors_are = l.invariant.7 ∙ ap (partly f h a.doors.now) e;
    }
