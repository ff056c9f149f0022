use Rattle.std.proofs.Common.{rules, ◌≡◌, ℕ, suc, ◌+◌, ◌-◌, ◌≤◌, ◌<◌, ◌==◌, false, true, List, refl, sym, ap, ◌∙◌, arith, length, take, drop, set, length-drop}
use Rattle.std.proofs.lemmas.List.{length-set}
use Rattle.std.proofs.lemmas.Grind.{common_steps}
use lib.Seq.{take_all}
use Rattle.column.specs.Refusals.{given}
use Rattle.column.specs.Packets.{Part, wide, read}
use Rattle.column.specs.laws.PacketLaws.{read_sized, read_refused}
use Rattle.column.specs.Frames.{frame_packets}
use Rattle.column.specs.laws.PacketPlaces.{laid_from, laid_frame, laid_ends, laid_full, laid_refused, laid_more}
use Rattle.column.proofs.frame.read_frame.Goals as goal

some : (n : ℕ) → false ≡ (n == 0) → 0 < n
some n e = grind arith

none : (n : ℕ) → true ≡ (n == 0) → n ≡ 0
none n e = grind arith

-- what a packet leaves of the bytes that it is at the start of
whole : (s : List ℕ) (used : ℕ) → drop used s ≡ take (length s - used) (drop used s)
whole s used = sym (take_all (length s - used) (drop used s) (simp length-drop (omega arith)))

sized : (s : List ℕ) (q : Part) → given q ≡ read s → (1 ≤ q.used) × (q.used ≤ length s)
sized s q e = let k = read_sized wide s q (sym e) in (omega (arith, k.0), k.1)

pub loop-rest-init : goal.loop-rest-init
loop-rest-init c = record { few = omega arith; places = refl; is_laid = laid_frame c.args.frame.now }

pub returns-then-count-eq-CAPACITY : goal.returns-then-count-eq-CAPACITY
returns-then-count-eq-CAPACITY c =
    let l = c.loop-rest in
    let full : frame_packets - l.count ≡ 0 = omega arith in
    sym (laid_full l.packets l.count l.rest.now (some _ c.loop-rest-test.ensures)) ∙ ap (λ n. laid_from n l.rest.now l.packets l.count) (sym full)
    ∙ l.invariant.is_laid

pub returns-in_err-packet : goal.returns-in_err-packet
returns-in_err-packet c =
    let l = c.loop-rest in
    let twelve = read_refused wide l.rest.now _ c.in_err-packet.ensures in
    let laid = sym (laid_refused (frame_packets - l.count) l.packets l.count l.rest.now _ (some _ c.loop-rest-test.ensures) (sym c.in_err-packet.ensures)) ∙ l.invariant.is_laid in
    grind (arith, common_steps, twelve, laid)

pub slice_bounds-rest-count : goal.slice_bounds-rest-count
slice_bounds-rest-count c = (sized c.loop-rest.rest.now _ c.in_ok-packet.ensures).1

pub slice_bounds-rest-start : goal.slice_bounds-rest-start
slice_bounds-rest-start c = let k = sized c.loop-rest.rest.now _ c.in_ok-packet.ensures in search (rules, k.1)

pub loop-rest-smaller : goal.loop-rest-smaller
loop-rest-smaller c =
    let k = sized c.loop-rest.rest.now _ c.in_ok-packet.ensures in
    rw (sym (whole c.loop-rest.rest.now c.in_ok-packet.field-0.used), length-drop) (omega (arith, k.0, k.1))

pub loop-rest-preserved : goal.loop-rest-preserved
loop-rest-preserved c =
    let l = c.loop-rest in
    let p = c.in_ok-packet.field-0.packet in
    let used = c.in_ok-packet.field-0.used in
    let some_left : frame_packets - l.count ≡ suc (frame_packets - (l.count + 1)) = omega arith in
    let more = laid_more (frame_packets - (l.count + 1)) l.packets l.count l.rest.now p used (some _ c.loop-rest-test.ensures) (sym c.in_ok-packet.ensures) in
    record {
      few = omega arith;
      places = length-set l.packets l.count p ∙ l.invariant.places;
      is_laid = ap (λ r. laid_from (frame_packets - (l.count + 1)) r (set l.packets l.count p) (l.count + 1)) (sym (whole l.rest.now used))
          ∙ sym more ∙ ap (λ n. laid_from n l.rest.now l.packets l.count) (sym some_left) ∙ l.invariant.is_laid;
    }

pub returns : goal.returns
returns c =
    let l = c.loop-rest in
    sym (laid_ends (frame_packets - l.count) l.packets l.count l.rest.now (none _ c.loop-rest-test.ensures)) ∙ l.invariant.is_laid
