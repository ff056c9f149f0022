use Rattle.std.proofs.Common.{◌+◌, ◌^◌, ◌<◌, refl, sym, div-one, arith}
use Rattle.text.specs.Text.{divided, next_text}
use Rattle.text.specs.laws.WritingLaws.{puts_none, puts_more}
use Rattle.list.specs.Closing.{doors_up_to}
use Rattle.list.specs.laws.DoorLaws.{none_before, free, doors_none, doors_rest, within, doors_next, some_before, rest_next}
use Rattle.list.proofs.list.put_doors.Goals as goal

pub loop-rest-init : goal.loop-rest-init
loop-rest-init c =
    let a = c.args in
    rw (doors_none a.doors) (omega arith, sym (div-one a.doors), refl, puts_none a.out.now a.at)

pub loop-rest-preserved : goal.loop-rest-preserved
loop-rest-preserved c =
    let doors = c.args.doors in
    let l = c.loop-rest in
    let v = l.invariant in
    let fits : doors < 2 ^ 64 = c.ranges.doors.fits in
    let some : 0 < l.rest = omega arith in
    let next = l.door + (free doors l.door l.rest v.1 + 1) in (
      within doors l.door l.rest v.1 fits some,
      rest_next doors l.door l.rest v.1 fits some,
      sym (some_before doors l.door l.rest v.1 fits some),
      rw (doors_next doors l.door l.rest v.1 fits some)
          (puts_more (divided (doors_up_to l.door doors)) (next_text (none_before doors l.door) next) v.3
          (rw v.2 at c.put_next-next.ensures)),
    )

pub returns : goal.returns
returns c =
    let l = c.loop-rest in
    rw (← doors_rest c.args.doors l.door l.rest l.invariant.1 c.loop-rest-test.false l.invariant.0) l.invariant.3
