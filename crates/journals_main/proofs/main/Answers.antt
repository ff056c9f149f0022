-- What is missing was written into the array.
use Rattle.std.proofs.Common.{arith, sym, length-take-le}
use Rattle.journals.specs.laws.ComparingLaws.{length_within}
use Rattle.journals_main.proofs.main.Goals as goal

pub slice_bounds-missing-end : goal.slice_bounds-missing-end
slice_bounds-missing-end c = omega (arith, length_within _ _ _ _ c.in-Ok.is c.compare.ensures, c.compare.auto.out)

pub slice_bounds-write_all-end : goal.slice_bounds-write_all-end
slice_bounds-write_all-end c =
    sym (length-take-le _ _ (omega (arith, length_within _ _ _ _ c.in-Ok.is c.compare.ensures, c.compare.auto.out)))
