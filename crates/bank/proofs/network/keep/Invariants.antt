use Prim.Native.Nat.{◌≤◌}
use mathlib.Core.Path.{◌≡◌}
use Rattle.column.specs.Sets.{has}
use lib.ListN.{length, take}
use Rattle.bank.specs.Networks.{keeping, elsewhere}
use Rattle.bank.specs.inner.NetworkWords.{partly}
use Rattle.bank.proofs.network.keep.Given as goal

abbrev pub invariant-loop-j : goal.invariant-loop-j
invariant-loop-j l =
    (l.j ≤ l.count)
    × (l.kept ≤ l.j)
    × (length l.heads ≡ length l.initial.heads)
    × (length l.doors ≡ length l.initial.doors)
    × (l.kept ≡ length (keeping (elsewhere (has l.m)) (take l.j l.initial.heads) (take l.j l.initial.heads)))
    × (l.kept ≡ length (keeping (elsewhere (has l.m)) (take l.j l.initial.heads) (take l.j l.initial.doors)))
    × (l.heads ≡ partly (elsewhere (has l.m)) l.initial.heads l.initial.heads l.j)
    × (l.doors ≡ partly (elsewhere (has l.m)) l.initial.heads l.initial.doors l.j)
