-- The climb from c has come to `at`, and meets the root in n places where the climb from there does in those that are left.
use Prim.Native.Nat.{◌<◌, ◌-◌}
use mathlib.Core.Path.{◌≡◌}
use Rattle.column.specs.Trees.{tree_of, climb, climbs_in}
use Rattle.column.proofs.traversal.climbs_in.Given as goal

abbrev pub invariant-loop-gone : goal.invariant-loop-gone
invariant-loop-gone l =
    let t = tree_of l.n l.root l.up in
    (l.at < l.n) × (climb t l.gone l.c ≡ l.at) × (climbs_in t l.n l.c ≡ climbs_in t (l.n - l.gone) l.at)
