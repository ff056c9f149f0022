-- The run is that of as many calls as were made.
use Rattle.std.proofs.Common.{◌≡◌, ◌≤◌, length, take}
use Rattle.script.specs.Advances.{progress_of, filled_by, start as beginning}
use Rattle.lockers_main.proofs.main.Given as goal

abbrev pub invariant-loop-k : goal.invariant-loop-k
invariant-loop-k l =
    (l.n ≤ length l.input) × (progress_of l.run l.network.heads l.network.doors l.texts ≡ filled_by l.k (take l.n l.input) beginning)
