-- What is left of the text makes the number of all of it.
use Rattle.std.proofs.Common.{◌≡◌, drop}
use Rattle.laps_timing.specs.Laps.{number_from}
use Rattle.laps_timing.proofs.number.Given as goal

abbrev pub invariant-loop-byte : goal.invariant-loop-byte
invariant-loop-byte l = number_from 0 l.text ≡ number_from l.n (drop l.byte-index l.text)
