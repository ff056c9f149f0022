use Rattle.std.proofs.Common.{drop, ◌^◌, ◌<◌, ◌≡◌}
use Rattle.text.specs.inner.Texts.{digits}
use Rattle.text.proofs.reading.value_of.Given as goal

abbrev pub invariant-loop-byte : goal.invariant-loop-byte
invariant-loop-byte l = (l.value < 10 ^ l.byte-index) × (digits 0 l.text ≡ digits l.value (drop l.byte-index l.text))
