use Rattle.std.proofs.Common.{ℕ, ◌+◌, ◌*◌, ◌<◌, ◌≤◌, ◌≡◌, List, [], ◌∷◌, ◌++◌, length, take, drop, refl, sym, ap, ◌∙◌, arith, eq-eqb, ne_eqb, length-set, append_assoc, append-nil, take_all, drop_of_length-le}
use Rattle.std.proofs.lemmas.List.{take_more_set}
use Rattle.script.specs.Lines.{hexadecimal_bytes, all_hexadecimal}
use Rattle.script.specs.inner.Hexadecimals.{doors_read}
use Rattle.script.specs.laws.HexadecimalLaws.{byte_is, byte_none, bytes_more, all_more, eight_bytes}
use Rattle.script.proofs.hexadecimal.read_doors.Goals as goal

pub returns-then-text-ne16 : goal.returns-then-text-ne16
unfolding doors_read
returns-then-text-ne16 c = rw (ne_eqb _ _ c.if-text-ne16.true)

pub returns-in_err-bytes : goal.returns-in_err-bytes
unfolding doors_read
returns-in_err-bytes c =
    let text = c.args.text.now in
    rw (
      c.from_residual.ensures,
      eq-eqb _ _ c.if-text-ne16.false,
      c.loop-i.invariant.2,
      all_more text c.loop-i.i (omega arith),
      byte_none _ _ (sym c.in_err-bytes.ensures),
    )

pub loop-i-preserved : goal.loop-i-preserved
loop-i-preserved c =
    let text = c.args.text.now in
    let i = c.loop-i.i in
    let bytes = c.loop-i.bytes in
    let v = c.in_ok-bytes.field-0 in
    let b = byte_is _ _ _ (sym c.in_ok-bytes.ensures) in
    let h : 2 * i + 1 < length text = omega arith in (
      omega (arith, length-set {A = ℕ}),
      c.loop-i.invariant.1
          ∙ rw (take_more_set bytes i v (omega arith), append_assoc)
          (ap (λ (l : List ℕ). take i bytes ++ l) (bytes_more text i h ∙ ap (λ (n : ℕ). n ∷ hexadecimal_bytes (drop (2 * (i + 1)) text)) b.value)),
      c.loop-i.invariant.2 ∙ rw (all_more text i h, b.test) refl,
    )

pub returns : goal.returns
unfolding doors_read hexadecimal_bytes all_hexadecimal
returns c =
    let text = c.args.text.now in
    let bytes = c.loop-i.bytes in
    let e : c.loop-i.i ≡ 8 = omega arith in
    let few : length text ≤ 2 * 8 = omega arith in
    let none : drop (2 * 8) text ≡ [] = drop_of_length-le text few in
    rw (
      eq-eqb _ _ c.if-text-ne16.false,
      rw (e, none) at c.loop-i.invariant.2,
      rw (e, none, append-nil, take_all 8 bytes (omega arith)) at c.loop-i.invariant.1,
      ← eight_bytes bytes (omega arith),
      ← c.from_le_bytes.ensures,
    )
