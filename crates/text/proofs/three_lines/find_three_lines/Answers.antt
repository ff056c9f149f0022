use Rattle.std.proofs.Common.{refl, sym, arith}
use Rattle.text.specs.laws.LineEndLaws.{first_fewer, second_fewer, third_fewer, three_found}
use Rattle.text.specs.laws.Cutting.{end_found, none_found}
use Rattle.text.proofs.three_lines.find_three_lines.Goals as goal

pub returns-in_err-one-clause-input_value : goal.returns-in_err-one-clause-input_value
returns-in_err-one-clause-input_value c =
    rw c.from_residual.ensures (sym (first_fewer _ _ (none_found _ _ c.in_err-one.ensures.none (omega arith)) refl))

pub returns-in_err-two-clause-input_value : goal.returns-in_err-two-clause-input_value
returns-in_err-two-clause-input_value c =
    let one = c.in_ok-one.ensures.end in
    rw c.from_residual-in_err-two.ensures
    (sym (second_fewer _ _ (end_found _ _ _ one (omega arith)) one.1 _ (none_found _ _ c.in_err-two.ensures.none (omega (arith, one.1))) refl))

pub returns-in_err-three-clause-input_value : goal.returns-in_err-three-clause-input_value
returns-in_err-three-clause-input_value c =
    let one = c.in_ok-one.ensures.end in
    let two = c.in_ok-two.ensures.end in
    rw c.from_residual-in_err-three.ensures
    (sym (third_fewer _ _ (end_found _ _ _ one (omega arith)) one.1 _ (end_found _ _ _ two (omega (arith, one.1))) two.1
    _ (none_found _ _ c.in_err-three.ensures.none (omega (arith, two.1))) refl))

pub returns-clause-input_value : goal.returns-clause-input_value
returns-clause-input_value c =
    let one = c.in_ok-one.ensures.end in
    let two = c.in_ok-two.ensures.end in
    let three = c.in_ok-three.ensures.end in
    sym (three_found _ _ (end_found _ _ _ one (omega arith)) one.1 _ (end_found _ _ _ two (omega (arith, one.1))) two.1
    _ (end_found _ _ _ three (omega (arith, two.1))) three.1)
