use Rattle.std.proofs.Common.{◌≡◌, ◌∙◌, take}
use Rattle.text.specs.Text.{decimal}
use Rattle.text.specs.laws.DecimalLaws.{few_digits, digits_decimal}
use Rattle.text.proofs.writing.put_number.Goals as goal

-- the first bytes of the small array are the digits
pub returns : goal.returns
returns c =
    let k = c.decimal-k.result in
    let e = c.decimal-k.ensures in
    let few = few_digits c.args.n k c.ranges.n.fits e.len in
    let spelt : take k c.decimal-k.new.out ≡ decimal c.args.n = e.digits ∙ digits_decimal 20 k c.args.n few e.len in
    rw (← spelt) c.put_all.ensures
