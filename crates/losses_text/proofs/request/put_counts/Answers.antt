use mathlib.Core.List.{◌++◌}
use Rattle.text.specs.Text.{field}
use Rattle.text.specs.laws.WritingLaws.{puts_more}
use Rattle.losses_text.specs.LossTexts.{kept_key, lost_key, none_key, counts_text}
use Rattle.losses_text.proofs.request.put_counts.Goals as goal

pub returns : goal.returns
unfolding counts_text
returns c =
    let l = c.args.l in
    let lost = field lost_key l.lost in
    let none = field none_key l.none in
    puts_more (field kept_key l.kept) (lost ++ none) c.put_field-lost.ensures
    (puts_more lost none c.put_field-none.ensures c.put_field.ensures)
