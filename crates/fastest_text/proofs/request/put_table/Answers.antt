use mathlib.Core.List.{[], ◌∷◌, ◌++◌}
use lib.ListN.{take}
use Rattle.text.specs.Text.{columns_key, root_key, up_key, newline, field, divided}
use Rattle.text.specs.laws.WritingLaws.{puts_more}
use Rattle.table.specs.Tables.{table_text}
use Rattle.fastest_text.proofs.request.put_table.Goals as goal

pub returns : goal.returns
unfolding table_text
returns c =
    let t = c.args.t in
    let end = newline ∷ [] in
    let parents = divided (take t.columns t.up) in
    let root = field root_key t.root in
    puts_more (field columns_key t.columns) (root ++ (up_key ++ (parents ++ end))) c.put_field-root.ensures
    (puts_more root (up_key ++ (parents ++ end)) c.put_field-key.ensures
    (puts_more up_key (parents ++ end) c.put_all-parents.ensures (puts_more parents end c.put_parents-end.ensures c.put_all.ensures)))
