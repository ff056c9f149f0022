use Rattle.std.proofs.Common.{◌^◌, ◌<◌, [], ◌∷◌, ◌++◌, rules, arith}
use Rattle.std.specs.Int.Count.{ones}
use Rattle.text.specs.Text.{column_key, number_key, occupied_key, doors_key, newline, field, divided}
use Rattle.text.specs.laws.WritingLaws.{puts_more}
use Rattle.list.specs.Closing.{doors_up_to, list_text}
use Rattle.list.specs.laws.ClosingLaws.{list_longest}
use Rattle.list.proofs.list.put_list.Goals as goal

pub returns-clause-puts : goal.returns-clause-puts
unfolding list_text
returns-clause-puts c =
    let a = c.args in
    let end = newline ∷ [] in
    let doors = divided (doors_up_to 64 a.c.doors) in
    let occupied = field occupied_key (ones a.c.doors) in
    let number = field number_key a.c.number in
    puts_more (field column_key a.i) (number ++ (occupied ++ (doors_key ++ (doors ++ end)))) c.put_field-number.ensures
    (puts_more number (occupied ++ (doors_key ++ (doors ++ end))) c.put_field-occupied.ensures
    (puts_more occupied (doors_key ++ (doors ++ end)) c.put_field-key.ensures
    (puts_more doors_key (doors ++ end) c.put_all-doors.ensures (puts_more doors end c.put_doors-end.ensures c.put_all.ensures))))

pub returns-clause-c_len_bound : goal.returns-clause-c_len_bound
returns-clause-c_len_bound c = λ h.
    let number : c.args.c.number < 2 ^ 32 = search rules in
    let doors : c.args.c.doors < 2 ^ 64 = search rules in
    list_longest c.args.i c.args.c h (omega (arith, number)) doors
