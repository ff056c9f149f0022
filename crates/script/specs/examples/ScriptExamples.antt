-- Scripts and what they print, whole: document 01's example, a dispatch, lines that are refused; and the limit of an input. Assumes nothing.
use Rattle.std.specs.Prelude.{ℕ, ◌≤◌, ◌<◌, ◌≡◌, refl, List, length}
use Rattle.std.specs.Int.Count.{count_trailing_zeros, ones}
use Rattle.std.proofs.Common.{lt-ltb, le-ltb}
use Rattle.column.specs.Sets.{selected}
use Rattle.column.specs.Trees.{every, climbs_in, tree_refusal}
use Rattle.column.specs.Columns.{state_refusal}
use Rattle.column.specs.Packets.{low_value}
use Rattle.column.specs.Steps as core
use Rattle.text.specs.Text.{bytes, all_digits, value_from, leading_zero, numeral, starts_with, after_key, decimal_in, more_divided, divided}
use Rattle.text.specs.Pieces.{with_first, cut, longer, pieces, with_number, numerals, numeral_in, numbers_in, third_line, second_line, first_line}
use Rattle.list.specs.Closing.{doors_up_to, list_text}
use Rattle.bank.specs.Words.{packet_of}
use Rattle.bank.specs.Networks.{closed_up, keeping, padded, put, puts, vanished}
use Rattle.bank.specs.Banks.{places, fresh_place, bank_refusal}
use Rattle.bank.specs.Steps.{fitting, acted, delivered, rewriting, halted, halt_refusal}
use Rattle.bank.specs.Performs.{perform}
use Rattle.bank.specs.Rest.{is_at_rest}
use Rattle.bank.specs.Dispatch.{offered, first_accepted, turn, dispatched, dispatch}
use Rattle.table.specs.Tables.{listed_line, sequence_in, sequence_line, watch_line, with_watch, further_in, joined, table_in, table_refusal, judged, read_table}
use Rattle.script.specs.Lines.{all_hexadecimal, hexadecimal_bytes, doors_in, asking, note_of, note_of_pieces, note_in, with_members, halt_after, halt_in, or_else, command_of}
use Rattle.script.specs.Scripts.{step_text, dispatch_text, answered, cut_text, lines_text, judged_text, script_text}

-- "give, whole"
pub whole_script : script_text (bytes "columns=3\nroot=0\nup=0,0,1\norder=0102000000000000\nsend=0\ntake=0\nhalt=0\nlist=1\n")
    ≡ bytes "table=ok\nstep=ok\nstep=ok\nstep=ok\nstep=ok\ncolumn=1\nnumber=1\noccupied=2\ndoors=1,10\nrest=no\n"
unfolding script_text judged_text lines_text cut_text answered step_text dispatch_text list_text doors_up_to more_divided divided decimal_in ones low_value all_digits value_from leading_zero numeral starts_with after_key with_first cut longer pieces with_number numerals numeral_in numbers_in listed_line sequence_in sequence_line watch_line with_watch further_in joined third_line second_line first_line table_in table_refusal judged all_hexadecimal hexadecimal_bytes doors_in asking note_of note_of_pieces note_in with_members halt_after halt_in or_else command_of every climbs_in tree_refusal selected count_trailing_zeros state_refusal packet_of closed_up keeping padded places fresh_place bank_refusal put puts vanished perform fitting acted delivered rewriting halted halt_refusal is_at_rest offered first_accepted turn dispatched dispatch core.order_refusal core.send_refusal core.packet_refusal core.take_refusal core.ack_refusal core.all_refusal core.note_refusal core.order_effect core.send_effect core.acknowledgement_effect core.receive_effect core.message_effect core.ack_effect core.all_effect core.note_effect
whole_script = refl

-- document 02, Point 2: "The script prints `steps=` with the steps taken and then `step=ok`."
pub dispatched_script : script_text (bytes "columns=2\nroot=0\nup=0,0\norder=0100000000000000\nrun=9999\n")
    ≡ bytes "table=ok\nstep=ok\nsteps=4\nstep=ok\nrest=yes\n"
unfolding script_text judged_text lines_text cut_text answered step_text dispatch_text list_text doors_up_to more_divided divided decimal_in ones low_value all_digits value_from leading_zero numeral starts_with after_key with_first cut longer pieces with_number numerals numeral_in numbers_in listed_line sequence_in sequence_line watch_line with_watch further_in joined third_line second_line first_line table_in table_refusal judged all_hexadecimal hexadecimal_bytes doors_in asking note_of note_of_pieces note_in with_members halt_after halt_in or_else command_of every climbs_in tree_refusal selected count_trailing_zeros state_refusal packet_of closed_up keeping padded places fresh_place bank_refusal put puts vanished perform fitting acted delivered rewriting halted halt_refusal is_at_rest offered first_accepted turn dispatched dispatch core.order_refusal core.send_refusal core.packet_refusal core.take_refusal core.ack_refusal core.all_refusal core.note_refusal core.order_effect core.send_effect core.acknowledgement_effect core.receive_effect core.message_effect core.ack_effect core.all_effect core.note_effect
dispatched_script = refl

-- "a refused line prints its refusal and the next line is read": no form, 6, a column that the bank has not, and a halted one; the last line is unended
pub refused_script : script_text (bytes "columns=1\nroot=0\nup=0\njump=1\nsend=0\nlist=1\nhalt=0\nlist=0\nsend=0")
    ≡ bytes "table=ok\nrefused=13\nrefused=6\nrefused=4\nstep=ok\nrefused=5\nrefused=13\nrest=yes\n"
unfolding script_text judged_text lines_text cut_text answered step_text dispatch_text list_text doors_up_to more_divided divided decimal_in ones low_value all_digits value_from leading_zero numeral starts_with after_key with_first cut longer pieces with_number numerals numeral_in numbers_in listed_line sequence_in sequence_line watch_line with_watch further_in joined third_line second_line first_line table_in table_refusal judged all_hexadecimal hexadecimal_bytes doors_in asking note_of note_of_pieces note_in with_members halt_after halt_in or_else command_of every climbs_in tree_refusal selected count_trailing_zeros state_refusal packet_of closed_up keeping padded places fresh_place bank_refusal put puts vanished perform fitting acted delivered rewriting halted halt_refusal is_at_rest offered first_accepted turn dispatched dispatch core.order_refusal core.send_refusal core.packet_refusal core.take_refusal core.ack_refusal core.all_refusal core.note_refusal core.order_effect core.send_effect core.acknowledgement_effect core.receive_effect core.message_effect core.ack_effect core.all_effect core.note_effect
refused_script = refl

-- "It reads at most 65,536 bytes", "Input past the limit prints `refused=13` alone.", whatever it says
pub too_long : (input : List ℕ) → 65536 < length input → script_text input ≡ bytes "refused=13\n"
unfolding script_text decimal_in
too_long input h = rw (lt-ltb 65536 (length input) h)

pub not_too_long : (input : List ℕ) → length input ≤ 65536 → script_text input ≡ judged_text input (read_table input)
unfolding script_text
not_too_long input h = rw (le-ltb 65536 (length input) h)
