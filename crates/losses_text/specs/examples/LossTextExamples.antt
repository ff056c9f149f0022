-- Worked examples of tables with a step count, after document 02, Point 13.
use Prim.Native.String.{String}
use Rattle.std.specs.Prelude.{ℕ, ◌≤◌, ◌<◌, ◌≡◌, refl, List, [], ◌∷◌, map, length}
use Rattle.std.specs.Int.Count.{count_trailing_zeros}
use Rattle.std.proofs.Common.{lt-ltb, le-ltb}
use Rattle.column.specs.Sets.{selected}
use Rattle.column.specs.Trees.{every, climbs_in, tree_refusal}
use Rattle.column.specs.Columns.{state_refusal}
use Rattle.column.specs.Steps as core
use Rattle.text.specs.Text.{bytes, decimal_in, all_digits, value_from, leading_zero, numeral, starts_with, after_key}
use Rattle.text.specs.Pieces.{cut, with_first, numeral_in, longer, pieces, with_number, numerals, numbers_in, third_line, second_line, first_line}
use Rattle.bank.specs.Words.{packet_of}
use Rattle.bank.specs.Networks.{closed_up, keeping, padded, put, puts, vanished}
use Rattle.bank.specs.Banks.{places, fresh_place, bank_refusal}
use Rattle.bank.specs.Steps.{fitting, acted, delivered, rewriting, halted, halt_refusal}
use Rattle.bank.specs.Performs.{perform}
use Rattle.bank.specs.Dispatch.{offered, first_accepted, turn, dispatch}
use Rattle.table.specs.Tables.{listed_line, sequence_in, sequence_line, watch_line, with_watch, further_in, joined, table_in, table_refusal, judged, read_table}
use Rattle.losses.specs.Losses.{losses_refusal, ordered, begun, ended, counted, losses_of}
use Rattle.losses_text.specs.LossTexts.{steps_in, counts_text, counted_text, asked_text, table_text, losses_text}

-- an input, and the text that answers it
pub record Row : Type 0 where
  pub input : String
  pub answer : String

abbrev row : String → String → Row
row input answer = record { input = input; answer = answer }

abbrev rows : List Row
rows =
    -- "It prints `kept=`, `lost=` and `none=`"
    row "columns=1\nroot=0\nup=0\nafter=0\n" "kept=1\nlost=0\nnone=1\n"
    ∷ row "columns=2\nroot=1\nup=1,1\nfirst=0,1\nwatch=root\nafter=0\n" "kept=2\nlost=1\nnone=1\n"
    -- "the step count in one to three digits"
    ∷ row "columns=1\nroot=0\nup=0\nafter=99\n" "kept=1\nlost=0\nnone=1\n"
    ∷ row "columns=1\nroot=0\nup=0\nafter=100\n" "kept=1\nlost=0\nnone=1\n"
    ∷ row "columns=1\nroot=0\nup=0\nafter=999\n" "kept=1\nlost=0\nnone=1\n"
    -- "another form being 13": a numeral's form, another key, no line, a line that does not end, more than one
    ∷ row "columns=1\nroot=0\nup=0\nafter=00\n" "refused=13\n"
    ∷ row "columns=1\nroot=0\nup=0\nafter=1000\n" "refused=13\n"
    ∷ row "columns=1\nroot=0\nup=0\nafter=\n" "refused=13\n"
    ∷ row "columns=1\nroot=0\nup=0\nrun=1\n" "refused=13\n"
    ∷ row "columns=1\nroot=0\nup=0\n" "refused=13\n"
    ∷ row "columns=1\nroot=0\nup=0\nafter=1" "refused=13\n"
    ∷ row "columns=1\nroot=0\nup=0\nafter=1\nafter=1\n" "refused=13\n"
    ∷ row "columns=1\nroot=0\nup=0\nafter=1\n\n" "refused=13\n"
    -- "of up to 8 columns": 8 are no 23, and their other form is 13
    ∷ row "columns=8\nroot=0\nup=0,0,0,0,0,0,0,0\nafter=1000\n" "refused=13\n"
    ∷ row "columns=8\nroot=7\nup=7,7,7,7,7,7,7,7\nwatch=root\n" "refused=13\n"
    -- "23 for more than 8 columns or for watch=sender .. before 13"
    ∷ row "columns=8\nroot=0\nup=0,0,0,0,0,0,0,0\nwatch=sender\nafter=1000\n" "refused=23\n"
    ∷ row "columns=9\nroot=0\nup=0,0,0,0,0,0,0,0,0\nafter=1000\n" "refused=23\n"
    ∷ row "columns=1\nroot=0\nup=0\nwatch=sender\n" "refused=23\n"
    -- "after the table's own"
    ∷ row "columns=9\nroot=0\nup=0,2,1,0,0,0,0,0,0\nafter=1\n" "refused=3\n"
    ∷ row "columns=17\nroot=0\nup=0\nwatch=sender\nafter=1\n" "refused=2\n"
    ∷ row "columns=09\nroot=0\nup=0\nafter=1\n" "refused=1\n"
    ∷ []

pub input_answers : map (λ r. losses_text (bytes r.input)) rows ≡ map (λ r. bytes r.answer) rows
unfolding cut with_first numeral_in numeral all_digits value_from leading_zero starts_with after_key decimal_in longer pieces with_number numerals numbers_in
    listed_line sequence_in sequence_line watch_line with_watch further_in joined third_line second_line first_line table_in table_refusal judged steps_in counts_text
    counted_text asked_text table_text losses_text losses_of losses_refusal ordered begun ended counted perform every closed_up keeping padded places
    fresh_place bank_refusal packet_of put puts vanished fitting acted delivered rewriting halted halt_refusal climbs_in tree_refusal state_refusal selected
    count_trailing_zeros offered first_accepted turn dispatch core.order_refusal core.send_refusal core.packet_refusal core.take_refusal core.ack_refusal
    core.all_refusal core.note_refusal core.order_effect core.send_effect core.acknowledgement_effect core.receive_effect core.message_effect core.ack_effect
    core.all_effect core.note_effect
input_answers = refl

-- "Input past the limit prints `refused=13` alone.": past 65,536 bytes, whatever it says, and at none before
pub too_long : (input : List ℕ) → 65536 < length input → losses_text input ≡ bytes "refused=13\n"
unfolding losses_text decimal_in
too_long input h = rw (lt-ltb 65536 (length input) h)

pub not_too_long : (input : List ℕ) → length input ≤ 65536 → losses_text input ≡ table_text input (read_table input)
unfolding losses_text
not_too_long input h = rw (le-ltb 65536 (length input) h)
