-- "First journal first", "from its start", and every byte past the lines as it was, computed: what rests on the order of two journals.
use Rattle.std.specs.Prelude.{◌≡◌, refl, ◌++◌, replicate}
use Rattle.column.specs.Refusals.{given}
use Rattle.text.specs.Text.{bytes, written, all_digits, value_from, leading_zero, numeral, starts_with, after_key}
use Rattle.text.specs.Pieces.{with_first, cut, longer, pieces, numeral_in}
use Rattle.list.specs.Closing.{placed}
use Rattle.journals.specs.Journals.{line_judged, line_pieces, line_in, line_of, with_entry, cut_entries, entries_in, with_owner, owned, headed, journal_of, has_line, once_each, all_heard, missing, pair_compared, both_compared, compared}
use Rattle.journals.specs.examples.JournalExamples.{zeroth, other}

pub first_first : compared zeroth other (replicate 25 9) ≡ record { answer = given 22; buffer = bytes "sent=1,1,7\nsent=2,0,8\n" ++ replicate 3 9 }
unfolding written placed all_digits value_from leading_zero numeral starts_with after_key with_first cut longer pieces numeral_in line_judged line_pieces line_in line_of with_entry cut_entries entries_in with_owner owned headed journal_of has_line once_each all_heard missing pair_compared both_compared
first_first = refl

pub other_first : compared other zeroth (replicate 22 9) ≡ record { answer = given 22; buffer = bytes "sent=2,0,8\nsent=1,1,7\n" }
unfolding written placed all_digits value_from leading_zero numeral starts_with after_key with_first cut longer pieces numeral_in line_judged line_pieces line_in line_of with_entry cut_entries entries_in with_owner owned headed journal_of has_line once_each all_heard missing pair_compared both_compared
other_first = refl
