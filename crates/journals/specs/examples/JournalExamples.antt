-- Journals compared, computed: what is missing, and each refusal in its order; the limits, and the buffer.
use Rattle.std.specs.Prelude.{ℕ, ◌≤◌, ◌<◌, ◌≡◌, refl, List, [], ◌∷◌, length, replicate}
use Rattle.std.proofs.Common.{lt-ltb, le-ltb}
use Rattle.column.specs.Refusals.{Given, given, refused}
use Rattle.text.specs.Text.{bytes, written, all_digits, value_from, leading_zero, numeral, starts_with, after_key}
use Rattle.text.specs.Pieces.{with_first, cut, longer, pieces, numeral_in}
use Rattle.list.specs.Closing.{placed}
use Rattle.journals.specs.Journals.{line_judged, line_pieces, line_in, line_of, with_entry, cut_entries, entries_in, with_owner, owned, headed, journal_of, has_line, once_each, all_heard, missing, pair_compared, both_compared, compared}

-- the answer with a buffer of 12 bytes
abbrev answer_of : List ℕ → List ℕ → Given ℕ
answer_of one two = (compared one two (replicate 12 0)).answer

abbrev root : List ℕ
root = bytes "column=0\nsent=1,1,7\ngot=2,1,7\n"

pub rows : List (Given ℕ)
rows =
    answer_of root (bytes "column=1\ngot=1,0,7\nsent=2,0,7\n")
    ∷ answer_of root (bytes "column=1\ngot=1,0,7\nsent=2,0,7\nsent=1,0,8\n")
    ∷ answer_of root (bytes "column=1\nsent=1,0,9\nsent=2,0,7\nsent=1,0,8\n")
    ∷ answer_of root (bytes "column=1\ngot=1,0,7\n")
    ∷ answer_of root (bytes "column=1\ngot=1,2,7\ngot=1,2,7\n")
    ∷ answer_of root (bytes "column=1\ngot=1,1,7\n")
    ∷ answer_of root (bytes "column=1\ngot=1,0,07\n")
    ∷ answer_of root (bytes "column=1\ngot=3,0,7\n")
    ∷ answer_of root (bytes "column=1\ngot=1,0,4294967296\n")
    ∷ answer_of root (bytes "column=1\ngot=1,0,7")
    ∷ answer_of root root
    ∷ answer_of root (bytes "column=16\n")
    -- a first line that does not end, and none; too few numbers, too many, and another key
    ∷ answer_of root (bytes "column=1")
    ∷ answer_of root []
    ∷ answer_of root (bytes "column=1\ngot=1,0\n")
    ∷ answer_of root (bytes "column=1\ngot=1,0,7,8\n")
    ∷ answer_of root (bytes "column=1\nhad=1,0,7\n")
    ∷ []

pub rows_answer : rows
    ≡ given 0 ∷ given 11 ∷ refused 11 ∷ refused 21 ∷ refused 20 ∷ refused 19 ∷ refused 19 ∷ refused 19 ∷ refused 19 ∷ refused 19 ∷ refused 19 ∷ refused 19
    ∷ refused 19 ∷ refused 19 ∷ refused 19 ∷ refused 19 ∷ refused 19 ∷ []
unfolding rows written placed all_digits value_from leading_zero numeral starts_with after_key with_first cut longer pieces numeral_in line_judged line_pieces line_in line_of with_entry cut_entries entries_in with_owner owned headed journal_of has_line once_each all_heard missing pair_compared both_compared
rows_answer = refl

-- ---- the limits: other column 15 and 16, owner 15, the highest number, and one of eleven digits

abbrev none : List ℕ
none = bytes "column=0\n"

pub limits : List (Given ℕ)
limits =
    answer_of none (bytes "column=1\ngot=1,15,7\n")
    ∷ answer_of none (bytes "column=1\ngot=1,16,7\n")
    ∷ answer_of none (bytes "column=1\nsent=2,16,7\n")
    ∷ answer_of none (bytes "column=15\ngot=1,14,7\n")
    ∷ answer_of none (bytes "column=1\ngot=1,2,4294967295\n")
    ∷ answer_of none (bytes "column=1\ngot=1,2,10000000000\n")
    ∷ []

pub limits_answer : limits ≡ given 0 ∷ refused 19 ∷ refused 19 ∷ given 0 ∷ given 0 ∷ refused 19 ∷ []
unfolding limits written placed all_digits value_from leading_zero numeral starts_with after_key with_first cut longer pieces numeral_in line_judged line_pieces line_in line_of with_entry cut_entries entries_in with_owner owned headed journal_of has_line once_each all_heard missing pair_compared both_compared
limits_answer = refl

-- ---- "11, tested last": what is missing has no room, and 19, 20 or 21 goes before; "order 19, 20, 21"

pub crowded : List (Given ℕ)
crowded =
    -- 33 bytes are missing, and nothing else is wrong
    answer_of (bytes "column=0\nsent=1,1,7\n") (bytes "column=1\nsent=1,0,8\nsent=1,0,9\n")
    -- the root got what column 1 did not send
    ∷ answer_of root (bytes "column=1\nsent=1,0,8\nsent=1,0,9\n")
    -- column 1 got what the root did not send
    ∷ answer_of (bytes "column=0\nsent=1,1,7\n") (bytes "column=1\nsent=1,0,8\ngot=1,0,9\n")
    -- a line is there twice, in the first journal or in the second; and something was got that was not sent
    ∷ answer_of (bytes "column=0\nsent=1,1,7\nsent=1,1,7\n") (bytes "column=1\nsent=1,0,8\ngot=1,0,9\n")
    ∷ answer_of root (bytes "column=1\nsent=1,0,8\nsent=1,0,8\n")
    -- a bad line, in the first journal or in the second; and a line is there twice
    ∷ answer_of (bytes "column=0\nsent=1,1,7\nsent=1,1,7\nsent=1,1,07\n") (bytes "column=1\nsent=1,0,8\ngot=1,0,9\n")
    ∷ answer_of root (bytes "column=1\nsent=1,0,8\nsent=1,0,8\nsent=1,0,08\n")
    -- both of one owner, and a line is there twice
    ∷ answer_of root (bytes "column=0\nsent=1,1,8\nsent=1,1,8\n")
    ∷ []

pub crowded_answer : crowded ≡ refused 11 ∷ refused 21 ∷ refused 21 ∷ refused 20 ∷ refused 20 ∷ refused 19 ∷ refused 19 ∷ refused 19 ∷ []
unfolding crowded written placed all_digits value_from leading_zero numeral starts_with after_key with_first cut longer pieces numeral_in line_judged line_pieces line_in line_of with_entry cut_entries entries_in with_owner owned headed journal_of has_line once_each all_heard missing pair_compared both_compared
crowded_answer = refl

-- ---- the buffer: 22 bytes hold two lines (`first_first` and `other_first` of proofs/JournalOrder), 21 don't

abbrev pub zeroth : List ℕ
zeroth = bytes "column=0\nsent=1,1,7\n"

abbrev pub other : List ℕ
other = bytes "column=1\nsent=2,0,8\nsent=1,2,9\n"

pub no_room : compared zeroth other (replicate 21 9) ≡ record { answer = refused 11; buffer = replicate 21 9 }
unfolding written placed all_digits value_from leading_zero numeral starts_with after_key with_first cut longer pieces numeral_in line_judged line_pieces line_in line_of with_entry cut_entries entries_in with_owner owned headed journal_of has_line once_each all_heard missing pair_compared both_compared
no_room = refl

pub not_heard : compared root other (replicate 25 9) ≡ record { answer = refused 21; buffer = replicate 25 9 }
unfolding written placed all_digits value_from leading_zero numeral starts_with after_key with_first cut longer pieces numeral_in line_judged line_pieces line_in line_of with_entry cut_entries entries_in with_owner owned headed journal_of has_line once_each all_heard missing pair_compared both_compared
not_heard = refl

-- ---- "A journal is at most 32,768 bytes.", whatever it says: one more is 19, and within them its lines decide

pub too_long : (s : List ℕ) → 32768 < length s → journal_of s ≡ refused 19
unfolding journal_of
too_long s h = rw (lt-ltb 32768 (length s) h)

pub not_too_long : (s : List ℕ) → length s ≤ 32768 → journal_of s ≡ headed (length s) (cut s)
unfolding journal_of
not_too_long s h = rw (le-ltb 32768 (length s) h)
