-- Worked examples of requests, after document 02, Point 8.
use Prim.Native.String.{String}
use Rattle.std.specs.Prelude.{◌≡◌, refl, List, [], ◌∷◌, map}
use Rattle.text.specs.Text.{bytes, decimal_in, all_digits, value_from, leading_zero, numeral, starts_with, after_key, divided, more_divided}
use Rattle.text.specs.Pieces.{cut, with_first, numeral_in, third_line, second_line, first_line}
use Rattle.table.specs.Tables.{table_text}
use Rattle.fastest.specs.Strategy.{soonest, with_column, grown, fastest_refusal}
use Rattle.fastest_text.specs.Requests.{asked, request_in, answer_text, request_text}

-- a request, and the text that answers it
pub record Row : Type 0 where
  pub request : String
  pub answer : String

abbrev row : String → String → Row
row request answer = record { request = request; answer = answer }

abbrev rows : List Row
rows =
    -- "For D 2, E 1 and 5 columns it is `up=0,0,0,0,1`"
    row "columns=5\ndelay=2\ngap=1\n" "columns=5\nroot=0\nup=0,0,0,0,1\n"
    ∷ row "columns=1\ndelay=255\ngap=255\n" "columns=1\nroot=0\nup=0\n"
    ∷ row "columns=16\ndelay=255\ngap=255\n" "columns=16\nroot=0\nup=0,0,0,1,0,1,2,3,0,1,2,3,4,5,6,7\n"
    -- "17 for D or E not 1 to 255, tested after 2"
    ∷ row "columns=16\ndelay=0\ngap=1\n" "refused=17\n"
    ∷ row "columns=16\ndelay=256\ngap=1\n" "refused=17\n"
    ∷ row "columns=16\ndelay=1\ngap=0\n" "refused=17\n"
    ∷ row "columns=16\ndelay=1\ngap=256\n" "refused=17\n"
    ∷ row "columns=17\ndelay=256\ngap=0\n" "refused=2\n"
    ∷ row "columns=0\ndelay=0\ngap=0\n" "refused=2\n"
    -- "another form being 1", before 2: a numeral's form, the sequence of the lines, bytes after the third
    ∷ row "columns=17\ndelay=1000\ngap=0\n" "refused=1\n"
    ∷ row "columns=5\ndelay=02\ngap=1\n" "refused=1\n"
    ∷ row "columns=5\ndelay=\ngap=1\n" "refused=1\n"
    ∷ row "columns=005\ndelay=2\ngap=1\n" "refused=1\n"
    -- two digits for columns, three for the others: 100 is another form, 99 is 2; 1000 is another form, 999 is 17
    ∷ row "columns=100\ndelay=2\ngap=1\n" "refused=1\n"
    ∷ row "columns=99\ndelay=2\ngap=1\n" "refused=2\n"
    ∷ row "columns=5\ndelay=1000\ngap=1\n" "refused=1\n"
    ∷ row "columns=5\ndelay=2\ngap=1000\n" "refused=1\n"
    ∷ row "columns=5\ndelay=999\ngap=999\n" "refused=17\n"
    ∷ row "columns=5\ngap=1\ndelay=2\n" "refused=1\n"
    ∷ row "columns=5\ndelay=2\ngap=1" "refused=1\n"
    ∷ row "columns=5\ndelay=2\ngap=1\n\n" "refused=1\n"
    ∷ row "" "refused=1\n"
    ∷ []

pub request_answers : map (λ r. request_text (bytes r.request)) rows ≡ map (λ r. bytes r.answer) rows
unfolding cut with_first numeral_in numeral all_digits value_from leading_zero starts_with after_key decimal_in divided more_divided asked first_line
    second_line third_line request_in answer_text table_text soonest with_column grown fastest_refusal
request_answers = refl
