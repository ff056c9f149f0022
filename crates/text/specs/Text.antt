-- Text as bytes, after document 01, "The bank and its table" and "The script program": the keys of tables, requests, scripts and lists, numerals,
-- and bytes written over a buffer.
use Rattle.std.specs.Prelude.{ℕ, zero, suc, ◌+◌, ◌-◌, ◌*◌, ◌/◌, ◌%◌, Bool, true, false, not, ◌&&◌, cond, List, [], ◌∷◌, ◌++◌, ◌≡◌, eqb, leb, ltb, length, take, drop}
use Prim.Native.Char.{code}
use Prim.Native.String.{String}
use Prim.Native.String as string
use Rattle.std.specs.declared.option.Option.{Option}
use Rattle.std.specs.declared.option.Option.TheVariants.{Some, None}

-- ---- fixed byte strings

-- the bytes of a text of ASCII characters
abbrev pub bytes : String → List ℕ
bytes string.[] = []
bytes (string.◌∷◌ character s) = code character ∷ bytes s

abbrev pub columns_key : List ℕ
columns_key = bytes "columns="

abbrev pub root_key : List ℕ
root_key = bytes "root="

abbrev pub up_key : List ℕ
up_key = bytes "up="

abbrev pub first_key : List ℕ
first_key = bytes "first="

abbrev pub watch_key : List ℕ
watch_key = bytes "watch="

-- the two lines that name a watch, with their ends
abbrev pub watches_root : List ℕ
watches_root = bytes "watch=root\n"

abbrev pub watches_sender : List ℕ
watches_sender = bytes "watch=sender\n"

abbrev pub delay_key : List ℕ
delay_key = bytes "delay="

abbrev pub gap_key : List ℕ
gap_key = bytes "gap="

abbrev pub column_key : List ℕ
column_key = bytes "column="

abbrev pub number_key : List ℕ
number_key = bytes "number="

abbrev pub occupied_key : List ℕ
occupied_key = bytes "occupied="

abbrev pub doors_key : List ℕ
doors_key = bytes "doors="

abbrev pub order_key : List ℕ
order_key = bytes "order="

abbrev pub send_key : List ℕ
send_key = bytes "send="

abbrev pub take_key : List ℕ
take_key = bytes "take="

abbrev pub ack_key : List ℕ
ack_key = bytes "ack="

abbrev pub all_key : List ℕ
all_key = bytes "all="

abbrev pub note_key : List ℕ
note_key = bytes "note="

abbrev pub halt_key : List ℕ
halt_key = bytes "halt="

abbrev pub back_key : List ℕ
back_key = bytes "back="

abbrev pub list_key : List ℕ
list_key = bytes "list="

abbrev pub run_key : List ℕ
run_key = bytes "run="

abbrev pub steps_key : List ℕ
steps_key = bytes "steps="

abbrev pub refused_key : List ℕ
refused_key = bytes "refused="

abbrev pub table_ok : List ℕ
table_ok = bytes "table=ok\n"

abbrev pub step_ok : List ℕ
step_ok = bytes "step=ok\n"

abbrev pub rest_yes : List ℕ
rest_yes = bytes "rest=yes\n"

abbrev pub rest_no : List ℕ
rest_no = bytes "rest=no\n"

abbrev pub newline : ℕ
newline = 10

abbrev pub comma : ℕ
comma = 44

-- ---- written

-- "Numerals are decimal": the digits of a number, at most `width` of them
unfoldable pub decimal_in : ℕ → ℕ → List ℕ
decimal_in zero number = []
decimal_in (suc width) number = cond (ltb number 10) ((48 + number) ∷ []) (decimal_in width (number / 10) ++ ((48 + number % 10) ∷ []))

-- twenty digits hold every number of 64 bits
abbrev pub decimal : ℕ → List ℕ
decimal number = decimal_in 20 number

-- a line of a key and a number
abbrev pub field : List ℕ → ℕ → List ℕ
field key number = key ++ (decimal number ++ (newline ∷ []))

-- a buffer with the bytes w from a place on; "other bytes keep their values"
unfoldable pub written : List ℕ → ℕ → List ℕ → List ℕ
written old at w = take at old ++ (w ++ drop (at + length w) old)

-- ---- read

-- what a text means, if it is of the form that is asked
pub data Reading (A : Type 0) : Type 0 where
  read : A → Reading A
  unread : Reading A

-- "digits 48 to 57"
abbrev pub is_digit : ℕ → Bool
is_digit b = leb 48 b && ltb b 58

unfoldable pub all_digits : List ℕ → Bool
all_digits [] = true
all_digits (b ∷ l) = is_digit b && all_digits l

-- the value of digits, the first the highest; `high` is the value of those before them
unfoldable pub value_from : ℕ → List ℕ → ℕ
value_from high [] = high
value_from high (b ∷ l) = value_from (high * 10 + (b - 48)) l

-- "no leading zero (0 itself is one digit)"
unfoldable pub leading_zero : List ℕ → Bool
leading_zero [] = false
leading_zero (b ∷ l) = eqb b 48 && not (eqb (length l) 0)

-- "Every numeral here and in scripts has one or two digits, where no other width is given, and no leading zero"
abbrev pub is_numeral : ℕ → List ℕ → Bool
is_numeral width l = ((leb 1 (length l) && leb (length l) width) && all_digits l) && not (leading_zero l)

unfoldable pub numeral : ℕ → List ℕ → Reading ℕ
numeral width l = cond (is_numeral width l) (read (value_from 0 l)) unread

-- whether a text begins with a key
unfoldable pub starts_with : List ℕ → List ℕ → Bool
starts_with [] l = true
starts_with (k ∷ key) [] = false
starts_with (k ∷ key) (b ∷ l) = eqb k b && starts_with key l

-- what follows a key
unfoldable pub after_key : List ℕ → List ℕ → Reading (List ℕ)
after_key key l = cond (starts_with key l) (read (drop (length key) l)) unread

-- what a reader of numerals answers
abbrev pub number_meant : Option ℕ → Reading ℕ
number_meant (Some number) = read number
number_meant None = unread

-- a writer that was lent `old` wrote w from `at` on: it left `new`, and answers the place after w
pub record Writes (r : ℕ) (new old : List ℕ) (at : ℕ) (w : List ℕ) : Type 0 where
  pub place : r ≡ at + length w
  pub left : new ≡ written old at w

-- numbers divided by commas
unfoldable pub more_divided : List ℕ → List ℕ
more_divided [] = []
more_divided (number ∷ l) = comma ∷ (decimal number ++ more_divided l)

unfoldable pub divided : List ℕ → List ℕ
divided [] = []
divided (number ∷ l) = decimal number ++ more_divided l

abbrev pub refused_text : ℕ → List ℕ
refused_text n = field refused_key n

-- what a number adds: itself, after a comma unless it is the first
abbrev pub next_text : Bool → ℕ → List ℕ
next_text first number = cond first (decimal number) (comma ∷ decimal number)

-- as much of a text as has room from a place on
abbrev pub fitting : List ℕ → ℕ → List ℕ → List ℕ
fitting old at w = take (length old - at) w

-- a writer that was lent `old` was to write w from `at` on, and wrote as much of it as has room
abbrev pub Puts : ℕ → List ℕ → List ℕ → ℕ → List ℕ → Type 0
Puts r new old at w = Writes r new old at (fitting old at w)
