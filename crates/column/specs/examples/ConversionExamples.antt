-- Worked examples of the converter, after document 02, Point 10. Assumes nothing.
use Rattle.std.specs.Prelude.{ℕ, ◌≡◌, refl, List, [], ◌∷◌, ◌++◌, map, take, replicate}
use Rattle.column.specs.Refusals.{given, refused}
use Rattle.column.specs.Packets.{low_first, low_value, bytes_in, read_in, Wrote}
use Rattle.column.specs.examples.PacketExamples.{are_bytes}
use Rattle.column.specs.Conversions.{convert}
use Rattle.column.specs.laws.ConversionLaws.{convert_back}

-- order 65,535 from column 0 to column 1, whose doors are the bytes 1 to 8, in both widths
abbrev old : List ℕ
old = 1 ∷ 0 ∷ 1 ∷ 255 ∷ 255 ∷ 1 ∷ 2 ∷ 3 ∷ 4 ∷ 5 ∷ 6 ∷ 7 ∷ 8 ∷ []

abbrev new : List ℕ
new = 3 ∷ 0 ∷ 1 ∷ 0 ∷ 0 ∷ 255 ∷ 255 ∷ 1 ∷ 2 ∷ 3 ∷ 4 ∷ 5 ∷ 6 ∷ 7 ∷ 8 ∷ []

old_widened : convert old ≡ record { size = given 15; bytes = new }
unfolding convert read_in bytes_in low_value low_first
old_widened = refl

-- "The writer answers fifteen bytes", of a narrow packet too
new_narrowed : convert new ≡ record { size = given 13; bytes = old ++ (0 ∷ 0 ∷ []) }
unfolding convert read_in bytes_in low_value low_first
new_narrowed = refl

acknowledgement_widened : convert (2 ∷ 1 ∷ 0 ∷ 1 ∷ 2 ∷ []) ≡ record { size = given 7; bytes = 4 ∷ 1 ∷ 0 ∷ 0 ∷ 0 ∷ 1 ∷ 2 ∷ replicate 8 0 }
unfolding convert read_in bytes_in low_value low_first
acknowledgement_widened = refl

-- "18 for narrowing a number above 65,535, after 12"
abbrev wrong : List (List ℕ)
wrong =
    -- order 65,536, and the highest
    (4 ∷ 0 ∷ 1 ∷ 0 ∷ 1 ∷ 0 ∷ 0 ∷ [])
    ∷ (4 ∷ 0 ∷ 1 ∷ 255 ∷ 255 ∷ 255 ∷ 255 ∷ [])
    -- "any byte after it is 12", of either width, and before 18
    ∷ (old ++ (0 ∷ []))
    ∷ (new ++ (0 ∷ []))
    ∷ (4 ∷ 0 ∷ 1 ∷ 0 ∷ 1 ∷ 0 ∷ 0 ∷ 0 ∷ [])
    -- a byte too few, of either width
    ∷ take 12 old
    ∷ take 14 new
    -- equal ends, before 18
    ∷ (4 ∷ 1 ∷ 1 ∷ 0 ∷ 1 ∷ 0 ∷ 0 ∷ [])
    -- kinds that are none, and no byte
    ∷ (0 ∷ 0 ∷ 1 ∷ 0 ∷ 7 ∷ [])
    ∷ (5 ∷ 0 ∷ 1 ∷ 0 ∷ 0 ∷ 0 ∷ 7 ∷ [])
    ∷ []
    ∷ []

none : ℕ → Wrote
none n = record { size = refused n; bytes = replicate 15 0 }

wrong_refused : map convert wrong ≡ none 18 ∷ none 18 ∷ replicate 9 (none 12)
unfolding convert read_in bytes_in low_value low_first none
wrong_refused = refl

-- ---- what the law of the converter asks for holds of these

pub old_again : convert (take 15 (convert old).bytes) ≡ record { size = given 13; bytes = old ++ (0 ∷ 0 ∷ []) }
unfolding convert read_in bytes_in low_value low_first
old_again = convert_back old (are_bytes old refl) 15 refl

pub new_again : convert (take 13 (convert new).bytes) ≡ record { size = given 15; bytes = new }
unfolding convert read_in bytes_in low_value low_first
new_again = convert_back new (are_bytes new refl) 13 refl
