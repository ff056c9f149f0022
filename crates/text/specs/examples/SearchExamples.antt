-- Worked examples of a search: a byte that is there more than once, one that is not, the edges of the part, and two places that bound no part.
use Rattle.std.specs.Prelude.{ℕ, ◌≡◌, refl, List, [], ◌∷◌, map}
use Rattle.text.specs.Search.{index_of, index_after, slice, place_of}

abbrev text : List ℕ
text = 7 ∷ 8 ∷ 7 ∷ 9 ∷ []

-- what a search answers, and the place
abbrev rows : List (ℕ × ℕ)
rows =
    (place_of 7 0 4 text, 0)
    ∷ (place_of 7 1 4 text, 2)
    ∷ (place_of 9 0 4 text, 3)
    -- what is at the second place is not looked at
    ∷ (place_of 9 0 3 text, 3)
    ∷ (place_of 7 0 2 (8 ∷ text), 1)
    ∷ (place_of 6 1 3 text, 3)
    -- a part of no byte, at the end of the text too
    ∷ (place_of 7 2 2 text, 2)
    ∷ (place_of 9 4 4 text, 4)
    -- no part of the text
    ∷ (place_of 7 2 1 text, 1)
    ∷ (place_of 7 0 5 text, 5)
    ∷ []

pub every_place : map (λ r. r.0) rows ≡ map (λ r. r.1) rows
unfolding index_of index_after slice
every_place = refl
