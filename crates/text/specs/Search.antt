-- Where a byte is first in a part of a text. No paper has this: it stands for what the library said of its own search.
use Rattle.std.specs.Prelude.{ℕ, suc, ◌+◌, Bool, true, false, ◌&&◌, cond, List, [], ◌∷◌, eqb, leb, length, take, drop}

-- the bytes from one place on and before another
unfoldable pub slice : ℕ → ℕ → List ℕ → List ℕ
slice from to l = drop from (take to l)

unfoldable pub index_after : Bool → ℕ → ℕ
index_after true k = 0
index_after false k = suc k

-- the first place of a byte; the length, where it has none
unfoldable pub index_of : ℕ → List ℕ → ℕ
index_of byte [] = 0
index_of byte (b ∷ l) = index_after (eqb b byte) (index_of byte l)

-- the first place of a byte from one place on and before another; that other, where there is none or where the two bound no part of the text
abbrev pub place_of : ℕ → ℕ → ℕ → List ℕ → ℕ
place_of byte from to text = cond (leb from to && leb to (length text)) (from + index_of byte (slice from to text)) to
