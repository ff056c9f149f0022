-- The laws by which a number is read byte by byte, and the tree without the byte. Assumes nothing.
use Rattle.std.specs.Prelude.{ℕ, ◌+◌, ◌-◌, ◌*◌, ◌%◌, ◌≤◌, ◌<◌, ◌≡◌, refl, [], ◌∷◌, List, length, get_or, drop}
use Rattle.std.proofs.Math.Numerals.{add-one}
use Rattle.std.proofs.Common.{drop_of_length-le, drop-cons}
use borrow.Author.Tests.{le-leb, lt-leb, lt-ltb, le-ltb}
use Rattle.column.specs.Trees.{tree_of}
use Rattle.laps_timing.specs.Laps.{heap_with, kept, number_from}

-- as 0 the byte changes no number
pub with_zero : (columns : ℕ)
    → heap_with columns 0 ≡ tree_of columns 0 (0 ∷ 0 ∷ 0 ∷ 1 ∷ 1 ∷ 2 ∷ 2 ∷ 3 ∷ 3 ∷ 4 ∷ 4 ∷ 5 ∷ 5 ∷ 6 ∷ 6 ∷ 7 ∷ [])
with_zero columns = refl

module _ (l : List ℕ) (i high : ℕ) (h : i < length l) where
  pub number_next : 48 ≤ get_or l i 0 → get_or l i 0 < 58
      → number_from high (drop i l) ≡ number_from (high % kept * 10 + (get_or l i 0 - 48)) (drop (i + 1) l)
  unfolding number_from
  number_next a b = rw (drop-cons l i 0 h, le-leb 48 (get_or l i 0) a, lt-ltb (get_or l i 0) 58 b, add-one i)

  pub number_below : get_or l i 0 < 48 → number_from high (drop i l) ≡ high
  unfolding number_from
  number_below a = rw (drop-cons l i 0 h, lt-leb 48 (get_or l i 0) a)

  pub number_above : 48 ≤ get_or l i 0 → 58 ≤ get_or l i 0 → number_from high (drop i l) ≡ high
  unfolding number_from
  number_above a b = rw (drop-cons l i 0 h, le-leb 48 (get_or l i 0) a, le-ltb (get_or l i 0) 58 b)

pub number_done : (l : List ℕ) (i high : ℕ) → length l ≤ i → number_from high (drop i l) ≡ high
unfolding number_from
number_done l i high h = rw (drop_of_length-le l h)
