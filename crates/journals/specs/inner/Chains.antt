-- The words of a list by their remainders.
use Rattle.std.specs.Prelude.{ℕ, zero, suc, ◌%◌, ◌<◌, ◌≡◌, Bool, true, false, not, ◌&&◌, ◌||◌, cond, List, eqb, length, get_or}
use Rattle.journals.specs.declared.index.Index.{Index}

-- how many remainders there are: a prime, so that numbers in sequence spread
abbrev pub buckets : ℕ
buckets = 4093

-- whether a word is one of the first n
unfoldable pub among : List ℕ → ℕ → ℕ → Bool
among keys zero key = false
among keys (suc n) key = eqb (get_or keys n 0) key || among keys n key

-- one more than the last of the first n places whose word has this remainder, or 0
unfoldable pub last_with : List ℕ → ℕ → ℕ → ℕ
last_with keys bucket zero = 0
last_with keys bucket (suc n) = cond (eqb (get_or keys n 0 % buckets) bucket) (suc n) (last_with keys bucket n)

-- an index has for each remainder its last place, and for each place its word and the one before it with its remainder
pub record Indexed (keys : List ℕ) (n : ℕ) (index : Index) : Type 0 where
  pub heads_are : (b : ℕ) → b < buckets → get_or index.heads b 0 ≡ last_with keys b n
  pub links_are : (i : ℕ) → i < n → get_or index.links i 0 ≡ last_with keys (get_or keys i 0 % buckets) i
  pub keys_are : (i : ℕ) → i < n → get_or index.keys i 0 ≡ get_or keys i 0

-- no word is there twice among the first n
unfoldable pub distinct : List ℕ → ℕ → Bool
distinct keys zero = true
distinct keys (suc n) = not (among keys n (get_or keys n 0)) && distinct keys n

-- the answer, and the index where there is one
pub record Chained (r : Bool) (keys : List ℕ) (index : Index) : Type 0 where
  pub answer : r ≡ distinct keys (length keys)
  pub indexed : r ≡ true → Indexed keys (length keys) index
