-- Lines and pieces by the place of the byte that ends them, as a search in a range finds it.
use Rattle.std.specs.Prelude.{ℕ, suc, ◌+◌, ◌-◌, ◌≤◌, ◌<◌, ◌≡◌, refl, Bool, true, false, cond, not, ◌&&◌, List, [], ◌∷◌, eqb, leb, ltb, length, take, drop}
use Rattle.std.proofs.Common.{sym, ap, ◌∙◌, arith, add-one, length-take, length-drop, take_all, drop-drop, lt-ltb, le-ltb, le-leb, ltb-true, ltb-false, eqb-true}
use Rattle.std.proofs.Math.Dec.{leb-suc-suc}
use Rattle.std.proofs.lemmas.Bool.{lt-leb}
use Rattle.text.specs.Search.{slice, index_after, index_of, place_of}
use Rattle.text.specs.Text.{newline, comma, read, unread, is_digit, all_digits, value_from, leading_zero, numeral}
use Rattle.text.specs.Pieces.{ended, unended, with_first, cut, longer, pieces}

pub cut_ended : (l : List ℕ) → index_of newline l < length l → cut l ≡ ended (take (index_of newline l) l) (drop (index_of newline l + 1) l)
unfolding cut with_first index_of index_after
cut_ended [] h = absurd (omega arith)
cut_ended (b ∷ l) h = go (eqb b newline) (λ k. cut_ended l k) h
  where
    k : ℕ
    k = index_of newline l

    go : (c : Bool) → (k < length l → cut l ≡ ended (take k l) (drop (k + 1) l)) → index_after c k < suc (length l)
        → cond c (ended [] l) (with_first b (cut l)) ≡ ended (take (index_after c k) (b ∷ l)) (drop (index_after c k + 1) (b ∷ l))
    go true ih h = refl
    go false ih h = rw (ih (omega arith), add-one (suc k), add-one k)

pub cut_unended : (l : List ℕ) → length l ≤ index_of newline l → cut l ≡ unended
unfolding cut with_first index_of index_after
cut_unended [] h = refl
cut_unended (b ∷ l) h = go (eqb b newline) (λ k. cut_unended l k) h
  where
    go : (c : Bool) → (length l ≤ index_of newline l → cut l ≡ unended) → suc (length l) ≤ index_after c (index_of newline l)
        → cond c (ended [] l) (with_first b (cut l)) ≡ unended
    go true ih h = absurd (omega arith)
    go false ih h = rw (ih (omega arith))

pub pieces_next : (l : List ℕ)
    → pieces l ≡ take (index_of comma l) l ∷ cond (ltb (index_of comma l) (length l)) (pieces (drop (index_of comma l + 1) l)) []
unfolding pieces longer index_of index_after
pieces_next [] = refl
pieces_next (b ∷ l) = go (eqb b comma) (pieces_next l)
  where
    k : ℕ
    k = index_of comma l

    go : (c : Bool) → pieces l ≡ take k l ∷ cond (ltb k (length l)) (pieces (drop (k + 1) l)) []
        → cond c ([] ∷ pieces l) (longer b (pieces l))
        ≡ take (index_after c k) (b ∷ l)
        ∷ cond (ltb (index_after c k) (suc (length l))) (pieces (drop (index_after c k + 1) (b ∷ l))) []
    go true ih = rw (lt-ltb 0 (suc (length l)) (omega arith))
    go false ih = rw (ih, add-one (suc k), add-one k, leb-suc-suc (suc k) (length l))

-- ---- from a place on

-- a range up to the end of a text
slice_rest : (s : List ℕ) (from : ℕ) → slice from (length s) s ≡ drop from s
unfolding slice
slice_rest s from = rw (take_all (length s) s (omega arith))

-- a search for b from `from` on found it at r first, or r is the end
abbrev pub Found : ℕ → List ℕ → ℕ → ℕ → Type 0
Found b s from r = (r ≡ from + index_of b (slice from (length s) s)) × (r ≤ length s)

-- what the search answers from a place of the text on
pub found : (b : ℕ) (s : List ℕ) (from r : ℕ) → (r ≡ place_of b from (length s) s) × (r ≤ length s) → from ≤ length s → Found b s from r
found b s from r e h = (e.0 ∙ rw (le-leb from (length s) h, le-leb (length s) (length s) (omega arith)), e.1)

-- what the search for the end of a line answers from a place of the text on
pub end_found : (s : List ℕ) (from at : ℕ) → (at ≡ place_of newline from (length s) s) × (at < length s) → from ≤ length s → Found newline s from at
end_found s from at e h = found newline s from at (e.0, omega (arith, e.1)) h

pub none_found : (s : List ℕ) (from : ℕ) → place_of newline from (length s) s ≡ length s → from ≤ length s → Found newline s from (length s)
none_found s from e h = found newline s from (length s) (sym e, omega arith) h

module _ (s : List ℕ) (from r : ℕ) (h : from ≤ length s) where
  place : (b : ℕ) → Found b s from r → index_of b (drop from s) ≡ r - from
  place b f = let e : r ≡ from + index_of b (slice from (length s) s) = f.0 in ap (index_of b) (sym (slice_rest s from)) ∙ omega arith

  pub line_ended : Found newline s from r → r < length s → cut (drop from s) ≡ ended (take (r - from) (drop from s)) (drop (r + 1) s)
  line_ended f k =
      let e : index_of newline (drop from s) ≡ r - from = place newline f in
      let p : from + (r - from + 1) ≡ r + 1 = omega (arith, f.0) in
      let n : length (drop from s) ≡ length s - from = length-drop from s in
      rw (cut_ended (drop from s) (omega (arith, f.0)), e, drop-drop (r - from + 1) from s, p)

  pub line_unended : Found newline s from r → r ≡ length s → cut (drop from s) ≡ unended
  line_unended f k =
      let e : index_of newline (drop from s) ≡ r - from = place newline f in
      let n : length (drop from s) ≡ length s - from = length-drop from s in
      cut_unended (drop from s) (omega arith)

pub line_length : (s : List ℕ) (from r : ℕ) → r ≤ length s → length (take (r - from) (drop from s)) ≡ r - from
line_length s from r h = simp (length-take, length-drop) (omega arith)

-- the pieces of a text from a place on; past the last there are none
unfoldable pub pieces_from : List ℕ → ℕ → List (List ℕ)
pieces_from s from = cond (leb from (length s)) (pieces (drop from s)) []

pub pieces_all : (s : List ℕ) → pieces_from s 0 ≡ pieces s
unfolding pieces_from
pieces_all s = rw (le-leb 0 (length s) (omega arith))

pub pieces_end : (s : List ℕ) (from : ℕ) → length s < from → pieces_from s from ≡ []
unfolding pieces_from
pieces_end s from h = rw (lt-leb from (length s) h)

pub piece_from : (s : List ℕ) (from r : ℕ) → from ≤ length s → Found comma s from r
    → pieces_from s from ≡ take (r - from) (drop from s) ∷ pieces_from s (r + 1)
unfolding pieces_from
piece_from s from r h f =
    let e : index_of comma (drop from s) ≡ r - from = place s from r h comma f in
    let n : length (drop from s) ≡ length s - from = length-drop from s in
    let p : from + (r - from + 1) ≡ r + 1 = omega (arith, f.0) in
    let t : ltb (r - from) (length s - from) ≡ ltb r (length s) = same (omega (arith, f.0)) (ltb r (length s)) refl in
    rw (le-leb from (length s) h, pieces_next (drop from s), e, n, drop-drop (r - from + 1) from s, p, add-one r, t)
  where
    same : from ≤ r → (b : Bool) → ltb r (length s) ≡ b → ltb (r - from) (length s - from) ≡ b
    same k true t = lt-ltb (r - from) (length s - from) (omega (arith, ltb-true r (length s) t))
    same k false t = le-ltb (r - from) (length s - from) (omega (arith, ltb-false r (length s) t))

-- a comma is no digit
comma_digits : (l : List ℕ) → index_of comma l < length l → all_digits l ≡ false
unfolding all_digits index_of index_after
comma_digits [] h = absurd (omega arith)
comma_digits (b ∷ l) h = go (eqb b comma) refl (λ k. comma_digits l k) h
  where
    none : (d : Bool) → all_digits l ≡ false → (d && all_digits l) ≡ false
    none true e = e
    none false e = refl

    go : (t : Bool) → eqb b comma ≡ t → (index_of comma l < length l → all_digits l ≡ false) → index_after t (index_of comma l) < suc (length l)
        → (is_digit b && all_digits l) ≡ false
    go true e more h = rw (eqb-true b comma e)
    go false e more h = none (is_digit b) (more (omega arith))

pub comma_numeral : (width : ℕ) (l : List ℕ) → index_of comma l < length l → numeral width l ≡ unread
unfolding numeral
comma_numeral width l h = rw (comma_digits l h) (go (leb 1 (length l) && leb (length l) width))
  where
    go : (t : Bool) → cond ((t && false) && not (leading_zero l)) (read (value_from 0 l)) unread ≡ unread
    go true = refl
    go false = refl
