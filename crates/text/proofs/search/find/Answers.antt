use Rattle.std.proofs.Common.{ℕ, suc, ◌+◌, ◌-◌, ◌≤◌, ◌≡◌, Bool, true, false, cond, List, [], ◌∷◌, eqb, ltb, length, take, drop, Option, Some, None, refl, sym, ap, ◌∙◌, arith, rules, tests, ltb-false, length-take, length-drop}
use Rattle.std.proofs.lemmas.Bool.{le-leb}
use Rattle.std.proofs.lemmas.Iterator.{YieldsList-from_slice}
use Rattle.std.proofs.lemmas.Iterator.Search.{position_from_yields_List}
use Rattle.std.proofs.lemmas.List.{drop-take}
use Rattle.std.proofs.lemmas.List.Recursion.{is_position_or_len}
use Rattle.std.specs.List.{slice_range, position_or_len}
use Rattle.text.specs.Search.{slice, index_after, index_of, place_of}
use Rattle.text.proofs.search.find.Goals.{In-None, In-Some-position}
use Rattle.text.proofs.search.find.Goals as goal

-- the place that `index_of` counts is that of std
index_is : (byte : ℕ) (l : List ℕ) → index_of byte l ≡ position_or_len (λ b. eqb b byte) l
unfolding index_of index_after
index_is byte = is_position_or_len (index_of byte) (λ b. eqb b byte) refl (λ x xs. step (index_of byte xs) (eqb x byte))
  where
    step : (k : ℕ) (t : Bool) → index_after t k ≡ cond t 0 (1 + k)
    step k true = refl
    step k false = omega arith

index_within : (byte : ℕ) (l : List ℕ) → index_of byte l ≤ length l
unfolding index_of index_after
index_within byte [] = omega arith
index_within byte (b ∷ l) = step (eqb b byte) (index_within byte l)
  where
    step : (t : Bool) → index_of byte l ≤ length l → index_after t (index_of byte l) ≤ suc (length l)
    step true h = omega arith
    step false h = omega arith

-- a part of the text, as std cuts it
module _ (byte from to : ℕ) (text : List ℕ) (h : from ≤ to) (k : to ≤ length text) where
  abbrev part : List ℕ
  part = slice_range text from to

  cut : slice from to text ≡ part
  unfolding slice
  cut =
      let e : from + (to - from) ≡ to = omega arith in
      ap (λ n. drop from (take n text)) (sym e) ∙ drop-take from (to - from) text

  place : place_of byte from to text ≡ from + index_of byte part
  place = rw (le-leb from to h, le-leb to (length text) k) (ap (λ l. from + index_of byte l) cut)

  size : length part ≡ to - from
  size = simp (length-take, length-drop) (omega arith)

  at_some : (at : ℕ) → cond (ltb (index_of byte part) (length part)) (Some (index_of byte part)) None ≡ Some at
      → (from + at ≡ place_of byte from to text) × (from + at ≤ to)
  at_some at e = go (ltb (index_of byte part) (length part)) e
    where
      go : (t : Bool) → cond t (Some (index_of byte part)) None ≡ Some at → (from + at ≡ place_of byte from to text) × (from + at ≤ to)
      go true e = let s : index_of byte part ≡ at = cc in (omega (arith, place), omega (arith, index_within byte part, size))
      go false e = absurd (cc)

  at_none : cond (ltb (index_of byte part) (length part)) (Some (index_of byte part)) None ≡ None
      → (to ≡ place_of byte from to text) × (to ≤ to)
  at_none e = go (ltb (index_of byte part) (length part)) refl e
    where
      go : (t : Bool) → ltb (index_of byte part) (length part) ≡ t → cond t (Some (index_of byte part)) None ≡ None → (to ≡ place_of byte from to text) × (to ≤ to)
      go true d e = absurd (cc)
      go false d e = (omega (arith, place, index_within byte part, size, ltb-false (index_of byte part) (length part) d), omega arith)

  -- what std answers of the part
  found : (r : Option ℕ) (p : List ℕ) → p ≡ part
      → r ≡ cond (ltb (position_or_len (λ b. eqb b byte) p) (length p)) (Some (position_or_len (λ b. eqb b byte) p)) None
      → r ≡ cond (ltb (index_of byte part) (length part)) (Some (index_of byte part)) None
  found r p e f = rw (e, ← index_is byte part) at f

pub returns-in-Some-position : goal.returns-in-Some-position
returns-in-Some-position c =
    let a = c.args in
    let h = c.in-Some.ensures.lookup.0 in
    let answer = position_from_yields_List (λ b. eqb b a.byte) _ _ c.position.result c.position.ensures.ran (YieldsList-from_slice _ c.iter.ensures.rest) (λ x b q k. search (rules, tests)) in
    at_some a.byte a.from a.to a.text.now h.0 h.1 c.in-Some-position.at (sym (found a.byte a.from a.to a.text.now h.0 h.1 _ _ h.2 answer) ∙ c.in-Some-position.is)

pub returns-in-None : goal.returns-in-None
returns-in-None c =
    let a = c.args in
    let h = c.in-Some.ensures.lookup.0 in
    let answer = position_from_yields_List (λ b. eqb b a.byte) _ _ c.position.result c.position.ensures.ran (YieldsList-from_slice _ c.iter.ensures.rest) (λ x b q k. search (rules, tests)) in
    at_none a.byte a.from a.to a.text.now h.0 h.1 (sym (found a.byte a.from a.to a.text.now h.0 h.1 _ _ h.2 answer) ∙ c.in-None.is)
