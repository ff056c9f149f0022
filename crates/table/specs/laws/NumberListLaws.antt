-- The numbers of a line as the reader holds them: how many, and the first sixteen.
use Rattle.std.specs.Prelude.{ℕ, zero, suc, ◌+◌, ◌≤◌, ◌<◌, ◌≡◌, refl, Bool, true, false, cond, List, [], ◌∷◌, ◌++◌, ltb, length, get_or, take, drop, set, replicate, Option, Some, None}
use Rattle.std.proofs.Common.{sym, ap, ap₂, ◌∙◌, append_assoc, append-nil, arith, length-append, ltb-true, ltb-false}
use Rattle.std.proofs.lemmas.List.{take-append-le, at_drop_more, at_drop_all}
use Rattle.text.specs.Text.{Reading, read, unread, numeral}
use Rattle.text.specs.Pieces.{with_number, numerals}
use Rattle.table.specs.Tables.{sixteen}
use Rattle.table.specs.inner.Held.{held}
use Rattle.table.specs.inner.NumberLists.{with_one, list_of}
use Rattle.table.specs.declared.number_list.NumberList.{NumberList}

-- ---- one number after another

unfoldable pub with_all : NumberList → List ℕ → NumberList
with_all p [] = p
with_all p (n ∷ l) = with_all (with_one p n) l

-- what is held after numerals still to be read
unfoldable pub held_after : NumberList → Reading (List ℕ) → Option NumberList
held_after p (read l) = Some (with_all p l)
held_after p unread = None

pub held_next : (p : NumberList) (n : ℕ) (r : Reading (List ℕ)) → held_after p (with_number (read n) r) ≡ held_after (with_one p n) r
unfolding held_after with_all with_number
held_next p n (read l) = refl
held_next p n unread = refl

pub held_none : (p : NumberList) (r : Reading (List ℕ)) → held_after p (with_number unread r) ≡ None
unfolding held_after with_number
held_none p r = refl

pub held_done : (p : NumberList) → held_after p (read []) ≡ Some p
unfolding held_after with_all
held_done p = refl

take_replicate : (k m : ℕ) → k ≤ m → take {A = ℕ} k (replicate m 0) ≡ replicate k 0
take_replicate zero m h = refl
take_replicate (suc k) zero h = absurd (omega arith)
take_replicate (suc k) (suc m) h = ap (λ (r : List ℕ). 0 ∷ r) (take_replicate k m (omega arith))

-- one number more, in the first free place
taken_next : (done : List ℕ) (n k m : ℕ) → length done < k → k ≤ m
    → take k ((done ++ (n ∷ [])) ++ replicate m 0) ≡ set (take k (done ++ replicate m 0)) (length done) n
taken_next [] n zero m h l = absurd (omega arith)
taken_next [] n (suc k) zero h l = absurd (omega arith)
taken_next [] n (suc k) (suc m) h l =
    ap (λ (r : List ℕ). n ∷ r) (take_replicate k (suc m) (omega arith) ∙ sym (take_replicate k m (omega arith)))
taken_next (x ∷ done) n zero m h l = absurd (omega arith)
taken_next (x ∷ done) n (suc k) m h l = ap (λ (r : List ℕ). x ∷ r) (taken_next done n k m (omega arith) (omega arith))

sixteen_next : (done : List ℕ) (n : ℕ) (b : Bool) → ltb (length done) 16 ≡ b
    → sixteen (done ++ (n ∷ [])) ≡ cond b (set (sixteen done) (length done) n) (sixteen done)
sixteen_next done n true e = taken_next done n 16 16 (ltb-true (length done) 16 e) (omega arith)
sixteen_next done n false e =
    let h : 16 ≤ length done = ltb-false (length done) 16 e in
    take-append-le 16 (done ++ (n ∷ [])) (replicate 16 0) (simp length-append (omega arith))
    ∙ take-append-le 16 done (n ∷ []) h
    ∙ sym (take-append-le 16 done (replicate 16 0) h)

with_next : (done : List ℕ) (n : ℕ) → with_one (list_of done) n ≡ list_of (done ++ (n ∷ []))
unfolding with_one
with_next done n =
    ap₂ (λ (count : ℕ) (numbers : List ℕ). record { count = count; numbers = numbers })
    (sym (length-append done (n ∷ [])))
    (sym (sixteen_next done n (ltb (length done) 16) refl))

with_all_lem : (done l : List ℕ) → with_all (list_of done) l ≡ list_of (done ++ l)
unfolding with_all
with_all_lem done [] = ap list_of (sym (append-nil done))
with_all_lem done (n ∷ l) = rw (with_next done n) (with_all_lem (done ++ (n ∷ [])) l ∙ ap list_of (append_assoc done (n ∷ []) l))

pub held_all : (r : Reading (List ℕ)) → held list_of r ≡ held_after (list_of []) r
unfolding held_after
held_all (read l) = ap Some (sym (with_all_lem [] l))
held_all unread = refl

-- ---- one piece after another

module _ (p : NumberList) (pieces : List (List ℕ)) (at : ℕ) where
  module _ (piece : List ℕ) (h : (at < length pieces) × (piece ≡ get_or pieces at piece)) where
    next : numerals (drop at pieces) ≡ with_number (numeral 2 piece) (numerals (drop (at + 1) pieces))
    unfolding numerals
    next = at_drop_more numerals pieces at piece h.0 ∙ ap (λ l. with_number (numeral 2 l) (numerals (drop (at + 1) pieces))) (sym h.1)

    pub piece_read : (n : ℕ) → numeral 2 piece ≡ read n → held_after p (numerals (drop at pieces)) ≡ held_after (with_one p n) (numerals (drop (at + 1) pieces))
    piece_read n e = rw (next, e) (held_next p n (numerals (drop (at + 1) pieces)))

    pub piece_unread : numeral 2 piece ≡ unread → held_after p (numerals (drop at pieces)) ≡ None
    piece_unread e = rw (next, e) (held_none p (numerals (drop (at + 1) pieces)))

  pub pieces_read : length pieces ≤ at → held_after p (numerals (drop at pieces)) ≡ Some p
  unfolding numerals
  pieces_read h = ap (held_after p) (at_drop_all numerals pieces at h) ∙ held_done p
