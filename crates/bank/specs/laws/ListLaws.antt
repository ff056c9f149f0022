-- What a list holds after one place of its first c was taken out, or only some of its first c were kept: in front what is left, then what
-- the free places hold, and from c on what was there.
-- Assumes nothing.
use Prim.Native.Nat.{ℕ, zero, suc, ◌+◌, ◌-◌, ◌≤◌, ◌<◌}
use Rattle.std.specs.Prelude.{◌≡◌, set, Bool, true, false, ◌&&◌, cond}
use Rattle.std.proofs.Math.Path.{sym, ap, ap₂, refl}
use Rattle.std.proofs.Common.{◌∙◌, add-one, length-drop, length-append, length-take-le, take-take, take-add}
use mathlib.Core.List.{List, ◌∷◌, ◌++◌, append_assoc, []}
use native.Mathlib.Omega.{arith}
use Rattle.std.proofs.Math.ListN.{length, get_or, take, drop, replicate, length-take, length-replicate, get_or-replicate, get_or-append}
use Rattle.std.proofs.lemmas.List.{replicate-append-replicate}
use Rattle.std.proofs.Math.Seq.{take_at, drop_at, drop-append-add, get_or_at, get_or-append-add}
use Rattle.bank.specs.Networks.{keeping, closed_up, padded}

-- The places from `few` on, below c, hold v now; those from c on are as they were.
pub record Freed {A : Type 0} (v : A) (few c : ℕ) (old new : List A) : Type 0 where
  pub free : (k : ℕ) → few ≤ k → k < c → get_or new k v ≡ v
  pub others_kept : drop c new ≡ drop c old

module _ {A : Type 0} (l : List A) (p c : ℕ) (v : A) (h : p < c) (g : c ≤ length l) where
  abbrev left : List A
  left = take p l ++ take (c - 1 - p) (drop (p + 1) l)

  left_length : length left ≡ c - 1
  left_length = simp (length-append, length-take, length-drop) (omega arith)

  pub closed_up_front : take (c - 1) (closed_up l p c v) ≡ take p (take c l) ++ drop (p + 1) (take c l)
  unfolding closed_up
  closed_up_front =
      let e : c ≡ p + 1 + (c - 1 - p) = omega arith in
      let rest : drop (p + 1) (take c l) ≡ take (c - 1 - p) (drop (p + 1) l) =
      ap (λ n. drop (p + 1) (take n l)) e ∙ ap (drop (p + 1)) (take-add (p + 1) (c - 1 - p) l)
      ∙ drop_at (take (p + 1) l) _ (p + 1) (length-take-le (p + 1) l (omega arith)) in
      take_at left (v ∷ drop c l) (c - 1) left_length ∙ sym (ap₂ ◌++◌ (take-take p c l (omega arith)) rest)

  pub closed_up_length : length (closed_up l p c v) ≡ length l
  unfolding closed_up
  closed_up_length = simp (length-append, length-take, length-drop) (omega arith)

  pub closed_up_freed : Freed v (c - 1) c l (closed_up l p c v)
  unfolding closed_up
  closed_up_freed =
      let e : c ≡ length left + 1 = omega (arith, left_length) in
      record {
        free = λ k a b.
            let s : length left ≡ k = left_length ∙ omega arith in
            get_or_at left v (drop c l) v k s;
        others_kept = ap (λ n. drop n (left ++ (v ∷ drop c l))) e ∙ drop-append-add left (v ∷ drop c l) 1;
      }

module _ {A : Type 0} (w old : List A) (c : ℕ) (v : A) where
  pub padded_front : (k : ℕ) → length w ≡ k → take k (padded w c v old) ≡ w
  unfolding padded
  padded_front k e = take_at w _ k e

  pub padded_length : length w ≤ c → c ≤ length old → length (padded w c v old) ≡ length old
  unfolding padded
  padded_length h g = simp (length-append, length-replicate, length-drop) (omega arith)

  pub padded_freed : length w ≤ c → Freed v (length w) c old (padded w c v old)
  unfolding padded
  padded_freed h =
      let r = replicate (c - length w) v in
      record {
        free = λ k a b.
            let m = k - length w in
            let s : k ≡ length w + m = omega arith in
            let t : m < length r = simp length-replicate (omega arith) in
            ap (λ n. get_or (w ++ (r ++ drop c old)) n v) s ∙ get_or-append-add w (r ++ drop c old) m v
            ∙ get_or-append r (drop c old) v m t ∙ get_or-replicate (c - length w) m v v (omega arith);
        others_kept = ap (drop c) (sym (append_assoc w r (drop c old)))
            ∙ drop_at (w ++ r) (drop c old) c (simp (length-append, length-replicate) (omega arith));
      }

-- ---- one place taken out, read place by place; a list that ends before c holds v from its end on

module _ {A : Type 0} (v : A) where
  take_none : (n : ℕ) → take {A = A} n [] ≡ []
  take_none zero = refl
  take_none (suc n) = refl

  drop_none : (n : ℕ) → drop {A = A} n [] ≡ []
  drop_none zero = refl
  drop_none (suc n) = refl

  closed_up_none : (p c k : ℕ) → get_or (closed_up [] p c v) k v ≡ v
  unfolding closed_up
  closed_up_none p c k =
      ap (λ (l : List A). get_or l k v) (ap₂ (λ (a b : List A). (a ++ take (c - 1 - p) (drop (p + 1) [])) ++ (v ∷ b)) (take_none p) (drop_none c)
      ∙ ap (λ (a : List A). a ++ (v ∷ [])) (ap (take (c - 1 - p)) (drop_none (p + 1)) ∙ take_none (c - 1 - p)))
      ∙ go k
    where
      go : (k : ℕ) → get_or (v ∷ []) k v ≡ v
      go zero = refl
      go (suc k) = refl

  closed_up_first : (x : A) (l : List A) (c : ℕ) → closed_up (x ∷ l) 0 (suc c) v ≡ take c l ++ (v ∷ drop c l)
  unfolding closed_up
  closed_up_first x l c =
      let e : suc c - 1 - 0 ≡ c = omega arith in
      ap (λ n. take n l ++ (v ∷ drop c l)) e

  closed_up_later : (x : A) (l : List A) (p c : ℕ) → closed_up (x ∷ l) (suc p) (suc c) v ≡ x ∷ closed_up l p c v
  unfolding closed_up
  closed_up_later x l p c =
      let e : suc c - 1 - suc p ≡ c - 1 - p = omega arith in
      let f : suc p + 1 ≡ suc (p + 1) = omega arith in
      ap₂ (λ n m. (take (suc p) (x ∷ l) ++ take n (drop m (x ∷ l))) ++ (v ∷ drop c l)) e f

  gap_at : (c : ℕ) (l : List A) (k : ℕ) → k < c → get_or (take c l ++ (v ∷ drop c l)) k v ≡ get_or l k v
  gap_at zero l k h = absurd (omega arith)
  gap_at (suc c) [] zero h = refl
  gap_at (suc c) [] (suc k) h = refl
  gap_at (suc c) (x ∷ l) zero h = refl
  gap_at (suc c) (x ∷ l) (suc k) h = gap_at c l k (omega arith)

  pub closed_up_before : (l : List A) (p c k : ℕ) → k < p → k + 1 < c → get_or (closed_up l p c v) k v ≡ get_or l k v
  closed_up_before [] p c k h g = closed_up_none p c k
  closed_up_before (x ∷ l) zero c k h g = absurd (omega arith)
  closed_up_before (x ∷ l) (suc p) zero k h g = absurd (omega arith)
  closed_up_before (x ∷ l) (suc p) (suc c) zero h g = ap (λ (l : List A). get_or l 0 v) (closed_up_later x l p c)
  closed_up_before (x ∷ l) (suc p) (suc c) (suc k) h g =
      ap (λ (l : List A). get_or l (suc k) v) (closed_up_later x l p c) ∙ closed_up_before l p c k (omega arith) (omega arith)

  pub closed_up_after : (l : List A) (p c k : ℕ) → p ≤ k → k + 1 < c → get_or (closed_up l p c v) k v ≡ get_or l (k + 1) v
  closed_up_after [] p c k h g = closed_up_none p c k
  closed_up_after (x ∷ l) p zero k h g = absurd (omega arith)
  closed_up_after (x ∷ l) zero (suc c) k h g =
      ap (λ (l : List A). get_or l k v) (closed_up_first x l c) ∙ gap_at c l k (omega arith) ∙ ap (λ n. get_or (x ∷ l) n v) (sym (add-one k))
  closed_up_after (x ∷ l) (suc p) (suc c) zero h g = absurd (omega arith)
  closed_up_after (x ∷ l) (suc p) (suc c) (suc k) h g =
      let e : suc k + 1 ≡ suc (k + 1) = omega arith in
      ap (λ (l : List A). get_or l (suc k) v) (closed_up_later x l p c) ∙ closed_up_after l p c k (omega arith) (omega arith)
      ∙ ap (λ n. get_or (x ∷ l) n v) (sym e)

-- what one place's new value has in common with its old one, all places keep
pub set_keeps : {A B : Type 0} (f : A → B) (d : A) (l : List A) (i : ℕ) (a : A) → f a ≡ f (get_or l i d) → (j : ℕ) → f (get_or (set l i a) j d) ≡ f (get_or l j d)
set_keeps f d [] i a e j = refl
set_keeps f d (x ∷ l) zero a e zero = e
set_keeps f d (x ∷ l) zero a e (suc j) = refl
set_keeps f d (x ∷ l) (suc i) a e zero = refl
set_keeps f d (x ∷ l) (suc i) a e (suc j) = set_keeps f d l i a e j

-- ---- kept twice, cleared twice

keeping_nil : {B A : Type 0} (f : B → Bool) (hs : List B) → keeping {A = A} f hs [] ≡ []
unfolding keeping
keeping_nil f [] = refl
keeping_nil f (h ∷ hs) = refl

-- those that pass one test and then another
pub keeping_twice : {B A : Type 0} (f g : B → Bool) (hs : List B) (xs : List A)
    → keeping g (keeping f hs hs) (keeping f hs xs) ≡ keeping (λ h. f h && g h) hs xs
unfolding keeping
keeping_twice f g [] xs = refl
keeping_twice f g (h ∷ hs) [] = keeping_nil g (cond (f h) (h ∷ keeping f hs hs) (keeping f hs hs))
keeping_twice f g (h ∷ hs) (x ∷ xs) = go (f h) (keeping_twice f g hs xs)
  where
    go : (t : Bool) → keeping g (keeping f hs hs) (keeping f hs xs) ≡ keeping (λ h. f h && g h) hs xs
        → keeping g (cond t (h ∷ keeping f hs hs) (keeping f hs hs)) (cond t (x ∷ keeping f hs xs) (keeping f hs xs))
        ≡ cond (t && g h) (x ∷ keeping (λ h. f h && g h) hs xs) (keeping (λ h. f h && g h) hs xs)
    go true r = ap (λ l. cond (g h) (x ∷ l) l) r
    go false r = r

pub keeping_all : {B A : Type 0} (hs : List B) (xs : List A) → length hs ≡ length xs → keeping (λ h. true) hs xs ≡ xs
unfolding keeping
keeping_all [] [] e = refl
keeping_all [] (x ∷ xs) e = absurd (omega (arith, e))
keeping_all (h ∷ hs) [] e = refl
keeping_all (h ∷ hs) (x ∷ xs) e = ap (λ l. x ∷ l) (keeping_all hs xs (omega (arith, e)))

-- cleared to one place, then to an earlier one
pub padded_twice : {A : Type 0} (w w' old : List A) (k c : ℕ) (v : A) → length w ≡ k → length w' ≤ k → k ≤ c
    → padded w' k v (padded w c v old) ≡ padded w' c v old
unfolding padded
padded_twice w w' old k c v e h g =
    let r = replicate (k - length w') v in
    let n : (k - length w') + (c - length w) ≡ c - length w' = omega (arith, e) in
    ap (λ l. w' ++ (r ++ l)) (drop_at w (replicate (c - length w) v ++ drop c old) k e)
    ∙ ap (λ l. w' ++ l) (sym (append_assoc r (replicate (c - length w) v) (drop c old))
    ∙ ap (λ l. l ++ drop c old) (replicate-append-replicate (k - length w') (c - length w) v ∙ ap (λ j. replicate j v) n))
