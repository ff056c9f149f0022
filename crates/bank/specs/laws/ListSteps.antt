-- A list from which one place is taken out while later ones move up, a list whose last places are filled, and a filter of two lists by one loop.
use Prim.Native.Nat.{ℕ, suc, ◌+◌, ◌-◌, ◌≤◌, ◌<◌}
use Rattle.std.specs.Prelude.{◌≡◌, Bool, true, false, cond}
use Rattle.std.proofs.Math.Path.{refl, sym, ap, ap₂}
use Rattle.std.proofs.Common.{◌∙◌, length-take, take-append-drop}
use mathlib.Core.List.{List, [], ◌∷◌, ◌++◌, map, append_assoc, append-nil}
use Rattle.std.proofs.Math.Nat.{sub_self}
use Rattle.std.proofs.Math.Numerals.{add-one}
use native.Mathlib.Omega.{arith}
use Rattle.std.proofs.Math.ListN.{length, get_or, set, take, drop, replicate, length-drop, length-append}
use Rattle.std.proofs.lemmas.List.{length-replicate, length-map, replicate-append-replicate}
use Rattle.std.proofs.Math.Seq.{paste, drop-append-add, drop-drop, drop-cons, take_at, take-suc, get_or-drop, set_at, get_or-append-add}
use Rattle.bank.specs.Networks.{closed_up, keeping, padded}
use Rattle.bank.specs.inner.NetworkWords.{partly}

-- The places p+1 .. j are moved up by one, those before p and from j on are as they were.
unfoldable pub shifted : {A : Type 0} → List A → ℕ → ℕ → List A
shifted s p j = (take p s ++ take (j - p) (drop (p + 1) s)) ++ drop j s

module _ {A : Type 0} (s : List A) (p : ℕ) (d : A) where
  pub shifted_start : shifted s p p ≡ s
  unfolding shifted
  shifted_start = simp (sub_self, append-nil) (take-append-drop p s)

  head_length : (j : ℕ) → p ≤ j → j < length s → length (take p s ++ take (j - p) (drop (p + 1) s)) ≡ j
  head_length j h l = simp (length-append, length-take, length-drop) (omega arith)

  pub shifted_step : (j : ℕ) → p ≤ j → j + 1 < length s
      → set (shifted s p j) j (get_or (shifted s p j) (j + 1) d) ≡ shifted s p (j + 1)
  unfolding shifted
  shifted_step j h l =
      let X = take p s ++ take (j - p) (drop (p + 1) s) in
      let Y = drop (p + 1) s in
      let n : length X ≡ j = head_length j h (omega arith) in
      let read : get_or (X ++ drop j s) (j + 1) d ≡ get_or s (j + 1) d =
      ap (λ k. get_or (X ++ drop j s) (k + 1) d) (sym n) ∙ get_or-append-add X (drop j s) 1 d ∙ get_or-drop j s 1 d in
      let more : take (j + 1 - p) Y ≡ take (j - p) Y ++ (get_or s (j + 1) d ∷ []) =
      let fits : j - p < length Y = simp length-drop (omega arith) in
      let at : p + 1 + (j - p) ≡ j + 1 = omega arith in
      let next : j + 1 - p ≡ suc (j - p) = omega arith in
      rw (next, take-suc Y (j - p) d fits, get_or-drop (p + 1) s (j - p) d, at) in
      rw (read, drop-cons s j d (omega arith), set_at X (get_or s j d) (drop (suc j) s) (get_or s (j + 1) d) j n, more, add-one j)
      (simp append_assoc)

  pub shifted_end : (c : ℕ) (v : A) → p < c → c ≤ length s → set (shifted s p (c - 1)) (c - 1) v ≡ closed_up s p c v
  unfolding shifted closed_up
  shifted_end c v h l =
      let X = take p s ++ take (c - 1 - p) (drop (p + 1) s) in
      let n : length X ≡ c - 1 = head_length (c - 1) (omega arith) (omega arith) in
      let e : suc (c - 1) ≡ c = omega arith in
      rw (drop-cons s (c - 1) d (omega arith), set_at X (get_or s (c - 1) d) (drop (suc (c - 1)) s) v (c - 1) n, e)

-- the later places are copied as one block
pub closed_block : {A : Type 0} (s : List A) (p last : ℕ) (v : A) → p ≤ last → last < length s
    → set (paste s p (drop (p + 1) s) (last + 1 - (p + 1))) last v ≡ closed_up s p (last + 1) v
unfolding shifted
closed_block s p last v h l =
    let k : last + 1 - (p + 1) ≡ last - p = omega arith in
    let m : p + (last - p) ≡ last = omega arith in
    let o : last + 1 - 1 ≡ last = omega arith in
    rw (k, m) (ap (λ q. set (shifted s p q) q v) (sym o) ∙ shifted_end s p v (last + 1) v (omega arith) (omega arith))

-- the places between two are filled at once
pub padded_block : {A : Type 0} (s ys : List A) (from to : ℕ) (v : A) → from ≤ to → to ≤ length s → ys ≡ replicate (to - from) v
    → take from s ++ (ys ++ drop (to - from) (drop from s)) ≡ padded (take from s) to v s
unfolding padded
padded_block s ys from to v h l e =
    let m : from + (to - from) ≡ to = omega arith in
    let n : length (take from s) ≡ from = simp length-take (omega arith) in
    rw (e, drop-drop (to - from) from s, m, n)

-- what is known of the list of an array of structs is known of a `map` of it: for `search (needs, length_mapped)`
pub length_mapped : (X Y : Type 0) (f : X → Y) (l : List X) (n : ℕ) → length (map f l) ≡ n → length l ≡ n
length_mapped X Y f l n e = sym (length-map l f) ∙ e

-- one more at the end
pub keeping_more : {B A : Type 0} (f : B → Bool) (hs : List B) (xs : List A) (h : B) (x : A) → length hs ≡ length xs
    → keeping f (hs ++ (h ∷ [])) (xs ++ (x ∷ [])) ≡ keeping f hs xs ++ cond (f h) (x ∷ []) []
unfolding keeping
keeping_more f [] [] h x e = refl
keeping_more f [] (y ∷ xs) h x e = absurd (omega (arith, e))
keeping_more f (g ∷ hs) [] h x e = absurd (omega (arith, e))
keeping_more f (g ∷ hs) (y ∷ xs) h x e = go (f g) (keeping_more f hs xs h x (omega (arith, e)))
  where
    go : (t : Bool) → keeping f (hs ++ (h ∷ [])) (xs ++ (x ∷ [])) ≡ keeping f hs xs ++ cond (f h) (x ∷ []) []
        → cond t (y ∷ keeping f (hs ++ (h ∷ [])) (xs ++ (x ∷ []))) (keeping f (hs ++ (h ∷ [])) (xs ++ (x ∷ [])))
        ≡ cond t (y ∷ keeping f hs xs) (keeping f hs xs) ++ cond (f h) (x ∷ []) []
    go true r = ap (λ l. y ∷ l) r
    go false r = r

pub keeping_few : {B A : Type 0} (f : B → Bool) (hs : List B) (xs : List A) → length (keeping f hs xs) ≤ length hs
unfolding keeping
keeping_few f [] xs = omega arith
keeping_few f (h ∷ hs) [] = omega arith
keeping_few f (h ∷ hs) (x ∷ xs) = go (f h) (keeping_few f hs xs)
  where
    go : (t : Bool) → length (keeping f hs xs) ≤ length hs → length (cond t (x ∷ keeping f hs xs) (keeping f hs xs)) ≤ suc (length hs)
    go true r = omega (arith, r)
    go false r = omega (arith, r)

-- as many whatever is kept
pub keeping_same : {B A C : Type 0} (f : B → Bool) (hs : List B) (xs : List A) (ys : List C) → length xs ≡ length ys
    → length (keeping f hs xs) ≡ length (keeping f hs ys)
unfolding keeping
keeping_same f [] xs ys e = refl
keeping_same f (h ∷ hs) [] [] e = refl
keeping_same f (h ∷ hs) [] (y ∷ ys) e = absurd (omega (arith, e))
keeping_same f (h ∷ hs) (x ∷ xs) [] e = absurd (omega (arith, e))
keeping_same f (h ∷ hs) (x ∷ xs) (y ∷ ys) e = go (f h) (keeping_same f hs xs ys (omega (arith, e)))
  where
    go : (t : Bool) → length (keeping f hs xs) ≡ length (keeping f hs ys)
        → length (cond t (x ∷ keeping f hs xs) (keeping f hs xs)) ≡ length (cond t (y ∷ keeping f hs ys) (keeping f hs ys))
    go true r = ap suc r
    go false r = r

module _ {B A : Type 0} (f : B → Bool) (hs : List B) (xs : List A) (b : B) (a : A) where
  abbrev part : ℕ → List A
  part j = keeping f (take j hs) (take j xs)

  pub keeping_next : (j : ℕ) → j < length hs → j < length xs
      → part (j + 1) ≡ part j ++ cond (f (get_or hs j b)) (get_or xs j a ∷ []) []
  keeping_next j h e =
      let same : length (take j hs) ≡ length (take j xs) = simp length-take (omega (arith, h, e)) in
      rw (add-one j, take-suc hs j b h, take-suc xs j a (omega (arith, h, e)))
      (keeping_more f (take j hs) (take j xs) (get_or hs j b) (get_or xs j a) same)

  pub keeping_yes : (j : ℕ) → j < length hs → j < length xs → f (get_or hs j b) ≡ true → part (j + 1) ≡ part j ++ (get_or xs j a ∷ [])
  keeping_yes j h e y = keeping_next j h e ∙ ap (λ t. part j ++ cond t (get_or xs j a ∷ []) []) y

  pub keeping_no : (j : ℕ) → j < length hs → j < length xs → f (get_or hs j b) ≡ false → part (j + 1) ≡ part j
  keeping_no j h e n = keeping_next j h e ∙ ap (λ t. part j ++ cond t (get_or xs j a ∷ []) []) n ∙ append-nil (part j)

  pub keeping_longer : (j : ℕ) → j < length hs → j < length xs → f (get_or hs j b) ≡ true → length (part (j + 1)) ≡ length (part j) + 1
  keeping_longer j h e y = ap length (keeping_yes j h e y) ∙ length-append (part j) (get_or xs j a ∷ [])

  pub partly_start : partly f hs xs 0 ≡ xs
  unfolding partly keeping
  partly_start = refl

  -- places from j on are as they were
  pub partly_read : (j : ℕ) → length (part j) ≤ j → get_or (partly f hs xs j) j a ≡ get_or xs j a
  unfolding partly
  partly_read j h =
      let K = part j in
      let e : j ≡ length K + (j - length K) = omega (arith, h) in
      ap (λ n. get_or (K ++ drop (length K) xs) n a) e ∙ get_or-append-add K (drop (length K) xs) (j - length K) a
      ∙ get_or-drop (length K) xs (j - length K) a ∙ ap (λ n. get_or xs n a) (sym e)

  pub partly_yes : (j : ℕ) → j < length hs → j < length xs → length (part j) ≤ j → f (get_or hs j b) ≡ true
      → set (partly f hs xs j) (length (part j)) (get_or xs j a) ≡ partly f hs xs (j + 1)
  unfolding partly
  partly_yes j h e l y =
      let K = part j in
      let w = get_or xs j a in
      let n : length (K ++ (w ∷ [])) ≡ suc (length K) = simp length-append (omega arith) in
      ap (λ t. set (K ++ t) (length K) w) (drop-cons xs (length K) a (omega (arith, h, e, l)))
      ∙ set_at K (get_or xs (length K) a) (drop (suc (length K)) xs) w (length K) refl
      ∙ ap (λ t. K ++ ((w ∷ []) ++ drop t xs)) (sym n)
      ∙ sym (append_assoc K (w ∷ []) (drop (length (K ++ (w ∷ []))) xs))
      ∙ ap (λ t. t ++ drop (length t) xs) (sym (keeping_yes j h e y))

  pub partly_no : (j : ℕ) → j < length hs → j < length xs → f (get_or hs j b) ≡ false → partly f hs xs j ≡ partly f hs xs (j + 1)
  unfolding partly
  partly_no j h e n = ap (λ t. t ++ drop (length t) xs) (sym (keeping_no j h e n))

  -- cleared from what is kept to c
  pub partly_padded : (j k c : ℕ) (v : A) (left : List A) → left ≡ partly f hs xs j → k ≡ length (part j) → k ≤ c
      → padded (take k left) c v left ≡ padded (part j) c v xs
  unfolding partly padded
  partly_padded j k c v left p e h =
      let K = part j in
      let P = K ++ drop (length K) xs in
      let t : take k P ≡ K = take_at K (drop (length K) xs) k (sym e) in
      let s : c ≡ length K + (c - length K) = omega (arith, e, h) in
      let d : drop c P ≡ drop c xs = ap (λ n. drop n P) s ∙ drop-append-add K (drop (length K) xs) (c - length K)
      ∙ drop-drop (c - length K) (length K) xs ∙ ap (λ n. drop n xs) (sym s) in
      ap (λ l. padded (take k l) c v l) p ∙ ap₂ (λ x y. x ++ (replicate (c - length x) v ++ y)) t d

module _ {A : Type 0} (w old : List A) (v d : A) where
  pub padded_step : (q : ℕ) → length w ≤ q → q < length old → set (padded w q v old) q v ≡ padded w (q + 1) v old
  unfolding padded
  padded_step q h l =
      let R = replicate (q - length w) v in
      let n : length (w ++ R) ≡ q = simp (length-append, length-replicate) (omega (arith, h)) in
      let m : q + 1 - length w ≡ (q - length w) + 1 = omega (arith, h) in
      ap (λ t. set t q v) (sym (append_assoc w R (drop q old)))
      ∙ ap (λ t. set ((w ++ R) ++ t) q v) (drop-cons old q d l)
      ∙ set_at (w ++ R) (get_or old q d) (drop (suc q) old) v q n
      ∙ append_assoc w R (v ∷ drop (suc q) old)
      ∙ ap (λ t. w ++ t) (sym (append_assoc R (v ∷ []) (drop (suc q) old)))
      ∙ ap₂ (λ t k. w ++ (t ++ drop k old)) (replicate-append-replicate (q - length w) 1 v ∙ ap (λ k. replicate k v) (sym m)) (sym (add-one q))

pub padded_none : {A : Type 0} (l : List A) (v : A) (k : ℕ) → k ≤ length l → l ≡ padded (take k l) k v l
unfolding padded
padded_none l v k h =
    let e : k - length (take k l) ≡ 0 = simp length-take (omega (arith, h)) in
    sym (ap (λ n. take k l ++ (replicate n v ++ drop k l)) e ∙ take-append-drop k l)
