-- Bytes that are filled from the first on: what is filled already, and the rest as it was. Assumes nothing.
use Rattle.std.specs.Prelude.{ℕ, suc, ◌+◌, ◌-◌, ◌≤◌, ◌<◌, ◌≡◌, refl, List, [], ◌∷◌, ◌++◌, length, set, take, drop}
use Rattle.std.proofs.Common.{sym, ap, ap₂, ◌∙◌, append_assoc, append-nil, arith, length-append, length-drop, drop_of_length-le, take_at, drop_at, drop-drop}
use Rattle.std.proofs.lemmas.List.{set_split}
use Rattle.text.specs.Text.{written}

-- of `old` the first bytes are `done`, the others as they were
pub record Begun (now done : List ℕ) (k : ℕ) (old : List ℕ) : Type 0 where
  pub left : now ≡ done ++ drop k old
  pub size : length done ≡ k

pub begun : (old : List ℕ) → Begun old [] 0 old
begun old = record { left = refl; size = refl }

-- what follows next is written
pub more : {now new done old : List ℕ} {k : ℕ} (w : List ℕ) (n : ℕ) → Begun now done k old → new ≡ written now k w → length w ≡ n → Begun new (done ++ w) (k + n) old
unfolding written
more {now} {new} {done} {old} {k} w n b e l =
    let first : take k now ≡ done = ap (take k) b.left ∙ take_at done (drop k old) k b.size in
    let rest : drop (k + length w) now ≡ drop (k + n) old =
    ap (λ (m : ℕ). drop (k + m) now) l ∙ sym (drop-drop n k now) ∙ ap (λ (s : List ℕ). drop n (drop k s)) b.left ∙ ap (drop n) (drop_at done (drop k old) k b.size) ∙ drop-drop n k old in
    record {
      left = e ∙ ap₂ (λ (s r : List ℕ). s ++ (w ++ r)) first rest ∙ sym (append_assoc done w (drop (k + n) old));
      size = omega (arith, length-append done w, b.size, l);
    }

-- a byte more
pub byte_more : {now done old : List ℕ} {k : ℕ} (v : ℕ) → Begun now done k old → k < length old → Begun (set now k v) (done ++ (v ∷ [])) (k + 1) old
byte_more {now} {done} {old} {k} v b h =
    let size : k < length now = rw b.left (omega (arith, length-append done (drop k old), length-drop k old, b.size, h)) in
    let first : take k now ≡ done = ap (take k) b.left ∙ take_at done (drop k old) k b.size in
    let one : suc k ≡ k + 1 = omega arith in
    let rest : drop (suc k) now ≡ drop (k + 1) old =
    ap (λ (n : ℕ). drop n now) one ∙ sym (drop-drop 1 k now) ∙ ap (λ (s : List ℕ). drop 1 (drop k s)) b.left ∙ ap (drop 1) (drop_at done (drop k old) k b.size) ∙ drop-drop 1 k old in
    record {
      left = set_split now k v size ∙ ap₂ (λ (s r : List ℕ). s ++ (v ∷ r)) first rest ∙ sym (append_assoc done (v ∷ []) (drop (k + 1) old));
      size = omega (arith, length-append done (v ∷ []), b.size);
    }

-- all of them
pub all_filled : {now done old : List ℕ} {k : ℕ} → Begun now done k old → length old ≡ k → now ≡ done
all_filled {now} {done} {old} {k} b h =
    b.left ∙ ap (λ (s : List ℕ). done ++ s) (drop_of_length-le old {i = k} (omega (arith, h))) ∙ append-nil done

-- as many as before
pub begun_length : {now done old : List ℕ} {k : ℕ} → Begun now done k old → k ≤ length old → length now ≡ length old
begun_length {now} {done} {old} {k} b h = omega (arith, ap length b.left, length-append done (drop k old), length-drop k old, b.size, h)

-- what is written into the part from a place to another, said of the whole
pub part_written : (old w : List ℕ) (at end : ℕ) → length w ≡ end - at → take at old ++ (w ++ drop (end - at) (drop at old)) ≡ written old at w
unfolding written
part_written old w at end e = rw (← e, drop-drop (length w) at old)
