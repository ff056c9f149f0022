-- Numbers divided by commas, one after the other, and how long their text is. Assumes nothing.
use Rattle.std.specs.Prelude.{ℕ, zero, suc, ◌+◌, ◌-◌, ◌*◌, ◌≤◌, ◌<◌, ◌≡◌, refl, Bool, true, false, List, [], ◌∷◌, ◌++◌, eqb, length, get_or, take}
use Rattle.std.proofs.Common.{sym, ap, ◌∙◌, append_assoc, append-nil, add-one, arith, length-append, take-suc, ne_eqb}
use Rattle.std.proofs.Math.Dec.{eqb-suc-zero}
use Rattle.text.specs.Text.{comma, decimal, more_divided, divided, next_text}
use Rattle.text.specs.laws.DecimalLaws.{decimal_length, decimal_some}

-- ---- one number more

pub next_some : (first : Bool) (n : ℕ) → 0 < length (next_text first n)
next_some true n = decimal_some n
next_some false n = omega arith

-- nothing is written yet
abbrev pub none : List ℕ → Bool
none l = eqb (length (divided l)) 0

more_last : (l : List ℕ) (d : ℕ) → more_divided (l ++ (d ∷ [])) ≡ more_divided l ++ (comma ∷ decimal d)
unfolding more_divided
more_last [] d = ap (λ w. comma ∷ w) (append-nil (decimal d))
more_last (e ∷ l) d = rw (more_last l d) (ap (λ w. comma ∷ w) (sym (append_assoc (decimal e) (more_divided l) (comma ∷ decimal d))))

pub divided_last : (l : List ℕ) (d : ℕ) → divided (l ++ (d ∷ [])) ≡ divided l ++ next_text (none l) d
unfolding divided more_divided
divided_last [] d = append-nil (decimal d)
divided_last (e ∷ l) d =
    let some : length (decimal e ++ more_divided l) ≡ 0 → ⊥ = λ z. omega (arith, decimal_some e, length-append (decimal e) (more_divided l)) in
    rw (ne_eqb (length (decimal e ++ more_divided l)) 0 some, more_last l d)
    (sym (append_assoc (decimal e) (more_divided l) (comma ∷ decimal d)))

-- ---- the first numbers of a list

pub taken_more : (l : List ℕ) (j : ℕ) → j < length l
    → divided (take (j + 1) l) ≡ divided (take j l) ++ next_text (none (take j l)) (get_or l j 0)
taken_more l j h = rw (add-one j, take-suc l j 0 h) (divided_last (take j l) (get_or l j 0))

-- nothing is before the first of them, and something before each other
pub taken_first : (l : List ℕ) (j : ℕ) → j ≤ length l → none (take j l) ≡ eqb j 0
unfolding divided
taken_first l zero h = refl
taken_first [] (suc j) h = absurd (omega arith)
taken_first (n ∷ l) (suc j) h =
    let rest = more_divided (take j l) in
    ne_eqb (length (decimal n ++ rest)) 0 (λ z. omega (arith, z, decimal_some n, length-append (decimal n) rest)) ∙ sym (eqb-suc-zero j)

-- ---- columns, of which each takes two digits at most

abbrev pub Columns : List ℕ → Type 0
Columns [] = Unit {0}
Columns (n ∷ l) = (n ≤ 16) × Columns l

pub columns_taken : (l : List ℕ) (k : ℕ) → ((c : ℕ) → c < k → get_or l c 0 ≤ 16) → Columns (take k l)
columns_taken l zero h = tt
columns_taken [] (suc k) h = tt
columns_taken (x ∷ l) (suc k) h = (h 0 (omega arith), columns_taken l k (λ c b. h (suc c) (omega arith)))

more_length : (l : List ℕ) → Columns l → length (more_divided l) ≤ 3 * length l
unfolding more_divided
more_length [] h = omega arith
more_length (n ∷ l) h =
    simp length-append (omega (arith, decimal_length 20 1 n (omega (arith, h.0)), more_length l h.1))

pub divided_length : (l : List ℕ) → Columns l → length (divided l) ≤ 3 * length l - 1
unfolding divided
divided_length [] h = omega arith
divided_length (n ∷ l) h = simp length-append (omega (arith, decimal_length 20 1 n (omega (arith, h.0)), more_length l h.1))
