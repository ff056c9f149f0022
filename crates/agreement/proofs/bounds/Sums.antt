-- Sums of numbers over the columns below n, and the packets of a network counted for each pair of columns: every packet belongs to one pair, and none to
-- a column alone. Assumes nothing.
use Prim.Native.Nat.{ℕ, zero, suc, ◌+◌, ◌*◌, ◌≤◌, ◌<◌}
use native.Mathlib.Nat.{suc-mul}
use native.Mathlib.Omega.{arith}
use mathlib.Core.Path.{◌≡◌, refl, sym, ap, subst, ◌∙◌, ap₂}
use mathlib.Core.Logic.{◌≢◌, ⊎_elim}
use mathlib.Core.Bool.{Bool, ◌&&◌, true, false}
use mathlib.Core.List.Memᴰ
use mathlib.Core.List.{List, [], ◌∷◌}
use lib.Dec.{eqb}
use borrow.Author.Tests.{eq-eqb, eqb-true}
use Rattle.column.specs.laws.Cases.{equal_cases, truth, and_left, and_right}
use Rattle.column.specs.Packets.{sender, receiver}
use Rattle.column.specs.declared.packet.Packet.{Packet}
use Rattle.column.specs.declared.packet.Packet.TheVariants.{Message, Acknowledgement}
use Rattle.agreement.proofs.bounds.TokenLaws.{between, any, one, many, many_under, many_none}
use Rattle.agreement.proofs.relation.Model.{Holds}

unfoldable pub sum : (ℕ → ℕ) → ℕ → ℕ
sum f zero = 0
sum f (suc n) = sum f n + f n

-- ---- number by number

pub sum_le : (f g : ℕ → ℕ) (n : ℕ) → ((q : ℕ) → q < n → f q ≤ g q) → sum f n ≤ sum g n
unfolding sum
sum_le f g zero h = omega arith
sum_le f g (suc n) h = omega (arith, sum_le f g n (λ q l. h q (omega arith)), h n (omega arith))

pub sum_same : (f g : ℕ → ℕ) (n : ℕ) → ((q : ℕ) → q < n → f q ≡ g q) → sum f n ≡ sum g n
unfolding sum
sum_same f g zero h = refl
sum_same f g (suc n) h = omega (arith, sum_same f g n (λ q l. h q (omega arith)), h n (omega arith))

pub sum_add : (f g : ℕ → ℕ) (n : ℕ) → sum (λ q. f q + g q) n ≡ sum f n + sum g n
unfolding sum
sum_add f g zero = refl
sum_add f g (suc n) = omega (arith, sum_add f g n)

pub sum_zero : (n : ℕ) → sum (λ q. 0) n ≡ 0
unfolding sum
sum_zero zero = refl
sum_zero (suc n) = omega (arith, sum_zero n)

pub sum_swap : (f : ℕ → ℕ → ℕ) (m n : ℕ) → sum (λ p. sum (f p) n) m ≡ sum (λ q. sum (λ p. f p q) m) n
unfolding sum
sum_swap f zero n = sym (sum_zero n)
sum_swap f (suc m) n = ap (λ (x : ℕ). x + sum (f m) n) (sum_swap f m n) ∙ sym (sum_add (λ q. sum (λ p. f p q) m) (f m) n)

-- ---- at one number x apart

-- at x the one sum has d less
pub sum_drop : (f g : ℕ → ℕ) (n x d : ℕ) → x < n → f x + d ≤ g x → ((q : ℕ) → q < n → f q ≤ g q) → sum f n + d ≤ sum g n
unfolding sum
sum_drop f g zero x d l h r = absurd (omega arith)
sum_drop f g (suc n) x d l h r = ⊎_elim
    (λ (e : x ≡ n). omega (arith, sum_le f g n (λ q k. r q (omega arith)), subst (λ (y : ℕ). f y + d ≤ g y) e h))
    (λ (e : x ≢ n). omega (arith, sum_drop f g n x d (omega (arith, e)) h (λ q k. r q (omega arith)), r n (omega arith)))
    (equal_cases x n)

-- at x the one sum has at most d more
pub sum_rise : (f g : ℕ → ℕ) (n x d : ℕ) → f x ≤ g x + d → ((q : ℕ) → q < n → q ≢ x → f q ≤ g q) → sum f n ≤ sum g n + d
unfolding sum
sum_rise f g zero x d h r = omega arith
sum_rise f g (suc n) x d h r = ⊎_elim
    (λ (e : x ≡ n). omega (arith, sum_le f g n (λ q k. r q (omega arith) (λ z. omega (arith, z, e))), subst (λ (y : ℕ). f y ≤ g y + d) e h))
    (λ (e : x ≢ n). omega (arith, sum_rise f g n x d h (λ q k. r q (omega arith)), r n (omega arith) (λ z. e (sym z))))
    (equal_cases x n)

-- the two differ at x alone
pub sum_change : (f g : ℕ → ℕ) (n x : ℕ) → x < n → ((q : ℕ) → q ≢ x → f q ≡ g q) → sum f n + g x ≡ sum g n + f x
unfolding sum
sum_change f g zero x l r = absurd (omega arith)
sum_change f g (suc n) x l r = ⊎_elim
    (λ (e : x ≡ n). omega (arith, sum_same f g n (λ q k. r q (λ z. omega (arith, z, e))), ap f e, ap g e))
    (λ (e : x ≢ n). omega (arith, sum_change f g n x (omega (arith, e)) r, r n (λ z. e (sym z))))
    (equal_cases x n)

-- nothing but d at x
pub sum_one : (f : ℕ → ℕ) (n x d : ℕ) → x < n → f x ≡ d → ((q : ℕ) → q ≢ x → f q ≡ 0) → sum f n ≡ d
sum_one f n x d l h r = omega (arith, sum_change f (λ q. 0) n x l r, sum_zero n)

-- at most e everywhere
pub sum_most : (f : ℕ → ℕ) (n e : ℕ) → ((q : ℕ) → q < n → f q ≤ e) → sum f n ≤ n * e
unfolding sum
sum_most f zero e r = omega arith
sum_most f (suc n) e r = omega (arith, suc-mul n e, sum_most f n e (λ q l. r q (omega arith)), r n (omega arith))

-- at most d at x, and e everywhere else
pub sum_but : (f : ℕ → ℕ) (n x d e : ℕ) → x < n → f x ≤ d → ((q : ℕ) → q < n → q ≢ x → f q ≤ e) → sum f n + e ≤ n * e + d
unfolding sum
sum_but f zero x d e l h r = absurd (omega arith)
sum_but f (suc n) x d e l h r = ⊎_elim
    (λ (z : x ≡ n).
    omega (arith, suc-mul n e, sum_most f n e (λ q k. r q (omega arith) (λ y. omega (arith, y, z))), subst (λ (y : ℕ). f y ≤ d) z h))
    (λ (z : x ≢ n).
    omega (arith, suc-mul n e, sum_but f n x d e (omega (arith, z)) h (λ q k. r q (omega arith)), r n (omega arith) (λ y. z (sym y))))
    (equal_cases x n)

-- ---- over the pairs of numbers below n

abbrev pub square : (ℕ → ℕ → ℕ) → ℕ → ℕ
square f n = sum (λ p. sum (f p) n) n

pub square_add : (f g : ℕ → ℕ → ℕ) (n : ℕ) → square (λ p q. f p q + g p q) n ≡ square f n + square g n
square_add f g n = sum_same (λ p. sum (λ q. f p q + g p q) n) (λ p. sum (f p) n + sum (g p) n) n (λ p l. sum_add (f p) (g p) n)
    ∙ sum_add (λ p. sum (f p) n) (λ p. sum (g p) n) n

pub square_zero : (n : ℕ) → square (λ p q. 0) n ≡ 0
square_zero n = sum_same (λ p. sum (λ q. 0) n) (λ p. 0) n (λ p l. sum_zero n) ∙ sum_zero n

-- nothing but d at x and y
pub square_one : (f : ℕ → ℕ → ℕ) (n x y d : ℕ) → x < n → y < n → f x y ≡ d → ((p q : ℕ) → (p ≡ x → q ≡ y → ⊥) → f p q ≡ 0) → square f n ≡ d
square_one f n x y d lx ly h r = sum_one (λ p. sum (f p) n) n x d lx
    (sum_one (f x) n y d ly h (λ q e. r x q (λ _ z. e z)))
    (λ p e. sum_same (f p) (λ q. 0) n (λ q l. r p q (λ z _. e z)) ∙ sum_zero n)

-- packet x is one of p and q, and passes g
abbrev pub of : (Packet → Bool) → ℕ → ℕ → Packet → Bool
of g p q x = between any p q x && g x

module _ (n : ℕ) (g : Packet → Bool) where
  -- the one pair
  at_pair : (x : Packet) (f : ℕ → ℕ → Bool) (i j : ℕ) → i < n → j < n → f i j ≡ true → ((p q : ℕ) → f p q ≡ true → (p ≡ i) × (q ≡ j)) →
      square (λ p q. one (f p q && g x)) n ≡ one (g x)
  at_pair x f i j li lj h r = square_one (λ p q. one (f p q && g x)) n i j (one (g x)) li lj
      (ap (λ (b : Bool). one (b && g x)) h)
      (λ p q k. ap (λ (b : Bool). one (b && g x))
      (⊎_elim (λ z. absurd (k (r p q z).0 (r p q z).1)) (λ z. z) (truth (f p q))))

  pub packet_pairs : (x : Packet) → sender x < n → receiver x < n → square (λ p q. one (of g p q x)) n ≡ one (g x)
  packet_pairs (Message i j k d) li lj = at_pair (Message i j k d) (λ p q. eqb p i && (eqb q j && true)) i j li lj
      (ap₂ (λ (x y : Bool). x && (y && true)) (eq-eqb i i refl) (eq-eqb j j refl))
      (λ p q e. (eqb-true p i (and_left (eqb p i) _ e), eqb-true q j (and_left (eqb q j) _ (and_right (eqb p i) _ e))))
  packet_pairs (Acknowledgement i j k) li lj = at_pair (Acknowledgement i j k) (λ p q. eqb q i && (eqb p j && true)) j i lj li
      (ap₂ (λ (x y : Bool). x && (y && true)) (eq-eqb i i refl) (eq-eqb j j refl))
      (λ p q e. (eqb-true p j (and_left (eqb p j) _ (and_right (eqb q i) _ e)), eqb-true q i (and_left (eqb q i) _ e)))

  pub many_pairs : (l : List Packet) → ((x : Packet) → Holds l x → (sender x < n) × (receiver x < n)) → many g l ≡ square (λ p q. many (of g p q) l) n
  unfolding many
  many_pairs [] h = sym (square_zero n)
  many_pairs (x ∷ l) h = omega (
    arith,
    packet_pairs x (h x (Memᴰ.head refl)).0 (h x (Memᴰ.head refl)).1,
    many_pairs l (λ y m. h y (Memᴰ.tail m)),
    square_add (λ p q. one (of g p q x)) (λ p q. many (of g p q) l) n,
  )

-- ---- beside the tokens

one_and : (a b : Bool) → one (a && b) ≤ one a
one_and true true = omega arith
one_and true false = omega arith
one_and false b = omega arith

pub of_between : (g : Packet → Bool) (p q : ℕ) (l : List Packet) → many (of g p q) l ≤ many (between any p q) l
of_between g p q l = many_under (of g p q) (between any p q) (λ x. one_and (between any p q x) (g x)) l

both_ends : (p : ℕ) (x : Packet) → between any p p x ≡ true → sender x ≡ receiver x
both_ends p (Message i j k d) e = sym (eqb-true p i (and_left (eqb p i) _ e)) ∙ eqb-true p j (and_left (eqb p j) _ (and_right (eqb p i) _ e))
both_ends p (Acknowledgement i j k) e = sym (eqb-true p i (and_left (eqb p i) _ e)) ∙ eqb-true p j (and_left (eqb p j) _ (and_right (eqb p i) _ e))

-- the ends of a packet differ
pub none_alone : (g : Packet → Bool) (p : ℕ) (l : List Packet) → ((x : Packet) → Holds l x → sender x ≢ receiver x) → many (of g p p) l ≡ 0
none_alone g p l apart = many_none (of g p p) l (λ x m. ⊎_elim
    (λ e. absurd (apart x m (both_ends p x (and_left (between any p p x) _ e)))) (λ e. e) (truth (of g p p x)))
