-- The doors of a list: they rise, they are those of the set, and their text grows door by door.
-- Assumes nothing.
use Rattle.std.specs.Prelude.{ℕ, zero, suc, ◌+◌, ◌-◌, ◌*◌, ◌/◌, ◌%◌, ◌^◌, ◌≤◌, ◌<◌, ◌≡◌, refl, ◌⊎◌, ◌↔◌, Bool, true, false, List, [], ◌∷◌, ◌++◌, eqb, ltb, length}
use Rattle.std.proofs.Common.{sym, ◌∙◌, inl, inr, ⊎_elim, true≢false, append-nil, add-zero, div-one, add-one, sub-one, length-append, shr-shr, eqb-true, ne_eqb, ltb-true, ltb-false}
use Rattle.std.proofs.Math.Path.{ap}
use Rattle.std.proofs.Math.Bool.{cond}
use Rattle.std.proofs.Math.Nat.{div-eq_of_lt}
use native.Mathlib.Omega.{arith}
use Rattle.std.specs.Int.Count.{ones, ones_step}
use Rattle.std.proofs.lemmas.Nat.{ones-le, shr_le}
use Rattle.std.proofs.lemmas.Bool.{eqb-false}
use Rattle.column.specs.laws.Cases.{truth, equal_cases}
use Rattle.column.specs.Sets.{has, lowest_in}
use Rattle.column.specs.laws.Digits.{true_has, false_has, lowest_none, lowest_member}
use Rattle.column.specs.laws.SetLaws.{has_none, member_lt}
use Rattle.text.specs.Text.{comma, decimal, divided, next_text}
use Rattle.text.specs.laws.DecimalLaws.{decimal_length}
use Rattle.text.specs.laws.DividedLaws.{next_some, none, divided_last}
use Rattle.list.specs.Closing.{doors_up_to}

-- ---- the text of the doors, door by door

-- what door n + 1 adds: nothing where it is not occupied
unfoldable door_text : Bool → ℕ → ℕ → List ℕ
door_text first doors n = cond (has doors n) (next_text first (n + 1)) []

-- nothing is written before the first
abbrev pub none_before : ℕ → ℕ → Bool
none_before doors n = eqb (length (divided (doors_up_to n doors))) 0

pub doors_none : (doors : ℕ) → divided (doors_up_to 0 doors) ≡ []
unfolding divided doors_up_to
doors_none doors = refl

doors_more : (doors n : ℕ)
    → divided (doors_up_to (n + 1) doors) ≡ divided (doors_up_to n doors) ++ door_text (none_before doors n) doors n
unfolding doors_up_to door_text
doors_more doors n = rw add-one (go (has doors n))
  where
    l : List ℕ
    l = doors_up_to n doors

    go : (b : Bool) → divided (cond b (l ++ (suc n ∷ [])) l)
        ≡ divided l ++ cond b (cond (none_before doors n) (decimal (suc n)) (comma ∷ decimal (suc n))) []
    go true = divided_last l (suc n)
    go false = sym (append-nil (divided l))

-- the doors above n of which none is occupied add nothing
doors_free : (doors n free : ℕ) → ((j : ℕ) → j < free → has (doors / 2 ^ n) j ≡ false) → doors_up_to (n + free) doors ≡ doors_up_to n doors
unfolding doors_up_to
doors_free doors n zero h = ap (λ k. doors_up_to k doors) (add-zero n)
doors_free doors n (suc free) h =
    let one : n + suc free ≡ suc (n + free) = omega arith in
    let clear : has doors (n + free) ≡ false = ap (λ k. eqb (k % 2) 1) (sym (shr-shr doors n free)) ∙ h free (omega arith) in
    ap (λ k. doors_up_to k doors) one ∙ rw clear (doors_free doors n free (λ j l. h j (omega arith)))

-- rest: the doors above n
module _ (doors n : ℕ) (rest : ℕ) (is : rest ≡ doors / 2 ^ n) where
  abbrev pub free : ℕ
  free = lowest_in 64 rest

  pub doors_rest : rest ≡ 0 → n ≤ 64 → doors_up_to n doors ≡ doors_up_to 64 doors
  doors_rest none h =
      let all : n + (64 - n) ≡ 64 = omega arith in
      sym (doors_free doors n (64 - n) (λ j l. ap (λ k. has k j) (sym is ∙ none) ∙ has_none j)) ∙ ap (λ k. doors_up_to k doors) all

  -- the lowest of them is the next door
  module _ (fits : doors < 2 ^ 64) (some : 0 < rest) where
    occupied : has doors (n + free) ≡ true
    occupied =
        let small : rest < 2 ^ 64 = omega (arith, is, shr_le doors n) in
        ap (λ k. eqb (k % 2) 1) (sym (shr-shr doors n free) ∙ ap (λ k. k / 2 ^ free) (sym is)) ∙ lowest_member 64 rest small some

    pub door_within : n + free < 64
    door_within = member_lt 64 doors (n + free) fits occupied

    -- the next door is one of 64
    pub within : n + (free + 1) ≤ 64
    within = omega (arith, door_within)

    pub doors_next : divided (doors_up_to (n + (free + 1)) doors) ≡ divided (doors_up_to n doors) ++ next_text (none_before doors n) (n + (free + 1))
    unfolding door_text
    doors_next =
        let one : n + (free + 1) ≡ n + free + 1 = omega arith in
        let same : doors_up_to (n + free) doors ≡ doors_up_to n doors =
        doors_free doors n free (λ j l. ap (λ k. has k j) (sym is) ∙ lowest_none 64 rest j l) in
        rw one
        (doors_more doors (n + free)
        ∙ ap (λ b. divided (doors_up_to (n + free) doors) ++ cond b (next_text (none_before doors (n + free)) (n + free + 1)) []) occupied
        ∙ ap (λ l. divided l ++ next_text (none l) (n + free + 1)) same)

    -- from here on something is written
    pub some_before : none_before doors (n + (free + 1)) ≡ false
    some_before =
        ne_eqb (length (divided (doors_up_to (n + (free + 1)) doors))) 0
        (λ z. omega (
          arith,
          z,
          ap length doors_next,
          length-append (divided (doors_up_to n doors)) (next_text (none_before doors n) (n + (free + 1))),
          next_some (none_before doors n) (n + (free + 1)),
        ))

    pub rest_next : rest / 2 ^ free / 2 ^ 1 ≡ doors / 2 ^ (n + (free + 1))
    rest_next = shr-shr rest free 1 ∙ ap (λ k. k / 2 ^ (free + 1)) is ∙ shr-shr doors n (free + 1)

-- ---- how long the text is

door_length : (first : Bool) (doors n k : ℕ) → n + 1 < 10 ^ suc k → length (door_text first doors n) ≤ cond first (suc k) (suc (suc k))
unfolding door_text
door_length first doors n k h = go (has doors n) first
  where
    few : length (decimal (n + 1)) ≤ suc k
    few = decimal_length 20 k (n + 1) h

    go : (b f : Bool) → length (cond b (cond f (decimal (n + 1)) (comma ∷ decimal (n + 1))) []) ≤ cond f (suc k) (suc (suc k))
    go true true = few
    go true false = omega (arith, few)
    go false true = omega arith
    go false false = omega arith

-- one digit up to door 9, two above it, and the commas between
abbrev pub most : ℕ → ℕ
most n = n * 2 + (n - 9) - 1

-- door n + 1 has at most k + 1 digits
door_step : (doors n k : ℕ) → n + 1 < 10 ^ suc k → k + (n - 9) ≤ suc n - 9 → length (divided (doors_up_to n doors)) ≤ most n
    → length (divided (doors_up_to (suc n) doors)) ≤ most (suc n)
door_step doors n k fits least short =
    let text = door_text (none_before doors n) doors n in
    let whole : length (divided (doors_up_to (suc n) doors)) ≡ length (divided (doors_up_to n doors)) + length text =
    ap (λ m. length (divided (doors_up_to m doors))) (sym (add-one n))
    ∙ ap length (doors_more doors n)
    ∙ length-append (divided (doors_up_to n doors)) text in
    rw whole (go (none_before doors n) refl)
  where
    go : (b : Bool) → none_before doors n ≡ b → length (divided (doors_up_to n doors)) + length (door_text b doors n) ≤ most (suc n)
    go true e = omega (arith, short, least, eqb-true (length (divided (doors_up_to n doors))) 0 e, door_length true doors n k fits)
    go false e = omega (arith, short, least, eqb-false (length (divided (doors_up_to n doors))) 0 e, door_length false doors n k fits)

pub doors_length : (doors n : ℕ) → n ≤ 64 → length (divided (doors_up_to n doors)) ≤ most n
doors_length doors zero h = rw (doors_none doors) (omega arith)
doors_length doors (suc n) h = go (truth (ltb n 9)) (doors_length doors n (omega arith))
  where
    go : (ltb n 9 ≡ true) ⊎ (ltb n 9 ≡ false) → length (divided (doors_up_to n doors)) ≤ most n
        → length (divided (doors_up_to (suc n) doors)) ≤ most (suc n)
    go (inl e) ih = door_step doors n 0 (omega (arith, ltb-true n 9 e)) (omega (arith, ltb-true n 9 e)) ih
    go (inr e) ih = door_step doors n 1 (omega (arith, h)) (omega (arith, ltb-false n 9 e)) ih

-- ---- which doors are listed

-- d is one of a list
abbrev pub Among : ℕ → List ℕ → Type 0
Among d [] = ⊥
Among d (e ∷ l) = (d ≡ e) ⊎ Among d l

among_last : (d e : ℕ) (l : List ℕ) → Among d (l ++ (e ∷ [])) ↔ (Among d l ⊎ (d ≡ e))
among_last d e [] = (λ a. ⊎_elim inr (λ z. absurd z) a, λ a. ⊎_elim (λ z. absurd z) inl a)
among_last d e (x ∷ l) =
    let rest = among_last d e l in (
      λ a. ⊎_elim (λ p. inl (inl p)) (λ b. ⊎_elim (λ q. inl (inr q)) inr (rest.0 b)) a,
      λ a. ⊎_elim (λ b. ⊎_elim inl (λ q. inr (rest.1 (inl q))) b) (λ p. inr (rest.1 (inr p))) a,
    )

-- door d of those up to n is occupied
abbrev pub Occupied : ℕ → ℕ → ℕ → Type 0
Occupied n w d = (1 ≤ d) × (d ≤ n) × (has w (d - 1) ≡ true)

pub doors_listed : (n w d : ℕ) → Among d (doors_up_to n w) ↔ Occupied n w d
unfolding doors_up_to
doors_listed zero w d = (λ a. absurd a, λ o. absurd (omega (arith, o.0, o.1)))
doors_listed (suc n) w d = go (has w n) refl (doors_listed n w d)
  where
    later : Occupied n w d → Occupied (suc n) w d
    later o = (o.0, omega (arith, o.1), o.2)

    earlier : (d ≡ suc n → ⊥) → Occupied (suc n) w d → Occupied n w d
    earlier other o = (o.0, omega (arith, o.1, other), o.2)

    last : d ≡ suc n → has w (d - 1) ≡ has w n
    last e = rw (e, sub-one (suc n))

    go : (b : Bool) → has w n ≡ b → Among d (doors_up_to n w) ↔ Occupied n w d
        → Among d (cond b (doors_up_to n w ++ (suc n ∷ [])) (doors_up_to n w)) ↔ Occupied (suc n) w d
    go true e ih = (
      λ a. ⊎_elim (λ q. later (ih.0 q)) (λ p. (omega arith, omega arith, last p ∙ e)) ((among_last d (suc n) (doors_up_to n w)).0 a),
      λ o. (among_last d (suc n) (doors_up_to n w)).1 (⊎_elim inr (λ other. inl (ih.1 (earlier other o))) (equal_cases d (suc n))),
    )
    go false e ih = (
      λ a. later (ih.0 a),
      λ o. ih.1 (earlier (λ p. true≢false (sym o.2 ∙ last p ∙ e)) o),
    )

-- ---- "Doors rise"

-- each number is above the one before it, the first above `low`
abbrev pub Rises : ℕ → List ℕ → Type 0
Rises low [] = Unit {0}
Rises low (d ∷ l) = (low < d) × Rises d l

rises_last : (low d : ℕ) (l : List ℕ) → low < d → ((e : ℕ) → Among e l → e < d) → Rises low l → Rises low (l ++ (d ∷ []))
rises_last low d [] h below r = (h, tt)
rises_last low d (e ∷ l) h below r = (r.0, rises_last e d l (below e (inl refl)) (λ x a. below x (inr a)) r.1)

pub doors_rise : (n w : ℕ) → Rises 0 (doors_up_to n w)
unfolding doors_up_to
doors_rise zero w = tt
doors_rise (suc n) w = go (has w n) (doors_rise n w)
  where
    go : (b : Bool) → Rises 0 (doors_up_to n w) → Rises 0 (cond b (doors_up_to n w ++ (suc n ∷ [])) (doors_up_to n w))
    go true ih = rises_last 0 (suc n) (doors_up_to n w) (omega arith) (λ e a. omega (arith, ((doors_listed n w e).0 a).1)) ih
    go false ih = ih

-- ---- "`occupied` the count of set bits"

count_up_to : (n w : ℕ) → length (doors_up_to n w) + ones (w / 2 ^ n) ≡ ones w
unfolding doors_up_to
count_up_to zero w = omega (arith, ap ones (div-one w))
count_up_to (suc n) w = go (has w n) refl (count_up_to n w)
  where
    half : w / 2 ^ n / 2 ≡ w / 2 ^ suc n
    half = shr-shr w n 1 ∙ ap (λ k. w / 2 ^ k) (add-one n)

    go : (b : Bool) → has w n ≡ b → length (doors_up_to n w) + ones (w / 2 ^ n) ≡ ones w
        → length (cond b (doors_up_to n w ++ (suc n ∷ [])) (doors_up_to n w)) + ones (w / 2 ^ suc n) ≡ ones w
    go true e ih = rw (← half) (omega (arith, ih, ones_step (w / 2 ^ n), true_has w n e, length-append (doors_up_to n w) (suc n ∷ [])))
    go false e ih = rw (← half) (omega (arith, ih, ones_step (w / 2 ^ n), false_has w n e))

pub doors_count : (n w : ℕ) → w < 2 ^ n → length (doors_up_to n w) ≡ ones w
doors_count n w h = omega (arith, count_up_to n w, ones-le 0 (w / 2 ^ n) (omega (arith, div-eq_of_lt h)))
