-- What is tested of a packet by its head is what row 4 asks of it; and what receivers gathered say of those who run. Assumes nothing.
use Rattle.std.specs.Prelude.{ℕ, ◌*◌, ◌/◌, ◌%◌, ◌≤◌, ◌<◌, ◌^◌, ◌≡◌, refl, ◌⊎◌, Bool, true, false, not, ◌&&◌, ◌||◌, eqb, leb, ltb}
use Rattle.std.proofs.Common.{sym, ap, ◌∙◌, inl, inr, true≢false, arith, pow_pos, eq-eqb, ne_eqb, le-leb, ltb-true, leb-true, leb-false}
use Rattle.std.proofs.lemmas.Bool.{lt-leb}
use Rattle.column.specs.laws.Cases.{truth, equal_cases, and_left, and_right}
use Rattle.column.specs.Sets.{has, join, insert}
use Rattle.column.specs.laws.SetLaws.{has_none, has_join, has_insert, join_lt, insert_lt, same_members}
use Rattle.column.specs.Columns.{numbers}
use Rattle.bank.specs.Words.{ends, acknowledging, receiver_in, sender_in}
use Rattle.bank.specs.inner.Surveys.{ends_valid, barred_of, pair_valid, head_valid}

-- ---- a packet

pub head_ends : (columns root : ℕ) (watch : Bool) (running head : ℕ)
    → head_valid columns root watch running head ≡ (ends_valid columns root watch head && has running (receiver_in head))
unfolding head_valid ends_valid
head_ends columns root watch running head = go (ltb (receiver_in head) columns) _ _
  where
    go : (a b c : Bool) → (a && (b && c)) ≡ ((a && b) && c)
    go true b c = refl
    go false b c = refl

pub covers_none : (k r : ℕ) → r < 2 ^ k → eqb (join 0 r) r ≡ true
covers_none k r h = eq-eqb (join 0 r) r (same_members k (join 0 r) r (join_lt k 0 r (pow_pos k) h) h (λ i l. has_join 0 r i ∙ rw (has_none i)))

-- every member of m and i itself are of r
pub covers_insert : (k r m i : ℕ) → m < 2 ^ k → r < 2 ^ k → i < k → eqb (join (insert m i) r) r ≡ (eqb (join m r) r && has r i)
covers_insert k r m i hm hr hi = go (truth (has r i))
  where
    or-true : (b : Bool) → (b || true) ≡ true
    or-true true = refl
    or-true false = refl

    or_none : (b : Bool) → (b || false) ≡ b
    or_none true = refl
    or_none false = refl

    and-true : (b : Bool) → (b && true) ≡ b
    and-true true = refl
    and-true false = refl

    and-false : (b : Bool) → (b && false) ≡ false
    and-false true = refl
    and-false false = refl

    member : (j : ℕ) → has (join (insert m i) r) j ≡ ((has m j || eqb j i) || has r j)
    member j = has_join (insert m i) r j ∙ ap (λ (x : Bool). x || has r j) (has_insert m i j)

    same : has r i ≡ true → (j : ℕ) → j < k → has (join (insert m i) r) j ≡ has (join m r) j
    same e j l = member j ∙ at (equal_cases j i) ∙ sym (has_join m r j)
      where
        at : (j ≡ i) ⊎ (j ≡ i → ⊥) → ((has m j || eqb j i) || has r j) ≡ (has m j || has r j)
        at (inl p) = rw (p, e, or-true (has m i || eqb i i), or-true (has m i))
        at (inr p) = rw (ne_eqb j i p, or_none (has m j))

    go : (has r i ≡ true) ⊎ (has r i ≡ false) → eqb (join (insert m i) r) r ≡ (eqb (join m r) r && has r i)
    go (inl e) =
        ap (λ (x : ℕ). eqb x r) (same_members k (join (insert m i) r) (join m r) (join_lt k (insert m i) r (insert_lt k m i hm hi) hr) (join_lt k m r hm hr) (same e))
        ∙ sym (and-true (eqb (join m r) r)) ∙ ap (λ (x : Bool). eqb (join m r) r && x) (sym e)
    go (inr e) =
        ne_eqb (join (insert m i) r) r (λ p. true≢false (sym (member i ∙ rw (eq-eqb i i refl, or-true (has m i))) ∙ ap (λ (x : ℕ). has x i) p ∙ e))
        ∙ sym (and-false (eqb (join m r) r)) ∙ ap (λ (x : Bool). eqb (join m r) r && x) (sym e)

-- ---- packets, gathered

pub pair_below : (columns barred pair : ℕ) → pair_valid columns barred pair ≡ true → pair % ends < columns
unfolding pair_valid
pair_below columns barred pair e =
    let from = pair / ends % ends in
    let to = pair % ends in
    let below = and_right (ltb from columns) _ (and_right (not (eqb from to)) _ e) in
    ltb-true to columns (and_left (ltb to columns) _ below)

-- the parts of a head, by what is above its number
pair_parts : (head : ℕ) → (sender_in head ≡ head / numbers / ends % ends) × (leb acknowledging head ≡ leb (ends * ends) (head / numbers))
pair_parts head = (omega arith, go (leb acknowledging head) refl)
  where
    go : (b : Bool) → leb acknowledging head ≡ b → b ≡ leb (ends * ends) (head / numbers)
    go true e = let h : acknowledging ≤ head = leb-true acknowledging head e in sym (le-leb (ends * ends) (head / numbers) (omega (arith, h)))
    go false e = let h : head < acknowledging = leb-false acknowledging head e in sym (lt-leb (ends * ends) (head / numbers) (omega (arith, h)))

-- no column is barred where senders are watched
barred_to : (columns root to : ℕ) (watch : Bool) → columns ≤ 16 → root < 16 → to < columns
    → (not (eqb to (barred_of root watch))) ≡ (not (eqb to root) || watch)
unfolding barred_of
barred_to columns root to true few top h = rw (ne_eqb to 255 (λ z. omega (arith, z))) (or-true (not (eqb to root)))
  where
    or-true : (b : Bool) → true ≡ (b || true)
    or-true true = refl
    or-true false = refl
barred_to columns root to false few top h = let same : root % 256 ≡ root = omega (arith, top) in rw same (or_none (not (eqb to root)))
  where
    or_none : (b : Bool) → b ≡ (b || false)
    or_none true = refl
    or_none false = refl

-- what is left to test of a packet whose ends are valid as a pair
pub head_pair : (columns root : ℕ) (watch : Bool) (running head : ℕ) → columns ≤ 16 → root < 16
    → head_valid columns root watch running head ≡ (pair_valid columns (barred_of root watch) (head / numbers) && has running (receiver_in head))
unfolding head_valid pair_valid
head_pair columns root watch running head few top = go (ltb to columns) refl
  where
    to : ℕ
    to = receiver_in head

    table : (a b c d e f : Bool) → (((a && b) && (c || d)) && f) ≡ ((b && (a && (true && (d || c)))) && f)
    table true true true true e f = refl
    table true true true false e f = refl
    table true true false true e f = refl
    table true true false false e f = refl
    table true false c d e f = refl
    table false true c d e f = refl
    table false false c d e f = refl

    none : (a b f : Bool) → false ≡ ((a && (b && false)) && f)
    none true true f = refl
    none true false f = refl
    none false b f = refl

    go : (a : Bool) → ltb to columns ≡ a
        → (a && (((ltb (sender_in head) columns && not (eqb (sender_in head) to)) && (leb acknowledging head || (not (eqb to root) || watch))) && has running to))
        ≡ ((not (eqb (head / numbers / ends % ends) to) && (ltb (head / numbers / ends % ends) columns
        && (a && (not (eqb to (barred_of root watch)) || leb (ends * ends) (head / numbers))))) && has running to)
    go true e =
        rw (sym (pair_parts head).0, sym (pair_parts head).1, barred_to columns root to watch few top (ltb-true to columns e))
        (table (ltb (sender_in head) columns) (not (eqb (sender_in head) to)) (leb acknowledging head) (not (eqb to root) || watch) true (has running to))
    go false e = none (not (eqb (head / numbers / ends % ends) to)) (ltb (head / numbers / ends % ends) columns) (has running to)
