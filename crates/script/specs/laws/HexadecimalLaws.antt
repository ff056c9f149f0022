-- Sixteen hexadecimal digits, as they are read: a digit, a byte of two digits, the doors of eight bytes. Assumes nothing.
use Rattle.std.specs.Prelude.{ℕ, zero, suc, ◌+◌, ◌-◌, ◌*◌, ◌<◌, ◌≡◌, Bool, ◌&&◌, cond, List, [], ◌∷◌, eqb, leb, ltb, length, get_or, drop}
use Rattle.std.proofs.Math.Path.{refl, ap}
use Rattle.std.proofs.Common.{sym, ◌∙◌, true≢false, ⊎_elim, add-one, drop-cons, ltb-true}
use Rattle.std.proofs.Math.Bool.{true, false}
use native.Mathlib.Omega.{arith}
use Rattle.std.specs.Int.{w64, from_le_bytes}
use Rattle.column.specs.laws.Cases.{or_cases, and_left, and_right, none_and}
use Rattle.column.specs.Packets.{low_value}
use Rattle.text.specs.Text.{read, unread, is_digit}
use Rattle.bank.specs.declared.bank.Step.TheVariants.{Order}
use Rattle.script.specs.Lines.{is_hexadecimal, hexadecimal, all_hexadecimal, hexadecimal_bytes, perform, asking, doors_in}
use Rattle.script.specs.inner.Hexadecimals.{doors_read, digit_read, byte_read}

-- ---- the doors of an order

pub doors_asked : (l : List ℕ) → doors_in (read l) ≡ asking (λ d. perform (Order d)) (doors_read l)
unfolding doors_read doors_in asking
doors_asked l = go (eqb (length l) 16 && all_hexadecimal l)
  where
    go : (t : Bool) → cond t (read (perform (Order (low_value (hexadecimal_bytes l))))) unread
        ≡ asking (λ d. perform (Order d)) (cond t (read (low_value (hexadecimal_bytes l))) unread)
    go true = refl
    go false = refl

-- ---- what was read under a test

pub record ReadUnder (t : Bool) (x n : ℕ) : Type 0 where
  pub test : t ≡ true
  pub value : x ≡ n

pub read_under : (t : Bool) (x n : ℕ) → cond t (read x) unread ≡ read n → ReadUnder t x n
read_under true x n e = record { test = refl; value = cc }
read_under false x n e = let z : ◌≡◌ {A = ℕ} 0 1 = cc in absurd (omega arith)

pub unread_under : (t : Bool) (x : ℕ) → cond t (read x) unread ≡ unread → t ≡ false
unread_under true x e = let z : ◌≡◌ {A = ℕ} 0 1 = cc in absurd (omega arith)
unread_under false x e = refl

-- ---- digits

pub hexadecimal_lt : (b : ℕ) → is_hexadecimal b ≡ true → hexadecimal b < 16
hexadecimal_lt b h = go (ltb b 58) refl
  where
    go : (t : Bool) → ltb b 58 ≡ t → cond t (b - 48) (b - 87) < 16
    go true e = omega (arith, ltb-true b 58 e)
    go false e = ⊎_elim
        (λ d. absurd (true≢false (sym (and_right (leb 48 b) (ltb b 58) d) ∙ e)))
        (λ d. omega (arith, ltb-true b 103 (and_right (leb 97 b) (ltb b 103) d)))
        (or_cases (is_digit b) (leb 97 b && ltb b 103) h)

module _ (b n : ℕ) where
  pub digit_is : digit_read b ≡ read n → ReadUnder (is_hexadecimal b) (hexadecimal b) n
  unfolding digit_read
  digit_is e = read_under _ _ _ e

  pub digit_lt : digit_read b ≡ read n → n < 16
  digit_lt e = let r = digit_is e in omega (arith, hexadecimal_lt b r.test, r.value)

pub digit_none : (b : ℕ) → digit_read b ≡ unread → is_hexadecimal b ≡ false
unfolding digit_read
digit_none b e = unread_under _ _ e

-- ---- bytes of two digits

module _ (a b n : ℕ) where
  pub byte_is : byte_read a b ≡ read n → ReadUnder (is_hexadecimal a && is_hexadecimal b) (hexadecimal a * 16 + hexadecimal b) n
  unfolding byte_read
  byte_is e = read_under _ _ _ e

  pub byte_lt : byte_read a b ≡ read n → n < 256
  byte_lt e =
      let r = byte_is e in
      let high = hexadecimal_lt a (and_left (is_hexadecimal a) (is_hexadecimal b) r.test) in
      let low = hexadecimal_lt b (and_right (is_hexadecimal a) (is_hexadecimal b) r.test) in
      omega (arith, high, low, r.value)

pub byte_none : (a b : ℕ) → byte_read a b ≡ unread → (is_hexadecimal a && is_hexadecimal b) ≡ false
unfolding byte_read
byte_none a b e = unread_under _ _ e

module _ (l : List ℕ) (i : ℕ) (h : 2 * i + 1 < length l) where
  abbrev pub high_digit : ℕ
  high_digit = get_or l (2 * i) 0

  abbrev pub low_digit : ℕ
  low_digit = get_or l (2 * i + 1) 0

  pub two_digits : drop (2 * i) l ≡ high_digit ∷ low_digit ∷ drop (2 * (i + 1)) l
  two_digits =
      let e : suc (2 * i + 1) ≡ 2 * (i + 1) = omega arith in
      drop-cons l (2 * i) 0 (omega arith)
      ∙ ap (λ t. high_digit ∷ t) (rw (← add-one (2 * i)) (drop-cons l (2 * i + 1) 0 h) ∙ ap (λ k. low_digit ∷ drop k l) e)

  pub value_more : low_value (hexadecimal_bytes (drop (2 * i) l))
      ≡ low_value (hexadecimal_bytes (drop (2 * (i + 1)) l)) * 256 + (hexadecimal high_digit * 16 + hexadecimal low_digit)
  unfolding low_value hexadecimal_bytes
  value_more = ap (λ t. low_value (hexadecimal_bytes t)) two_digits ∙ omega arith

  pub bytes_more : hexadecimal_bytes (drop (2 * i) l)
      ≡ (hexadecimal high_digit * 16 + hexadecimal low_digit) ∷ hexadecimal_bytes (drop (2 * (i + 1)) l)
  unfolding hexadecimal_bytes
  bytes_more = ap hexadecimal_bytes two_digits

  pub all_more : all_hexadecimal (drop (2 * i) l)
      ≡ ((is_hexadecimal high_digit && is_hexadecimal low_digit) && all_hexadecimal (drop (2 * (i + 1)) l))
  unfolding all_hexadecimal
  all_more = ap all_hexadecimal two_digits ∙ regroup (is_hexadecimal high_digit) _ _
    where
      regroup : (a b c : Bool) → (a && (b && c)) ≡ ((a && b) && c)
      regroup true b c = refl
      regroup false b c = refl

pub all_part : (j : ℕ) (l : List ℕ) → all_hexadecimal (drop j l) ≡ false → all_hexadecimal l ≡ false
unfolding all_hexadecimal
all_part zero l e = e
all_part (suc j) [] e = e
all_part (suc j) (b ∷ l) e = none_and (is_hexadecimal b) (all_hexadecimal l) (λ t. all_part j l e)

-- eight bytes mean what std reads of them
pub eight_bytes : (l : List ℕ) → length l ≡ 8 → from_le_bytes w64 l ≡ low_value l
unfolding low_value
eight_bytes (a ∷ b ∷ c ∷ d ∷ e ∷ f ∷ g ∷ h ∷ []) size = omega arith
eight_bytes [] size = absurd (omega arith)
eight_bytes (a ∷ []) size = absurd (omega arith)
eight_bytes (a ∷ b ∷ []) size = absurd (omega arith)
eight_bytes (a ∷ b ∷ c ∷ []) size = absurd (omega arith)
eight_bytes (a ∷ b ∷ c ∷ d ∷ []) size = absurd (omega arith)
eight_bytes (a ∷ b ∷ c ∷ d ∷ e ∷ []) size = absurd (omega arith)
eight_bytes (a ∷ b ∷ c ∷ d ∷ e ∷ f ∷ []) size = absurd (omega arith)
eight_bytes (a ∷ b ∷ c ∷ d ∷ e ∷ f ∷ g ∷ []) size = absurd (omega arith)
eight_bytes (a ∷ b ∷ c ∷ d ∷ e ∷ f ∷ g ∷ h ∷ i ∷ l) size = absurd (omega arith)
