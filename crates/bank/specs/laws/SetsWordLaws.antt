-- Four sets in one number: what is joined so is joined kind by kind, and a digit of one kind is found again. Assumes nothing.
use Rattle.std.specs.Prelude.{ℕ, ◌*◌, ◌/◌, ◌%◌, ◌<◌, ◌^◌, ◌≡◌, refl, Bool, true, false, ◌&&◌, eqb}
use Rattle.std.proofs.Common.{sym, ap, ap₂, ◌∙◌, arith, shr-shr}
use Rattle.std.proofs.lemmas.Nat.{or_shr, or_mod, and_mask}
use Rattle.column.specs.Sets.{has, join, within, whole}
use Rattle.column.specs.laws.SetLaws.{has_and, within_join}
use Rattle.column.specs.laws.SequenceLaws.{whole_has}
use Rattle.column.specs.declared.state.Column.{Column}
use Rattle.bank.specs.inner.Surveys.{kind, sets_of, members_in, members_of}

-- the sets of a column are sets of sixteen columns
pub record Narrow (c : Column) : Type 0 where
  pub send_lt : c.send < kind
  pub awaited_lt : c.awaited < kind
  pub owed_lt : c.owed < kind
  pub noted_lt : c.noted < kind

kinds : (c : Column) → Narrow c
    → (sets_of c % kind ≡ c.send) × ((sets_of c / kind % kind ≡ c.awaited) × ((sets_of c / (kind * kind) % kind ≡ c.owed) × (sets_of c / (kind * kind * kind) ≡ c.noted)))
kinds c h =
    let s = h.send_lt in
    let a = h.awaited_lt in
    let o = h.owed_lt in
    let w = h.noted_lt in
    (omega (arith, s, a, o, w), (omega (arith, s, a, o, w), (omega (arith, s, a, o, w), omega (arith, s, a, o, w))))

-- what two hold of two, the other way round
pub crossed : (a b c d : Bool) → ((a && b) && (c && d)) ≡ ((a && c) && (b && d))
crossed true true c d = refl
crossed true false true d = refl
crossed true false false d = refl
crossed false b c d = refl

pub sets_joined : (x : ℕ) (c : Column) (n : ℕ) → Narrow c
    → within (members_in (join x (sets_of c))) n ≡ (within (members_in x) n && within (members_of c) n)
sets_joined x c n h =
    let y = sets_of c in
    let k = kinds c h in
    let first : join x y % kind ≡ join (x % kind) c.send = or_mod x y 16 ∙ ap (join (x % kind)) k.0 in
    let second : join x y / kind % kind ≡ join (x / kind % kind) c.awaited =
    ap (λ (z : ℕ). z % kind) (or_shr x y 16) ∙ or_mod (x / kind) (y / kind) 16 ∙ ap (join (x / kind % kind)) k.1.0 in
    let third : join x y / (kind * kind) % kind ≡ join (x / (kind * kind) % kind) c.owed =
    ap (λ (z : ℕ). z % kind) (or_shr x y 32) ∙ or_mod (x / (kind * kind)) (y / (kind * kind)) 16 ∙ ap (join (x / (kind * kind) % kind)) k.1.1.0 in
    let fourth : join x y / (kind * kind * kind) ≡ join (x / (kind * kind * kind)) c.noted =
    or_shr x y 48 ∙ ap (join (x / (kind * kind * kind))) k.1.1.1 in
    rw (first, second, third, fourth)
    (parted (x % kind) (x / kind % kind) (x / (kind * kind) % kind) (x / (kind * kind * kind)) c.send c.awaited c.owed c.noted n)
  where
    parted : (a b d e s t u w n : ℕ)
        → within (join (join (join (join a s) (join b t)) (join d u)) (join e w)) n
        ≡ (within (join (join (join a b) d) e) n && within (join (join (join s t) u) w) n)
    parted a b d e s t u w n =
        within_join (join (join (join a s) (join b t)) (join d u)) (join e w) n
        ∙ ap₂ (λ (x y : Bool). x && y)
        (within_join (join (join a s) (join b t)) (join d u) n
        ∙ ap₂ (λ (x y : Bool). x && y)
        (within_join (join a s) (join b t) n ∙ ap₂ (λ (x y : Bool). x && y) (within_join a s n) (within_join b t n)
        ∙ crossed (within a n) (within s n) (within b n) (within t n) ∙ ap₂ (λ (x y : Bool). x && y) (sym (within_join a b n)) (sym (within_join s t n)))
        (within_join d u n)
        ∙ crossed (within (join a b) n) (within (join s t) n) (within d n) (within u n)
        ∙ ap₂ (λ (x y : Bool). x && y) (sym (within_join (join a b) d n)) (sym (within_join (join s t) u n)))
        (within_join e w n)
        ∙ crossed (within (join (join a b) d) n) (within (join (join s t) u) n) (within e n) (within w n)
        ∙ ap₂ (λ (x y : Bool). x && y) (sym (within_join (join (join a b) d) e n)) (sym (within_join (join (join s t) u) w n))

-- a digit of a number is one of its low digits
low_digit : (k x i : ℕ) → i < k → has (x % 2 ^ k) i ≡ has x i
low_digit k x i h = ap (λ (z : ℕ). has z i) (sym (and_mask x k)) ∙ has_and x (whole k) i ∙ ap (λ (z : Bool). has x i && z) (whole_has k i h) ∙ and-true (has x i)
  where
    and-true : (b : Bool) → (b && true) ≡ b
    and-true true = refl
    and-true false = refl

-- digit i of what is owed is i places above digit 32
pub owed_digit : (c : Column) (i : ℕ) → Narrow c → i < 16 → has (sets_of c / 2 ^ i) 32 ≡ has c.owed i
owed_digit c i h low =
    let y = sets_of c in
    let swapped : y / 2 ^ i / 2 ^ 32 ≡ y / 2 ^ 32 / 2 ^ i = shr-shr y i 32 ∙ ap (λ (z : ℕ). y / 2 ^ z) (omega arith) ∙ sym (shr-shr y 32 i) in
    ap (λ (z : ℕ). eqb (z % 2) 1) swapped
    ∙ sym (low_digit 16 (y / (kind * kind)) i low)
    ∙ ap (λ (z : ℕ). has z i) (kinds c h).1.1.0
