-- The words of the strategy leave one tree and one schedule. Assumes nothing.
use Prim.Native.Nat.{ℕ, zero, suc, ◌+◌, ◌-◌, ◌*◌, ◌≤◌, ◌<◌}
use Rattle.std.specs.Prelude.{◌≡◌, true, false, not, ◌&&◌, ◌⊎◌, eqb}
use Rattle.std.proofs.Math.Path.{sym, ap}
use Rattle.std.proofs.Common.{ap₂, ◌∙◌, inl, inr, arith}
use borrow.Author.Tests.{eq-eqb, eqb-true}
use Rattle.column.specs.laws.Cases.{compare_cases, equal_cases, truth, and_right}
use Rattle.column.specs.Trees.{parent, IsTree}
use Rattle.column.specs.declared.tree.Tree.{Tree}
use Rattle.fastest.specs.laws.Counts.{count_no, count_same}
use Rattle.fastest.specs.Schedules.{arrival, Follows, sends, served, turn_after}
use Rattle.fastest.specs.Fastest.{IsOnly}
use Rattle.fastest.specs.laws.FastestLaws.{is_scheduled}
use Rattle.fastest.specs.laws.Timing.{heard_other}

module _ {delay gap : ℕ} {t : Tree} {sent : ℕ → ℕ} (d : 0 < delay) (is : IsTree t) (f : Follows delay gap t sent) where
  arrival_later : (c : ℕ) → 0 < c → arrival delay t sent c ≡ sent c + delay
  arrival_later c l = heard_other t.root delay sent c (λ e. omega (arith, e, f.root_first))

  -- a sender's number is lower
  before : (c : ℕ) → 0 < c → c < t.columns → parent t c < c
  before c l b = go (compare_cases (parent t c) c)
    where
      go : (parent t c < c) ⊎ ((parent t c ≡ c) ⊎ (c < parent t c)) → parent t c < c
      go (inl h) = h
      go (inr (inl h)) = absurd (omega (arith, f.relays c l b, arrival_later (parent t c) (omega (arith, h, l)), ap sent h))
      go (inr (inr h)) =
          absurd
          (omega
          (arith, f.relays c l b, arrival_later (parent t c) (omega (arith, h, l)), f.numbered c (parent t c) l h (is.parent_below c b)))

  -- no column below c has an earlier turn, nor a lower one an equal turn, than the one that sends to c
  abbrev First : ℕ → ℕ → Type 0
  First c i = (sent c ≤ turn_after delay gap t sent c i) × (turn_after delay gap t sent c i ≡ sent c → parent t c ≤ i)

  module _ (c i : ℕ) (p : 0 < c) (b : c < t.columns) (l : i < c) where
    -- i sends to a column from c on, at the turn that it had before c
    sends_later : (m : ℕ) → c + m < t.columns → parent t (c + m) ≡ i → sent (c + m) ≡ turn_after delay gap t sent c i → First c i
    sends_later zero h q turn =
        let same : c + 0 ≡ c = omega arith in
        (omega (arith, turn, ap sent same), λ e. omega (arith, q, ap (parent t) same))
    sends_later (suc m) h q turn = (
      omega (arith, turn, f.numbered c (c + suc m) p (omega arith) h),
      λ e. omega (arith, q, f.ties c (c + suc m) p (omega arith) h (sym e ∙ sym turn)),
    )

    up_to : (m : ℕ) → c + m ≤ t.columns → (served (parent t) i (c + m) ≡ served (parent t) i c) ⊎ First c i
    up_to zero h = inl (ap (served (parent t) i) (omega arith))
    up_to (suc m) h = go (up_to m (omega arith)) (truth (sends (parent t) i (c + m)))
      where
        this : served (parent t) i (c + m) ≡ served (parent t) i c → parent t (c + m) ≡ i → First c i
        this e q =
            sends_later m (omega arith) q
            (f.relays (c + m) (omega arith) (omega arith)
            ∙ ap (turn_after delay gap t sent (c + m)) q ∙ ap (λ x. arrival delay t sent i + x * gap) e)

        go : (served (parent t) i (c + m) ≡ served (parent t) i c) ⊎ First c i
            → (sends (parent t) i (c + m) ≡ true) ⊎ (sends (parent t) i (c + m) ≡ false)
            → (served (parent t) i (c + suc m) ≡ served (parent t) i c) ⊎ First c i
        go (inr r) y = inr r
        go (inl e) (inr y) =
            let next : served (parent t) i (c + suc m) ≡ served (parent t) i (suc (c + m)) = ap (served (parent t) i) (omega arith) in
            inl (next ∙ count_no (sends (parent t) i) (c + m) y ∙ e)
        go (inl e) (inl y) =
            inr (this e (eqb-true (parent t (c + m)) i (and_right (not (eqb (c + m) 0)) (eqb (parent t (c + m)) i) y)))

    pub sender_first : First c i
    sender_first = go (up_to (t.columns - c) (omega arith))
      where
        all : c + (t.columns - c) ≡ t.columns
        all = omega arith

        go : (served (parent t) i (c + (t.columns - c)) ≡ served (parent t) i c) ⊎ First c i → First c i
        go (inr r) = r
        go (inl e) =
            let turn : turn_after delay gap t sent t.columns i ≡ turn_after delay gap t sent c i =
            ap (λ x. arrival delay t sent i + x * gap) (ap (served (parent t) i) (sym all) ∙ e) in (
              omega (arith, turn, f.unused c i p b (omega arith)),
              λ q. omega (arith, f.unused_ties c i p b (omega arith) (turn ∙ q)),
            )

module _ {delay gap : ℕ} {t u : Tree} {sent when : ℕ → ℕ} (d : 0 < delay) (is : IsTree t) (f : Follows delay gap t sent)
    (are : IsTree u) (g : Follows delay gap u when) (same : t.columns ≡ u.columns) where
  Agrees : ℕ → Type 0
  Agrees c = (parent t c ≡ parent u c) × (sent c ≡ when c)

  agree_below : (bound c : ℕ) → c < bound → 0 < c → c < t.columns → Agrees c
  unfolding Agrees
  agree_below zero c l p b = absurd (omega arith)
  agree_below (suc bound) c l p b = go (agree_below bound)
    where
      go : ((c : ℕ) → c < bound → 0 < c → c < t.columns → (parent t c ≡ parent u c) × (sent c ≡ when c))
          → (parent t c ≡ parent u c) × (sent c ≡ when c)
      go ih =
          let s = parent t c in
          let r = parent u c in
          let below = before d is f c p b in
          let under = before d are g c p (omega (arith, b, same)) in
          let one = sender_first d is f c r p b under in
          let other = sender_first d are g c s p (omega (arith, b, same)) below in
          let sends-t = f.relays c p b in
          let sends-u = g.relays c p (omega (arith, b, same)) in
          let equal : sent c ≡ when c =
          omega (arith, one.0, other.0, sends-t, sends-u, turn s below, turn r under) in (
            omega
                (arith, one.1 (turn r under ∙ sym sends-u ∙ sym equal), other.1 (sym (turn s below) ∙ sym sends-t ∙ equal)),
            equal,
          )
        where
          heard : (i : ℕ) → i < c → arrival delay t sent i ≡ arrival delay u when i
          heard i m = at (equal_cases i 0)
            where
              at : (i ≡ 0) ⊎ (i ≡ 0 → ⊥) → arrival delay t sent i ≡ arrival delay u when i
              at (inl z) = rw (eq-eqb i t.root (z ∙ sym f.root_first), eq-eqb i u.root (z ∙ sym g.root_first))
              at (inr nz) =
                  arrival_later d is f i (omega arith)
                  ∙ ap (λ x. x + delay) (ih i (omega arith) (omega arith) (omega arith)).1
                  ∙ sym (arrival_later d are g i (omega arith))

          counted : (i : ℕ) → served (parent t) i c ≡ served (parent u) i c
          counted i = count_same (sends (parent t) i) (sends (parent u) i) c (λ k m. at k m (equal_cases k 0))
            where
              at : (k : ℕ) → k < c → (k ≡ 0) ⊎ (k ≡ 0 → ⊥) → sends (parent t) i k ≡ sends (parent u) i k
              at k m (inl z) = rw (eq-eqb k 0 z)
              at k m (inr nz) = ap (λ x. not (eqb k 0) && eqb x i) (ih k (omega arith) (omega arith) (omega arith)).0

          turn : (i : ℕ) → i < c → turn_after delay gap t sent c i ≡ turn_after delay gap u when c i
          turn i m = ap₂ (λ x y. x + y * gap) (heard i m) (counted i)

  -- two trees of as many columns that follow the strategy are one, and so are their schedules
  follows_unique : (c : ℕ) → 0 < c → c < t.columns → (parent t c ≡ parent u c) × (sent c ≡ when c)
  unfolding Agrees
  follows_unique c p b = agree_below (suc c) c (omega arith) p b

pub is_only : IsOnly
is_only columns delay gap p t sent is same f c some below =
    let made = is_scheduled columns delay gap p in
    follows_unique p.delays is f made.is_tree made.follows same c some (omega (arith, below, same))
