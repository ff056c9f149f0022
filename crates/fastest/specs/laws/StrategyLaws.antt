-- The tree that the strategy makes, column by column. Assumes nothing.
use Prim.Native.Nat.{ℕ, zero, suc, ◌+◌, ◌*◌, ◌≤◌, ◌<◌}
use Rattle.std.specs.Prelude.{◌≡◌, true, false, List, [], ◌∷◌, ◌⊎◌, ltb, length, get_or, replicate}
use Rattle.std.proofs.Math.Path.{refl}
use Rattle.std.proofs.Common.{ap, ◌∙◌, inl, inr, arith, ltb-true, ltb-false, ne_eqb, le-ltb}
use Rattle.std.proofs.Math.ListN.{set, length-set}
use Rattle.std.proofs.Math.Seq.{get_or-set_same, get_or-set_other}
use Rattle.std.proofs.lemmas.Bool.{eqb-false}
use Rattle.column.specs.laws.RefusalLaws.{passed, passes}
use Rattle.column.specs.laws.Cases.{truth, equal_cases}
use Rattle.fastest.specs.declared.growth.Growth.{Growth}
use Rattle.fastest.specs.Strategy.{soonest, turn, sent_to, with_column, grown, fastest_sent, fastest_conditions, fastest_refusal}
use Rattle.fastest.specs.laws.Growing.{served_root, Sound, Joins}
use Rattle.fastest.specs.laws.Joining.{sound_joins}
use Rattle.fastest.specs.Schedules.{heard, served}
use Rattle.fastest.specs.Fastest.{Possible}

-- ---- the first of those that send next

module _ (next : List ℕ) where
  soonest_this : (n : ℕ) → ltb (get_or next n 0) (get_or next (soonest next n) 0) ≡ true → soonest next (suc n) ≡ n
  unfolding soonest
  soonest_this n e = rw e

  soonest_before : (n : ℕ) → ltb (get_or next n 0) (get_or next (soonest next n) 0) ≡ false → soonest next (suc n) ≡ soonest next n
  unfolding soonest
  soonest_before n e = rw e

  soonest_none : soonest next 0 ≡ 0
  unfolding soonest
  soonest_none = refl

  pub soonest_below : (n : ℕ) → soonest next (suc n) < suc n
  soonest_below zero = go (truth (ltb (get_or next 0 0) (get_or next (soonest next 0) 0)))
    where
      go : (ltb (get_or next 0 0) (get_or next (soonest next 0) 0) ≡ true) ⊎ (ltb (get_or next 0 0) (get_or next (soonest next 0) 0) ≡ false)
          → soonest next 1 < 1
      go (inl e) = omega (arith, soonest_this 0 e)
      go (inr e) = omega (arith, soonest_before 0 e, soonest_none)
  soonest_below (suc n) = go (soonest_below n) (truth (ltb (get_or next (suc n) 0) (get_or next (soonest next (suc n)) 0)))
    where
      go : soonest next (suc n) < suc n
          → (ltb (get_or next (suc n) 0) (get_or next (soonest next (suc n)) 0) ≡ true) ⊎ (ltb (get_or next (suc n) 0) (get_or next (soonest next (suc n)) 0) ≡ false)
          → soonest next (suc (suc n)) < suc (suc n)
      go ih (inl e) = omega (arith, soonest_this (suc n) e)
      go ih (inr e) = omega (arith, soonest_before (suc n) e, ih)

  pub soonest_least : (n i : ℕ) → i < n → get_or next (soonest next n) 0 ≤ get_or next i 0
  soonest_least zero i l = absurd (omega arith)
  soonest_least (suc n) i l =
      go (soonest_least n i) (truth (ltb (get_or next n 0) (get_or next (soonest next n) 0))) (equal_cases i n)
    where
      go : (i < n → get_or next (soonest next n) 0 ≤ get_or next i 0)
          → (ltb (get_or next n 0) (get_or next (soonest next n) 0) ≡ true) ⊎ (ltb (get_or next n 0) (get_or next (soonest next n) 0) ≡ false)
          → (i ≡ n) ⊎ (i ≡ n → ⊥) → get_or next (soonest next (suc n)) 0 ≤ get_or next i 0
      go ih (inl e) (inl q) = omega (arith, ap (λ k. get_or next k 0) (soonest_this n e), ap (λ k. get_or next k 0) q)
      go ih (inl e) (inr q) =
          omega (arith, ap (λ k. get_or next k 0) (soonest_this n e), ih (omega arith), ltb-true (get_or next n 0) (get_or next (soonest next n) 0) e)
      go ih (inr e) (inl q) =
          omega
          (arith, ap (λ k. get_or next k 0) (soonest_before n e), ap (λ k. get_or next k 0) q, ltb-false (get_or next n 0) (get_or next (soonest next n) 0) e)
      go ih (inr e) (inr q) = omega (arith, ap (λ k. get_or next k 0) (soonest_before n e), ih (omega arith))

  pub soonest_lowest : (n i : ℕ) → i < soonest next n → get_or next (soonest next n) 0 < get_or next i 0
  soonest_lowest zero i l = absurd (omega (arith, soonest_none))
  soonest_lowest (suc n) i l = go (soonest_lowest n i) (truth (ltb (get_or next n 0) (get_or next (soonest next n) 0)))
    where
      go : (i < soonest next n → get_or next (soonest next n) 0 < get_or next i 0)
          → (ltb (get_or next n 0) (get_or next (soonest next n) 0) ≡ true) ⊎ (ltb (get_or next n 0) (get_or next (soonest next n) 0) ≡ false)
          → get_or next (soonest next (suc n)) 0 < get_or next i 0
      go ih (inl e) =
          omega (
            arith,
            ap (λ k. get_or next k 0) (soonest_this n e),
            soonest_least n i (omega (arith, soonest_this n e)),
            ltb-true (get_or next n 0) (get_or next (soonest next n) 0) e,
          )
      go ih (inr e) = omega (arith, ap (λ k. get_or next k 0) (soonest_before n e), ih (omega (arith, soonest_before n e)))

-- ---- columns one by one

-- a list as a function
abbrev pub read : List ℕ → ℕ → ℕ
read l c = get_or l c 0

pub record Wide (g : Growth) : Type 0 where
  pub up : length g.up ≡ 16
  pub next : length g.next ≡ 16

module _ (delay gap k : ℕ) (g : Growth) (w : Wide g) (l : suc k < 16) where
  s : ℕ
  s = soonest g.next (suc k)

  t : ℕ
  t = turn g.next (suc k)

  h : Growth
  h = sent_to delay gap (suc k) s t g

  halfway : length (set g.next s (t + gap)) ≡ 16
  halfway = length-set g.next s (t + gap) ∙ w.next

  wide_to : Wide h
  unfolding h
  wide_to =
      record {
        up = length-set g.up (suc k) s ∙ w.up;
        next = length-set (set g.next s (t + gap)) (suc k) _ ∙ halfway;
      }

  joins_to : (sent : ℕ → ℕ) → sent (suc k) ≡ turn g.next (suc k)
      → Joins delay gap (suc k) (read g.up) sent (read g.next) (read h.up) sent (read h.next)
  unfolding h s t
  joins_to sent at =
      let below : soonest g.next (suc k) < suc k = soonest_below g.next k in
      let half = set g.next s (t + gap) in
      record {
        sender = s;
        sender_below = below;
        least = soonest_least g.next (suc k);
        lowest = soonest_lowest g.next (suc k);
        up_old = λ c b. get_or-set_other g.up (suc k) c s 0 (λ e. omega arith);
        up_new = get_or-set_same g.up (suc k) s 0 (omega (arith, w.up));
        sent_old = λ c b. refl;
        sent_new = at;
        next_old = λ i b ne. get_or-set_other half (suc k) i _ 0 (λ e. omega arith) ∙ get_or-set_other g.next s i (t + gap) 0 ne;
        next_sender =
            get_or-set_other half (suc k) s _ 0 (λ e. omega (arith, e, below))
            ∙ get_or-set_same g.next s (t + gap) 0 (omega (arith, w.next, below));
        next_new = get_or-set_same half (suc k) (t + delay) 0 (omega (arith, halfway));
      }

  pub wide_joins : Wide (with_column delay gap (suc k) g)
  unfolding with_column h s t
  wide_joins = wide_to

  pub column_joins : (sent : ℕ → ℕ) → sent (suc k) ≡ turn g.next (suc k)
      → Joins delay gap (suc k) (read g.up) sent (read g.next) (read (with_column delay gap (suc k) g).up) sent (read (with_column delay gap (suc k) g).next)
  unfolding with_column h s t
  column_joins = joins_to

-- ---- all of them

pub zeros : (n c : ℕ) → ◌≡◌ {A = ℕ} (get_or (replicate n 0) c 0) 0
zeros zero c = refl
zeros (suc n) zero = refl
zeros (suc n) (suc c) = zeros n c

alone_sound : (delay gap : ℕ) (sent : ℕ → ℕ) → Sound delay gap 1 (read (replicate 16 0)) sent (read (replicate 16 0))
alone_sound delay gap sent =
    record {
      root_own = refl;
      before = λ c p l. absurd (omega arith);
      held = λ c p l. absurd (omega arith);
      spaced = λ b c p m l e. absurd (omega arith);
      rising = λ b c p m l. absurd (omega arith);
      ties = λ b c p m l e. absurd (omega arith);
      spent = λ c p l. absurd (omega arith);
      later = λ c i p l m. absurd (omega arith);
      tied = λ c i p l m e. absurd (omega arith);
      ready = λ i l. first i (omega arith);
      turns = λ i l. none i (omega arith);
      relays = λ c p l. absurd (omega arith);
      full = λ i time l h b. absurd (omega (arith, b, zeros 16 i));
    }
  where
    none : (i : ℕ) → i < 1 → get_or (replicate 16 0) i 0 ≡ heard 0 delay sent i + served (read (replicate 16 0)) i 1 * gap
    none zero l = omega (arith, ap (λ x. x * gap) (served_root (read (replicate 16 0)) 0))
    none (suc i) l = absurd (omega arith)

    first : (i : ℕ) → i < 1 → heard 0 delay sent i ≤ get_or (replicate 16 0) i 0
    first zero l = omega arith
    first (suc i) l = absurd (omega arith)

pub record Made (delay gap n : ℕ) : Type 0 where
  pub wide : Wide (grown delay gap n)
  pub sound : Sound delay gap (suc n) (read (grown delay gap n).up) (fastest_sent delay gap) (read (grown delay gap n).next)

pub made : (delay gap : ℕ) → 0 < delay → 0 < gap → (n : ℕ) → n < 16 → Made delay gap n
unfolding grown fastest_sent
made delay gap d e zero l = record { wide = record { up = refl; next = refl }; sound = alone_sound delay gap (fastest_sent delay gap) }
made delay gap d e (suc n) l =
    let m = made delay gap d e n (omega arith) in
    record {
      wide = wide_joins delay gap n (grown delay gap n) m.wide l;
      sound = sound_joins d e (omega arith) m.sound (column_joins delay gap n (grown delay gap n) m.wide l (fastest_sent delay gap) refl);
    }

-- ---- times stay small

set_most : (l : List ℕ) (i v bound : ℕ) → v ≤ bound → ((j : ℕ) → get_or l j 0 ≤ bound) → (j : ℕ) → get_or (set l i v) j 0 ≤ bound
set_most [] i v bound h f j = f j
set_most (x ∷ l) zero v bound h f zero = h
set_most (x ∷ l) zero v bound h f (suc j) = f (suc j)
set_most (x ∷ l) (suc i) v bound h f zero = f zero
set_most (x ∷ l) (suc i) v bound h f (suc j) = set_most l i v bound h (λ k. f (suc k)) j

pub next_most : (delay gap : ℕ) → delay ≤ 255 → gap ≤ 255 → (n i : ℕ) → get_or (grown delay gap n).next i 0 ≤ 255 * n
unfolding grown with_column
next_most delay gap d e zero i = omega (arith, zeros 16 i)
next_most delay gap d e (suc n) i =
    let g = grown delay gap n in
    let s = soonest g.next (suc n) in
    let t = turn g.next (suc n) in
    let h : t ≤ 255 * n = next_most delay gap d e n s in
    set_most (set g.next s (t + gap)) (suc n) (t + delay) (255 * suc n) (omega arith)
    (set_most g.next s (t + gap) (255 * suc n) (omega arith) (λ j. below j (next_most delay gap d e n j))) i
  where
    below : (j : ℕ) → get_or (grown delay gap n).next j 0 ≤ 255 * n → get_or (grown delay gap n).next j 0 ≤ 255 * suc n
    below j h = omega arith

-- ---- places past the columns hold 0

pub past_columns : (delay gap n c : ℕ) → n < c → get_or (grown delay gap n).up c 0 ≡ 0
unfolding grown with_column
past_columns delay gap zero c l = zeros 16 c
past_columns delay gap (suc n) c l =
    let g = grown delay gap n in
    get_or-set_other g.up (suc n) c (soonest g.next (suc n)) 0 (λ e. omega arith) ∙ past_columns delay gap n c (omega arith)

-- ---- what is not refused

pub record Allowed (columns delay gap : ℕ) : Type 0 where
  pub possible : Possible columns delay gap
  pub delay_most : delay ≤ 255
  pub gap_most : gap ≤ 255

pub allowed : (columns delay gap : ℕ) → fastest_refusal columns delay gap ≡ 0 → Allowed columns delay gap
unfolding fastest_refusal
allowed columns delay gap e =
    let p = passed (fastest_conditions columns delay gap) tt e in
    record {
      possible =
          record {
            some = omega (arith, eqb-false columns 0 p.0);
            few = ltb-false 16 columns p.1.0;
            delays = omega (arith, eqb-false delay 0 p.1.1.0);
            gaps = omega (arith, eqb-false gap 0 p.1.1.1.1.0);
          };
      delay_most = ltb-false 255 delay p.1.1.1.0;
      gap_most = ltb-false 255 gap p.1.1.1.1.1.0;
    }

pub allows : (columns delay gap : ℕ) → Allowed columns delay gap → fastest_refusal columns delay gap ≡ 0
unfolding fastest_refusal
allows columns delay gap a =
    let p = a.possible in
    passes (fastest_conditions columns delay gap) (
      ne_eqb columns 0 (λ e. omega (arith, p.some)),
      (
        le-ltb 16 columns p.few,
        (
          ne_eqb delay 0 (λ e. omega (arith, p.delays)),
          (le-ltb 255 delay a.delay_most, (ne_eqb gap 0 (λ e. omega (arith, p.gaps)), (le-ltb 255 gap a.gap_most, tt))),
        ),
      ),
    )
