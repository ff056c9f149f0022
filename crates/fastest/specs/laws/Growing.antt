-- What holds of a tree while the strategy makes it grow, and what one column more is. Assumes nothing.
use Rattle.std.specs.Prelude.{ℕ, ◌+◌, ◌*◌, ◌≤◌, ◌<◌, ◌≡◌, refl, Bool, true, false, not, ◌&&◌, eqb}
use Rattle.std.proofs.Common.{◌∙◌, arith, eq-eqb, ne_eqb}
use Rattle.fastest.specs.Schedules.{heard, sends, served}
use Rattle.fastest.specs.laws.Counts.{count_no, count_zero}

-- ---- to how many a column sends

pub served_root : (up : ℕ → ℕ) (i : ℕ) → served up i 1 ≡ 0
served_root up i = count_no (sends up i) 0 refl ∙ count_zero (sends up i)

pub sends_is : (up : ℕ → ℕ) (i c : ℕ) → 0 < c → up c ≡ i → sends up i c ≡ true
sends_is up i c l e = rw (ne_eqb c 0 (λ z. omega arith), eq-eqb (up c) i e)

pub sends_not : (up : ℕ → ℕ) (i c : ℕ) → (up c ≡ i → ⊥) → sends up i c ≡ false
sends_not up i c ne = rw (ne_eqb (up c) i ne) (go (not (eqb c 0)))
  where
    go : (b : Bool) → (b && false) ≡ false
    go true = refl
    go false = refl

-- k columns, their parents, when they are sent the message, and when each sends next
pub record Sound (delay gap k : ℕ) (up sent next : ℕ → ℕ) : Type 0 where
  pub root_own : up 0 ≡ 0
  pub before : (c : ℕ) → 0 < c → c < k → up c < c
  -- who sends has the message, and sends `gap` apart
  pub held : (c : ℕ) → 0 < c → c < k → heard 0 delay sent (up c) ≤ sent c
  pub spaced : (b c : ℕ) → 0 < b → b < c → c < k → up b ≡ up c → sent b + gap ≤ sent c
  -- numbered by arrival, ties by the sender's number
  pub rising : (b c : ℕ) → 0 < b → b < c → c < k → sent b ≤ sent c
  pub ties : (b c : ℕ) → 0 < b → b < c → c < k → sent b ≡ sent c → up b < up c
  -- what is to be sent next comes after what is sent
  pub spent : (c : ℕ) → 0 < c → c < k → sent c + gap ≤ next (up c)
  pub later : (c i : ℕ) → 0 < c → c < k → i < k → sent c ≤ next i
  pub tied : (c i : ℕ) → 0 < c → c < k → i < k → next i ≡ sent c → up c < i
  pub ready : (i : ℕ) → i < k → heard 0 delay sent i ≤ next i
  -- it sends when it has the message and every `gap` after
  pub turns : (i : ℕ) → i < k → next i ≡ heard 0 delay sent i + served up i k * gap
  pub relays : (c : ℕ) → 0 < c → c < k → sent c ≡ heard 0 delay sent (up c) + served up (up c) c * gap
  -- from when it has the message until it sends next, in each `gap` units there is a send
  pub full : (i time : ℕ) → i < k → heard 0 delay sent i ≤ time → time < next i
      → (c : ℕ) × (0 < c) × (c < k) × (up c ≡ i) × (sent c ≤ time) × (time < sent c + gap)

-- one column more: k is sent to by the first of those that send next
pub record Joins (delay gap k : ℕ) (up sent next up' sent' next' : ℕ → ℕ) : Type 0 where
  pub sender : ℕ
  pub sender_below : sender < k
  pub least : (i : ℕ) → i < k → next sender ≤ next i
  pub lowest : (i : ℕ) → i < sender → next sender < next i
  pub up_old : (c : ℕ) → c < k → up' c ≡ up c
  pub up_new : up' k ≡ sender
  pub sent_old : (c : ℕ) → c < k → sent' c ≡ sent c
  pub sent_new : sent' k ≡ next sender
  pub next_old : (i : ℕ) → i < k → (i ≡ sender → ⊥) → next' i ≡ next i
  pub next_sender : next' sender ≡ next sender + gap
  pub next_new : next' k ≡ next sender + delay
