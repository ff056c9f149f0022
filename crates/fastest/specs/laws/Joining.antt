-- What holds of a growing tree holds with one column more. Assumes nothing.
use Rattle.std.specs.Prelude.{ℕ, suc, ◌+◌, ◌*◌, ◌≤◌, ◌<◌, ◌≡◌, not, ◌&&◌, cond, false, ◌⊎◌, eqb}
use Rattle.std.proofs.Common.{sym, ap, subst, ◌∙◌, inl, inr, arith, eq-eqb}
use Rattle.column.specs.laws.Cases.{compare_cases, equal_cases}
use Rattle.fastest.specs.laws.Counts.{count_yes, count_no, count_none, count_same}
use Rattle.fastest.specs.Schedules.{heard, sends, served}
use Rattle.fastest.specs.laws.Timing.{heard_other}
use Rattle.fastest.specs.laws.Growing.{sends_is, sends_not, Sound, Joins}

last_cases : (c k : ℕ) → c < suc k → (c < k) ⊎ (k ≡ c)
last_cases c k l = go (equal_cases k c)
  where
    go : (k ≡ c) ⊎ (k ≡ c → ⊥) → (c < k) ⊎ (k ≡ c)
    go (inl e) = inr e
    go (inr ne) = inl (omega arith)

module _ {delay gap k : ℕ} {up sent next up' sent' next' : ℕ → ℕ} (d : 0 < delay) (e : 0 < gap) (some : 0 < k)
    (s : Sound delay gap k up sent next) (j : Joins delay gap k up sent next up' sent' next') where
  heard_old : (c : ℕ) → c < k → heard 0 delay sent' c ≡ heard 0 delay sent c
  heard_old c l = ap (λ x. cond (eqb c 0) 0 (x + delay)) (j.sent_old c l)

  heard_new : heard 0 delay sent' k ≡ next j.sender + delay
  heard_new = heard_other 0 delay sent' k (λ z. omega (arith, z, some)) ∙ ap (λ x. x + delay) j.sent_new

  next_more : (i : ℕ) → i < k → next i ≤ next' i
  next_more i l = go (equal_cases i j.sender)
    where
      go : (i ≡ j.sender) ⊎ (i ≡ j.sender → ⊥) → next i ≤ next' i
      go (inl p) = omega (arith, ap next p, ap next' p, j.next_sender)
      go (inr ne) = omega (arith, j.next_old i l ne)

  before' : (c : ℕ) → 0 < c → c < suc k → up' c < c
  before' c p l = go (last_cases c k l)
    where
      go : (c < k) ⊎ (k ≡ c) → up' c < c
      go (inl m) = omega (arith, j.up_old c m, s.before c p m)
      go (inr q) = subst (λ c. up' c < c) q (omega (arith, j.up_new, j.sender_below))

  held' : (c : ℕ) → 0 < c → c < suc k → heard 0 delay sent' (up' c) ≤ sent' c
  held' c p l = go (last_cases c k l)
    where
      new : heard 0 delay sent' (up' k) ≤ sent' k
      new =
          omega (arith, ap (heard 0 delay sent') j.up_new, heard_old j.sender j.sender_below, s.ready j.sender j.sender_below, j.sent_new)

      go : (c < k) ⊎ (k ≡ c) → heard 0 delay sent' (up' c) ≤ sent' c
      go (inl m) =
          omega
          (arith, ap (heard 0 delay sent') (j.up_old c m), heard_old (up c) (omega (arith, s.before c p m)), s.held c p m, j.sent_old c m)
      go (inr q) = subst (λ c. heard 0 delay sent' (up' c) ≤ sent' c) q new

  spaced' : (b c : ℕ) → 0 < b → b < c → c < suc k → up' b ≡ up' c → sent' b + gap ≤ sent' c
  spaced' b c p m l f = go (last_cases c k l)
    where
      go : (c < k) ⊎ (k ≡ c) → sent' b + gap ≤ sent' c
      go (inl n) =
          omega (
            arith,
            j.sent_old b (omega arith),
            j.sent_old c n,
            s.spaced b c p m n (sym (j.up_old b (omega arith)) ∙ f ∙ j.up_old c n),
          )
      go (inr q) =
          let same : up b ≡ j.sender = sym (j.up_old b (omega arith)) ∙ f ∙ ap up' (sym q) ∙ j.up_new in
          omega (arith, j.sent_old b (omega arith), ap sent' q, j.sent_new, s.spent b p (omega arith), ap next same)

  rising' : (b c : ℕ) → 0 < b → b < c → c < suc k → sent' b ≤ sent' c
  rising' b c p m l = go (last_cases c k l)
    where
      go : (c < k) ⊎ (k ≡ c) → sent' b ≤ sent' c
      go (inl n) = omega (arith, j.sent_old b (omega arith), j.sent_old c n, s.rising b c p m n)
      go (inr q) =
          omega (arith, j.sent_old b (omega arith), ap sent' q, j.sent_new, s.later b j.sender p (omega arith) j.sender_below)

  ties' : (b c : ℕ) → 0 < b → b < c → c < suc k → sent' b ≡ sent' c → up' b < up' c
  ties' b c p m l f = go (last_cases c k l)
    where
      go : (c < k) ⊎ (k ≡ c) → up' b < up' c
      go (inl n) =
          omega (
            arith,
            j.up_old b (omega arith),
            j.up_old c n,
            s.ties b c p m n (sym (j.sent_old b (omega arith)) ∙ f ∙ j.sent_old c n),
          )
      go (inr q) =
          let same : next j.sender ≡ sent b = sym j.sent_new ∙ ap sent' q ∙ sym f ∙ j.sent_old b (omega arith) in
          omega (arith, j.up_old b (omega arith), ap up' q, j.up_new, s.tied b j.sender p (omega arith) j.sender_below same)

  spent' : (c : ℕ) → 0 < c → c < suc k → sent' c + gap ≤ next' (up' c)
  spent' c p l = go (last_cases c k l)
    where
      go : (c < k) ⊎ (k ≡ c) → sent' c + gap ≤ next' (up' c)
      go (inl m) =
          omega
          (arith, j.sent_old c m, ap next' (j.up_old c m), s.spent c p m, next_more (up c) (omega (arith, s.before c p m)))
      go (inr q) = subst (λ c. sent' c + gap ≤ next' (up' c)) q (omega (arith, j.sent_new, ap next' j.up_new, j.next_sender))

  -- all that is sent next is at the new send or after it
  next_later : (i : ℕ) → i < suc k → next j.sender ≤ next' i
  next_later i l = go (last_cases i k l)
    where
      go : (i < k) ⊎ (k ≡ i) → next j.sender ≤ next' i
      go (inl m) = omega (arith, j.least i m, next_more i m)
      go (inr q) = omega (arith, ap next' q, j.next_new)

  later' : (c i : ℕ) → 0 < c → c < suc k → i < suc k → sent' c ≤ next' i
  later' c i p l m = go (last_cases c k l)
    where
      go : (c < k) ⊎ (k ≡ c) → sent' c ≤ next' i
      go (inl n) = omega (arith, j.sent_old c n, s.later c j.sender p n j.sender_below, next_later i m)
      go (inr q) = omega (arith, ap sent' q, j.sent_new, next_later i m)

  -- of those that send next, only the ones that did before can be as early as the new send
  tied_old : (i : ℕ) → i < suc k → next' i ≤ next j.sender → (i < k) × (i ≡ j.sender → ⊥) × (next' i ≡ next i)
  tied_old i l h = go (last_cases i k l)
    where
      go : (i < k) ⊎ (k ≡ i) → (i < k) × (i ≡ j.sender → ⊥) × (next' i ≡ next i)
      go (inl m) =
          let ne : i ≡ j.sender → ⊥ = λ q. omega (arith, h, ap next' q, j.next_sender) in
          (m, ne, j.next_old i m ne)
      go (inr q) = absurd (omega (arith, h, ap next' q, j.next_new))

  tied' : (c i : ℕ) → 0 < c → c < suc k → i < suc k → next' i ≡ sent' c → up' c < i
  tied' c i p l m f = go (last_cases c k l)
    where
      go : (c < k) ⊎ (k ≡ c) → up' c < i
      go (inl n) =
          let o = tied_old i m (omega (arith, f, j.sent_old c n, s.later c j.sender p n j.sender_below)) in
          omega (arith, j.up_old c n, s.tied c i p n o.0 (sym o.2 ∙ f ∙ j.sent_old c n))
      go (inr q) =
          let same : next' i ≡ next j.sender = f ∙ ap sent' (sym q) ∙ j.sent_new in
          let o = tied_old i m (omega (arith, same)) in
          past o.1 (sym o.2 ∙ same) (compare_cases i j.sender)
        where
          past : (i ≡ j.sender → ⊥) → next i ≡ next j.sender → (i < j.sender) ⊎ ((i ≡ j.sender) ⊎ (j.sender < i)) → up' c < i
          past ne g (inl n) = absurd (omega (arith, g, j.lowest i n))
          past ne g (inr (inl n)) = absurd (ne n)
          past ne g (inr (inr n)) = omega (arith, n, ap up' q, j.up_new)

  ready' : (i : ℕ) → i < suc k → heard 0 delay sent' i ≤ next' i
  ready' i l = go (last_cases i k l)
    where
      go : (i < k) ⊎ (k ≡ i) → heard 0 delay sent' i ≤ next' i
      go (inl m) = omega (arith, heard_old i m, s.ready i m, next_more i m)
      go (inr q) = subst (λ i. heard 0 delay sent' i ≤ next' i) q (omega (arith, heard_new, j.next_new))

  served_old : (i c : ℕ) → c ≤ k → served up' i c ≡ served up i c
  served_old i c l =
      count_same (sends up' i) (sends up i) c (λ b m. ap (λ x. not (eqb b 0) && eqb x i) (j.up_old b (omega arith)))

  turns' : (i : ℕ) → i < suc k → next' i ≡ heard 0 delay sent' i + served up' i (suc k) * gap
  turns' i l = go (last_cases i k l)
    where
      none : served up' k (suc k) ≡ 0
      none = count_none (sends up' k) (suc k) (λ b m. other b m (equal_cases b 0))
        where
          other : (b : ℕ) → b < suc k → (b ≡ 0) ⊎ (b ≡ 0 → ⊥) → sends up' k b ≡ false
          other b m (inl z) = ap (λ x. not x && eqb (up' b) k) (eq-eqb b 0 z)
          other b m (inr nz) = sends_not up' k b (λ f. omega (arith, f, before' b (omega arith) m))

      at : i < k → (i ≡ j.sender) ⊎ (i ≡ j.sender → ⊥) → next' i ≡ heard 0 delay sent' i + served up' i (suc k) * gap
      at m (inl q) =
          let one : served up' i (suc k) ≡ suc (served up i k) = count_yes (sends up' i) k (sends_is up' i k some (j.up_new ∙ sym q)) ∙ ap suc (served_old i k (omega arith)) in
          let all : served up' i (suc k) * gap ≡ served up i k * gap + gap = ap (λ x. x * gap) one ∙ omega arith in
          omega (arith, ap next' q, ap next q, j.next_sender, heard_old i m, s.turns i m, all)
      at m (inr ne) =
          let same : served up' i (suc k) ≡ served up i k =
          count_no (sends up' i) k (sends_not up' i k (λ f. ne (sym f ∙ j.up_new))) ∙ served_old i k (omega arith) in
          let all : served up' i (suc k) * gap ≡ served up i k * gap = ap (λ x. x * gap) same in
          omega (arith, j.next_old i m ne, heard_old i m, s.turns i m, all)

      go : (i < k) ⊎ (k ≡ i) → next' i ≡ heard 0 delay sent' i + served up' i (suc k) * gap
      go (inl m) = at m (equal_cases i j.sender)
      go (inr q) =
          subst (λ i. next' i ≡ heard 0 delay sent' i + served up' i (suc k) * gap) q
          (omega (arith, j.next_new, heard_new, ap (λ x. x * gap) none))

  relays' : (c : ℕ) → 0 < c → c < suc k → sent' c ≡ heard 0 delay sent' (up' c) + served up' (up' c) c * gap
  relays' c p l = go (last_cases c k l)
    where
      new : sent' k ≡ heard 0 delay sent' (up' k) + served up' (up' k) k * gap
      new =
          let by : served up' (up' k) k * gap ≡ served up j.sender k * gap =
          ap (λ x. served up' x k * gap) j.up_new ∙ ap (λ x. x * gap) (served_old j.sender k (omega arith)) in
          omega
          (arith, j.sent_new, ap (heard 0 delay sent') j.up_new, heard_old j.sender j.sender_below, by, s.turns j.sender j.sender_below)

      go : (c < k) ⊎ (k ≡ c) → sent' c ≡ heard 0 delay sent' (up' c) + served up' (up' c) c * gap
      go (inl m) =
          let by : served up' (up' c) c * gap ≡ served up (up c) c * gap =
          ap (λ x. served up' x c * gap) (j.up_old c m) ∙ ap (λ x. x * gap) (served_old (up c) c (omega arith)) in
          omega
          (arith, j.sent_old c m, ap (heard 0 delay sent') (j.up_old c m), heard_old (up c) (omega (arith, s.before c p m)), by, s.relays c p m)
      go (inr q) = subst (λ c. sent' c ≡ heard 0 delay sent' (up' c) + served up' (up' c) c * gap) q new

  full' : (i time : ℕ) → i < suc k → heard 0 delay sent' i ≤ time → time < next' i
      → (c : ℕ) × (0 < c) × (c < suc k) × (up' c ≡ i) × (sent' c ≤ time) × (time < sent' c + gap)
  full' i time l h b = go (last_cases i k l)
    where
      Sends : Type 0
      Sends = (c : ℕ) × (0 < c) × (c < suc k) × (up' c ≡ i) × (sent' c ≤ time) × (time < sent' c + gap)

      old : i < k → time < next i → Sends
      old m q =
          let r = s.full i time m (omega (arith, h, heard_old i m)) q in (
            r.0,
            r.1,
            omega (arith, r.2),
            j.up_old r.0 r.2 ∙ r.3,
            omega (arith, j.sent_old r.0 r.2, r.4),
            omega (arith, j.sent_old r.0 r.2, r.5),
          )

      old_or_new : i < k → (time < next i) ⊎ ((time ≡ next i) ⊎ (next i < time)) → (i ≡ j.sender) ⊎ (i ≡ j.sender → ⊥) → Sends
      old_or_new m (inl q) w = old m q
      old_or_new m (inr q) (inr ne) = absurd (past q)
        where
          past : (time ≡ next i) ⊎ (next i < time) → ⊥
          past (inl x) = omega (arith, b, j.next_old i m ne, x)
          past (inr x) = omega (arith, b, j.next_old i m ne, x)
      old_or_new m (inr q) (inl w) = (
        k,
        some,
        omega arith,
        j.up_new ∙ sym w,
        omega (arith, j.sent_new, reached q, ap next w),
        omega (arith, j.sent_new, b, ap next' w, j.next_sender),
      )
        where
          reached : (time ≡ next i) ⊎ (next i < time) → next i ≤ time
          reached (inl x) = omega arith
          reached (inr x) = omega arith

      go : (i < k) ⊎ (k ≡ i) → Sends
      go (inl m) = old_or_new m (compare_cases time (next i)) (equal_cases i j.sender)
      go (inr q) = absurd (omega (arith, h, b, ap (heard 0 delay sent') q, heard_new, ap next' q, j.next_new))

  pub sound_joins : Sound delay gap (suc k) up' sent' next'
  sound_joins =
      record {
        root_own = j.up_old 0 some ∙ s.root_own;
        before = before';
        held = held';
        spaced = spaced';
        rising = rising';
        ties = ties';
        spent = spent';
        later = later';
        tied = tied';
        ready = ready';
        turns = turns';
        relays = relays';
        full = full';
      }
