-- "No tree and schedule that keep to D and E complete earlier", in times counted in parts of a unit neither. Assumes nothing.
use Prim.Native.Nat.{ℕ, zero, suc, ◌+◌, ◌-◌, ◌≤◌, ◌<◌, ◌*◌, ◌/◌}
use Rattle.std.specs.Prelude.{◌≡◌, refl, ◌⊎◌, leb}
use Rattle.std.proofs.Math.Path.{sym, ap, subst}
use Rattle.std.proofs.Common.{◌∙◌, arith, le-div_iff_mul-le, div-mul-le_self, le-leb, eq-eqb, ne_eqb}
use Rattle.std.proofs.Math.Logic.{inl, inr}
use Rattle.std.proofs.Math.Nat.{add-mul-div_right, div-eq_of_lt}
use Rattle.std.proofs.lemmas.Bool.{lt-leb}
use Rattle.column.specs.laws.Cases.{compare_cases, equal_cases}
use Rattle.column.specs.Trees.{parent, climb, IsTree, tree_refusal}
use Rattle.column.specs.laws.TreeLaws.{check_exact}
use Rattle.column.specs.laws.SequenceLaws.{ascending_at}
use Rattle.column.specs.declared.tree.Tree.{Tree}
use Rattle.fastest.specs.laws.Counts.{count_all, count_missing}
use Rattle.fastest.specs.laws.Timing.{arrived_by, Timed, at_first, at_most, Busy, at_least_one, at_least, heard_other, schedule_timed}
use Rattle.fastest.specs.Schedules.{heard, arrival, Keeps, CompleteBy, Follows}
use Rattle.fastest.specs.Strategy.{grown, fastest_tree, fastest_sent}
use Rattle.fastest.specs.Fastest.{fastest_arrival, completion, ForEvery, IsScheduled, NoneEarlier, NoneEarlierInParts}
use Rattle.fastest.specs.laws.Growing.{Sound}
use Rattle.fastest.specs.laws.StrategyLaws.{read, made}

-- ---- one that lets no slot pass is ahead of every other

module _ {delay gap n last k : ℕ} {parent arrival parent' arrival' : ℕ → ℕ} (d : 0 < delay) (e : 0 < gap)
    (timed : Timed delay gap n parent arrival) (busy : Busy delay gap k last parent' arrival') where
  ahead_below : (bound time : ℕ) → time < bound → time < last → arrived_by arrival n time ≤ arrived_by arrival' k time
  ahead_below zero time l m = absurd (omega arith)
  ahead_below (suc bound) time l m = go (ahead_below bound) (compare_cases time delay)
    where
      go : ((time : ℕ) → time < bound → time < last → arrived_by arrival n time ≤ arrived_by arrival' k time)
          → (time < delay) ⊎ ((time ≡ delay) ⊎ (delay < time)) → arrived_by arrival n time ≤ arrived_by arrival' k time
      go ih (inl h) = omega (arith, at_first timed time h, at_least_one busy time)
      go ih (inr h) =
          let i = ih (time - delay) (omega (arith, reached h)) (omega arith) in
          let j = ih (time - gap) (omega (arith, reached h)) (omega arith) in
          omega (arith, i, j, at_most timed time (reached h), at_least busy time (reached h) m)
        where
          reached : (time ≡ delay) ⊎ (delay < time) → delay ≤ time
          reached (inl x) = omega arith
          reached (inr x) = omega arith

  pub ahead : (time : ℕ) → time < last → arrived_by arrival n time ≤ arrived_by arrival' k time
  ahead time m = ahead_below (suc time) time (omega arith) m

-- ---- the strategy's

module _ (columns delay gap : ℕ) (d : 0 < delay) (e : 0 < gap) (some : 0 < columns) (few : columns ≤ 16) where
  tree : Tree
  tree = fastest_tree columns delay gap

  sent : ℕ → ℕ
  sent = fastest_sent delay gap

  sound : Sound delay gap columns (parent tree) sent (read (grown delay gap (columns - 1)).next)
  unfolding tree sent
  sound =
      subst (λ n. Sound delay gap n (read (grown delay gap (columns - 1)).up) (fastest_sent delay gap) (read (grown delay gap (columns - 1)).next))
      (omega arith) (made delay gap d e (columns - 1) (omega arith)).sound

  climbs : (c : ℕ) → c < columns → (bound : ℕ) → c < bound → (k : ℕ) × (climb tree k c ≡ 0)
  unfolding climb tree
  climbs c l zero b = absurd (omega arith)
  climbs c l (suc bound) b = go (equal_cases c 0) (λ p m. climbs (parent tree c) p bound m)
    where
      go : (c ≡ 0) ⊎ (c ≡ 0 → ⊥)
          → (parent tree c < columns → parent tree c < bound → (k : ℕ) × (climb tree k (parent tree c) ≡ 0)) → (k : ℕ) × (climb tree k c ≡ 0)
      go (inl z) ih = (0, z)
      go (inr nz) ih =
          let lower = sound.before c (omega arith) l in
          let r = ih (omega (arith, lower)) (omega (arith, lower)) in
          (suc r.0, r.1)

  fastest_tree_lem : IsTree (fastest_tree columns delay gap)
  unfolding tree
  fastest_tree_lem =
      record {
        some = some;
        sixteen = few;
        root_below = some;
        parent_below = λ c l. below c l (equal_cases c 0);
        root_own = sound.root_own;
        climbs = λ c l. climbs c l (suc c) (omega arith);
        listed = λ c l. (c, l, ascending_at c (omega arith));
        listed_once = λ k m l h e. sym (ascending_at k (omega arith)) ∙ e ∙ ascending_at m (omega arith);
        listed_below = λ k l. omega (arith, ascending_at k (omega arith));
      }
    where
      below : (c : ℕ) → c < columns → (c ≡ 0) ⊎ (c ≡ 0 → ⊥) → parent (fastest_tree columns delay gap) c < columns
      below c l (inl z) = omega (arith, ap (parent (fastest_tree columns delay gap)) z, sound.root_own, some)
      below c l (inr nz) = omega (arith, sound.before c (omega arith) l)

  fastest_keeps : Keeps delay gap (fastest_tree columns delay gap) (fastest_sent delay gap)
  unfolding tree sent
  fastest_keeps =
      record {
        held = λ c l ne. sound.held c (omega arith) l;
        apart = λ b c l m p q ne f. go b c l m (omega arith) (omega arith) f (compare_cases b c) ne;
      }
    where
      go : (b c : ℕ) → b < columns → c < columns → 0 < b → 0 < c → parent tree b ≡ parent tree c → (b < c) ⊎ ((b ≡ c) ⊎ (c < b)) → (b ≡ c → ⊥)
          → (sent b + gap ≤ sent c) ⊎ (sent c + gap ≤ sent b)
      go b c l m p q f (inl h) ne = inl (sound.spaced b c p h m f)
      go b c l m p q f (inr (inl h)) ne = absurd (ne h)
      go b c l m p q f (inr (inr h)) ne = inr (sound.spaced c b q h l (sym f))

  fastest_follows : Follows delay gap (fastest_tree columns delay gap) (fastest_sent delay gap)
  unfolding tree sent
  fastest_follows =
      record {
        root_first = refl;
        relays = sound.relays;
        numbered = sound.rising;
        ties = sound.ties;
        unused = λ c i p l m. omega (arith, sound.later c i p l m, sound.turns i m);
        unused_ties = λ c i p l m e. sound.tied c i p l m (sound.turns i m ∙ e);
      }

  pub fastest_timed : Timed delay gap columns (parent (fastest_tree columns delay gap)) (fastest_arrival columns delay gap)
  fastest_timed = schedule_timed delay gap (fastest_tree columns delay gap) (fastest_sent delay gap) fastest_tree_lem fastest_keeps

  fastest_rises : (b c : ℕ) → b ≤ c → c < columns → fastest_arrival columns delay gap b ≤ fastest_arrival columns delay gap c
  unfolding tree sent
  fastest_rises b c l m = go (compare_cases b c) (equal_cases b 0)
    where
      go : (b < c) ⊎ ((b ≡ c) ⊎ (c < b)) → (b ≡ 0) ⊎ (b ≡ 0 → ⊥) → heard 0 delay sent b ≤ heard 0 delay sent c
      go (inl h) (inl z) = omega (arith, ap (heard 0 delay sent) z)
      go (inl h) (inr nz) =
          omega (arith, heard_other 0 delay sent b nz, heard_other 0 delay sent c (λ z. omega (arith, z, h)), sound.rising b c (omega arith) h m)
      go (inr (inl h)) z = omega (arith, ap (heard 0 delay sent) h)
      go (inr (inr h)) z = absurd (omega arith)

  fastest_completes : CompleteBy delay (fastest_tree columns delay gap) (fastest_sent delay gap) (completion columns delay gap)
  fastest_completes c l = fastest_rises c (columns - 1) (omega arith) (omega arith)

  pub fastest_busy : Busy delay gap columns (completion columns delay gap) (parent (fastest_tree columns delay gap)) (fastest_arrival columns delay gap)
  unfolding tree sent
  fastest_busy = record { some = some; first = refl; sends = sends }
    where
      sends : (i time : ℕ) → i < columns → heard 0 delay sent i + delay ≤ time → time < heard 0 delay sent (columns - 1)
          → (c : ℕ) × (c < columns) × (parent tree c ≡ i) × (heard 0 delay sent c ≤ time) × (time < heard 0 delay sent c + gap) × (0 < heard 0 delay sent c)
      sends i time l h b = go (equal_cases (columns - 1) 0)
        where
          go : (columns - 1 ≡ 0) ⊎ (columns - 1 ≡ 0 → ⊥)
              → (c : ℕ) × (c < columns) × (parent tree c ≡ i) × (heard 0 delay sent c ≤ time) × (time < heard 0 delay sent c + gap) × (0 < heard 0 delay sent c)
          go (inl z) = absurd (omega (arith, b, ap (heard 0 delay sent) z))
          go (inr nz) =
              let end = heard_other 0 delay sent (columns - 1) nz in
              let r =
              sound.full i (time - delay) l (omega arith)
              (omega (arith, b, end, sound.later (columns - 1) i (omega arith) (omega arith) l)) in
              let own = heard_other 0 delay sent r.0 (λ z. omega (arith, z, r.1)) in
              (r.0, r.2, r.3, omega (arith, own, r.4, h), omega (arith, own, r.5, h), omega (arith, own))

  earliest : (t : Tree) (when : ℕ → ℕ) (time : ℕ) → IsTree t → t.columns ≡ columns → Keeps delay gap t when → CompleteBy delay t when time
      → completion columns delay gap ≤ time
  earliest t when time is same keeps complete = go (compare_cases time (completion columns delay gap))
    where
      go : (time < completion columns delay gap) ⊎ ((time ≡ completion columns delay gap) ⊎ (completion columns delay gap < time))
          → completion columns delay gap ≤ time
      go (inr (inl h)) = omega arith
      go (inr (inr h)) = omega arith
      go (inl h) =
          let arrived = fastest_arrival columns delay gap in
          let all : arrived_by (arrival delay t when) t.columns time ≡ t.columns =
          count_all (λ c. leb (arrival delay t when c) time) t.columns (λ c l. le-leb (arrival delay t when c) time (complete c l)) in
          let most : arrived_by (arrival delay t when) t.columns time ≤ arrived_by arrived columns time =
          ahead d e (schedule_timed delay gap t when is keeps) fastest_busy time h in
          let some_missing : arrived_by arrived columns time < columns =
          count_missing (λ c. leb (arrived c) time) columns (columns - 1) (omega arith) (lt-leb (arrived (columns - 1)) time h) in
          absurd (omega (arith, all, most, some_missing, same))

-- ---- what is stated

pub is_scheduled : IsScheduled
unfolding tree sent
is_scheduled columns delay gap p =
    let s = sound columns delay gap p.delays p.gaps p.some p.few in
    record {
      is_tree = fastest_tree_lem columns delay gap p.delays p.gaps p.some p.few;
      keeps = fastest_keeps columns delay gap p.delays p.gaps p.some p.few;
      completes = fastest_completes columns delay gap p.delays p.gaps p.some p.few;
      follows = fastest_follows columns delay gap p.delays p.gaps p.some p.few;
      ascends = s.spaced;
    }

pub none_earlier : NoneEarlier
none_earlier columns delay gap p = earliest columns delay gap p.delays p.gaps p.some p.few

-- every call that is given the tree takes it
pub fastest_passes : ForEvery (λ columns delay gap. tree_refusal (fastest_tree columns delay gap) ≡ 0)
fastest_passes columns delay gap p = (check_exact (fastest_tree columns delay gap)).1 (is_scheduled columns delay gap p).is_tree

module _ (parts : ℕ) (p : 0 < parts) where
  whole_le : (a b : ℕ) → a ≤ b → a / parts ≤ b / parts
  whole_le a b l = (le-div_iff_mul-le p).1 (omega (arith, div-mul-le_self a parts, l))

  whole_later : (a b x : ℕ) → a + x * parts ≤ b → a / parts + x ≤ b / parts
  whole_later a b x l = omega (arith, whole_le (a + x * parts) b l, add-mul-div_right a x p)

  module _ (delay gap : ℕ) (t : Tree) (when : ℕ → ℕ) where
    whole_arrival : (c : ℕ) → arrival delay t (λ c. when c / parts) c ≡ arrival (delay * parts) t when c / parts
    whole_arrival c = go (equal_cases c t.root)
      where
        go : (c ≡ t.root) ⊎ (c ≡ t.root → ⊥) → arrival delay t (λ c. when c / parts) c ≡ arrival (delay * parts) t when c / parts
        go (inl e) = rw (eq-eqb c t.root e) (sym (div-eq_of_lt p))
        go (inr ne) = rw (ne_eqb c t.root ne) (sym (add-mul-div_right (when c) delay p))

    whole_keeps : Keeps (delay * parts) (gap * parts) t when → Keeps delay gap t (λ c. when c / parts)
    whole_keeps k =
        record {
          held = λ c l ne. omega (arith, whole_arrival (parent t c), whole_le (arrival (delay * parts) t when (parent t c)) (when c) (k.held c l ne));
          apart = λ b c l m x y ne e. go b c (k.apart b c l m x y ne e);
        }
      where
        go : (b c : ℕ) → (when b + gap * parts ≤ when c) ⊎ (when c + gap * parts ≤ when b)
            → (when b / parts + gap ≤ when c / parts) ⊎ (when c / parts + gap ≤ when b / parts)
        go b c (inl h) = inl (whole_later (when b) (when c) gap h)
        go b c (inr h) = inr (whole_later (when c) (when b) gap h)

pub none_earlier_in_parts : NoneEarlierInParts
none_earlier_in_parts columns delay gap p parts some t sent time is same keeps complete =
    (le-div_iff_mul-le some).0
    (none_earlier columns delay gap p t (λ c. sent c / parts) (time / parts) is same (whole_keeps parts some delay gap t sent keeps)
    (λ c l.
    omega (arith, whole_arrival parts some delay gap t sent c, whole_le parts some (arrival (delay * parts) t sent c) time (complete c l))))
