-- A turn is refused where every step that it offers is, and the take of the oldest packet; so it is at rest, and only there where no
-- packet is under way. A valid bank takes its packets, unless its network is full. Assumes nothing.
use Prim.Native.Nat.{ℕ, zero, suc, ◌<◌}
use Rattle.std.specs.Prelude.{◌≡◌, ◌⊎◌, Bool, not, ◌||◌, cond, eqb, leb}
use Rattle.std.proofs.Math.Path.{refl, sym, ap, ap₂}
use Rattle.std.proofs.Common.{◌∙◌, true≢false, arith}
use Rattle.std.proofs.Math.Logic.{inl, inr, ⊎_elim}
use Rattle.std.proofs.Math.Bool.{true, false, ◌&&◌, and-true, and-false, and_assoc}
use mathlib.Core.List.{List, [], ◌∷◌, ◌++◌}
use borrow.Author.Tests.{eq-eqb, ne_eqb, eqb-true, lt-leb, le-leb}
use Rattle.column.specs.laws.Cases.{truth, and_left, and_right}
use Rattle.column.specs.Refusals.{first}
use Rattle.column.specs.laws.RefusalLaws.{passed, earlier_none}
use Rattle.column.specs.Trees.{every}
use Rattle.column.specs.Packets.{receiver}
use Rattle.column.specs.laws.StateLaws.{acceptable}
use Rattle.column.specs.Steps as core
use Rattle.column.specs.declared.packet.Packet.{Packet}
use Rattle.bank.specs.Banks.{State, column_at, runs, places, packet_at, capacity, bank_refusal}
use Rattle.bank.specs.laws.ValidityLaws.{Valid, valid_passes}
use Rattle.bank.specs.Steps.{take_refusal, take, send, ack, all, note}
use Rattle.bank.specs.Performs.{perform}
use Rattle.bank.specs.Rest.{is_refused, quiet, is_at_rest}
use Rattle.bank.proofs.laws.RestSteps.{refused_exactly}
use Rattle.bank.specs.Exact.{raised, overfull}
use Rattle.bank.specs.Dispatch.{offers, offered, first_accepted, turn}
use Rattle.bank.specs.StepKinds.{is_take}
use Rattle.bank.specs.inner.Moves.{place_in}
use Rattle.bank.specs.laws.Kinds.{take_is}
use Rattle.bank.specs.declared.bank.Step.{Step}
use Rattle.bank.specs.declared.bank.Step.TheVariants.{Send, Take, Ack, All, Note}

-- ---- a turn that is refused

module _ (s : State) where
  abbrev n : ℕ
  n = s.bank.tree.columns

  unfoldable all_refused : List Step → Bool
  all_refused [] = true
  all_refused (x ∷ xs) = is_refused (perform s x) && all_refused xs

  first_refused : (xs : List Step) (other : Step) → is_refused (perform s (first_accepted s xs other)) ≡ (all_refused xs && is_refused (perform s other))
  unfolding first_accepted all_refused
  first_refused [] other = refl
  first_refused (x ∷ xs) other = go (is_refused (perform s x)) refl (first_refused xs other)
    where
      go : (b : Bool) → is_refused (perform s x) ≡ b → is_refused (perform s (first_accepted s xs other)) ≡ (all_refused xs && is_refused (perform s other))
          → is_refused (perform s (cond b (first_accepted s xs other) x)) ≡ ((b && all_refused xs) && is_refused (perform s other))
      go true e h = h
      go false e h = e

  all_append : (xs ys : List Step) → all_refused (xs ++ ys) ≡ (all_refused xs && all_refused ys)
  unfolding all_refused
  all_append [] ys = refl
  all_append (x ∷ xs) ys =
      ap (λ (b : Bool). is_refused (perform s x) && b) (all_append xs ys) ∙ sym (and_assoc (is_refused (perform s x)) (all_refused xs) (all_refused ys))

  all_notes : (i k : ℕ) → all_refused (places (λ j. Note i j) k) ≡ every (λ j. is_refused (note s i j)) k
  unfolding places every all_refused perform
  all_notes i zero = refl
  all_notes i (suc k) = all_append (places (λ j. Note i j) k) (Note i k ∷ []) ∙ ap₂ ◌&&◌ (all_notes i k) (and-true (is_refused (note s i k)))

  all_offers : (i : ℕ) → all_refused (offers n i) ≡ quiet s i
  unfolding all_refused perform
  all_offers i = all_append (places (λ j. Note i j) n) (Send i ∷ Ack i ∷ All i ∷ []) ∙ ap (λ (b : Bool). b && all_refused (Send i ∷ Ack i ∷ All i ∷ [])) (all_notes i n)
      ∙ last (every (λ j. is_refused (note s i j)) n) (is_refused (send s i)) (is_refused (ack s i)) (is_refused (all s i))
    where
      last : (x a b c : Bool) → (x && (a && (b && (c && true)))) ≡ (a && (b && (c && x)))
      last x true true true = and-true x
      last true true true false = refl
      last false true true false = refl
      last true true false c = refl
      last false true false c = refl
      last true false b c = refl
      last false false b c = refl

  abbrev quiet_or_halted : ℕ → Bool
  quiet_or_halted i = not (runs s.bank i) || quiet s i

  all_offered : (k : ℕ) → all_refused (offered s k) ≡ every quiet_or_halted k
  unfolding offered every all_refused
  all_offered zero = refl
  all_offered (suc k) = all_append (offered s k) _ ∙ ap₂ ◌&&◌ (all_offered k) (go (runs s.bank k))
    where
      go : (b : Bool) → all_refused (cond b (offers n k) []) ≡ (not b || quiet s k)
      go true = all_offers k
      go false = refl

  pub turn_refused : is_refused (perform s (turn s)) ≡ (every quiet_or_halted n && is_refused (take s 0))
  unfolding turn perform
  turn_refused = first_refused (offered s n) (Take 0) ∙ ap (λ (b : Bool). b && is_refused (take s 0)) (all_offered n)

  -- row 10: "take at a place not below the packet count"
  none_taken : s.bank.count ≡ 0 → (place : ℕ) → is_refused (take s place) ≡ true
  none_taken e place = rw (ne_eqb (take_refusal s place) 0 (λ z.
      let p = passed ((10, leb s.bank.count place) ∷ []) tt (earlier_none (bank_refusal s) (first ((10, leb s.bank.count place) ∷ [])) z).1 in
      true≢false (sym (le-leb s.bank.count place (omega (arith, e))) ∙ p.0))) refl

  pub rest_stops : is_at_rest s ≡ true → is_refused (perform s (turn s)) ≡ true
  unfolding is_at_rest
  rest_stops e = turn_refused
      ∙ ap₂ ◌&&◌ (and_right (eqb s.bank.count 0) _ e) (none_taken (eqb-true s.bank.count 0 (and_left (eqb s.bank.count 0) _ e)) 0)

  pub stops_rest : s.bank.count ≡ 0 → is_refused (perform s (turn s)) ≡ true → is_at_rest s ≡ true
  unfolding is_at_rest
  stops_rest z e = ap₂ ◌&&◌ (eq-eqb s.bank.count 0 z) (and_left (every quiet_or_halted n) _ (sym turn_refused ∙ e))

  pub stops_taken : is_refused (perform s (turn s)) ≡ true → is_refused (take s 0) ≡ true
  stops_taken e = and_right (every quiet_or_halted n) _ (sym turn_refused ∙ e)

  -- a turn's step is the other one, or is accepted
  first_taken : (xs : List Step) (other : Step) → (first_accepted s xs other ≡ other) ⊎ (is_refused (perform s (first_accepted s xs other)) ≡ false)
  unfolding first_accepted
  first_taken [] other = inl refl
  first_taken (x ∷ xs) other = go (is_refused (perform s x)) refl (first_taken xs other)
    where
      go : (b : Bool) → is_refused (perform s x) ≡ b
          → (first_accepted s xs other ≡ other) ⊎ (is_refused (perform s (first_accepted s xs other)) ≡ false)
          → (cond b (first_accepted s xs other) x ≡ other) ⊎ (is_refused (perform s (cond b (first_accepted s xs other) x)) ≡ false)
      go true e h = h
      go false e h = inr e

  pub turn_accepted : is_take (turn s) ≡ false → is_refused (perform s (turn s)) ≡ false
  unfolding turn
  turn_accepted e = ⊎_elim (λ z. absurd (true≢false (sym (ap is_take z) ∙ e))) (λ z. z) (first_taken (offered s n) (Take 0))

  module _ (none : s.bank.count ≡ 0) where
    take_refused : (x : Step) → is_take x ≡ true → is_refused (perform s x) ≡ true
    unfolding perform
    take_refused x e = ap (λ (y : Step). is_refused (perform s y)) (take_is x e) ∙ none_taken none (place_in x)

    -- where no packet is under way, the bank is at rest exactly where the turn's step is a take
    pub take_rests : is_take (turn s) ≡ is_at_rest s
    unfolding turn
    take_rests = go (is_take (turn s)) refl
      where
        go : (b : Bool) → is_take (turn s) ≡ b → b ≡ is_at_rest s
        go true e = sym (stops_rest none (take_refused (turn s) e))
        go false e = sym (⊎_elim (λ r. absurd (true≢false (sym (rest_stops r) ∙ turn_accepted e))) (λ r. r) (truth (is_at_rest s)))

-- ---- the take of a packet

module _ (s : State) (st : Valid s) (place : ℕ) (held : place < s.bank.count) where
  abbrev p : Packet
  p = packet_at s place

  pub core_takes : core.take_refusal s.bank.tree (receiver p) (column_at s.bank (receiver p)) p ≡ 0
  unfolding core.take_refusal
  core_takes = simp (
    st.tree,
    st.columns (receiver p) (acceptable s.bank.tree p (st.packets place held)).receiver_below,
    st.packets place held,
    eq-eqb (receiver p) (receiver p) refl,
    st.receivers place held,
  )

  pub take_accepted : s.bank.count < capacity → is_refused (take s place) ≡ false
  unfolding perform
  take_accepted room =
      let not_full : overfull s (Take place) ≡ false =
      ap (λ (b : Bool). raised s (Take place) && b) (ne_eqb s.bank.count capacity (λ e. omega (arith, e, room))) ∙ and-false (raised s (Take place)) in
      refused_exactly s (Take place) ∙ simp (valid_passes s st, lt-leb s.bank.count place held, core_takes, not_full)
