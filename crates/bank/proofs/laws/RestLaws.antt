-- The bank at rest, where no packet is under way and the bank is valid: nobody can do anything. The test decides `AtRest`; a fresh
-- bank is at rest, and so is one in which nobody runs and no packet is under way.
-- Assumes nothing.
use Rattle.std.specs.Prelude.{ℕ, ◌<◌, ◌≡◌, refl, ◌⊎◌, ◌↔◌, Bool, false, ◌&&◌, ◌||◌, List, eqb}
use Rattle.std.proofs.Math.Path.{sym}
use Rattle.std.proofs.Common.{ap, ◌∙◌, inl, inr}
use Rattle.std.proofs.Math.Bool.{true, not, true≢false}
use borrow.Author.Tests.{eq-eqb, eqb-true}
use Rattle.column.specs.laws.Cases.{truth, and_left, and_right}
use Rattle.column.specs.laws.SetLaws.{has_none}
use Rattle.column.specs.Trees.{every, tree_refusal}
use Rattle.column.specs.laws.TreeLaws.{every_at, every_all}
use Rattle.column.specs.Columns.{fresh, validity_refusal, watched}
use Rattle.column.specs.Steps.{send_conditions, ack_conditions, all_conditions, send_refusal, ack_refusal, all_refusal, note_refusal}
use Rattle.column.specs.declared.tree.Tree.{Tree}
use Rattle.column.specs.declared.state.Column.{Column}
use Rattle.bank.specs.Banks.{State, state, column_at, runs, fresh_bank, bank_refusal}
use Rattle.bank.specs.Steps.{send, ack, all, note}
use Rattle.bank.specs.Performs.{perform}
use Rattle.bank.specs.laws.ValidityLaws.{valid, valid_passes, fresh_at, fresh_valid}
use Rattle.bank.specs.Rest.{is_refused, Refused, Running, AtRest, quiet, is_at_rest}
use Rattle.bank.proofs.laws.RestSteps.{refuses, met, broken_refused, send_refused, ack_refused, all_refused, note_refused, any_note_refused}
use Rattle.bank.proofs.laws.DispatchLaws.{take_rests}
use Rattle.bank.specs.StepKinds.{is_take}
use Rattle.bank.proofs.laws.turns.FirstAccepted.{quick_turn_lem}
use Rattle.bank.specs.laws.turns.LowestReady.{ready_none}
use Rattle.bank.specs.inner.Returning.{columns_rest}
use Rattle.bank.specs.declared.bank.Step.TheVariants.{Send, Ack, All, Note}

-- ---- the test decides `AtRest`

four : (a b c d : Bool) → (a && (b && (c && d))) ≡ true → (a ≡ true) × (b ≡ true) × (c ≡ true) × (d ≡ true)
four true true true d e = (refl, refl, refl, e)
four true true false d e = absurd (true≢false (sym e))
four true false c d e = absurd (true≢false (sym e))
four false b c d e = absurd (true≢false (sym e))

module _ (s : State) where
  abbrev n : ℕ
  n = s.bank.tree.columns

  abbrev quiet_or_halted : ℕ → Bool
  quiet_or_halted i = not (runs s.bank i) || quiet s i

  rests : is_at_rest s ≡ true → AtRest s
  unfolding is_at_rest
  rests e =
      record {
        no_packet = eqb-true s.bank.count 0 (and_left _ _ e);
        no_send = λ i r. (parts i r).0;
        no_ack = λ i r. (parts i r).1;
        no_all = λ i r. (parts i r).2;
        no_note = λ i j r. any_note_refused s i (λ k h. every_at (λ (l : ℕ). is_refused (note s i l)) n k (parts i r).3 h) j;
      }
    where
      at : (i : ℕ) → Running s i → quiet s i ≡ true
      at i r =
          let all_quiet = and_right (eqb s.bank.count 0) (every quiet_or_halted n) e in
          sym (ap (λ (x : Bool). not x || quiet s i) r.1) ∙ every_at quiet_or_halted n i all_quiet r.0

      parts : (i : ℕ) → Running s i
          → Refused (send s i) × Refused (ack s i) × Refused (all s i) × (every (λ k. is_refused (note s i k)) n ≡ true)
      parts i r =
          four (is_refused (send s i)) (is_refused (ack s i)) (is_refused (all s i)) (every (λ k. is_refused (note s i k)) n) (at i r)

  rested : AtRest s → is_at_rest s ≡ true
  unfolding is_at_rest
  rested w =
      rw (eq-eqb s.bank.count 0 w.no_packet) (every_all quiet_or_halted n (λ i h. go i h (truth (runs s.bank i))))
    where
      go : (i : ℕ) → i < n → (runs s.bank i ≡ true) ⊎ (runs s.bank i ≡ false) → quiet_or_halted i ≡ true
      go i h (inl r) =
          let noted = every_all (λ (j : ℕ). is_refused (note s i j)) n (λ j l. w.no_note i j (h, r)) in
          rw (r, w.no_send i (h, r), w.no_ack i (h, r), w.no_all i (h, r), noted)
      go i h (inr r) = rw r

  pub rest_exact : is_at_rest s ≡ true ↔ AtRest s
  rest_exact = (rests, rested)

  -- where the bank is not valid
  pub broken_rests : s.bank.count ≡ 0 → (bank_refusal s ≡ 0 → ⊥) → is_at_rest s ≡ true
  unfolding perform
  broken_rests none ne =
      rested (record {
        no_packet = none;
        no_send = λ i r. broken_refused s (Send i) ne;
        no_ack = λ i r. broken_refused s (Ack i) ne;
        no_all = λ i r. broken_refused s (All i) ne;
        no_note = λ i j r. broken_refused s (Note i j) ne;
      })

  -- where it is valid
  pub rest_columns : s.bank.count ≡ 0 → bank_refusal s ≡ 0 → columns_rest s.bank ≡ is_at_rest s
  rest_columns none good =
      let st = valid s good in
      ready_none s.bank st.tree ∙ ap is_take (sym (quick_turn_lem s st)) ∙ take_rests s none

-- ---- banks that are at rest

-- nobody runs
pub halted_rests : (s : State) → s.bank.count ≡ 0 → ((i : ℕ) → i < s.bank.tree.columns → runs s.bank i ≡ false) → AtRest s
halted_rests s none halted =
    let nobody : (i : ℕ) → Running s i → ⊥ = λ i r. true≢false (sym r.1 ∙ halted i r.0) in
    record {
      no_packet = none;
      no_send = λ i r. absurd (nobody i r);
      no_ack = λ i r. absurd (nobody i r);
      no_all = λ i r. absurd (nobody i r);
      no_note = λ i j r. absurd (nobody i r);
    }

-- a fresh column has no one to send to, owes no one and has noted no one
module _ (t : Tree) (i : ℕ) where
  abbrev c : Column
  c = fresh t i

  fresh_send : refuses (send_refusal t i c) ≡ true
  unfolding send_refusal
  fresh_send = met (validity_refusal t i c) (send_conditions t i c) tt (λ p. true≢false p.1.0)

  fresh_ack : refuses (ack_refusal t i c) ≡ true
  unfolding ack_refusal
  fresh_ack = met (validity_refusal t i c) (ack_conditions t i c) tt (λ p. true≢false p.1.0)

  fresh_all : refuses (all_refusal t i c) ≡ true
  unfolding all_refusal
  fresh_all = met (validity_refusal t i c) (all_conditions t i c) tt (λ p. true≢false (sym (ap not (has_none (watched t c))) ∙ p.1.1.0))

pub fresh_rests : (t : Tree) → tree_refusal t ≡ 0 → (heads doors : List ℕ) → AtRest (state (fresh_bank t) heads doors)
fresh_rests t e heads doors =
    let s = state (fresh_bank t) heads doors in
    let good = valid_passes s (fresh_valid t e heads doors) in
    let is = fresh_at t e in
    record {
      no_packet = refl;
      no_send = λ i r. send_refused s refl good i ∙ ap (λ (c : Column). refuses (send_refusal t i c)) (is i r.0) ∙ fresh_send t i;
      no_ack = λ i r. ack_refused s refl good i ∙ ap (λ (c : Column). refuses (ack_refusal t i c)) (is i r.0) ∙ fresh_ack t i;
      no_all = λ i r. all_refused s refl good i ∙ ap (λ (c : Column). refuses (all_refusal t i c)) (is i r.0) ∙ fresh_all t i;
      no_note = λ i j r. any_note_refused s i
          (λ k h. note_refused s refl good i k
          ∙ ap (λ (c : Column). c.running || refuses (note_refusal t i (column_at (fresh_bank t) i) k)) (is k h)) j;
    }
