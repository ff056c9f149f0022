-- What it says of a column that the core does not refuse a step: document 01's conditions, both ways. Assumes nothing.
use Prim.Native.Nat.{ℕ, ◌^◌, ◌<◌}
use native.Mathlib.Omega.{arith}
use mathlib.Core.Path.{◌≡◌, sym, ◌∙◌}
use mathlib.Core.Logic.{◌≢◌, ⊎_elim, inl, inr}
use mathlib.Core.Bool.{true, false, not, ◌&&◌, true≢false}
use lib.Dec.{eqb}
use borrow.Author.Tests.{eq-eqb, eqb-true, eqb-false, leb-false, not-true, not-false}
use Rattle.column.specs.laws.Cases.{and_left, and_right, and_none, or_cases}
use Rattle.column.specs.Refusals.{first}
use Rattle.column.specs.laws.RefusalLaws.{passed, earlier_none}
use Rattle.column.specs.Sets.{has}
use Rattle.column.specs.laws.SetLaws.{within_lt, no_members, member_pos}
use Rattle.column.specs.Columns.{highest, state_conditions, state_refusal, validity_refusal, idle, watched, may_acknowledge}
use Rattle.column.specs.Steps.{order_conditions, order_refusal, send_conditions, send_refusal, ack_conditions, ack_refusal, all_conditions, all_refusal, note_conditions, note_refusal, halt_conditions, halt_refusal}
use Rattle.column.specs.declared.tree.Tree.{Tree}
use Rattle.column.specs.declared.state.Column.{Column}
use Rattle.agreement.proofs.relation.Model.{In, Empty}
use Rattle.agreement.proofs.relation.Members.{absent}
use Rattle.agreement.proofs.relation.Move.{Idle, Free}

pub member : {m q : ℕ} → has m q ≡ true → In m q
member e = record { holds = e }

pub not_member : {m q : ℕ} → has m q ≡ false → In m q → ⊥
not_member e h = true≢false (sym h.holds ∙ e)

pub empty : {m : ℕ} → m ≡ 0 → Empty m
empty {m} z q h = absurd (omega (arith, member_pos m q h.holds))

-- sixteen digits hold a set, so one without members is 0
pub none : (m : ℕ) → m < 2 ^ 16 → Empty m → m ≡ 0
none m h n = no_members 16 m h (λ q l. absent m q (n q))

idle_in : (c : Column) → idle c ≡ true → Idle c
idle_in c e = (empty (eqb-true c.send 0 (and_left (eqb c.send 0) _ e)), empty (eqb-true c.awaited 0 (and_right (eqb c.send 0) _ e)))

-- what row 4 asks of the sets of a column, as widths
pub record Widths (t : Tree) (c : Column) : Type 0 where
  pub send : c.send < 2 ^ t.columns
  pub awaited : c.awaited < 2 ^ t.columns
  pub owed : c.owed < 2 ^ t.columns
  pub noted : c.noted < 2 ^ t.columns

module _ (t : Tree) (i : ℕ) (c : Column) where
  pub widths : state_refusal t i c ≡ 0 → Widths t c
  unfolding state_refusal
  widths e =
      let p = passed (state_conditions t i c) tt e in
      record {
        send = within_lt c.send t.columns (not-false _ p.1.0);
        awaited = within_lt c.awaited t.columns (not-false _ p.1.1.0);
        owed = within_lt c.owed t.columns (not-false _ p.1.1.1.0);
        noted = within_lt c.noted t.columns (not-false _ p.1.1.1.1.0);
      }

  pub order_in : order_refusal t i c ≡ 0 → (c.running ≡ true) × Idle c × (t.watch ≡ true → Empty c.owed) × (c.number ≢ highest)
  unfolding order_refusal
  order_in e =
      let p = passed (order_conditions t i c) tt (earlier_none (validity_refusal t i c) (first (order_conditions t i c)) e).1 in (
        not-false _ p.1.0,
        idle_in c (not-false _ p.1.1.0),
        λ w. empty (eqb-true c.owed 0 (not-false _ (and_none t.watch _ p.1.1.1.0 w))),
        eqb-false c.number highest p.1.1.1.1.0,
      )

  pub send_in : send_refusal t i c ≡ 0 → (c.running ≡ true) × (c.send ≢ 0)
  unfolding send_refusal
  send_in e =
      let p = passed (send_conditions t i c) tt (earlier_none (validity_refusal t i c) (first (send_conditions t i c)) e).1 in
      (not-false _ p.0, eqb-false c.send 0 p.1.0)

  free_in : may_acknowledge t i c ≡ true → Free t i c
  free_in e = ⊎_elim
      (λ w. inl (and_left c.whole _ w, λ o r. true≢false (sym (eq-eqb i t.root r) ∙ and_none t.watch _ (not-true _ (and_right c.whole _ w)) o)))
      (λ d. inr (idle_in c d)) (or_cases (c.whole && not (t.watch && eqb i t.root)) (idle c) e)

  pub ack_in : ack_refusal t i c ≡ 0 → (c.running ≡ true) × (c.owed ≢ 0) × Free t i c
  unfolding ack_refusal
  ack_in e =
      let p = passed (ack_conditions t i c) tt (earlier_none (validity_refusal t i c) (first (ack_conditions t i c)) e).1 in
      (not-false _ p.0, eqb-false c.owed 0 p.1.0, free_in (not-false _ p.1.1.0))

  pub all_in : all_refusal t i c ≡ 0 →
      (c.running ≡ true) × (i ≢ t.root) × In c.noted (watched t c) × (c.whole ≡ false) × Idle c
  unfolding all_refusal
  all_in e =
      let p = passed (all_conditions t i c) tt (earlier_none (validity_refusal t i c) (first (all_conditions t i c)) e).1 in
      (not-false _ p.0, eqb-false i t.root p.1.0, member (not-false _ p.1.1.0), p.1.1.1.0, idle_in c (not-false _ p.1.1.1.1.0))

  pub note_in : (j : ℕ) → note_refusal t i c j ≡ 0 → (j < t.columns) × (c.running ≡ true) × (¬ In c.noted j)
  unfolding note_refusal
  note_in j e =
      let p = passed (note_conditions t i c j) tt (earlier_none (validity_refusal t i c) (first (note_conditions t i c j)) e).1 in
      (leb-false t.columns j p.0, not-false _ p.1.0, not_member p.1.1.1.0)

  pub halt_in : halt_refusal t i c ≡ 0 → c.running ≡ true
  unfolding halt_refusal
  halt_in e =
      let p = passed (halt_conditions t i c) tt (earlier_none (validity_refusal t i c) (first (halt_conditions t i c)) e).1 in
      not-false _ p.0
