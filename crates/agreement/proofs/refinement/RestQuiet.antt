-- A bank in which no move of a running column is left is at rest by document 01's words, the converse of `quiet_rest`; and a bank at rest refuses every
-- step that settles, of halted columns and of those that it has not too. Assumes nothing.
use Prim.Native.Nat.{ℕ, ◌<◌}
use mathlib.Core.Path.{◌≡◌, sym, ap, ap₂, ◌∙◌, refl}
use mathlib.Core.Logic.{◌≢◌, ⊎_elim}
use mathlib.Core.Bool.{Bool, true, false, not, ◌&&◌, ◌||◌, or-true, true≢false}
use mathlib.Core.List.{List, [], ◌∷◌}
use native.Mathlib.Omega.{arith}
use lib.Dec.{ltb, eqb, leb}
use borrow.Author.Tests.{ne_eqb, eqb-false, lt-ltb, eq-eqb, eqb-true, leb-false}
use Rattle.column.specs.laws.Cases.{truth, and_right}
use Rattle.column.specs.Refusals.{first}
use Rattle.column.specs.laws.RefusalLaws.{passed, earlier_none}
use Rattle.column.specs.Sets.{has, lowest}
use Rattle.column.specs.Columns.{validity_refusal}
use Rattle.column.specs.Steps.{send_refusal, ack_refusal, all_refusal, note_conditions, note_refusal}
use Rattle.column.specs.declared.tree.Tree.{Tree}
use Rattle.column.specs.declared.state.Column.{Column}
use Rattle.bank.specs.Banks.{State, column_at, runs, bank_refusal}
use Rattle.bank.specs.Rest.{Refused, Running, AtRest, is_refused}
use Rattle.bank.proofs.laws.RestSteps.{refuses, send_refused, ack_refused, all_refused, note_refused, any_note_refused}
use Rattle.bank.specs.Steps.{note}
use Rattle.bank.specs.laws.ValidityLaws.{Valid, valid}
use Rattle.bank.specs.Exact.{own_refusal, refusal_of}
use Rattle.bank.proofs.laws.ExactLaws.{exact}
use Rattle.bank.specs.laws.Kinds.{of_halted}
use Rattle.bank.specs.Performs.{perform}
use Rattle.bank.specs.inner.Moves.{acts}
use Rattle.bank.proofs.laws.Places.{acting_is}
use Rattle.bank.specs.declared.bank.Step.{Step}
use Rattle.bank.specs.declared.bank.Step.TheVariants.{Order, Send, Take, Ack, All, Note, Halt, Back, Write}
use Rattle.agreement.specs.Dispatching.{is_settling}
use Rattle.agreement.proofs.relation.Model.{Runs}
use Rattle.agreement.proofs.relation.Move.{Rest}
use Rattle.agreement.proofs.relation.Conditions.{not_member, Widths, widths, send_in, ack_in, all_in}
use Rattle.agreement.proofs.relation.View.{model_of}
use Rattle.agreement.proofs.refinement.RefineOwn.{lowest_in}

refusing : (n : ℕ) → n ≢ 0 → refuses n ≡ true
refusing n h = ap not (ne_eqb n 0 h)

note_free : (t : Tree) (i : ℕ) (c : Column) (j : ℕ) → note_refusal t i c j ≡ 0 → (j ≢ i) × (has c.noted j ≡ false)
unfolding note_refusal
note_free t i c j e =
    let p = passed (note_conditions t i c j) tt (earlier_none (validity_refusal t i c) (first (note_conditions t i c j)) e).1 in
    (eqb-false j i p.1.1.0, p.1.1.1.0)

module _ (s : State) (orders : List ℕ) (none : s.bank.count ≡ 0) (good : bank_refusal s ≡ 0) (rest : Rest s.bank.tree (model_of s orders)) where
  abbrev t : Tree
  t = s.bank.tree

  abbrev column : ℕ → Column
  column i = column_at s.bank i

  in_model : (i : ℕ) → Running s i → Runs (model_of s orders) i
  in_model i h = ap₂ (λ (x y : Bool). x && y) (lt-ltb i t.columns h.0) h.1

  st : Valid s
  st = valid s good

  wide : (i : ℕ) → Running s i → Widths t (column i)
  wide i h = widths t i (column i) (st.columns i h.0)

  no_note : (i j : ℕ) → Running s i → j < t.columns → Refused (note s i j)
  no_note i j h l = note_refused s none good i j ∙ ⊎_elim
      (λ r. ap (λ (b : Bool). b || refuses (note_refusal t i (column i) j)) r)
      (λ r. ap (λ (b : Bool). runs s.bank j || b) (refusing (note_refusal t i (column i) j) (λ e.
      let k = note_free t i (column i) j e in
      rest.no_note i j (in_model i h) l (λ z. true≢false (sym (and_right (ltb j t.columns) _ z) ∙ r)) k.0 (not_member k.1)))
      ∙ or-true (runs s.bank j))
      (truth (runs s.bank j))

  pub rest_quiet : AtRest s
  rest_quiet = record {
    no_packet = none;
    no_send = λ i h. send_refused s none good i ∙ refusing (send_refusal t i (column i)) (λ e.
        rest.no_send i (in_model i h) (lowest (column i).send) (lowest_in t st.tree (column i).send (wide i h).send (send_in t i (column i) e).1));
    no_ack = λ i h. ack_refused s none good i ∙ refusing (ack_refusal t i (column i)) (λ e.
        let k = ack_in t i (column i) e in
        rest.no_ack i (lowest (column i).owed) (in_model i h) (lowest_in t st.tree (column i).owed (wide i h).owed k.1) k.2);
    no_all = λ i h. all_refused s none good i ∙ refusing (all_refusal t i (column i)) (λ e.
        let k = all_in t i (column i) e in
        rest.no_all i (in_model i h) k.1 k.2 k.3 k.4);
    no_note = λ i j h. any_note_refused s i (λ j l. no_note i j h l) j;
  }

module _ (s : State) (rest : AtRest s) where
  -- who makes a step that nothing refuses runs
  runs_who : (x : Step) → refusal_of s x ≡ 0 → of_halted x ≡ false → (i : ℕ) → acts s x i ≡ true → Running s i
  runs_who x e running i a = let w = acting_is s x e i a in (w.0, w.1 running)

  some_packet : (place : ℕ) → refusal_of s (Take place) ≡ 0 → place < s.bank.count
  some_packet place e =
      let own = (earlier_none (own_refusal s (Take place)) _ (earlier_none (bank_refusal s) _ e).1).0 in
      leb-false s.bank.count place (passed ((10, leb s.bank.count place) ∷ []) tt (earlier_none (first ((10, leb s.bank.count place) ∷ [])) _ own).0).0

  none_accepted : (x : Step) → is_settling x ≡ true → refusal_of s x ≡ 0 → is_refused (perform s x) ≡ true
  unfolding perform
  none_accepted (Order doors) h e = absurd (true≢false (sym h))
  none_accepted (Send i) h e = rest.no_send i (runs_who (Send i) e refl i (eq-eqb i i refl))
  none_accepted (Take place) h e = absurd (omega (arith, some_packet place e, rest.no_packet))
  none_accepted (Ack i) h e = rest.no_ack i (runs_who (Ack i) e refl i (eq-eqb i i refl))
  none_accepted (All i) h e = rest.no_all i (runs_who (All i) e refl i (eq-eqb i i refl))
  none_accepted (Note i j) h e = rest.no_note i j (runs_who (Note i j) e refl i (eq-eqb i i refl))
  none_accepted (Halt m) h e = absurd (true≢false (sym h))
  none_accepted (Back j) h e = absurd (true≢false (sym h))
  none_accepted (Write i offset value) h e = absurd (true≢false (sym h))

  pub rest_refuses : (x : Step) → is_settling x ≡ true → is_refused (perform s x) ≡ true
  rest_refuses x h = go (eqb (refusal_of s x) 0) refl
    where
      go : (b : Bool) → eqb (refusal_of s x) 0 ≡ b → is_refused (perform s x) ≡ true
      go true e = none_accepted x h (eqb-true (refusal_of s x) 0 e)
      go false e = ap is_refused (exact s x) ∙ rw e
