-- A bank at rest by document 01's words is one in which no move of a running column is left. Assumes nothing.
use Prim.Native.Nat.{ℕ, ◌^◌, ◌<◌}
use native.Mathlib.Nat.{lt_of_lt_of_le}
use mathlib.Core.Path.{◌≡◌, sym, ap, ap₂, ◌∙◌}
use mathlib.Core.Logic.{◌≢◌, ⊎_elim}
use mathlib.Core.Bool.{Bool, true, false, not, ◌&&◌, ◌||◌, or-true, true≢false}
use mathlib.Core.List.{List}
use lib.Dec.{eqb, ltb}
use lib.ListN.{take}
use lib.Pow.{pow_mono}
use borrow.Author.Tests.{ne_eqb, lt-leb, lt-ltb, ltb-true}
use Rattle.column.specs.laws.Cases.{truth, and_left, and_right, none_and}
use Rattle.column.specs.Sets.{has}
use Rattle.column.specs.Trees.{tree_refusal}
use Rattle.column.specs.laws.TreeLaws.{tree_sixteen}
use Rattle.column.specs.Columns.{idle, validity_refusal, watched, may_acknowledge}
use Rattle.column.specs.Steps.{send_refusal, ack_refusal, all_refusal, note_refusal}
use Rattle.column.specs.declared.tree.Tree.{Tree}
use Rattle.column.specs.declared.state.Column.{Column}
use Rattle.bank.specs.Banks.{State, column_at, runs, bank_refusal}
use Rattle.bank.specs.laws.NetworkLaws.{packets_meant}
use Rattle.bank.specs.Rest.{Running, AtRest}
use Rattle.bank.proofs.laws.RestSteps.{refuses, send_refused, ack_refused, all_refused, note_refused}
use Rattle.bank.specs.laws.ValidityLaws.{valid}
use Rattle.agreement.proofs.relation.Model.{Empty, Runs}
use Rattle.agreement.proofs.relation.Members.{absent}
use Rattle.agreement.proofs.relation.Move.{Idle, Free, Rest}
use Rattle.agreement.proofs.relation.Conditions.{Widths, widths, empty, none}
use Rattle.agreement.proofs.relation.View.{model_of}

-- ---- a step whose conditions hold is not refused by the core

-- sixteen digits hold a set of columns
empty_set : (t : Tree) → tree_refusal t ≡ 0 → (m : ℕ) → m < 2 ^ t.columns → Empty m → m ≡ 0
empty_set t ok m h = none m (lt_of_lt_of_le h (pow_mono (tree_sixteen t ok)))

idle_passes : (t : Tree) → tree_refusal t ≡ 0 → (c : Column) → Widths t c → Idle c → idle c ≡ true
idle_passes t ok c w e =
    ap₂ (λ (x y : ℕ). eqb x 0 && eqb y 0) (empty_set t ok c.send w.send e.0) (empty_set t ok c.awaited w.awaited e.1)

module _ (t : Tree) (i : ℕ) (c : Column) (ok : validity_refusal t i c ≡ 0) (r : c.running ≡ true) where
  pub send_passes : c.send ≢ 0 → send_refusal t i c ≡ 0
  unfolding send_refusal
  send_passes n = simp (ok, r, ne_eqb c.send 0 n)

  pub ack_passes : c.owed ≢ 0 → may_acknowledge t i c ≡ true → ack_refusal t i c ≡ 0
  unfolding ack_refusal
  ack_passes n f = simp (ok, r, ne_eqb c.owed 0 n, f)

  pub all_passes : i ≢ t.root → has c.noted (watched t c) ≡ true → c.whole ≡ false → idle c ≡ true → all_refusal t i c ≡ 0
  unfolding all_refusal
  all_passes n m w f = simp (ok, r, ne_eqb i t.root n, m, w, f)

  pub note_passes : (j : ℕ) → j < t.columns → j ≢ i → has c.noted j ≡ false → note_refusal t i c j ≡ 0
  unfolding note_refusal
  note_passes j h n m = simp (ok, r, lt-leb t.columns j h, ne_eqb j i n, m)

-- ---- rest

refused_not : (n : ℕ) → refuses n ≡ true → n ≢ 0
refused_not n e z = true≢false (sym e ∙ ap refuses z)

module _ (s : State) (orders : List ℕ) (good : bank_refusal s ≡ 0) (rest : AtRest s) where
  abbrev t : Tree
  t = s.bank.tree

  abbrev column : ℕ → Column
  column i = column_at s.bank i

  -- a column that runs in the model is one of the bank's
  of_bank : (i : ℕ) → Runs (model_of s orders) i → Running s i
  of_bank i r = (ltb-true i t.columns (and_left _ _ r), and_right (ltb i t.columns) _ r)

  column_valid : (i : ℕ) → i < t.columns → validity_refusal t i (column i) ≡ 0
  column_valid i h = rw (valid s good).tree ((valid s good).columns i h)

  -- a step of a running column is refused by the core
  no_send : (i : ℕ) → Running s i → send_refusal t i (column i) ≢ 0
  no_send i r = refused_not (send_refusal t i (column i)) (sym (send_refused s rest.no_packet good i) ∙ rest.no_send i r)

  no_ack : (i : ℕ) → Running s i → ack_refusal t i (column i) ≢ 0
  no_ack i r = refused_not (ack_refusal t i (column i)) (sym (ack_refused s rest.no_packet good i) ∙ rest.no_ack i r)

  no_all : (i : ℕ) → Running s i → all_refusal t i (column i) ≢ 0
  no_all i r = refused_not (all_refusal t i (column i)) (sym (all_refused s rest.no_packet good i) ∙ rest.no_all i r)

  no_note : (i j : ℕ) → Running s i → runs s.bank j ≡ false → note_refusal t i (column i) j ≢ 0
  no_note i j r h = refused_not (note_refusal t i (column i) j)
      (sym (ap (λ (b : Bool). b || refuses (note_refusal t i (column i) j)) h) ∙ sym (note_refused s rest.no_packet good i j) ∙ rest.no_note i j r)

  ok : tree_refusal t ≡ 0
  ok = (valid s good).tree

  pub quiet_rest : Rest t (model_of s orders)
  unfolding packets_meant
  quiet_rest = record {
    no_packet = ap (λ (n : ℕ). packets_meant (take n s.heads) (take n s.doors)) rest.no_packet;
    no_send = λ i r q m. let b = of_bank i r in
        no_send i b (send_passes t i (column i) (column_valid i b.0) b.1 (λ z. empty z q m));
    no_ack = λ i q r m f. let b = of_bank i r in
        no_ack i b (ack_passes t i (column i) (column_valid i b.0) b.1 (λ z. empty z q m) (free i b.0 f));
    no_all = λ i r n m w e. let b = of_bank i r in
        no_all i b (all_passes t i (column i) (column_valid i b.0) b.1 n m.holds w (idle_passes t ok (column i) (wide i b.0) e));
    no_note = λ i j r h n d m. let b = of_bank i r in
        no_note i j b (halted j h n) (note_passes t i (column i) (column_valid i b.0) b.1 j h d (absent (column i).noted j m));
  }
    where
      wide : (i : ℕ) → i < t.columns → Widths t (column i)
      wide i h = widths t i (column i) ((valid s good).columns i h)

      -- the root may not acknowledge by its goal alone where senders are watched
      held : (i : ℕ) → (t.watch ≡ true → i ≢ t.root) → (t.watch && eqb i t.root) ≡ false
      held i n = none_and t.watch (eqb i t.root) (λ o. ne_eqb i t.root (n o))

      free : (i : ℕ) → i < t.columns → Free t i (column i) → may_acknowledge t i (column i) ≡ true
      free i h = ⊎_elim (λ z. ap₂ (λ (a b : Bool). (a && not b) || idle (column i)) z.0 (held i z.1))
          (λ e. ap (λ (b : Bool). ((column i).whole && not (t.watch && eqb i t.root)) || b) (idle_passes t ok (column i) (wide i h) e) ∙ or-true ((column i).whole && not (t.watch && eqb i t.root)))

      halted : (j : ℕ) → j < t.columns → (Runs (model_of s orders) j → ⊥) → runs s.bank j ≡ false
      halted j h n = ⊎_elim (λ r. absurd (n (ap₂ (λ (x y : Bool). x && y) (lt-ltb j t.columns h) r))) (λ e. e) (truth (runs s.bank j))
