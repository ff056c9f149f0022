-- A step for a caller that has tested rows 2 to 4 is the step itself where those let pass; and its effect alone is, where it is accepted. Assumes nothing.
use Rattle.std.specs.Prelude.{ℕ, ◌<◌, ◌≡◌, refl, Bool, true, false, not, ◌&&◌, cond, List, [], ◌∷◌, eqb, leb, ltb}
use Rattle.std.proofs.Common.{sym, ◌∙◌, arith}
use Rattle.std.proofs.Math.Path.{ap}
use borrow.Author.Tests.{ne_eqb, eqb-true, eqb-false, leb-true, leb-false, le-leb, ltb-true, lt-ltb, not-false}
use Rattle.column.specs.laws.Cases.{and_left, and_right}
use Rattle.column.specs.Refusals.{first, earlier}
use Rattle.column.specs.laws.RefusalLaws.{passed, earlier_none}
use Rattle.column.specs.laws.TreeLaws.{tree_root}
use Rattle.column.specs.Sets.{lowest}
use Rattle.column.specs.Packets.{sender}
use Rattle.column.specs.Columns.{validity_refusal}
use Rattle.column.specs.laws.StateLaws.{acceptable, validity_refusal_tree, validity_refusal_sixteen, validity_refusal_column, validity_refusal_lowest}
use Rattle.column.specs.Steps.{Result, refused, unless, packet_refusal, order_conditions, order_refusal, order_effect, order, take_conditions, take_refusal, take_effect, take, ack_conditions, ack_refusal, ack_effect, ack, all_conditions, all_refusal, all_effect, all, note_conditions, note_refusal, note_effect, note}
use Rattle.column.specs.inner.Bounds.{Bounds}
use Rattle.column.specs.Unchecked.{bounded, bounds_refusal, bounded_take, bounded_ack, bounded_all, bounded_note, unchecked_refusal, order_unchecked, take_unchecked, ack_unchecked, all_unchecked, note_unchecked}
use Rattle.column.specs.declared.tree.Tree.{Tree}
use Rattle.column.specs.declared.state.Column.{Column}
use Rattle.column.specs.declared.packet.Packet.{Packet}

-- what the tests of rows 2 to 4 refuse, the step refuses by their number
pub validity_refusal_refused : (m n own : ℕ) (c : Column) (effect : Result) {r : Result} → r ≡ refused m c → m ≡ n → (m ≡ 0 → ⊥)
    → r ≡ unless (earlier n own) c effect
validity_refusal_refused m n own c effect e same some = e ∙ rw (ne_eqb n 0 (λ z. some (same ∙ z)), ne_eqb n 0 (λ z. some (same ∙ z))) (ap (λ k. refused k c) same)

module _ (t : Tree) (i k : ℕ) where
  abbrev both : Bool
  both = ltb i 16 && ltb k 16

  pub bounds : bounded t i k ≡ true → Bounds t i k
  bounds b =
      let r = and_right (leb t.columns 16) both b in
      record {
        sixteen = leb-true t.columns 16 (and_left (leb t.columns 16) both b);
        column = ltb-true i 16 (and_left (ltb i 16) (ltb k 16) r);
        other = ltb-true k 16 (and_right (ltb i 16) (ltb k 16) r);
      }

  module _ (c : Column) (effect : Result) where
    pub beyond_bounds : bounded t i k ≡ false → refused 4 c ≡ unless (bounds_refusal t i k) c effect
    beyond_bounds e = ap (λ (b : Bool). unless (first ((4, not b) ∷ [])) c effect) (sym e)

    pub within_bounds : bounded t i k ≡ true → effect ≡ unless (bounds_refusal t i k) c effect
    within_bounds e = ap (λ (b : Bool). unless (first ((4, not b) ∷ [])) c effect) (sym e)

module _ (conditions : List (ℕ × Bool)) (t : Tree) (i k : ℕ) where
  -- where nothing refuses
  pub unchecked_passes : unchecked_refusal conditions t i k ≡ 0 → (first conditions ≡ 0) × Bounds t i k
  unchecked_passes e =
      let q = earlier_none (first conditions) (bounds_refusal t i k) e in
      (q.0, bounds t i k (not-false (bounded t i k) (passed ((4, not (bounded t i k)) ∷ []) tt q.1).0))

  -- the last condition refuses nothing where the others that hold ask for its opposite
  same : (first conditions ≡ 0 → Bounds t i k) → unchecked_refusal conditions t i k ≡ first conditions
  same h = go (eqb (first conditions) 0) refl
    where
      go : (b : Bool) → eqb (first conditions) 0 ≡ b → cond b (bounds_refusal t i k) (first conditions) ≡ first conditions
      go true e =
          let z = eqb-true (first conditions) 0 e in
          let w = h z in
          rw (le-leb t.columns 16 w.sixteen, lt-ltb i 16 w.column, lt-ltb k 16 w.other) (sym z)
      go false e = refl

  -- what the bounds refuse or let pass, where the step's own conditions refuse nothing
  pub bounds_unchecked : first conditions ≡ 0 → (c : Column) (effect : Result)
      → unless (bounds_refusal t i k) c effect ≡ unless (unchecked_refusal conditions t i k) c effect
  bounds_unchecked z c effect = sym (ap (λ (m : ℕ). unless (earlier m (bounds_refusal t i k)) c effect) z)

  -- and where they refuse it
  pub own_unchecked : {n : ℕ} → n ≡ first conditions → (n ≡ 0 → ⊥) → (c : Column) (effect : Result)
      → refused n c ≡ unless (unchecked_refusal conditions t i k) c effect
  own_unchecked {n} e some c effect =
      let other : first conditions ≡ 0 → ⊥ = λ z. some (e ∙ z) in
      ap (λ (m : ℕ). refused m c) e ∙ sym (rw (ne_eqb (first conditions) 0 other, ne_eqb (first conditions) 0 other))

  pub unchecked_same : (n : ℕ) (c : Column) (effect : Result) → n ≡ 0 → (first conditions ≡ 0 → Bounds t i k)
      → unless (unchecked_refusal conditions t i k) c effect ≡ unless (earlier n (first conditions)) c effect
  unchecked_same n c effect z h = ap (λ (m : ℕ). unless m c effect) (same h ∙ sym (ap (λ (m : ℕ). earlier m (first conditions)) z))

module _ (t : Tree) (i : ℕ) (c : Column) (good : validity_refusal t i c ≡ 0) where
  pub within : (k : ℕ) → k < 16 → Bounds t i k
  within k h = record { sixteen = validity_refusal_sixteen t i c good; column = validity_refusal_column t i c good; other = h }

  pub order_unchecked_lem : (doors : ℕ) → order_unchecked t i c doors ≡ order t i c doors
  unfolding order_refusal
  order_unchecked_lem doors = unchecked_same (order_conditions t i c) t i i (validity_refusal t i c) c (order_effect t i c doors) good (λ e. within i (validity_refusal_column t i c good))

  pub take_unchecked_lem : (p : Packet) → packet_refusal t p ≡ 0 → take_unchecked t i c p ≡ take t i c p
  unfolding take_refusal
  take_unchecked_lem p fit =
      let own = first (take_conditions t i c p) in
      let below = (acceptable t p fit).sender_below in
      unchecked_same (take_conditions t i c p) t i (sender p) (validity_refusal t i c) c (take_effect t i c p) good
      (λ e. within (sender p) (omega (arith, below, validity_refusal_sixteen t i c good)))
      ∙ ap (λ (m : ℕ). unless (earlier (validity_refusal t i c) m) c (take_effect t i c p)) (sym (ap (λ (m : ℕ). earlier m own) fit))

  pub ack_unchecked_lem : ack_unchecked t i c ≡ ack t i c
  unfolding ack_refusal
  ack_unchecked_lem =
      unchecked_same (ack_conditions t i c) t i (lowest c.owed) (validity_refusal t i c) c (ack_effect i c) good
      (λ e.
      let p = passed (ack_conditions t i c) tt e in
      within (lowest c.owed) (validity_refusal_lowest t i c good (omega (arith, eqb-false c.owed 0 p.1.0))))

  pub all_unchecked_lem : all_unchecked t i c ≡ all t i c
  unfolding all_refusal
  all_unchecked_lem =
      unchecked_same (all_conditions t i c) t i t.root (validity_refusal t i c) c (all_effect t c) good
      (λ e. within t.root (tree_root t (validity_refusal_tree t i c good)))

  pub note_unchecked_lem : (j : ℕ) → note_unchecked t i c j ≡ note t i c j
  unfolding note_refusal
  note_unchecked_lem j =
      unchecked_same (note_conditions t i c j) t i j (validity_refusal t i c) c (note_effect t c j) good
      (λ e.
      let p = passed (note_conditions t i c j) tt e in
      within j (omega (arith, leb-false t.columns j p.0, validity_refusal_sixteen t i c good)))

  -- ---- a step that is accepted is its effect

  pub take_bounded : (p : Packet) → first (take_conditions t i c p) ≡ 0 → bounded_take t i c p ≡ take_unchecked t i c p
  take_bounded p z = bounds_unchecked (take_conditions t i c p) t i (sender p) z c (take_effect t i c p)

  pub ack_bounded : ack_refusal t i c ≡ 0 → bounded_ack t i c ≡ ack t i c
  unfolding ack_refusal
  ack_bounded z =
      bounds_unchecked (ack_conditions t i c) t i (lowest c.owed) (earlier_none (validity_refusal t i c) _ z).1 c (ack_effect i c) ∙ ack_unchecked_lem

  pub all_bounded : all_refusal t i c ≡ 0 → bounded_all t i c ≡ all t i c
  unfolding all_refusal
  all_bounded z = bounds_unchecked (all_conditions t i c) t i t.root (earlier_none (validity_refusal t i c) _ z).1 c (all_effect t c) ∙ all_unchecked_lem

  pub note_bounded : (j : ℕ) → note_refusal t i c j ≡ 0 → bounded_note t i c j ≡ note t i c j
  unfolding note_refusal
  note_bounded j z = bounds_unchecked (note_conditions t i c j) t i j (earlier_none (validity_refusal t i c) _ z).1 c (note_effect t c j) ∙ note_unchecked_lem j
