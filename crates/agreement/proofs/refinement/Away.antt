-- A column is away again: its halt is accepted, and a note of it by each of a list of columns that have it struck out. Each is then as before, with bit 1 pending.
-- Assumes nothing.
use Prim.Native.Nat.{ℕ, ◌<◌, ◌^◌}
use native.Mathlib.Omega.{arith}
use mathlib.Core.Path.{◌≡◌, refl, sym, ap, ap₂, subst, ◌∙◌}
use mathlib.Core.Logic.{◌⊎◌, inl, inr}
use mathlib.Core.Bool.{Bool, true, false, not, ◌||◌, cond, or-true, true≢false}
use mathlib.Core.List.{List, [], ◌∷◌, map}
use lib.Dec.{eqb}
use lib.Pow.{pow-lt}
use lib.Seq.{get_or-set_same, get_or-set_other}
use borrow.Author.Tests.{eq-eqb, ne_eqb}
use Rattle.column.specs.laws.Cases.{equal_cases}
use Rattle.column.specs.Sets.{has, single, insert}
use Rattle.column.specs.laws.SetLaws.{has_single, has_without_self, insert_without, lt_within}
use Rattle.column.specs.laws.TreeLaws.{every_all, tree_sixteen}
use Rattle.column.specs.Columns.{validity_refusal}
use Rattle.column.specs.Returns.{struck}
use Rattle.column.specs.Steps as core
use Rattle.column.specs.declared.state.Column.{Column}
use Rattle.bank.specs.Banks.{State, no_column, column_at, runs, bank_refusal}
use Rattle.bank.specs.Networks.{puts}
use Rattle.bank.specs.laws.ValidityLaws.{valid, acting_passes}
use Rattle.bank.specs.laws.StepLaws.{fits}
use Rattle.bank.specs.Steps.{Result, accepted, with_column, acted, halted, halt_refusal}
use Rattle.bank.specs.Performs.{perform}
use Rattle.bank.specs.Rest.{Running}
use Rattle.bank.specs.Strips.{among, Distinct}
use Rattle.bank.specs.declared.bank.Step.{Step}
use Rattle.bank.specs.declared.bank.Step.TheVariants.{Note, Halt}
use Rattle.agreement.specs.History.{World, told, run}
use Rattle.agreement.specs.Dispatching.{all_accepted}
use Rattle.agreement.specs.Returning.{noticed}
use Rattle.agreement.proofs.relation.Move.{noting}
use Rattle.agreement.proofs.refinement.Quiet.{note_passes}
use Rattle.agreement.proofs.refinement.Reached.{Reached, next, reached_passes}

-- the world after an accepted step
pub stepped : (w : World) (x : Step) (s : State) → Reached w → perform w.state x ≡ accepted s → Reached (told w x (accepted s))
stepped w x s r e = subst (λ (o : Result State). Reached (told w x o)) e (next w x r)

-- ---- a halt of one column, and a note of it

module _ (s : State) (good : bank_refusal s ≡ 0) (j : ℕ) (below : j < s.bank.tree.columns) where
  pub halts_alone : runs s.bank j ≡ true → perform s (Halt (single j)) ≡ accepted (halted s (has (single j)))
  unfolding perform halt_refusal
  halts_alone r = rw (good, lt_within (single j) n (pow-lt below), every_all (λ k. not (has (single j) k) || runs s.bank k) n (λ k _. member k))
    where
      n : ℕ
      n = s.bank.tree.columns

      member : (k : ℕ) → (not (has (single j) k) || runs s.bank k) ≡ true
      member k = ap (λ (b : Bool). not b || runs s.bank k) (has_single j k) ∙ go (equal_cases k j)
        where
          go : (k ≡ j) ⊎ (k ≡ j → ⊥) → (not (eqb k j) || runs s.bank k) ≡ true
          go (inl e) = ap (λ (b : Bool). not (eqb k j) || b) (ap (λ (i : ℕ). runs s.bank i) e ∙ r) ∙ or-true (not (eqb k j))
          go (inr e) = ap (λ (b : Bool). not b || runs s.bank k) (ne_eqb k j e)

  -- a column that does not await j only notes it
  module _ (away : runs s.bank j ≡ false) (i : ℕ) (running : Running s i) where
    abbrev c : Column
    c = column_at s.bank i

    other : j ≡ i → ⊥
    other e = true≢false (sym running.1 ∙ ap (λ (k : ℕ). runs s.bank k) (sym e) ∙ away)

    notes_it : has c.noted j ≡ false → has c.awaited j ≡ false
        → perform s (Note i j) ≡ accepted (with_column s i (noticed (noting c c.send c.awaited (insert c.noted j))))
    unfolding perform acted puts core.note_effect
    notes_it unnoted unawaited =
        let st = valid s good in
        let up : validity_refusal s.bank.tree i c ≡ 0 = rw st.tree (st.columns i running.0) in
        rw (acting_passes s st i running.0, note_passes s.bank.tree i c up running.1 j below other unnoted, away, unawaited)
        (sym (fits s (with_column s i (noticed (noting c c.send c.awaited (insert c.noted j)))) st.room))

-- ---- a note by each of a list

listed_here : (i : ℕ) (l : List ℕ) → among (i ∷ l) i ≡ true
listed_here i l = ap (λ (b : Bool). b || among l i) (eq-eqb i i refl)

listed_later : (i : ℕ) (l : List ℕ) (n : ℕ) → among l n ≡ true → among (i ∷ l) n ≡ true
listed_later i l n m = ap (λ (b : Bool). eqb n i || b) m ∙ or-true (eqb n i)

-- column i as it was before j came back: it had noted j, and did not await it
pub record Held (k j : ℕ) (before : ℕ → Column) (i : ℕ) : Type 0 where
  pub fits_in : (before i).noted < 2 ^ k
  pub noted_it : has (before i).noted j ≡ true
  pub unawaited : has (before i).awaited j ≡ false

-- j is away again, and the columns of the list have it struck out
pub record Away (j : ℕ) (before : ℕ → Column) (noters : List ℕ) (w : World) : Type 0 where
  pub reached : Reached w
  pub below : j < w.state.bank.tree.columns
  pub away : runs w.state.bank j ≡ false
  pub running : (i : ℕ) → among noters i ≡ true → Running w.state i
  pub struck_out : (i : ℕ) → among noters i ≡ true → column_at w.state.bank i ≡ struck (before i) j

-- every note is accepted, and the columns of the list are as before, with bit 1 pending
abbrev pub Noted : ℕ → (ℕ → Column) → List ℕ → World → Type 0
Noted j before noters w =
    (all_accepted w (map (λ i. Note i j) noters) ≡ true)
    × ((i : ℕ) → column_at (run w (map (λ i. Note i j) noters)).state.bank i ≡ cond (among noters i) (noticed (before i)) (column_at w.state.bank i))

module _ (k j : ℕ) (small : j < k) (before : ℕ → Column) where
  module _ (w : World) (i : ℕ) (noters : List ℕ) (once : among noters i ≡ false) (held : Held k j before i) (a : Away j before (i ∷ noters) w) where
    abbrev s : State
    s = w.state

    here : among (i ∷ noters) i ≡ true
    here = listed_here i noters

    abbrev s' : State
    s' = with_column s i (noticed (before i))

    -- the note gives column i back as it was, with bit 1 pending
    note_back : perform s (Note i j) ≡ accepted s'
    note_back =
        let c = column_at s.bank i in
        let is = a.struck_out i here in
        notes_it s (reached_passes w a.reached) j a.below a.away i (a.running i here)
        (ap (λ (x : Column). has x.noted j) is ∙ has_without_self (before i).noted j)
        (ap (λ (x : Column). has x.awaited j) is ∙ held.unawaited)
        ∙ ap (λ (x : Column). accepted (with_column s i (noticed (noting x x.send x.awaited (insert x.noted j))))) is
        ∙ ap (λ (m : ℕ). accepted (with_column s i (noticed (noting (before i) (before i).send (before i).awaited m))))
        (insert_without k (before i).noted j held.fits_in small held.noted_it)

    other_same : (n : ℕ) → (n ≡ i → ⊥) → column_at s'.bank n ≡ column_at s.bank n
    other_same n ne = get_or-set_other s.bank.columns i n (noticed (before i)) no_column ne

    mine_back : column_at s'.bank i ≡ noticed (before i)
    mine_back = get_or-set_same s.bank.columns i (noticed (before i)) no_column
        (omega (arith, a.reached.formed.places, (a.running i here).0, tree_sixteen s.bank.tree a.reached.tree))

    apart : (n : ℕ) → among noters n ≡ true → n ≡ i → ⊥
    apart n m e = true≢false (sym m ∙ ap (among noters) e ∙ once)

    abbrev w' : World
    w' = told w (Note i j) (accepted s')

    rest_away : Away j before noters w'
    unfolding told
    rest_away = record {
      reached = stepped w (Note i j) s' a.reached note_back;
      below = a.below;
      away = ap (λ (c : Column). c.running) (other_same j (other s (reached_passes w a.reached) j a.below a.away i (a.running i here))) ∙ a.away;
      running = λ n m. let y = a.running n (listed_later i noters n m) in (y.0, ap (λ (c : Column). c.running) (other_same n (apart n m)) ∙ y.1);
      struck_out = λ n m. other_same n (apart n m) ∙ a.struck_out n (listed_later i noters n m);
    }

    noted_more : Noted j before noters w' → Noted j before (i ∷ noters) w
    unfolding all_accepted run told
    noted_more z = (
      rw note_back z.0,
      λ n. ap (λ (o : Result State). column_at (run (told w (Note i j) o) (map (λ (q : ℕ). Note q j) noters)).state.bank n) note_back
          ∙ z.1 n ∙ go n (equal_cases n i),
    )
      where
        go : (n : ℕ) → (n ≡ i) ⊎ (n ≡ i → ⊥)
            → cond (among noters n) (noticed (before n)) (column_at s'.bank n) ≡ cond (eqb n i || among noters n) (noticed (before n)) (column_at s.bank n)
        go n (inl e) =
            ap₂ (λ (b : Bool) (c : Column). cond b (noticed (before n)) c) (ap (among noters) e ∙ once) (ap (column_at s'.bank) e ∙ mine_back ∙ ap (λ (k : ℕ). noticed (before k)) (sym e))
            ∙ sym (ap (λ (b : Bool). cond (b || among noters n) (noticed (before n)) (column_at s.bank n)) (eq-eqb n i e))
        go n (inr e) =
            ap (cond (among noters n) (noticed (before n))) (other_same n e)
            ∙ sym (ap (λ (b : Bool). cond (b || among noters n) (noticed (before n)) (column_at s.bank n)) (ne_eqb n i e))

  pub each_notes : (noters : List ℕ) → Distinct noters → ((i : ℕ) → among noters i ≡ true → Held k j before i) → (w : World) → Away j before noters w
      → Noted j before noters w
  unfolding all_accepted run
  each_notes [] d held w a = (refl, λ i. refl)
  each_notes (i ∷ noters) d held w a =
      let mine = held i (listed_here i noters) in
      noted_more w i noters d.0 mine a
      (each_notes noters d.1 (λ n m. held n (listed_later i noters n m)) (w' w i noters d.0 mine a) (rest_away w i noters d.0 mine a))
