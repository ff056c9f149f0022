-- A strip halted at once is its members halted singly, whichever goes first; it is accepted exactly where each member's own halt is; a set of one is the
-- old step, refusals included. Assumes nothing.
use Prim.Native.Nat.{ℕ, zero, suc, ◌<◌, ◌^◌, ◌≤◌}
use Rattle.std.specs.Prelude.{◌≡◌, ◌⊎◌, Bool, ◌&&◌, ◌||◌, cond, List, [], ◌∷◌, eqb}
use Rattle.std.proofs.Math.Path.{refl, sym, ap}
use Rattle.std.proofs.Common.{ap₂, ◌∙◌, inl, inr, true≢false, arith}
use Rattle.std.proofs.Math.Logic.{⊎_elim}
use Rattle.std.proofs.Math.Bool.{true, false, not, and-false}
use Rattle.std.proofs.Math.Dec.{ltb}
use Rattle.std.proofs.Math.Pow.{pow-lt}
use borrow.Author.Tests.{eq-eqb, ne_eqb, lt-ltb, le-ltb, ltb-true, ltb-false, not-false, eqb-true, lt-leb, le-leb}
use Rattle.column.specs.laws.Cases.{truth, equal_cases, compare_cases}
use Rattle.column.specs.Refusals.{first}
use Rattle.column.specs.laws.RefusalLaws.{passed, earlier_none}
use Rattle.column.specs.Sets.{has, single, within}
use Rattle.column.specs.laws.SetLaws.{within_lt, member_lt, has_single, lt_within, members_lt}
use Rattle.column.specs.laws.TreeLaws.{every_at, every_all, every_fails}
use Rattle.column.specs.Steps as core
use Rattle.column.specs.Columns.{validity_refusal}
use Rattle.column.specs.declared.tree.Tree.{Tree}
use Rattle.column.specs.declared.state.Column.{Column}
use Rattle.bank.specs.Banks.{State, column_at, runs, bank_refusal, Whole, acting_refusal}
use Rattle.bank.specs.Networks.{only, vanished}
use Rattle.bank.specs.laws.ValidityLaws.{Valid, valid, acting_passes, valid_passes, acting}
use Rattle.bank.specs.laws.StepLaws.{halted_settled}
use Rattle.bank.specs.Steps.{accepted, unless, halted, settled, halt_conditions, halt_refusal, halt, Result, refused, members_run}
use Rattle.bank.specs.Strips.{halt_one, and_then, singles, among, Distinct, Singly}
use Rattle.bank.specs.laws.strips.StripStates.{halted_twice, halted_none, halted_one, still_runs, halted_whole, halted_valid}

core_passes : (s : State) → Valid s → (i : ℕ) → i < s.bank.tree.columns → runs s.bank i ≡ true
    → core.halt_refusal s.bank.tree i (column_at s.bank i) ≡ 0
unfolding core.halt_refusal
core_passes s st i h r = simp (st.tree, st.columns i h, r)

pub one_accepted : (s : State) → Valid s → (i : ℕ) → i < s.bank.tree.columns → runs s.bank i ≡ true
    → halt_one s i ≡ accepted (halted s (only i))
one_accepted s st i h r =
    let c = column_at s.bank i in
    ap (λ (n : ℕ). unless n s (settled s (vanished s (only i)) i (core.halt s.bank.tree i c))) (acting_passes s st i h)
    ∙ halted_settled s i c st.room (core_passes s st i h r)
    ∙ ap accepted (sym (halted_one s i))

-- the members of a list are columns that run
abbrev Running : State → (ℕ → Bool) → Type 0
Running s p = (j : ℕ) → p j ≡ true → (j < s.bank.tree.columns) × (runs s.bank j ≡ true)

singly_list : (l : List ℕ) (s : State) → Whole s → Valid s → Running s (among l) → Distinct l
    → singles s l ≡ accepted (halted s (among l))
unfolding singles halted vanished
singly_list [] s w st run d = ap accepted (sym (halted_none s w st.room))
singly_list (i ∷ l) s w st run d =
    let here = run i (ap (λ (b : Bool). b || among l i) (eq-eqb i i refl)) in
    let next = halted s (only i) in
    ap (λ o. and_then o (λ t. singles t l)) (one_accepted s st i here.0 here.1)
    ∙ singly_list l next (halted_whole s (only i) w st) (halted_valid s (only i) w st) others d.1
    ∙ ap accepted (halted_twice s w (only i) (among l))
  where
    others : Running (halted s (only i)) (among l)
    others j e =
        let n : j ≡ i → ⊥ = λ z. true≢false (sym e ∙ ap (among l) z ∙ d.0) in
        let r = run j (or_right (eqb j i) (among l j) e) in
        (r.0, still_runs s (only i) j (ne_eqb j i n) ∙ r.1)
      where
        or_right : (a b : Bool) → b ≡ true → (a || b) ≡ true
        or_right true b e = refl
        or_right false b e = e

-- ---- the step with a set

module _ (s : State) (m : ℕ) (e : halt_refusal s m ≡ 0) where
  pub halts : Valid s × (m < 2 ^ s.bank.tree.columns) × Running s (has m)
  unfolding halt_refusal
  halts =
      let n = s.bank.tree.columns in
      let q = earlier_none (bank_refusal s) (first (halt_conditions s m)) e in
      let c = passed (halt_conditions s m) tt q.1 in
      let lt = within_lt m n (not-false _ c.0) in (
        valid s q.0,
        lt,
        λ j h.
            let b = member_lt n m j lt h in
            (b, or_right (has m j) _ h (every_at (λ (i : ℕ). not (has m i) || runs s.bank i) n j (not-false _ c.1.0) b)),
      )
    where
      or_right : (a b : Bool) → a ≡ true → (not a || b) ≡ true → b ≡ true
      or_right true b h e = e
      or_right false b h e = absurd (true≢false (sym h))

  pub halt_accepted : halt s m ≡ accepted (halted s (has m))
  halt_accepted = ap (λ (n : ℕ). unless n s (accepted (halted s (has m)))) e

pub singly : Singly
singly s w m e l d same =
    singly_list l s w (halts s m e).0 (λ j h. (halts s m e).2 j (sym (same j) ∙ h)) d
    ∙ ap (λ (p : ℕ → Bool). accepted (halted s p)) (λ k j. same j k) ∙ sym (halt_accepted s m e)

-- ---- a list of a set's members

unfoldable pub listed : (ℕ → Bool) → ℕ → List ℕ
listed p zero = []
listed p (suc n) = cond (p n) (n ∷ listed p n) (listed p n)

module _ (p : ℕ → Bool) where
  pub among_listed : (n j : ℕ) → among (listed p n) j ≡ (ltb j n && p j)
  unfolding listed
  among_listed zero j = sym (ap (λ (b : Bool). b && p j) (le-ltb j 0 (omega arith)))
  among_listed (suc n) j = go (p n) refl (equal_cases j n) (among_listed n j)
    where
      more : (j ≡ n → ⊥) → ltb j (suc n) ≡ ltb j n
      more z = ⊎_elim (λ t. lt-ltb j (suc n) (omega (arith, ltb-true j n t)) ∙ sym t)
          (λ t. le-ltb j (suc n) (omega (arith, ltb-false j n t, z)) ∙ sym t) (truth (ltb j n))

      go : (b : Bool) → p n ≡ b → (j ≡ n) ⊎ (j ≡ n → ⊥) → among (listed p n) j ≡ (ltb j n && p j)
          → among (cond b (n ∷ listed p n) (listed p n)) j ≡ (ltb j (suc n) && p j)
      go true q (inl z) ih =
          ap (λ (b : Bool). b || among (listed p n) j) (eq-eqb j n z)
          ∙ sym (ap₂ ◌&&◌ (lt-ltb j (suc n) (omega (arith, z))) (ap p z ∙ q))
      go true q (inr z) ih =
          ap (λ (b : Bool). b || among (listed p n) j) (ne_eqb j n z) ∙ ih ∙ ap (λ (b : Bool). b && p j) (sym (more z))
      go false q (inl z) ih =
          ih ∙ ap (λ (b : Bool). b && p j) (le-ltb j n (omega (arith, z)))
          ∙ sym (ap₂ ◌&&◌ (lt-ltb j (suc n) (omega (arith, z))) (ap p z ∙ q))
      go false q (inr z) ih = ih ∙ ap (λ (b : Bool). b && p j) (sym (more z))

  pub distinct_listed : (n : ℕ) → Distinct (listed p n)
  unfolding listed
  distinct_listed zero = tt
  distinct_listed (suc n) = go (p n) (distinct_listed n)
    where
      go : (b : Bool) → Distinct (listed p n) → Distinct (cond b (n ∷ listed p n) (listed p n))
      go true d = (among_listed n n ∙ ap (λ (b : Bool). b && p n) (le-ltb n n (omega arith)), d)
      go false d = d

-- some list has exactly the members
pub members_listed : (s : State) (m : ℕ) → halt_refusal s m ≡ 0 → (j : ℕ) → among (listed (has m) s.bank.tree.columns) j ≡ has m j
members_listed s m e j = among_listed (has m) s.bank.tree.columns j ∙ go (has m j) refl
  where
    go : (b : Bool) → has m j ≡ b → (ltb j s.bank.tree.columns && b) ≡ b
    go true h = ap (λ (x : Bool). x && true) (lt-ltb j s.bank.tree.columns ((halts s m e).2 j h).0)
    go false h = and-false (ltb j s.bank.tree.columns)

module _ (s : State) where
  -- ---- what an accepted halt of one column shows

  unless_accepted : (n : ℕ) (o : Result State) (s' : State) → unless n s o ≡ accepted s' → (n ≡ 0) × (o ≡ accepted s')
  unless_accepted n o s' = go (eqb n 0) refl
    where
      go : (b : Bool) → eqb n 0 ≡ b → cond b o (refused n s) ≡ accepted s' → (n ≡ 0) × (o ≡ accepted s')
      go true z h = (eqb-true n 0 z, h)
      go false z h = let y : ◌≡◌ {A = ℕ} 0 1 = cc in absurd (omega arith)

  core_accepted : (gone : State) (i n : ℕ) (c : Column) (r : core.Result) (s' : State)
      → settled s gone i (core.unless n c r) ≡ accepted s' → n ≡ 0
  core_accepted gone i n c r s' = go (eqb n 0) refl
    where
      go : (b : Bool) → eqb n 0 ≡ b → settled s gone i (cond b r (core.refused n c)) ≡ accepted s' → n ≡ 0
      go true z h = eqb-true n 0 z
      go false z h = let y : ◌≡◌ {A = ℕ} 0 1 = cc in absurd (omega arith)

  core_runs : (t : Tree) (i : ℕ) (c : Column) → core.halt_refusal t i c ≡ 0 → c.running ≡ true
  unfolding core.halt_refusal
  core_runs t i c e =
      not-false _ (passed (core.halt_conditions t i c) tt (earlier_none (validity_refusal t i c) (first (core.halt_conditions t i c)) e).1).0

  one_runs : (i : ℕ) (s' : State) → halt_one s i ≡ accepted s' → Valid s × (i < s.bank.tree.columns) × (runs s.bank i ≡ true)
  one_runs i s' e =
      let c = column_at s.bank i in
      let q = unless_accepted (acting_refusal s i) _ s' e in
      let a = acting s i q.0 in
      let k = core_accepted (vanished s (only i)) i (core.halt_refusal s.bank.tree i c) c (core.halt_effect c) s' q.1 in
      (a.0, a.1, core_runs s.bank.tree i c k)

  -- ---- together and each

  -- where the set is accepted, so is each member from the start
  pub together_each : (m : ℕ) → halt_refusal s m ≡ 0 → (i : ℕ) → has m i ≡ true → halt_one s i ≡ accepted (halted s (only i))
  together_each m e i h =
      let k = halts s m e in
      let r = k.2 i h in
      one_accepted s k.0 i r.0 r.1

  passes_set : (m : ℕ) → Valid s → within m s.bank.tree.columns ≡ true → members_run s.bank m ≡ true → halt_refusal s m ≡ 0
  unfolding halt_refusal
  passes_set m st w r = simp (valid_passes s st, w, r)

  -- where each member is accepted from the start, and there is one, so is the set
  pub each_together : (m k : ℕ) → m < 2 ^ k → (i : ℕ) → has m i ≡ true
      → ((j : ℕ) → has m j ≡ true → (s' : State) × (halt_one s j ≡ accepted s')) → halt_refusal s m ≡ 0
  each_together m k l i h each =
      let n = s.bank.tree.columns in
      let r : (j : ℕ) → has m j ≡ true → Valid s × (j < n) × (runs s.bank j ≡ true) = λ j q. one_runs j (each j q).0 (each j q).1 in
      passes_set m (r i h).0 (lt_within m n (members_lt k n m l (λ j q. (r j q).1)))
      (every_all (λ (j : ℕ). not (has m j) || runs s.bank j) n (λ j b. go j (has m j) refl (λ q. (r j q).2)))
    where
      go : (j : ℕ) (b : Bool) → has m j ≡ b → (has m j ≡ true → runs s.bank j ≡ true) → (not b || runs s.bank j) ≡ true
      go j true e f = f e
      go j false e f = refl

  -- ---- a set of one

  module _ (i : ℕ) where
    abbrev n : ℕ
    n = s.bank.tree.columns

    same_only : (j : ℕ) → has (single i) j ≡ only i j
    same_only j = has_single i j

    running_one : Valid s → i < n → runs s.bank i ≡ true → halt s (single i) ≡ halt_one s i
    running_one st l r =
        let e : halt_refusal s (single i) ≡ 0 = passes_set (single i) st (lt_within (single i) n (pow-lt l))
        (every_all (λ (j : ℕ). not (has (single i) j) || runs s.bank j) n (λ j b. go j (equal_cases j i))) in
        halt_accepted s (single i) e ∙ ap (λ (p : ℕ → Bool). accepted (halted s p)) (λ k j. same_only j k) ∙ sym (one_accepted s st i l r)
      where
        go : (j : ℕ) → (j ≡ i) ⊎ (j ≡ i → ⊥) → (not (has (single i) j) || runs s.bank j) ≡ true
        go j (inl z) = ap (λ (x : ℕ). not (has (single i) x) || runs s.bank x) z ∙ ap (λ (b : Bool). not (has (single i) i) || b) r ∙ last (has (single i) i)
          where
            last : (b : Bool) → (not b || true) ≡ true
            last true = refl
            last false = refl
        go j (inr z) = ap (λ (b : Bool). not b || runs s.bank j) (same_only j ∙ ne_eqb j i z)

    stopped_one : Valid s → i < n → runs s.bank i ≡ false → halt s (single i) ≡ halt_one s i
    unfolding halt_refusal core.halt_refusal
    stopped_one st l r =
        let none : members_run s.bank (single i) ≡ false = every_fails (λ (j : ℕ). not (has (single i) j) || runs s.bank j) n i
        (ap (λ (b : Bool). not b || runs s.bank i) (same_only i ∙ eq-eqb i i refl) ∙ r) l in
        let together : halt s (single i) ≡ refused 5 s = simp (valid_passes s st, lt_within (single i) n (pow-lt l), none) in
        let alone : halt_one s i ≡ refused 5 s = simp (valid_passes s st, lt-leb n i l, st.tree, st.columns i l, r) in
        together ∙ sym alone

    absent_one : Valid s → n ≤ i → halt s (single i) ≡ halt_one s i
    unfolding halt_refusal
    absent_one st l =
        let out : within (single i) n ≡ false = ⊎_elim (λ t. absurd (omega (arith, l, member_lt n (single i) i (within_lt (single i) n t) (same_only i ∙ eq-eqb i i refl)))) (λ f. f) (truth (within (single i) n)) in
        let together : halt s (single i) ≡ refused 4 s = simp (valid_passes s st, out) in
        let alone : halt_one s i ≡ refused 4 s = simp (valid_passes s st, le-leb n i l) in
        together ∙ sym alone

    bad_one : (bank_refusal s ≡ 0 → ⊥) → halt s (single i) ≡ halt_one s i
    unfolding halt_refusal
    bad_one h =
        let together : halt s (single i) ≡ refused (bank_refusal s) s = simp (ne_eqb (bank_refusal s) 0 h) in
        let alone : halt_one s i ≡ refused (bank_refusal s) s = simp (ne_eqb (bank_refusal s) 0 h) in
        together ∙ sym alone

    -- a list of one is the old step, whatever the bank
    pub one : halt s (single i) ≡ halt_one s i
    one = ⊎_elim (λ z. good (valid s z)) bad_one (equal_cases (bank_refusal s) 0)
      where
        good : Valid s → halt s (single i) ≡ halt_one s i
        good st = ⊎_elim (λ l. ⊎_elim (running_one st l) (stopped_one st l) (truth (runs s.bank i)))
            (λ q. absent_one st (⊎_elim (λ e. omega (arith, e)) (λ l. omega (arith, l)) q)) (compare_cases i n)
