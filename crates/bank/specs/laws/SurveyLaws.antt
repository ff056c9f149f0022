-- What the pass of a survey over the columns gathers is what row 4 asks of each; and what who runs says of a set. Assumes nothing.
use Rattle.std.specs.Prelude.{ℕ, ◌+◌, ◌%◌, ◌≤◌, ◌<◌, ◌^◌, List, ◌≡◌, refl, ◌⊎◌, Bool, true, false, not, ◌&&◌, ◌||◌, cond, eqb, leb, ltb}
use Rattle.std.proofs.Common.{sym, ap, ap₂, subst, ◌∙◌, inl, inr, true≢false, add-one, arith, pow_pos, eq-eqb, ne_eqb, le-leb, ltb-true, ltb-false}
use Rattle.std.proofs.lemmas.Nat.{xor_lt}
use Rattle.std.proofs.lemmas.Bool.{lt-leb}
use Rattle.column.specs.laws.Cases.{truth, compare_cases}
use Rattle.column.specs.Sets.{has, join, insert, minus, whole, within, selected}
use Rattle.column.specs.laws.SetLaws.{has_join, has_minus, join_lt, lt_within, within_join, same_members, selected_lt, selected_has}
use Rattle.column.specs.laws.SequenceLaws.{whole_has}
use Rattle.column.specs.Columns.{state_refusal}
use Rattle.column.specs.Trees.{every}
use Rattle.column.specs.laws.TreeLaws.{every_at, every_all}
use Rattle.column.specs.declared.tree.Tree.{Tree}
use Rattle.column.specs.declared.state.Column.{Column}
use Rattle.bank.specs.Banks.{column_at, runs, running_of, halted_of, RefusesBank}
use Rattle.bank.specs.inner.Surveys.{places_of, unseen, members_in, members_of, Sees, Saw, Passing, RefusesSeen}
use Rattle.bank.specs.laws.SetsWordLaws.{crossed}
use Rattle.bank.specs.laws.ValidityLaws.{not_below}
use Rattle.bank.specs.declared.bank.Bank.{Bank}
use Rattle.bank.specs.declared.survey.Seen.{Seen}

-- ---- who does not run

-- a column below the count is a member exactly where it is none of those that run
pub others_halted : (b : Bank) → minus (whole b.tree.columns) (running_of b) ≡ halted_of b
others_halted b =
    let n = b.tree.columns in
    let most : whole n < 2 ^ n = omega (arith, pow_pos n) in
    let some = selected_lt (runs b) n n (omega arith) in
    same_members n _ (halted_of b) (xor_lt n _ _ (join_lt n _ _ most some) some) (selected_lt (λ j. not (runs b j)) n n (omega arith))
    (λ j h.
    has_minus (whole n) (running_of b) j
    ∙ ap₂ (λ (x y : Bool). x && not y) (whole_has n j h) (selected_has (runs b) n j h)
    ∙ sym (selected_has (λ j. not (runs b j)) n j h))

-- ---- a column

column_table : (s a o w own root whole below : Bool)
    → eqb (cond (not s) 4 (cond (not a) 4 (cond (not o) 4 (cond (not w) 4 (cond own 4 (cond (root && not whole) 4 (cond (not below) 4 0))))))) 0
    ≡ ((((s && a) && o) && w) && (below && (not own && (not root || whole))))
column_table false a o w own root whole below = refl
column_table true false o w own root whole below = refl
column_table true true false w own root whole below = refl
column_table true true true false own root whole below = refl
column_table true true true true true root whole true = refl
column_table true true true true true root whole false = refl
column_table true true true true false true false true = refl
column_table true true true true false true false false = refl
column_table true true true true false true true true = refl
column_table true true true true false true true false = refl
column_table true true true true false false whole true = refl
column_table true true true true false false whole false = refl

-- row 4 of a column that is one, in the order in which it is gathered
column_valid : (t : Tree) (i : ℕ) (c : Column) → i < t.columns
    → eqb (state_refusal t i c) 0
    ≡ (within (members_of c) t.columns && (ltb c.sender t.columns && (not (has c.owed i) && (not (eqb i t.root) || c.whole))))
unfolding state_refusal
column_valid t i c h =
    let n = t.columns in
    rw (
      within_join (join (join c.send c.awaited) c.owed) c.noted n,
      within_join (join c.send c.awaited) c.owed n,
      within_join c.send c.awaited n,
      lt-leb n i h,
      not_below c.sender n,
    )
    (column_table (within c.send n) (within c.awaited n) (within c.owed n) (within c.noted n) (has c.owed i) (eqb i t.root) c.whole
    (ltb c.sender n))

-- the root's goal is asked for from its place on
root_so : (b : Bank) (i : ℕ) → let root = b.tree.root in
    (leb (i + 1) root || (column_at b root).whole) ≡ ((leb i root || (column_at b root).whole) && (not (eqb i root) || (column_at b i).whole))
root_so b i = go (compare_cases i b.tree.root)
  where
    root : ℕ
    root = b.tree.root

    twice : (w : Bool) → w ≡ (w && true)
    twice true = refl
    twice false = refl

    go : (i < root) ⊎ ((i ≡ root) ⊎ (root < i))
        → (leb (i + 1) root || (column_at b root).whole) ≡ ((leb i root || (column_at b root).whole) && (not (eqb i root) || (column_at b i).whole))
    go (inl h) = rw (le-leb (i + 1) root (omega (arith, h)), le-leb i root (omega (arith, h)), ne_eqb i root (λ z. omega (arith, h, z)))
    go (inr (inl e)) = rw (e, lt-leb (root + 1) root (omega arith), le-leb root root (omega arith), eq-eqb root root refl)
    go (inr (inr h)) =
        rw (lt-leb (i + 1) root (omega (arith, h)), lt-leb i root h, ne_eqb i root (λ z. omega (arith, h, z))) (twice (column_at b root).whole)

-- ---- the columns, one after the other

pub saw_none : (b : Bank) → Saw unseen b 0
unfolding every selected
saw_none b = record { valid_so = rw (lt_within 0 b.tree.columns (pow_pos b.tree.columns), le-leb 0 b.tree.root (omega arith)); running_so = refl }

pub saw_more : (b : Bank) (v w : Seen) (i : ℕ) → i < b.tree.columns → Saw v b i → Sees w v b.tree.columns i (column_at b i) → Saw w b (i + 1)
unfolding every selected
saw_more b v w i h so sees =
    record {
      valid_so =
          rw (sees.members_so, sees.sent_so, sees.own_so, not_or (has v.own 32) (has c.owed i), root_so b i, add-one i)
          (ap (λ (x : Bool). gathered && x) (ap (λ (x : Bool). (v.sent && below) && x) (crossed owing other part goal) ∙ crossed v.sent below (owing && part) (other && goal))
          ∙ crossed (within (members_in v.sets) n) (within (members_of c) n) (v.sent && (owing && part)) (below && (other && goal))
          ∙ ap₂ (λ (x y : Bool). x && y) so.valid_so (sym (column_valid b.tree i c h)));
      running_so = rw (add-one i) (sees.running_so ∙ ap (λ (m : ℕ). cond (runs b i) (insert m i) m) so.running_so);
    }
  where
    n : ℕ
    n = b.tree.columns

    c : Column
    c = column_at b i

    below : Bool
    below = ltb c.sender n

    owing : Bool
    owing = not (has v.own 32)

    other : Bool
    other = not (has c.owed i)

    part : Bool
    part = leb i b.tree.root || (column_at b b.tree.root).whole

    goal : Bool
    goal = not (eqb i b.tree.root) || c.whole

    gathered : Bool
    gathered = within (members_in v.sets) n && within (members_of c) n

    not_or : (a b : Bool) → not (a || b) ≡ (not a && not b)
    not_or true b = refl
    not_or false b = refl

-- the pass goes over all columns of a tree, and over no place that is not there
places_few : (n : ℕ) → (places_of n ≤ 16) × ((places_of n ≤ n) × (n ≤ 16 → places_of n ≡ n))
unfolding places_of
places_few n = go (ltb 16 n) refl
  where
    go : (b : Bool) → ltb 16 n ≡ b → (cond b 16 n ≤ 16) × ((cond b 16 n ≤ n) × (n ≤ 16 → cond b 16 n ≡ n))
    go true e = let h = ltb-true 16 n e in (omega arith, (omega (arith, h), λ z. omega (arith, h, z)))
    go false e = (ltb-false 16 n e, (omega arith, λ z. refl))

module _ (b : Bank) {n : ℕ} (is : n ≡ places_of b.tree.columns) where
  pub passing_start : {v : Seen} → v ≡ unseen → Passing v b n 0
  passing_start e =
      let few = places_few b.tree.columns in
      (omega arith, (omega (arith, is, few.0), (omega (arith, is, few.1.0), subst (λ (v : Seen). Saw v b 0) (sym e) (saw_none b))))

  passing_end : {v : Seen} {j : ℕ} → Passing v b n j → n ≤ j → b.tree.columns ≤ 16 → Saw v b b.tree.columns
  passing_end {v} {j} p over six =
      let all = (places_few b.tree.columns).1.1 six in
      let end : j ≡ b.tree.columns = omega (arith, is, all, p.0, over) in
      subst (Saw v b) end p.1.1.1

  -- what the bank is refused by once all columns are seen, and who runs
  pub passing_tells : (heads : List ℕ) {v : Seen} {j r : ℕ} → Passing v b n j → n ≤ j
      → RefusesSeen r b.tree v (column_at b (b.tree.root % 16)).whole b.count heads
      → RefusesBank r b heads × (b.tree.columns ≤ 16 → v.running ≡ running_of b)
  passing_tells heads p over refuses = (
    refuses b.columns (passing_end p over) (λ low. let same : b.tree.root % 16 ≡ b.tree.root = omega (arith, low) in ap (λ (z : ℕ). (column_at b z).whole) same),
    λ six. (passing_end p over six).running_so,
  )

pub passing_on : (b : Bank) {n j : ℕ} {v w : Seen} → Passing v b n j → j < n → Sees w v b.tree.columns j (column_at b j) → Passing w b n (j + 1)
passing_on b {n} {j} {v} {w} p h e = (omega (arith, h), (p.1.0, (p.1.1.0, saw_more b v w j (omega (arith, h, p.1.1.0)) p.1.1.1 e)))

-- ---- a set of columns

-- every member of m is of r
pub covers_members : (n m r : ℕ) → m < 2 ^ n → r < 2 ^ n → eqb (join m r) r ≡ every (λ j. not (has m j) || has r j) n
covers_members n m r hm hr = go (truth (every test n))
  where
    test : ℕ → Bool
    test j = not (has m j) || has r j

    joined : (a b : Bool) → (not a || b) ≡ true → (a || b) ≡ b
    joined true b e = sym e
    joined false b e = refl

    apart : (a b : Bool) → (a || b) ≡ b → (not a || b) ≡ true
    apart true b e = sym e
    apart false b e = refl

    go : (every test n ≡ true) ⊎ (every test n ≡ false) → eqb (join m r) r ≡ every test n
    go (inl e) =
        eq-eqb (join m r) r (same_members n (join m r) r (join_lt n m r hm hr) hr
        (λ j l. has_join m r j ∙ joined (has m j) (has r j) (every_at test n j e l)))
        ∙ sym e
    go (inr e) =
        ne_eqb (join m r) r (λ p. true≢false
        (sym (every_all test n (λ j l. apart (has m j) (has r j) (sym (has_join m r j) ∙ ap (λ (x : ℕ). has x j) p))) ∙ e))
        ∙ sym e
