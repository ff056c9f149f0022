-- What row 4's tests of a bank decide, condition by condition, both ways; and the test of a packet by its head.
-- Assumes nothing.
use Prim.Native.Nat.{ℕ, zero, suc, ◌≤◌, ◌<◌, ◌+◌, ◌-◌}
use Rattle.std.specs.Prelude.{◌≡◌, ◌⊎◌, Bool, true, false, ◌&&◌, ◌||◌, cond, eqb, leb, ltb, length}
use Rattle.std.proofs.Math.Path.{refl, sym, ap}
use Rattle.std.proofs.Common.{ap₂, ◌∙◌, inl, inr, ⊎_elim, true≢false}
use Rattle.std.proofs.Math.Bool.{not}
use mathlib.Core.List.{List, [], ◌∷◌, ◌++◌, append-nil}
use native.Mathlib.Omega.{arith}
use Rattle.std.proofs.Math.Numerals.{add-one}
use Rattle.std.proofs.Math.ListN.{get_or, set, replicate, length-append, get_or-append, get_or-eq_default}
use Rattle.std.proofs.Math.Seq.{append_snoc, set_at, get_or_at}
use borrow.Author.Tests.{eq-eqb, eqb-true, le-ltb, ltb-true, ltb-false, le-leb, lt-leb, leb-false, not-false}
use Rattle.column.specs.laws.Cases.{truth, and_left, and_right, equal_cases, compare_cases}
use Rattle.column.specs.Refusals.{first}
use Rattle.column.specs.laws.RefusalLaws.{passed, passes, earlier_none}
use Rattle.column.specs.Sets.{selected, has}
use Rattle.column.specs.laws.SetLaws.{selected_has, has_none}
use Rattle.column.specs.Trees.{every, tree_refusal}
use Rattle.column.specs.laws.TreeLaws.{every_at, every_all, check_exact, tree_sixteen}
use Rattle.column.specs.Columns.{state_refusal, fresh}
use Rattle.column.specs.Packets.{receiver}
use Rattle.column.specs.Steps.{packet_refusal}
use Rattle.column.specs.laws.StateLaws.{sound_passes}
use Rattle.column.specs.declared.tree.Tree.{Tree}
use Rattle.column.specs.declared.state.Column.{Column}
use Rattle.bank.specs.Words.{acknowledging, receiver_in, sender_in, packet_of}
use Rattle.bank.specs.laws.WordLaws.{receiver_of, sender_of, kind_of_lem}
use Rattle.bank.specs.Banks.{State, state, column_at, runs, packet_at, column_valid, packet_valid, packets_valid, bank_conditions, bank_refusal, acting_refusal, places, no_column, fresh_place, fresh_columns, fresh_bank}
use Rattle.bank.specs.inner.Surveys.{head_valid}
use Rattle.bank.specs.declared.bank.Bank.{Bank}

-- tests that agree below n
pub every_same : (f g : ℕ → Bool) (n : ℕ) → ((j : ℕ) → j < n → f j ≡ g j) → every f n ≡ every g n
unfolding every
every_same f g zero h = refl
every_same f g (suc n) h = ap₂ ◌&&◌ (every_same f g n (λ j l. h j (omega arith))) (h n (omega arith))

-- what a bank must be for a step of it to be done
pub record Valid (s : State) : Type 0 where
  pub tree : tree_refusal s.bank.tree ≡ 0
  -- "4 meets a .. set member not below columns, a column owing itself, a root with a goal other than the whole bank"
  pub columns : (i : ℕ) → i < s.bank.tree.columns → state_refusal s.bank.tree i (column_at s.bank i) ≡ 0
  -- "more than 512 packets"
  pub room : s.bank.count ≤ 512
  -- "any packet with an end not below columns, equal ends, .. or a message to the root"
  pub packets : (k : ℕ) → k < s.bank.count → packet_refusal s.bank.tree (packet_at s k) ≡ 0
  -- "a halted receiver in a bank"
  pub receivers : (k : ℕ) → k < s.bank.count → runs s.bank (receiver (packet_at s k)) ≡ true

module _ (s : State) where
  abbrev packet_test : ℕ → Bool
  packet_test k = packet_valid s.bank (packet_at s k)

  pub valid : bank_refusal s ≡ 0 → Valid s
  unfolding bank_refusal
  valid e =
      let q = earlier_none (tree_refusal s.bank.tree) (first (bank_conditions s)) e in
      let p = passed (bank_conditions s) tt q.1 in
      let column = every_at (column_valid s.bank) s.bank.tree.columns in
      let packet = every_at packet_test s.bank.count in
      record {
        tree = q.0;
        columns = λ i h. eqb-true _ 0 (column i (not-false _ p.0) h);
        room = ltb-false 512 s.bank.count p.1.0;
        packets = λ k h. eqb-true _ 0 (and_left _ _ (packet k (not-false _ p.1.1.0) h));
        receivers = λ k h. and_right (eqb (packet_refusal s.bank.tree (packet_at s k)) 0) _ (packet k (not-false _ p.1.1.0) h);
      }

  pub valid_passes : Valid s → bank_refusal s ≡ 0
  unfolding bank_refusal
  valid_passes w =
      rw (eq-eqb (tree_refusal s.bank.tree) 0 w.tree) (passes (bank_conditions s) (
        ap not (every_all (column_valid s.bank) s.bank.tree.columns (λ i h. eq-eqb _ 0 (w.columns i h))),
        (
          le-ltb 512 s.bank.count w.room,
          (
            ap not (every_all packet_test s.bank.count (λ k h. rw (eq-eqb _ 0 (w.packets k h), w.receivers k h))),
            tt,
          ),
        ),
      ))

  pub acting : (i : ℕ) → acting_refusal s i ≡ 0 → Valid s × (i < s.bank.tree.columns)
  acting i e =
      let q = earlier_none (bank_refusal s) (first ((4, leb s.bank.tree.columns i) ∷ [])) e in
      (valid q.0, leb-false s.bank.tree.columns i (passed ((4, leb s.bank.tree.columns i) ∷ []) tt q.1).0)

  pub acting_passes : Valid s → (i : ℕ) → i < s.bank.tree.columns → acting_refusal s i ≡ 0
  acting_passes w i h = rw (eq-eqb (bank_refusal s) 0 (valid_passes w), lt-leb s.bank.tree.columns i h)

-- ---- a packet by its head

pub not_below : (a b : ℕ) → leb b a ≡ not (ltb a b)
not_below a b = go (truth (ltb a b))
  where
    go : (ltb a b ≡ true) ⊎ (ltb a b ≡ false) → leb b a ≡ not (ltb a b)
    go (inl e) = lt-leb b a (ltb-true a b e) ∙ ap not (sym e)
    go (inr e) = le-leb b a (ltb-false a b e) ∙ ap not (sym e)

-- row 4's conditions one after the other, and the same at once
table : (to_below from_below same message to_root watch running : Bool)
    → (to_below && (((from_below && not same) && (not message || (not to_root || watch))) && running))
    ≡ (eqb (cond (not from_below) 4 (cond (not to_below) 4 (cond same 4 (cond (message && (to_root && not watch)) 4 0)))) 0 && running)
table false false e m r w u = refl
table false true e m r w u = refl
table true false e m r w u = refl
table true true true m r w u = refl
table true true false true true true u = refl
table true true false true true false u = refl
table true true false true false w u = refl
table true true false false r w u = refl

module _ (b : Bank) (running : ℕ) (running_is : (j : ℕ) → j < b.tree.columns → has running j ≡ runs b j) where
  abbrev n : ℕ
  n = b.tree.columns

  -- the set of columns that run, for a column below columns
  in_running : (to : ℕ) (rest : Bool) → (ltb to n && (rest && has running to)) ≡ (ltb to n && (rest && runs b to))
  in_running to rest = go (ltb to n) (λ e. running_is to (ltb-true to n e))
    where
      go : (below : Bool) → (below ≡ true → has running to ≡ runs b to) → (below && (rest && has running to)) ≡ (below && (rest && runs b to))
      go true e = ap (◌&&◌ rest) (e refl)
      go false e = refl

  -- the doors are not looked at
  pub head_valid_lem : (head doors : ℕ) → head_valid n b.tree.root b.tree.watch running head ≡ packet_valid b (packet_of head doors)
  unfolding head_valid packet_refusal
  head_valid_lem head doors =
      let to = receiver_in head in
      let from = sender_in head in
      in_running to ((ltb from n && not (eqb from to)) && (leb acknowledging head || (not (eqb to b.tree.root) || b.tree.watch)))
      ∙ rw (receiver_of head doors, sender_of head doors, kind_of_lem head doors, not_below from n, not_below to n, not_below head acknowledging)
      (table (ltb to n) (ltb from n) (eqb from to) (ltb head acknowledging) (eqb to b.tree.root) b.tree.watch (runs b to))

pub heads_valid : (b : Bank) (heads doors : List ℕ)
    → let n = b.tree.columns in
    every (λ k. head_valid n b.tree.root b.tree.watch (selected (runs b) n) (get_or heads k 0)) b.count ≡ packets_valid (state b heads doors)
heads_valid b heads doors =
    let n = b.tree.columns in
    every_same _ _ b.count (λ k h. head_valid_lem b (selected (runs b) n) (selected_has (runs b) n) (get_or heads k 0) (get_or doors k 0))

-- ---- the values of a function at 0, 1, .., in order

module _ {A : Type 0} (f : ℕ → A) where
  pub length_places : (n : ℕ) → length (places f n) ≡ n
  unfolding places
  length_places zero = refl
  length_places (suc n) = length-append (places f n) (f n ∷ []) ∙ ap (λ (k : ℕ). k + 1) (length_places n) ∙ add-one n

  pub places_at : (n i : ℕ) (d : A) → i < n → get_or (places f n) i d ≡ f i
  unfolding places
  places_at zero i d h = absurd (omega arith)
  places_at (suc n) i d h = go (places_at n i d) (equal_cases i n)
    where
      go : (i < n → get_or (places f n) i d ≡ f i) → (i ≡ n) ⊎ (i ≡ n → ⊥) → get_or (places f n ++ (f n ∷ [])) i d ≡ f i
      go ih (inl e) = get_or_at (places f n) (f n) [] d i (length_places n ∙ sym e) ∙ ap f (sym e)
      go ih (inr e) = get_or-append (places f n) (f n ∷ []) d i (omega (arith, length_places n)) ∙ ih (omega arith)

  -- one more place is filled
  pub places_set : (n i : ℕ) (v : A) → i < n → set (places f i ++ replicate (n - i) v) i (f i) ≡ places f (i + 1) ++ replicate (n - (i + 1)) v
  unfolding places
  places_set n i v h =
      let e : n - i ≡ suc (n - (i + 1)) = omega arith in
      ap (λ (k : ℕ). set (places f i ++ replicate k v) i (f i)) e
      ∙ set_at (places f i) v (replicate (n - (i + 1)) v) (f i) i (length_places i)
      ∙ sym (append_snoc (places f i) (f i) (replicate (n - (i + 1)) v))
      ∙ rw (add-one i)

-- ---- the bank on the way to the fresh one: the places below i hold their columns

abbrev placed : Tree → List Column → Bank
placed t l = record { tree = t; columns = l; count = 0 }

abbrev pub partly_fresh : Tree → ℕ → Bank
partly_fresh t i = placed t (places (fresh_place t) i ++ replicate (16 - i) no_column)

-- ---- the fresh bank

module _ (t : Tree) (e : tree_refusal t ≡ 0) where
  pub fresh_place_lem : (i : ℕ) → i < t.columns → fresh_place t i ≡ fresh t i
  unfolding fresh_place
  fresh_place_lem i h = rw (eq-eqb (tree_refusal t) 0 e, lt-leb t.columns i h)

  unused_place : (i : ℕ) → t.columns ≤ i → fresh_place t i ≡ no_column
  unfolding fresh_place
  unused_place i h = rw (eq-eqb (tree_refusal t) 0 e, le-leb t.columns i h)

  unused_more : (i : ℕ) → t.columns ≤ i → i < 16
      → places (fresh_place t) i ++ replicate (16 - i) no_column ≡ places (fresh_place t) (i + 1) ++ replicate (16 - (i + 1)) no_column
  unfolding places
  unused_more i h l =
      let z : 16 - i ≡ suc (16 - (i + 1)) = omega (arith, l) in
      ap (λ (k : ℕ). places (fresh_place t) i ++ replicate k no_column) z
      ∙ sym (append_snoc (places (fresh_place t) i) no_column (replicate (16 - (i + 1)) no_column))
      ∙ ap (λ (c : Column). (places (fresh_place t) i ++ (c ∷ [])) ++ replicate (16 - (i + 1)) no_column) (sym (unused_place i h))
      ∙ rw (add-one i)

  -- the places past the last column are held already
  rest_unused : (k i : ℕ) → t.columns ≤ i → i + k ≡ 16 → partly_fresh t i ≡ partly_fresh t 16
  rest_unused zero i h e =
      let z : i ≡ 16 = omega (arith, e) in
      ap (partly_fresh t) z
  rest_unused (suc k) i h e =
      let z : i + 1 + k ≡ 16 = omega (arith, e) in
      ap (placed t) (unused_more i h (omega (arith, e))) ∙ rest_unused k (i + 1) (omega (arith, h)) z

  pub fresh_whole : partly_fresh t t.columns ≡ fresh_bank t
  fresh_whole =
      let z : t.columns + (16 - t.columns) ≡ 16 = omega (arith, tree_sixteen t e) in
      rest_unused (16 - t.columns) t.columns (omega arith) z ∙ ap (placed t) (append-nil (fresh_columns t))

  pub fresh_at : (i : ℕ) → i < t.columns → column_at (fresh_bank t) i ≡ fresh t i
  fresh_at i h = places_at (fresh_place t) 16 i no_column (omega (arith, tree_sixteen t e)) ∙ fresh_place_lem i h

  pub fresh_unused : (i : ℕ) → t.columns ≤ i → column_at (fresh_bank t) i ≡ no_column
  fresh_unused i h = go (compare_cases i 16)
    where
      beyond : 16 ≤ i → column_at (fresh_bank t) i ≡ no_column
      beyond l = get_or-eq_default (fresh_columns t) no_column (omega (arith, length_places (fresh_place t) 16))

      go : (i < 16) ⊎ ((i ≡ 16) ⊎ (16 < i)) → column_at (fresh_bank t) i ≡ no_column
      go (inl l) = places_at (fresh_place t) 16 i no_column l ∙ unused_place i h
      go (inr p) = beyond (⊎_elim (λ q. omega arith) (λ q. omega arith) p)

  fresh_sound : (i : ℕ) → i < t.columns → state_refusal t i (fresh t i) ≡ 0
  fresh_sound i h =
      let none : (j : ℕ) → has 0 j ≡ true → j < t.columns = λ j m. absurd (true≢false (sym m ∙ has_none j)) in
      sound_passes t i (fresh t i)
      (record { send = omega arith; awaited = omega arith; owed = omega arith; noted = omega arith })
      (record {
        below = h;
        send_below = none;
        awaited_below = none;
        owed_below = none;
        noted_below = none;
        owes_others = has_none i;
        root_whole = λ r. eq-eqb i t.root r;
        sender_below = ((check_exact t).0 e).root_below;
      })

  pub fresh_valid : (heads doors : List ℕ) → Valid (state (fresh_bank t) heads doors)
  fresh_valid heads doors =
      record {
        tree = e;
        columns = λ i h. ap (state_refusal t i) (fresh_at i h) ∙ fresh_sound i h;
        room = omega arith;
        packets = λ k h. absurd (omega arith);
        receivers = λ k h. absurd (omega arith);
      }

pub fresh_length : (t : Tree) → length (fresh_columns t) ≡ 16
fresh_length t = length_places (fresh_place t) 16
