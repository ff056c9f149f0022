-- A bank with the members of a set halted: what becomes of its words and places, and that it is still valid. Assumes nothing.
use Rattle.std.specs.Prelude.{ℕ, zero, suc, ◌+◌, ◌-◌, ◌≤◌, ◌<◌, ◌≡◌, Bool, ◌&&◌, ◌||◌, drop, replicate}
use Rattle.std.proofs.Math.Path.{refl, sym, ap, ap₂, subst}
use Rattle.std.proofs.Common.{◌∙◌}
use Rattle.std.proofs.Math.Bool.{true, false, not, cond}
use mathlib.Core.List.{List, [], ◌∷◌, ◌++◌}
use native.Mathlib.Omega.{arith}
use Rattle.std.proofs.Math.ListN.{length, get_or, take, length-take, get_or-append}
use Rattle.std.proofs.Math.Seq.{length-take-le, get_or-take}
use Rattle.column.specs.Trees.{tree_refusal}
use Rattle.column.specs.Columns.{state_refusal, stopped}
use Rattle.column.specs.Packets.{receiver}
use Rattle.column.specs.Steps.{packet_refusal}
use Rattle.column.specs.declared.tree.Tree.{Tree}
use Rattle.column.specs.declared.state.Column.{Column}
use Rattle.column.specs.declared.packet.Packet.{Packet}
use Rattle.bank.specs.Words.{receiver_in, packet_of}
use Rattle.bank.specs.laws.WordLaws.{receiver_of}
use Rattle.bank.specs.Networks.{keeping, padded, only, elsewhere, vanished, counting}
use Rattle.bank.specs.laws.ListSteps.{keeping_few, keeping_same, padded_none}
use Rattle.bank.specs.laws.ListLaws.{padded_front, keeping_twice, keeping_all, padded_twice}
use Rattle.bank.specs.Banks.{State, state, column_at, runs, packet_at, Whole}
use Rattle.bank.specs.laws.NetworkLaws.{vanished_whole}
use Rattle.bank.specs.laws.ValidityLaws.{Valid}
use Rattle.bank.specs.Steps.{rewriting, halted, with_column}
use Rattle.bank.specs.laws.strips.Rewriting.{rewriting_twice, rewriting_none, rewriting_one, rewriting_at}

module _ (s : State) (w : Whole s) where
  abbrev count : ℕ
  count = s.bank.count

  abbrev hs : List ℕ
  hs = take count s.heads

  abbrev ds : List ℕ
  ds = take count s.doors

  same_length : length hs ≡ length ds
  same_length = simp length-take (omega (arith, w.heads_length, w.doors_length))

  nor : (a b : Bool) → (not a && not b) ≡ not (a || b)
  nor true b = refl
  nor false b = refl

  module _ (p q : ℕ → Bool) where
    abbrev either : ℕ → Bool
    either j = p j || q j

    kept_twice : (xs : List ℕ) → keeping (elsewhere q) (keeping (elsewhere p) hs hs) (keeping (elsewhere p) hs xs) ≡ keeping (elsewhere either) hs xs
    kept_twice xs =
        keeping_twice (elsewhere p) (elsewhere q) hs xs
        ∙ ap (λ (f : ℕ → Bool). keeping f hs xs) (λ k h. nor (p (receiver_in h)) (q (receiver_in h)) k)

    few : {A : Type 0} (f : ℕ → Bool) (gs : List ℕ) (xs : List A) → length (keeping f gs xs) ≤ length gs
    few f gs xs = keeping_few f gs xs

    pub vanished_twice : vanished (vanished s p) q ≡ vanished s either
    unfolding vanished
    vanished_twice =
        let f = elsewhere p in
        let g = elsewhere q in
        let K = keeping f hs hs in
        let D = keeping f hs ds in
        let n = length K in
        let same : length D ≡ n = sym (keeping_same f hs hs ds same_length) in
        let at_most : n ≤ count = omega (arith, keeping_few f hs hs, length-take count s.heads) in
        let front_h : take n (padded K count 0 s.heads) ≡ K = padded_front K s.heads count 0 n refl in
        let front_d : take n (padded D count 0 s.doors) ≡ D = padded_front D s.doors count 0 n same in
        let kept_h : keeping g (take n (padded K count 0 s.heads)) (take n (padded K count 0 s.heads)) ≡ keeping (elsewhere either) hs hs =
        ap (λ l. keeping g l l) front_h ∙ kept_twice hs in
        let kept_d : keeping g (take n (padded K count 0 s.heads)) (take n (padded D count 0 s.doors)) ≡ keeping (elsewhere either) hs ds =
        ap₂ (λ l m. keeping g l m) front_h front_d ∙ kept_twice ds in
        let few_h : length (keeping (elsewhere either) hs hs) ≤ n = subst (λ (l : List ℕ). length l ≤ n) (kept_twice hs) (keeping_few g K K) in
        let few_d : length (keeping (elsewhere either) hs ds) ≤ n = subst (λ (l : List ℕ). length l ≤ n) (kept_twice ds) (keeping_few g K D) in
        let heads = ap (λ l. padded l n 0 (padded K count 0 s.heads)) kept_h
        ∙ padded_twice K (keeping (elsewhere either) hs hs) s.heads n count 0 refl few_h at_most in
        let doors = ap (λ l. padded l n 0 (padded D count 0 s.doors)) kept_d
        ∙ padded_twice D (keeping (elsewhere either) hs ds) s.doors n count 0 same few_d at_most in
        λ t. state (counting s.bank (length (kept_h t))) (heads t) (doors t)

    pub halted_twice : halted (halted s p) q ≡ halted s either
    unfolding halted vanished
    halted_twice = λ t.
        let v = vanished_twice t in
        state (record { tree = s.bank.tree; columns = rewriting_twice stopped p q (λ j c h k. refl) 0 s.bank.columns t; count = v.bank.count }) v.heads v.doors

  pub vanished_none : count ≤ 512 → vanished s (λ j. false) ≡ s
  unfolding vanished
  vanished_none l =
      let a : count ≤ length s.heads = omega (arith, l, w.heads_length) in
      let b : count ≤ length s.doors = omega (arith, l, w.doors_length) in
      let n : length (keeping (λ (h : ℕ). true) hs hs) ≡ count = ap length (keeping_all hs hs refl) ∙ length-take-le count s.heads a in
      let heads : padded (keeping (λ (h : ℕ). true) hs hs) count 0 s.heads ≡ s.heads =
      ap (λ x. padded x count 0 s.heads) (keeping_all hs hs refl) ∙ sym (padded_none s.heads 0 count a) in
      let doors : padded (keeping (λ (h : ℕ). true) hs ds) count 0 s.doors ≡ s.doors =
      ap (λ x. padded x count 0 s.doors) (keeping_all hs ds same_length) ∙ sym (padded_none s.doors 0 count b) in
      λ t. state (counting s.bank (n t)) (heads t) (doors t)

  pub halted_none : count ≤ 512 → halted s (λ j. false) ≡ s
  unfolding halted vanished
  halted_none l = λ t.
      let v = vanished_none l t in
      state (record { tree = s.bank.tree; columns = rewriting_none stopped 0 s.bank.columns t; count = v.bank.count }) v.heads v.doors

-- one member is the core's column in its place
pub halted_one : (s : State) (i : ℕ) → halted s (only i) ≡ with_column (vanished s (only i)) i (stopped (column_at s.bank i))
unfolding halted vanished
halted_one s i = λ t.
    let e : i ≡ 0 + i = omega arith in
    let v = vanished s (only i) in
    state (record { tree = s.bank.tree; columns = (ap (λ n. rewriting stopped (only n) 0 s.bank.columns) e ∙ rewriting_one stopped i 0 s.bank.columns) t; count = v.bank.count }) v.heads v.doors

-- ---- a valid bank is still valid with members stopped

-- a word that is kept, and the place where it was
record Found (f : ℕ → Bool) (hs ds : List ℕ) (h d : ℕ) : Type 0 where
  place : ℕ
  below : place < length hs
  head_is : h ≡ get_or hs place 0
  doors_is : d ≡ get_or ds place 0
  passes : f (get_or hs place 0) ≡ true

found : (f : ℕ → Bool) (hs ds : List ℕ) → length hs ≡ length ds → (k : ℕ) → k < length (keeping f hs hs)
    → Found f hs ds (get_or (keeping f hs hs) k 0) (get_or (keeping f hs ds) k 0)
unfolding keeping
found f [] ds e k l = absurd (omega (arith, l))
found f (h ∷ hs) [] e k l = absurd (omega (arith, e))
found f (h ∷ hs) (d ∷ ds) e k l = go (λ j m. found f hs ds (omega (arith, e)) j m) (f h) refl k l
  where
    later : {x y : ℕ} → Found f hs ds x y → Found f (h ∷ hs) (d ∷ ds) x y
    later z = record { place = suc z.place; below = omega (arith, z.below); head_is = z.head_is; doors_is = z.doors_is; passes = z.passes }

    go : ((j : ℕ) → j < length (keeping f hs hs) → Found f hs ds (get_or (keeping f hs hs) j 0) (get_or (keeping f hs ds) j 0)) → (t : Bool) → f h ≡ t → (k : ℕ) → k < length (cond t (h ∷ (keeping f hs hs)) (keeping f hs hs))
        → Found f (h ∷ hs) (d ∷ ds) (get_or (cond t (h ∷ (keeping f hs hs)) (keeping f hs hs)) k 0) (get_or (cond t (d ∷ (keeping f hs ds)) (keeping f hs ds)) k 0)
    go ih true q zero l = record { place = 0; below = omega arith; head_is = refl; doors_is = refl; passes = q }
    go ih true q (suc k) l = later (ih k (omega (arith, l)))
    go ih false q k l = later (ih k l)

padded_at : (w old : List ℕ) (c k : ℕ) → k < length w → get_or (padded w c 0 old) k 0 ≡ get_or w k 0
unfolding padded
padded_at w old c k h = get_or-append w (replicate (c - length w) 0 ++ drop c old) 0 k h

module _ (s : State) (p : ℕ → Bool) where
  pub column_at_lem : (j : ℕ) → column_at (halted s p).bank j ≡ cond (p j) (stopped (column_at s.bank j)) (column_at s.bank j)
  unfolding halted vanished
  column_at_lem j =
      let e : 0 + j ≡ j = omega arith in
      let c = column_at s.bank j in
      rewriting_at stopped refl p 0 s.bank.columns j ∙ ap (λ n. cond (p n) (stopped c) c) e

  pub still_runs : (j : ℕ) → p j ≡ false → runs (halted s p).bank j ≡ runs s.bank j
  still_runs j e =
      let c = column_at s.bank j in
      ap (λ (x : Column). x.running) (column_at_lem j ∙ ap (λ (b : Bool). cond b (stopped c) c) e)

  same_state : (t : Tree) (i : ℕ) (c : Column) (b : Bool) → state_refusal t i (cond b (stopped c) c) ≡ state_refusal t i c
  unfolding state_refusal
  same_state t i c true = refl
  same_state t i c false = refl

  module _ (w : Whole s) (st : Valid s) where
    pub halted_whole : Whole (halted s p)
    unfolding halted
    halted_whole =
        let v = vanished_whole s w p st.room in
        record { heads_length = v.heads_length; doors_length = v.doors_length }

    few_left : (halted s p).bank.count ≤ s.bank.count
    unfolding halted vanished
    few_left =
        let h = take s.bank.count s.heads in
        omega (arith, keeping_few (elsewhere p) h h, length-take s.bank.count s.heads)

    -- each packet that is left was there, and is to no member
    record Left (k : ℕ) : Type 0 where
      place : ℕ
      below : place < s.bank.count
      packet_is : packet_at (halted s p) k ≡ packet_at s place
      to_other : p (receiver (packet_at s place)) ≡ false

    left : (k : ℕ) → k < (halted s p).bank.count → Left k
    unfolding halted vanished
    left k l =
        let n = s.bank.count in
        let h = take n s.heads in
        let d = take n s.doors in
        let f = elsewhere p in
        let same : length h ≡ length d = simp length-take (omega (arith, w.heads_length, w.doors_length)) in
        let z = found f h d same k l in
        let j = z.place in
        let b : j < n = omega (arith, z.below, length-take n s.heads) in
        let hd : get_or (padded (keeping f h h) n 0 s.heads) k 0 ≡ get_or s.heads j 0 =
        padded_at (keeping f h h) s.heads n k l ∙ z.head_is ∙ get_or-take n s.heads j 0 b in
        let ld : k < length (keeping f h d) = omega (arith, l, keeping_same f h h d same) in
        let dd : get_or (padded (keeping f h d) n 0 s.doors) k 0 ≡ get_or s.doors j 0 =
        padded_at (keeping f h d) s.doors n k ld ∙ z.doors_is ∙ get_or-take n s.doors j 0 b in
        let passes : not (p (receiver_in (get_or s.heads j 0))) ≡ true = ap f (sym (get_or-take n s.heads j 0 b)) ∙ z.passes in
        record {
          place = j;
          below = b;
          packet_is = ap₂ packet_of hd dd;
          to_other = ap p (receiver_of (get_or s.heads j 0) (get_or s.doors j 0)) ∙ none (p (receiver_in (get_or s.heads j 0))) passes;
        }
      where
        none : (b : Bool) → not b ≡ true → b ≡ false
        none true e = sym e
        none false e = refl

    same_tree : (halted s p).bank.tree ≡ s.bank.tree
    unfolding halted vanished
    same_tree = refl

    pub halted_valid : Valid (halted s p)
    unfolding same_tree
    halted_valid = record {
      tree = ap tree_refusal same_tree ∙ st.tree;
      columns = λ i h.
          let c = column_at s.bank i in
          ap₂ (λ (t : Tree) (x : Column). state_refusal t i x) same_tree (column_at_lem i) ∙ same_state s.bank.tree i c (p i)
          ∙ st.columns i (subst (λ (t : Tree). i < t.columns) same_tree h);
      room = omega (arith, few_left, st.room);
      packets = λ k h.
          let z = left k h in
          ap₂ packet_refusal same_tree z.packet_is ∙ st.packets z.place z.below;
      receivers = λ k h.
          let z = left k h in
          ap (λ (q : Packet). runs (halted s p).bank (receiver q)) z.packet_is ∙ still_runs (receiver (packet_at s z.place)) z.to_other
          ∙ st.receivers z.place z.below;
    }
