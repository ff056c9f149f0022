-- Laws of the chains: a word that is among the first n is in the chain of its remainder. Assumes nothing.
use Prim.Native.Nat.{ℕ, zero, suc, ◌+◌, ◌-◌, ◌%◌, ◌≤◌, ◌<◌}
use Rattle.std.specs.Prelude.{◌≡◌, ◌≢◌, ◌⊎◌, Bool, ◌&&◌, ◌||◌, List, length, set}
use Rattle.std.proofs.Math.Path.{refl, ap}
use Rattle.std.proofs.Common.{sym, ap₂, ◌∙◌, inl, inr, add-one}
use Rattle.std.proofs.Math.Logic.{⊎_elim}
use Rattle.std.proofs.Math.Bool.{true, false, not, cond}
use native.Mathlib.Omega.{arith}
use Rattle.std.proofs.Math.Dec.{eqb}
use Rattle.std.proofs.Math.ListN.{get_or}
use Rattle.std.proofs.Math.Seq.{get_or-set_same, get_or-set_other}
use borrow.Author.Tests.{eq-eqb, ne_eqb, eqb-true, eqb-false}
use Rattle.std.proofs.lemmas.List as lists
use Rattle.journals.specs.inner.KeyedLines.{keys_in}
use Rattle.journals.specs.inner.Chains.{buckets, among, last_with, Indexed, distinct}
use Rattle.journals.specs.declared.index.Index.{Index}
use Rattle.journals.specs.declared.lines.KeyedLine.{KeyedLine}

-- the word of a line at a place
pub key_at : (l : List KeyedLine) (i : ℕ) (none : KeyedLine) → i < length l → get_or (keys_in l) i 0 ≡ (get_or l i none).key
key_at l i none h = lists.get_or-map (λ x. x.key) l i none 0 h

truth : (b : Bool) → (b ≡ true) ⊎ (b ≡ false)
truth true = inl refl
truth false = inr refl

same_or_not : (a b : ℕ) → (a ≡ b) ⊎ (a ≢ b)
same_or_not a b = ⊎_elim (λ e. inl (eqb-true a b e)) (λ e. inr (eqb-false a b e)) (truth (eqb a b))

module _ (keys : List ℕ) where
  pub last_le : (b n : ℕ) → last_with keys b n ≤ n
  unfolding last_with
  last_le b zero = omega arith
  last_le b (suc n) = go (eqb (get_or keys n 0 % buckets) b) (last_le b n)
    where
      go : (x : Bool) → last_with keys b n ≤ n → cond x (suc n) (last_with keys b n) ≤ suc n
      go true h = omega arith
      go false h = omega arith

  -- the last place is in the bucket
  pub last_in : (b n i : ℕ) → last_with keys b n ≡ suc i → get_or keys i 0 % buckets ≡ b
  unfolding last_with
  last_in b zero i e = absurd (omega (arith, e))
  last_in b (suc n) i e = go (eqb (get_or keys n 0 % buckets) b) refl e (last_in b n i)
    where
      go : (x : Bool) → eqb (get_or keys n 0 % buckets) b ≡ x → cond x (suc n) (last_with keys b n) ≡ suc i
          → (last_with keys b n ≡ suc i → get_or keys i 0 % buckets ≡ b) → get_or keys i 0 % buckets ≡ b
      go true h e f = let z : n ≡ i = omega (arith, e) in ap (λ (k : ℕ). get_or keys k 0 % buckets) (sym z) ∙ eqb-true (get_or keys n 0 % buckets) b h
      go false h e f = f e

  module _ (key : ℕ) where
    -- a word at a place
    pub among_other : (i : ℕ) → get_or keys i 0 ≢ key → among keys (suc i) key ≡ among keys i key
    unfolding among
    among_other i n = ap (λ (b : Bool). b || among keys i key) (ne_eqb (get_or keys i 0) key n)

    pub among_here : (i : ℕ) → get_or keys i 0 ≡ key → among keys (suc i) key ≡ true
    unfolding among
    among_here i e = ap (λ (b : Bool). b || among keys i key) (eq-eqb (get_or keys i 0) key e)

    -- after the last place of its bucket the word is not there
    pub among_last : (n : ℕ) → among keys n key ≡ among keys (last_with keys (key % buckets) n) key
    unfolding last_with
    among_last zero = refl
    among_last (suc n) = go (eqb (get_or keys n 0 % buckets) (key % buckets)) refl (among_last n)
      where
        go : (x : Bool) → eqb (get_or keys n 0 % buckets) (key % buckets) ≡ x
            → among keys n key ≡ among keys (last_with keys (key % buckets) n) key
            → among keys (suc n) key ≡ among keys (cond x (suc n) (last_with keys (key % buckets) n)) key
        go true h r = refl
        go false h r = among_other n (λ e. eqb-false (get_or keys n 0 % buckets) (key % buckets) h (ap (λ (k : ℕ). k % buckets) e)) ∙ r

  -- ---- before the first word

  pub indexed_none : (index : Index) → ((b : ℕ) → b < buckets → get_or index.heads b 0 ≡ 0) → Indexed keys 0 index
  unfolding last_with
  indexed_none index none = record { heads_are = none; links_are = λ i lt. absurd (omega arith); keys_are = λ i lt. absurd (omega arith) }

  -- ---- one more word

  module _ (n : ℕ) (index : Index) (few : n < length index.links) (all : length index.heads ≡ buckets) (d : Indexed keys n index) where
    abbrev bucket : ℕ
    bucket = get_or keys n 0 % buckets

    -- the head becomes the link of the word, and the word the head
    abbrev heads : List ℕ
    heads = set index.heads bucket (suc n)

    abbrev links : List ℕ
    links = set index.links n (get_or index.heads bucket 0)

    head_is : (b : ℕ) → b < buckets → get_or heads b 0 ≡ last_with keys b (suc n)
    unfolding last_with
    head_is b lt = ⊎_elim
        (λ (e : b ≡ bucket). ap (λ (x : ℕ). get_or heads x 0) e ∙ get_or-set_same index.heads bucket (suc n) 0 (omega (arith, all))
        ∙ ap (λ (x : Bool). cond x (suc n) (last_with keys b n)) (sym (eq-eqb bucket b (sym e))))
        (λ e. get_or-set_other index.heads bucket b (suc n) 0 e ∙ d.heads_are b lt
        ∙ ap (λ (x : Bool). cond x (suc n) (last_with keys b n)) (sym (ne_eqb bucket b (λ z. e (sym z)))))
        (same_or_not b bucket)

    link_is : (i : ℕ) → i < suc n → get_or links i 0 ≡ last_with keys (get_or keys i 0 % buckets) i
    link_is i lt = ⊎_elim
        (λ e. ap (λ (x : ℕ). get_or links x 0) e ∙ get_or-set_same index.links n (get_or index.heads bucket 0) 0 few
        ∙ d.heads_are bucket (omega arith) ∙ ap (λ (x : ℕ). last_with keys (get_or keys x 0 % buckets) x) (sym e))
        (λ e. get_or-set_other index.links n i (get_or index.heads bucket 0) 0 e ∙ d.links_are i (omega (arith, lt, e)))
        (same_or_not i n)

    key_is : (key i : ℕ) → n < length index.keys → key ≡ get_or keys n 0 → i < suc n → get_or (set index.keys n key) i 0 ≡ get_or keys i 0
    key_is key i room k lt = ⊎_elim
        (λ e. ap (λ (x : ℕ). get_or (set index.keys n key) x 0) e ∙ get_or-set_same index.keys n key 0 room ∙ k ∙ ap (λ (x : ℕ). get_or keys x 0) (sym e))
        (λ e. get_or-set_other index.keys n i key 0 e ∙ d.keys_are i (omega (arith, lt, e)))
        (same_or_not i n)

    pub indexed_more : (key b : ℕ) → n < length index.keys → key ≡ get_or keys n 0 → b ≡ bucket
        → Indexed keys (n + 1) (record { heads = set index.heads b (n + 1); links = set index.links n (get_or index.heads b 0); keys = set index.keys n key })
    indexed_more key b room k e = rw (e, add-one n) (record { heads_are = head_is; links_are = link_is; keys_are = λ i lt. key_is key i room k lt })

  -- ---- one more word that is there once

  pub distinct_more : (i : ℕ) → among keys i (get_or keys i 0) ≡ false → distinct keys i ≡ true → distinct keys (i + 1) ≡ true
  unfolding distinct
  distinct_more i a d = rw (add-one i) (ap₂ (λ (x y : Bool). not x && y) a d)

  -- a word that is there twice
  pub distinct_twice : (i n : ℕ) → i < n → among keys i (get_or keys i 0) ≡ true → distinct keys n ≡ false
  unfolding distinct
  distinct_twice i zero h a = absurd (omega arith)
  distinct_twice i (suc n) h a = ⊎_elim
      (λ e. ap (λ (k : ℕ). not (among keys k (get_or keys k 0)) && distinct keys n) (sym e) ∙ first e)
      (λ e. second (not (among keys n (get_or keys n 0))) (distinct_twice i n (omega (arith, h, e)) a))
      (same_or_not i n)
    where
      first : i ≡ n → (not (among keys i (get_or keys i 0)) && distinct keys n) ≡ false
      first e = ap (λ (b : Bool). not b && distinct keys n) a

      second : (b : Bool) → distinct keys n ≡ false → (b && distinct keys n) ≡ false
      second true e = e
      second false e = refl

-- ---- a walk through the chain of a word

-- at a place of the chain: the word is before it or there, or not at all
pub record Walk (keys : List ℕ) (n key next : ℕ) : Type 0 where
  pub within : next ≤ n
  pub left : among keys n key ≡ among keys next key
  pub alike : (j : ℕ) → next ≡ suc j → get_or keys j 0 % buckets ≡ key % buckets

-- the last place of a bucket before some place
at_last : {keys : List ℕ} {n key m : ℕ} (next : ℕ) → m ≤ n → next ≡ last_with keys (key % buckets) m → among keys n key ≡ among keys m key → Walk keys n key next
at_last {keys} {n} {key} {m} next h e a = record {
  within = omega (arith, h, e, last_le keys (key % buckets) m);
  left = a ∙ among_last keys key m ∙ ap (λ (i : ℕ). among keys i key) (sym e);
  alike = λ j z. last_in keys (key % buckets) m j (sym e ∙ z);
}

module _ {keys : List ℕ} {n key : ℕ} where
  pub walk_ends : {next : ℕ} → Walk keys n key next → next ≡ 0 → among keys n key ≡ false
  unfolding among
  walk_ends w e = w.left ∙ ap (λ (i : ℕ). among keys i key) e

  pub walk_found : {next : ℕ} → Walk keys n key next → 0 < next → get_or keys (next - 1) 0 ≡ key → among keys n key ≡ true
  walk_found {next} w some e =
      let z : next ≡ suc (next - 1) = omega arith in
      w.left ∙ ap (λ (i : ℕ). among keys i key) z ∙ among_here keys key (next - 1) e

  module _ {index : Index} (x : Indexed keys n index) where
    pub walk_begins : Walk keys n key (get_or index.heads (key % buckets) 0)
    walk_begins = at_last (get_or index.heads (key % buckets) 0) (omega arith) (x.heads_are (key % buckets) (omega arith)) refl

    module _ {next : ℕ} (w : Walk keys n key next) (some : 0 < next) where
      before : get_or index.links (next - 1) 0 ≡ last_with keys (key % buckets) (next - 1)
      before =
          let e : next ≡ suc (next - 1) = omega arith in
          x.links_are (next - 1) (omega (arith, w.within)) ∙ ap (λ (b : ℕ). last_with keys b (next - 1)) (w.alike (next - 1) e)

      pub walk_falls : get_or index.links (next - 1) 0 < next
      walk_falls = omega (arith, before, last_le keys (key % buckets) (next - 1))

      pub walk_on : get_or keys (next - 1) 0 ≢ key → Walk keys n key (get_or index.links (next - 1) 0)
      walk_on other =
          let e : next ≡ suc (next - 1) = omega arith in
          at_last (get_or index.links (next - 1) 0) (omega (arith, w.within)) before
          (w.left ∙ ap (λ (i : ℕ). among keys i key) e ∙ among_other keys key (next - 1) other)
