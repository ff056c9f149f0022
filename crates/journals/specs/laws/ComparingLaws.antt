-- Two journals that were read, compared test by test in the order of the refusals. Assumes nothing.
use Rattle.std.specs.Prelude.{ℕ, ◌+◌, ◌≤◌, ◌<◌, ◌≡◌, ◌≢◌, ◌⊎◌, Bool, ◌&&◌, ◌||◌, not, eqb, Result, Ok}
use Rattle.std.proofs.Math.Path.{refl, ap}
use Rattle.std.proofs.Common.{sym, ap₂, ◌∙◌, ⊎_elim, inl, inr, true≢false}
use Rattle.std.proofs.Math.Bool.{true, false, cond}
use mathlib.Core.List.Memᴰ
use mathlib.Core.List.{List, [], ◌∷◌, Memᴰ}
use native.Mathlib.Omega.{arith}
use Rattle.std.proofs.Math.Dec.{leb}
use Rattle.std.proofs.Math.ListN.{length}
use borrow.Author.Tests.{eq-eqb, ne_eqb, le-leb, lt-leb, leb-true, leb-false, eqb-true}
use Rattle.column.specs.Refusals.{first, Given, given, refused}
use Rattle.column.specs.laws.Cases.{and_left, and_right, or_cases, truth}
use Rattle.text.specs.Text.{written, Writes}
use Rattle.list.specs.Closing.{Listed, placed}
use Rattle.journals.specs.Journals.{Journal, journal_of, once_each, all_heard, missing_text, declined, pair_conditions, pair_compared, both_compared, compared, compared_meant, same_way, same_kind, line, same_line, has_line, entries_of, Once, Entry, about, journal, journal_text, journal_limit}
use Rattle.journals.specs.laws.JournalLaws.{AllGood, journal_reads}
use Rattle.column.specs.declared.error.Refusal.{Refusal}
use Rattle.journals.specs.declared.line.Way.{Way}
use Rattle.journals.specs.declared.line.Way.TheVariants.{Sent, Got}
use Rattle.journals.specs.declared.line.Kind.{Kind}
use Rattle.journals.specs.declared.line.Kind.TheVariants.{Message, Acknowledgement}
use Rattle.journals.specs.declared.line.Line.{Line}

-- ---- the first journal that is none

module _ (one two old : List ℕ) where
  pub first_refused : (n : ℕ) → journal_of one ≡ refused n → compared one two old ≡ declined n old
  unfolding both_compared
  first_refused n e = rw e

  pub second_refused : (j : Journal) (n : ℕ) → journal_of one ≡ given j → journal_of two ≡ refused n → compared one two old ≡ declined n old
  unfolding both_compared
  second_refused j n e f = rw (e, f)

  pub both_given : (j k : Journal) → journal_of one ≡ given j → journal_of two ≡ given k → compared one two old ≡ pair_compared j k old
  unfolding both_compared
  both_given j k e f = rw (e, f)

-- ---- "order 19, 20, 21", and "11, tested last"

module _ (j k : Journal) (old : List ℕ) where
  pub pair_owners : j.owner ≡ k.owner → pair_compared j k old ≡ declined 19 old
  unfolding pair_compared
  pair_owners e = rw (eq-eqb j.owner k.owner e)

  module _ (apart : j.owner ≢ k.owner) where
    pub first_twice : once_each j.entries ≡ false → pair_compared j k old ≡ declined 20 old
    unfolding pair_compared
    first_twice e = rw (ne_eqb j.owner k.owner apart, e)

    module _ (once : once_each j.entries ≡ true) where
      pub second_twice : once_each k.entries ≡ false → pair_compared j k old ≡ declined 20 old
      unfolding pair_compared
      second_twice e = rw (ne_eqb j.owner k.owner apart, once, e)

      module _ (once-too : once_each k.entries ≡ true) where
        abbrev heard : Bool
        heard = all_heard j.owner k.owner j.entries k.entries && all_heard k.owner j.owner k.entries j.entries

        pub pair_unheard : heard ≡ false → pair_compared j k old ≡ declined 21 old
        unfolding pair_compared
        pair_unheard e = rw (ne_eqb j.owner k.owner apart, once, once-too, e)

        pub pair_placed : heard ≡ true → pair_compared j k old ≡ placed old 0 (missing_text j k)
        unfolding pair_compared
        pair_placed e = rw (ne_eqb j.owner k.owner apart, once, once-too, e)

-- ---- with room and without

module _ (old text : List ℕ) where
  abbrev roomy : Bool
  roomy = leb (length text) (length old)

  pub placed_short : roomy ≡ false → placed old 0 text ≡ declined 11 old
  unfolding placed
  placed_short e = rw (lt-leb (0 + length text) (length old) (omega (arith, leb-false (length text) (length old) e)))

  pub placed_all : {r : ℕ} {new : List ℕ} → roomy ≡ true → Writes r new old 0 text → record { answer = given r; buffer = new } ≡ placed old 0 text
  unfolding placed
  placed_all e x = rw (le-leb (0 + length text) (length old) (omega (arith, leb-true (length text) (length old) e)))
      (ap₂ (λ (n : ℕ) (l : List ℕ). record { answer = given n; buffer = l }) (let z : 0 + length text ≡ length text = omega arith in x.place ∙ z) x.left)

-- ---- what was written is within the buffer

module _ (old : List ℕ) (n : ℕ) (new : List ℕ) where
  abbrev answered : Listed
  answered = record { answer = given n; buffer = new }

  clash : {k : ℕ} {l : List ℕ} → answered ≡ declined k l → ⊥
  clash {k} e =
      let q : given n ≡ refused k = ap (λ (x : Listed). x.answer) e in
      let z : ◌≡◌ {A = ℕ} 0 1 = cc in omega arith

  placed_within : (text : List ℕ) → answered ≡ placed old 0 text → n ≤ length old
  unfolding placed
  placed_within text e = go (leb (0 + length text) (length old)) refl e
    where
      go : (b : Bool) → leb (0 + length text) (length old) ≡ b
          → answered ≡ cond b (record { answer = given (length text); buffer = written old 0 text }) (declined 11 old) → n ≤ length old
      go true f e =
          let q : given n ≡ given (length text) = ap (λ (x : Listed). x.answer) e in
          let z : n ≡ length text = cc in omega (arith, leb-true (0 + length text) (length old) f, z)
      go false f e = absurd (clash e)

  pub compared_within : (one two : List ℕ) → answered ≡ compared one two old → n ≤ length old
  unfolding both_compared pair_compared
  compared_within one two e = go (journal_of one) (journal_of two) e
    where
      pair : (j k : Journal) (b : Bool) → answered ≡ cond b (placed old 0 (missing_text j k)) (declined (first (pair_conditions j k)) old) → n ≤ length old
      pair j k true e = placed_within (missing_text j k) e
      pair j k false e = absurd (clash e)

      go : (j k : Given Journal) → answered ≡ both_compared j k old → n ≤ length old
      go (given j) (given k) e = pair j k (eqb (first (pair_conditions j k)) 0) e
      go (given j) (refused m) e = absurd (clash e)
      go (refused m) k e = absurd (clash e)

pub length_within : {r : Result ℕ Refusal} {n : ℕ} (one two old new : List ℕ) → r ≡ Ok n → compared_meant r new ≡ compared one two old → n ≤ length old
length_within {n = n} one two old new e h = compared_within old n new one two (ap (λ (x : Result ℕ Refusal). compared_meant x new) (sym e) ∙ h)

-- ---- lines that are the same

way_same : (v w : Way) → same_way v w ≡ true → v ≡ w
way_same Sent Sent e = refl
way_same Sent Got e = absurd (true≢false (sym e))
way_same Got Sent e = absurd (true≢false (sym e))
way_same Got Got e = refl

same_way_lem : (w : Way) → same_way w w ≡ true
same_way_lem Sent = refl
same_way_lem Got = refl

kind_same : (j k : Kind) → same_kind j k ≡ true → j ≡ k
kind_same Message Message e = refl
kind_same Message Acknowledgement e = absurd (true≢false (sym e))
kind_same Acknowledgement Message e = absurd (true≢false (sym e))
kind_same Acknowledgement Acknowledgement e = refl

same_kind_lem : (k : Kind) → same_kind k k ≡ true
same_kind_lem Message = refl
same_kind_lem Acknowledgement = refl

pub line_same : (x y : Line) → same_line x y ≡ true → x ≡ y
line_same x y e =
    let r1 = and_right (same_way x.way y.way) _ e in
    let r2 = and_right (same_kind x.kind y.kind) _ r1 in
    let w = way_same x.way y.way (and_left (same_way x.way y.way) _ e) in
    let k = kind_same x.kind y.kind (and_left (same_kind x.kind y.kind) _ r1) in
    let o = eqb-true x.other y.other (and_left (eqb x.other y.other) _ r2) in
    let n = eqb-true x.number y.number (and_right (eqb x.other y.other) _ r2) in
    λ i. line (w i) (k i) (o i) (n i)

pub same_line_lem : (x : Line) → same_line x x ≡ true
same_line_lem x = rw (same_way_lem x.way, same_kind_lem x.kind, eq-eqb x.other x.other refl, eq-eqb x.number x.number refl)

pub member_has : (l : List Line) (x : Line) → has_line (entries_of l) x ≡ true → Memᴰ x l
unfolding has_line entries_of
member_has [] x e = absurd (true≢false (sym e))
member_has (y ∷ l) x e =
    ⊎_elim (λ h. Memᴰ.head (sym (line_same y x h))) (λ h. Memᴰ.tail (member_has l x h)) (or_cases (same_line y x) (has_line (entries_of l) x) e)

pub has_member : (l : List Line) (x : Line) → Memᴰ x l → has_line (entries_of l) x ≡ true
unfolding has_line entries_of
has_member [] x m = absurd (Memᴰ.not-nil m)
has_member (y ∷ l) x m = ⊎_elim
    (λ e. ap (λ (b : Bool). b || has_line (entries_of l) x) (ap (λ (z : Line). same_line z x) (sym e) ∙ same_line_lem x))
    (λ h. later (same_line y x) (has_member l x h))
    (Memᴰ.cases_cons m)
  where
    later : (b : Bool) → has_line (entries_of l) x ≡ true → (b || has_line (entries_of l) x) ≡ true
    later true e = refl
    later false e = e

-- ---- the three conditions

once_each_lem : (l : List Line) → Once l → once_each (entries_of l) ≡ true
unfolding once_each entries_of Once
once_each_lem [] o = refl
once_each_lem (x ∷ l) o = rw (absent (truth (has_line (entries_of l) x)), once_each_lem l o.1)
  where
    absent : (has_line (entries_of l) x ≡ true) ⊎ (has_line (entries_of l) x ≡ false) → has_line (entries_of l) x ≡ false
    absent (inl e) = absurd (o.0 (member_has l x e))
    absent (inr e) = e

-- what a got from b was sent by b
abbrev pub Heard : ℕ → ℕ → List Line → List Line → Type 0
Heard a b mine theirs = (kind : Kind) (number : ℕ) → Memᴰ (line Got kind b number) mine → Memᴰ (line Sent kind a number) theirs

heard_all : (a b : ℕ) (mine theirs : List Line) → Heard a b mine theirs → all_heard a b (entries_of mine) (entries_of theirs) ≡ true
unfolding all_heard entries_of
heard_all a b [] theirs h = refl
heard_all a b (x ∷ l) theirs h =
    rw (go (about b Got x) refl, heard_all a b l theirs (λ kind number m. h kind number (Memᴰ.tail m)))
  where
    there : List Entry
    there = entries_of theirs

    go : (t : Bool) → about b Got x ≡ t → (not t || has_line there (line Sent x.kind a x.number)) ≡ true
    go false e = refl
    go true e =
        let w = way_same x.way Got (and_left (same_way x.way Got) _ e) in
        let o = eqb-true x.other b (and_right (same_way x.way Got) _ e) in
        has_member theirs (line Sent x.kind a x.number)
        (h x.kind x.number (Memᴰ.head (λ i. line (sym w i) x.kind (sym o i) x.number)))

-- ---- two journals

pub record Pair (a b : ℕ) (mine theirs : List Line) : Type 0 where
  pub apart : a ≢ b
  pub mine_once : Once mine
  pub theirs_once : Once theirs
  pub mine_heard : Heard a b mine theirs
  pub theirs_heard : Heard b a theirs mine

pub pair_compared_lem : (a b : ℕ) (mine theirs : List Line) → Pair a b mine theirs → (old : List ℕ)
    → pair_compared (journal a mine) (journal b theirs) old ≡ placed old 0 (missing_text (journal a mine) (journal b theirs))
unfolding pair_compared
pair_compared_lem a b mine theirs p old = rw (
  ne_eqb a b p.apart,
  once_each_lem mine p.mine_once,
  once_each_lem theirs p.theirs_once,
  heard_all a b mine theirs p.mine_heard,
  heard_all b a theirs mine p.theirs_heard,
)

-- the texts of two such journals, within the limit
pub texts_compared : (a b : ℕ) (mine theirs : List Line) → Pair a b mine theirs → a < 16 → b < 16 → AllGood a mine → AllGood b theirs
    → length (journal_text a mine) ≤ journal_limit → length (journal_text b theirs) ≤ journal_limit → (old : List ℕ)
    → compared (journal_text a mine) (journal_text b theirs) old ≡ placed old 0 (missing_text (journal a mine) (journal b theirs))
unfolding both_compared
texts_compared a b mine theirs p ha hb ga gb la lb old =
    rw (journal_reads a mine ha ga la, journal_reads b theirs hb gb lb) (pair_compared_lem a b mine theirs p old)
