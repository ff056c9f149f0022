-- A journal's lines by their words and sizes, read one after the other. Assumes nothing.
use Rattle.std.specs.Prelude.{ℕ, zero, suc, ◌+◌, ◌-◌, ◌≤◌, ◌<◌, ◌≡◌, refl, ◌≢◌, Bool, true, false, cond, List, [], ◌∷◌, ◌++◌, eqb, length, take, drop, set}
use Rattle.std.proofs.Common.{sym, ap, ap₂, ◌∙◌, append_assoc, append-nil, arith, add-one, length-append, take-suc-set, take_all, eqb-true}
use Rattle.std.proofs.Math.Seq.{drop-append_seam}
use Rattle.column.specs.Refusals.{Given, given, refused}
use Rattle.text.specs.Text.{newline, written}
use Rattle.text.specs.Pieces.{Cut, ended, unended, with_first, cut}
use Rattle.text.specs.laws.Cutting.{line_ended, line_unended, line_length, Found, found}
use Rattle.text.specs.Search.{place_of}
use Rattle.journals.specs.Journals.{line_of, Entry, entry, with_entry, cut_entries, entries_in}
use Rattle.journals.specs.inner.KeyedLines.{shortest_line, first_of, first_cut, keyed, keyed_in}
use Rattle.journals.specs.inner.LineWords.{key_of}
use Rattle.journals.specs.laws.FieldLaws.{line_long}
use Rattle.journals.specs.declared.line.Line.{Line}
use Rattle.journals.specs.declared.lines.KeyedLine.{KeyedLine}

-- ---- a cut takes its line and one byte

pub cut_whole : (l text rest : List ℕ) → cut l ≡ ended text rest → l ≡ (text ++ (newline ∷ [])) ++ rest
unfolding cut with_first
cut_whole [] text rest e = absurd (cc)
cut_whole (b ∷ l) text rest e = go (eqb b newline) refl e (cut l) refl (λ t r h. cut_whole l t r h)
  where
    go : (x : Bool) → eqb b newline ≡ x → cond x (ended [] l) (with_first b (cut l)) ≡ ended text rest → (c : Cut) → cut l ≡ c
        → ((t r : List ℕ) → cut l ≡ ended t r → l ≡ (t ++ (newline ∷ [])) ++ r) → b ∷ l ≡ (text ++ (newline ∷ [])) ++ rest
    go true y h c q f =
        let t : [] ≡ text = cc in
        let r : l ≡ rest = cc in
        ap₂ (λ (i : ℕ) (m : List ℕ). i ∷ m) (eqb-true b newline y) r ∙ ap (λ (m : List ℕ). (m ++ (newline ∷ [])) ++ rest) t
    go false y h (ended t r) q f =
        let g : with_first b (ended t r) ≡ ended text rest = rw q at h in
        let z : (b ∷ t) ≡ text = cc in
        let k : r ≡ rest = cc in
        ap (λ (m : List ℕ). b ∷ m) (f t r q) ∙ ap₂ (λ (m n : List ℕ). (m ++ (newline ∷ [])) ++ n) z k
    go false y h unended q f =
        let g : with_first b unended ≡ ended text rest = rw q at h in
        absurd (cc)

-- the line with its byte 10, and what follows it
pub cut_rest : (l text rest : List ℕ) → cut l ≡ ended text rest → (length l ≡ length text + 1 + length rest) × (rest ≡ drop (length text + 1) l)
cut_rest l text rest e =
    let w = cut_whole l text rest e in
    let n : length (text ++ (newline ∷ [])) ≡ length text + 1 = length-append text (newline ∷ []) in (
      ap length w ∙ length-append (text ++ (newline ∷ [])) rest ∙ ap (λ (i : ℕ). i + length rest) n,
      sym (drop-append_seam (text ++ (newline ∷ [])) rest) ∙ ap₂ (λ (i : ℕ) (m : List ℕ). drop i m) n (sym w),
    )

-- ---- the first line, as a search for its end found it

module _ (owner : ℕ) (s : List ℕ) (r : ℕ) (p : r ≡ place_of newline 0 (length s) s) (h : r ≤ length s) where
  end_found : Found newline s 0 r
  end_found = found newline s 0 r (p, h) (omega arith)

  pub first_unended : r ≡ length s → first_cut owner (cut s) ≡ refused 19
  unfolding first_cut
  first_unended k = rw (line_unended s 0 r (omega arith) end_found k)

  pub first_ended : r ≢ length s → first_cut owner (cut s) ≡ first_of (r + 1) (line_of owner (take r s))
  unfolding first_cut
  first_ended k =
      let whole : r - 0 ≡ r = omega arith in
      let n : length (take (r - 0) s) + 1 ≡ r + 1 = omega (arith, line_length s 0 r h) in
      rw (line_ended s 0 r (omega arith) end_found (omega (arith, k, h)))
      (ap (λ (i : ℕ). first_of i (line_of owner (take (r - 0) s))) n ∙ ap (λ (i : ℕ). first_of (r + 1) (line_of owner (take i s))) whole)

-- ---- as many lines as bytes are enough

entries_cut : (most owner : ℕ) (l : List ℕ) → 1 ≤ length l → entries_in (suc most) owner l ≡ cut_entries (entries_in most owner) owner (cut l)
unfolding entries_in
entries_cut most owner [] h = absurd (omega arith)
entries_cut most owner (b ∷ l) h = refl

pub entries_enough : (m n owner : ℕ) (l : List ℕ) → length l ≤ m → length l ≤ n → entries_in m owner l ≡ entries_in n owner l
unfolding entries_in cut_entries
entries_enough zero zero owner l h k = refl
entries_enough zero (suc n) owner [] h k = refl
entries_enough zero (suc n) owner (b ∷ l) h k = absurd (omega arith)
entries_enough (suc m) zero owner [] h k = refl
entries_enough (suc m) zero owner (b ∷ l) h k = absurd (omega arith)
entries_enough (suc m) (suc n) owner [] h k = refl
entries_enough (suc m) (suc n) owner (b ∷ l) h k = go (cut (b ∷ l)) refl (λ r p q. entries_enough m n owner r p q)
  where
    go : (c : Cut) → cut (b ∷ l) ≡ c → ((r : List ℕ) → length r ≤ m → length r ≤ n → entries_in m owner r ≡ entries_in n owner r)
        → cut_entries (entries_in m owner) owner c ≡ cut_entries (entries_in n owner) owner c
    go (ended text rest) e f =
        let z = (cut_rest (b ∷ l) text rest e).0 in
        ap (with_entry text (line_of owner text)) (f rest (omega (arith, z, h)) (omega (arith, z, k)))
    go unended e f = refl

-- ---- one line more

clash : {A : Type 0} {n : ℕ} {x : A} → refused n ≡ given x → ⊥
clash e = cc

-- lines before others
unfoldable pub with_front : List KeyedLine → Given (List KeyedLine) → Given (List KeyedLine)
with_front front (given l) = given (front ++ l)
with_front front (refused n) = refused n

-- the lines of a text, with as many tried
abbrev pub keyed_all : ℕ → ℕ → List ℕ → Given (List KeyedLine)
keyed_all most owner s = keyed_in (entries_in most owner s)

keyed_with : (text : List ℕ) (x : Line) (r : Given (List Entry)) → keyed_in (with_entry text (given x) r) ≡ with_front (keyed (entry text x) ∷ []) (keyed_in r)
unfolding keyed_in with_entry with_front
keyed_with text x (given l) = refl
keyed_with text x (refused n) = refl

module _ (most owner : ℕ) (s : List ℕ) (h : 1 ≤ length s) (few : length s ≤ most) where
  keyed_cut : keyed_all most owner s ≡ keyed_in (cut_entries (entries_in most owner) owner (cut s))
  keyed_cut = ap keyed_in (entries_enough most (suc most) owner s few (omega (arith, few)) ∙ entries_cut most owner s h)

  pub first_stops : (n : ℕ) → first_cut owner (cut s) ≡ refused n → keyed_all most owner s ≡ refused n
  unfolding first_cut first_of cut_entries keyed_in with_entry
  first_stops n e = keyed_cut ∙ go (cut s) e
    where
      same : (m : ℕ) → ◌≡◌ {A = Given KeyedLine} (refused m) (refused n) → ◌≡◌ {A = Given (List KeyedLine)} (refused m) (refused n)
      same m e = let z : m ≡ n = cc in ap (λ (i : ℕ). refused i) z

      bad : (text rest : List ℕ) (r : Given Line) → first_of (length text + 1) r ≡ refused n → keyed_in (with_entry text r (entries_in most owner rest)) ≡ refused n
      bad text rest (given x) e = absurd (clash (sym e))
      bad text rest (refused m) e = same m e

      go : (c : Cut) → first_cut owner c ≡ refused n → keyed_in (cut_entries (entries_in most owner) owner c) ≡ refused n
      go (ended text rest) e = bad text rest (line_of owner text) e
      go unended e = same 19 e

  pub record Stepped (k : KeyedLine) : Type 0 where
    pub inside : k.size ≤ length s
    pub long : shortest_line ≤ k.size
    pub rest_lines : keyed_all most owner s ≡ with_front (k ∷ []) (keyed_all most owner (drop k.size s))

  pub line_step : (k : KeyedLine) → first_cut owner (cut s) ≡ given k → Stepped k
  unfolding first_cut first_of cut_entries
  line_step k e = go (cut s) refl e
    where
      good : (text rest : List ℕ) → cut s ≡ ended text rest → (r : Given Line) → line_of owner text ≡ r → first_of (length text + 1) r ≡ given k → Stepped k
      good text rest q (refused m) f e = absurd (clash e)
      good text rest q (given x) f e =
          let z = cut_rest s text rest q in
          let size : length (text ++ (newline ∷ [])) ≡ length text + 1 = length-append text (newline ∷ []) in
          let both : ◌≡◌ {A = KeyedLine} (record { key = key_of x; size = length text + 1 }) k = cc in
          let whole : keyed (entry text x) ≡ k = ap (λ (i : ℕ). record { key = key_of x; size = i }) size ∙ both in
          let there : length text + 1 ≡ k.size = ap (λ (y : KeyedLine). y.size) both in
          let nine = line_long owner text x f in
          record {
            inside = omega (arith, there, z.0);
            long = omega (arith, there, nine);
            rest_lines =
                keyed_cut ∙ ap (λ (c : Cut). keyed_in (cut_entries (entries_in most owner) owner c)) q
                ∙ ap (λ (r : Given Line). keyed_in (with_entry text r (entries_in most owner rest))) f
                ∙ keyed_with text x (entries_in most owner rest)
                ∙ ap₂ (λ (y : KeyedLine) (l : List ℕ). with_front (y ∷ []) (keyed_all most owner l)) whole (z.1 ∙ ap (λ (i : ℕ). drop i s) there);
          }

      go : (c : Cut) → cut s ≡ c → first_cut owner c ≡ given k → Stepped k
      go (ended text rest) q e = good text rest q (line_of owner text) refl e
      go unended q e = absurd (clash e)

pub lines_end : (most owner : ℕ) (s : List ℕ) → length s ≡ 0 → keyed_all most owner s ≡ given []
unfolding keyed_in entries_in
lines_end zero owner [] h = refl
lines_end (suc most) owner [] h = refl
lines_end most owner (b ∷ s) h = absurd (omega arith)

pub with_none : (r : Given (List KeyedLine)) → with_front [] r ≡ r
unfolding with_front
with_none (given l) = refl
with_none (refused n) = refl

with_more : (a b : List KeyedLine) (r : Given (List KeyedLine)) → with_front a (with_front b r) ≡ with_front (a ++ b) r
unfolding with_front
with_more a b (given l) = ap given (sym (append_assoc a b l))
with_more a b (refused n) = refl

pub with_refused : (a : List KeyedLine) (n : ℕ) → with_front a (refused n) ≡ refused n
unfolding with_front
with_refused a n = refl

pub with_end : (a : List KeyedLine) → with_front a (given []) ≡ given a
unfolding with_front
with_end a = ap given (append-nil a)

-- a line written at the end of those taken
pub with_line : (lines : List KeyedLine) (count : ℕ) (k : KeyedLine) (r : Given (List KeyedLine)) → count < length lines
    → with_front (take count lines) (with_front (k ∷ []) r) ≡ with_front (take (count + 1) (set lines count k)) r
with_line lines count k r h =
    with_more (take count lines) (k ∷ []) r
    ∙ ap (λ (l : List KeyedLine). with_front l r) (sym (ap (λ (i : ℕ). take i (set lines count k)) (add-one count) ∙ take-suc-set lines count k h))

-- ---- what is written

-- one more value of a list
pub take_written : (values : List ℕ) (count value : ℕ) → count < length values → take (count + 1) (set values count value) ≡ take count values ++ (value ∷ [])
take_written values count value h = rw (add-one count) (take-suc-set values count value h)

-- bytes at the start of others
pub copied : (old w : List ℕ) → take (length w) w ++ drop (length w) old ≡ written old 0 w
unfolding written
copied old w =
    let z : 0 + length w ≡ length w = omega arith in
    rw (take_all (length w) w (omega arith), z)
