-- What one journal sent and the other never got, line by line: its text, its length, and how it is written. Assumes nothing.
use Rattle.std.specs.Prelude.{ℕ, zero, suc, ◌+◌, ◌≤◌, ◌<◌, ◌≡◌, refl, Bool, true, false, not, ◌&&◌, cond, List, [], ◌∷◌, ◌++◌, length, get_or, take, drop, map, filter, sum}
use Rattle.std.proofs.Common.{sym, ap, ap₂, subst, ◌∙◌, append_assoc, append-nil, arith, add-one, length-drop, length-append, drop_of_length-le, drop-cons}
use Rattle.std.proofs.lemmas.List.Sums.{sum_by-cons}
use Rattle.std.proofs.Math.Seq.{drop-append_seam, take-append_seam}
use Rattle.column.specs.Refusals.{Given, given, refused}
use Rattle.text.specs.Text.{newline, Writes}
use Rattle.text.specs.laws.WritingLaws.{writes_none, writes_more}
use Rattle.text.specs.Pieces.{Cut, ended, unended, cut}
use Rattle.journals.specs.Journals.{line, line_of, Entry, entry, with_entry, cut_entries, entries_in, about, has_line, missing}
use Rattle.journals.specs.inner.Chains.{among}
use Rattle.journals.specs.inner.KeyedLines.{keyed, keys_of, missed_length, missing_by}
use Rattle.journals.specs.inner.LineWords.{byte_values, key_of, missed_key}
use Rattle.journals.specs.laws.LineWordLaws.{about_key_lem, turned_key}
use Rattle.journals.specs.laws.KeyedLineLaws.{cut_whole, cut_rest}
use Rattle.journals.specs.laws.KeyLaws.{AllFit, among_has}
use Rattle.journals.specs.declared.line.Way.TheVariants.{Sent, Got}
use Rattle.journals.specs.declared.line.Line.{Line}
use Rattle.journals.specs.declared.lines.KeyedLine.{KeyedLine}

-- ---- the lines of a text are the text

unfoldable pub texts : List Entry → List ℕ
texts [] = []
texts (e ∷ l) = e.text ++ texts l

clash : {A : Type 0} {n : ℕ} {x : A} → refused n ≡ given x → ⊥
clash e = cc

pub entries_texts : (most owner : ℕ) (s : List ℕ) (l : List Entry) → length s ≤ most → entries_in most owner s ≡ given l → s ≡ texts l
unfolding entries_in cut_entries with_entry texts
entries_texts zero owner [] l h e = ap texts (let z : [] ≡ l = cc in z)
entries_texts zero owner (b ∷ s) l h e = absurd (omega arith)
entries_texts (suc most) owner [] l h e = ap texts (let z : [] ≡ l = cc in z)
entries_texts (suc most) owner (b ∷ s) l h e = go (cut (b ∷ s)) refl (λ r m p q. entries_texts most owner r m p q) e
  where
    lines : (text rest : List ℕ) → cut (b ∷ s) ≡ ended text rest → (r : Given Line) (t : Given (List Entry)) → ((m : List Entry) → t ≡ given m → rest ≡ texts m)
        → with_entry text r t ≡ given l → b ∷ s ≡ texts l
    lines text rest q (given x) (given m) f e =
        let z : entry text x ∷ m ≡ l = cc in
        cut_whole (b ∷ s) text rest q ∙ ap (λ (r : List ℕ). (text ++ (newline ∷ [])) ++ r) (f m refl) ∙ ap texts z
    lines text rest q (given x) (refused n) f e = absurd (clash e)
    lines text rest q (refused n) t f e = absurd (clash e)

    go : (c : Cut) → cut (b ∷ s) ≡ c → ((r : List ℕ) (m : List Entry) → length r ≤ most → entries_in most owner r ≡ given m → r ≡ texts m)
        → cut_entries (entries_in most owner) owner c ≡ given l → b ∷ s ≡ texts l
    go (ended text rest) q f e =
        let few : length rest ≤ most = omega (arith, (cut_rest (b ∷ s) text rest q).0, h) in
        lines text rest q (line_of owner text) (entries_in most owner rest) (λ m p. f rest m few p) e
    go unended q f e = absurd (clash e)

-- ---- by words

-- of one line
pub missed_line : (a b : ℕ) (e : Entry) (l theirs : List Entry) → a < byte_values → AllFit (e ∷ l) → AllFit theirs
    → missed_key a b (keys_of theirs) (key_of e.line) ≡ (about b Sent e.line && not (has_line theirs (line Got e.line.kind a e.line.number)))
unfolding AllFit
missed_line a b e l theirs h f g =
    let x = e.line in
    ap₂ (λ (p q : Bool). p && not q) (about_key_lem x f.0 b Sent)
    (ap (among (keys_of theirs) (length (keys_of theirs))) (turned_key x f.0 Got a)
    ∙ among_has theirs (line Got x.kind a x.number) g (record { other = h; number = f.0.number }))

pub missing_words : (a b : ℕ) (mine theirs : List Entry) → a < byte_values → AllFit mine → AllFit theirs
    → missing_by a b (keys_of theirs) mine ≡ missing a b mine theirs
unfolding missing_by missing AllFit
missing_words a b [] theirs h f g = refl
missing_words a b (e ∷ l) theirs h f g =
    ap₂ (λ (p : Bool) (r : List ℕ). cond p e.text [] ++ r) (missed_line a b e l theirs h f g) (missing_words a b l theirs h f.1 g)
    ∙ choice (about b Sent e.line && not (has_line theirs (line Got e.line.kind a e.line.number))) e.text (missing a b l theirs)
  where
    choice : (p : Bool) (t r : List ℕ) → (cond p t [] ++ r) ≡ cond p (t ++ r) r
    choice true t r = refl
    choice false t r = refl

pub missed_length_lem : (a b : ℕ) (theirs : List ℕ) (l : List Entry) → missed_length a b theirs (map keyed l) ≡ length (missing_by a b theirs l)
unfolding missing_by
missed_length_lem a b theirs [] = refl
missed_length_lem a b theirs (e ∷ l) =
    go (missed_key a b theirs (key_of e.line))
    ∙ ap (λ (n : ℕ). length (cond (missed_key a b theirs (key_of e.line)) e.text []) + n) (missed_length_lem a b theirs l)
    ∙ sym (length-append (cond (missed_key a b theirs (key_of e.line)) e.text []) (missing_by a b theirs l))
  where
    rest : List KeyedLine
    rest = filter (λ x. missed_key a b theirs x.key) (map keyed l)

    go : (p : Bool) → sum (map (λ x. x.size) (cond p (keyed e ∷ rest) rest)) ≡ length (cond p e.text []) + sum (map (λ x. x.size) rest)
    go true = sum_by-cons (λ n. n) (length e.text) (map (λ x. x.size) rest)
    go false = omega arith

-- ---- written line by line

module _ (a b : ℕ) (theirs : List Entry) where
  abbrev pub missed : KeyedLine → Bool
  missed x = missed_key a b (keys_of theirs) x.key

  -- before the i-th line: what is missing of those before it is written, and the rest of the text is those from it on
  pub record Written (lines : List KeyedLine) (i : ℕ) (rest all : List ℕ) (start end : ℕ) (out old : List ℕ) : Type 0 where
    pub left : List Entry
    pub fits : AllFit left
    pub lines_left : drop i lines ≡ map keyed left
    pub rest_is : rest ≡ texts left
    pub front : List ℕ
    pub parts : all ≡ front ++ missing a b left theirs
    pub wrote : Writes end out old start front
    pub kept : length out ≡ length old
    pub room : start + length all ≤ length old

  pub written_as : {lines : List KeyedLine} {i : ℕ} {rest rest' all : List ℕ} {start end end' : ℕ} {out out' old : List ℕ} → Written lines i rest all start end out old
      → rest' ≡ rest → end' ≡ end → out' ≡ out → Written lines i rest' all start end' out' old
  written_as w r e o = record {
    left = w.left;
    fits = w.fits;
    lines_left = w.lines_left;
    rest_is = r ∙ w.rest_is;
    front = w.front;
    parts = w.parts;
    wrote = record { place = e ∙ w.wrote.place; left = o ∙ w.wrote.left };
    kept = ap length o ∙ w.kept;
    room = w.room;
  }

module _ (a b : ℕ) (theirs : List Entry) (small : a < byte_values) (fit : AllFit theirs) where
  pub written_none : (lines : List KeyedLine) (mine : List Entry) (rest : List ℕ) (start : ℕ) (old : List ℕ) → AllFit mine → lines ≡ map keyed mine → rest ≡ texts mine
      → start + length (missing a b mine theirs) ≤ length old → Written a b theirs lines 0 rest (missing a b mine theirs) start start old old
  written_none lines mine rest start old f e r h = record {
    left = mine;
    fits = f;
    lines_left = e;
    rest_is = r;
    front = [];
    parts = refl;
    wrote = writes_none old start;
    kept = refl;
    room = h;
  }

  module _ {lines : List KeyedLine} {i : ℕ} {rest all : List ℕ} {start end : ℕ} {out old : List ℕ} (w : Written a b theirs lines i rest all start end out old) where
    pub written_all : length lines ≤ i → Writes end out old start all
    unfolding missing
    written_all h = go w.left w.lines_left w.parts
      where
        go : (l : List Entry) → drop i lines ≡ map keyed l → all ≡ w.front ++ missing a b l theirs → Writes end out old start all
        go [] k p = subst (Writes end out old start) (sym (p ∙ append-nil w.front)) w.wrote
        go (e ∷ l) k p =
            let z : [] ≡ keyed e ∷ map keyed l = sym (drop_of_length-le lines h) ∙ k in
            absurd (cc)

    -- one line more: its bytes are the first of the rest, and they are written where it is missing
    pub record Next (k : KeyedLine) : Type 0 where
      pub inside : k.size ≤ length rest
      pub fitting : missed a b theirs k ≡ true → end + length (take k.size rest) ≤ length out
      pub listed : missed a b theirs k ≡ true → {r : ℕ} {new : List ℕ} → Writes r new out end (take k.size rest) → length new ≡ length out
          → Written a b theirs lines (i + 1) (drop k.size rest) all start r new old
      pub passed : missed a b theirs k ≡ false → Written a b theirs lines (i + 1) (drop k.size rest) all start end out old

    pub next_line : (none : KeyedLine) → i < length lines → Next (get_or lines i none)
    unfolding missing AllFit texts
    next_line none h = go w.left w.fits w.lines_left w.rest_is w.parts
      where
        go : (l : List Entry) → AllFit l → drop i lines ≡ map keyed l → rest ≡ texts l → all ≡ w.front ++ missing a b l theirs → Next (get_or lines i none)
        go [] f k s p = absurd (omega (arith, ap length k, length-drop i lines, h))
        go (e ∷ l) f k s p =
            let this = get_or lines i none in
            let asked : Bool = about b Sent e.line && not (has_line theirs (line Got e.line.kind a e.line.number)) in
            let both : this ∷ drop (suc i) lines ≡ keyed e ∷ map keyed l = sym (drop-cons lines i none h) ∙ k in
            let here : this ≡ keyed e = cc in
            let later : drop (i + 1) lines ≡ map keyed l = ap (λ (j : ℕ). drop j lines) (add-one i) ∙ (let z : drop (suc i) lines ≡ map keyed l = cc in z) in
            let size : this.size ≡ length e.text = ap (λ (x : KeyedLine). x.size) here in
            let bytes : take this.size rest ≡ e.text = ap₂ (λ (n : ℕ) (r : List ℕ). take n r) size s ∙ take-append_seam e.text (texts l) in
            let more : drop this.size rest ≡ texts l = ap₂ (λ (n : ℕ) (r : List ℕ). drop n r) size s ∙ drop-append_seam e.text (texts l) in
            let same : missed a b theirs this ≡ asked = ap (missed a b theirs) here ∙ missed_line a b e l theirs small f fit in
            let whole : missed a b theirs this ≡ true → all ≡ (w.front ++ take this.size rest) ++ missing a b l theirs =
            λ t. p ∙ ap (λ (x : Bool). w.front ++ cond x (e.text ++ missing a b l theirs) (missing a b l theirs)) (sym same ∙ t)
            ∙ sym (append_assoc w.front e.text (missing a b l theirs)) ∙ ap (λ (x : List ℕ). (w.front ++ x) ++ missing a b l theirs) (sym bytes) in
            let fits : missed a b theirs this ≡ true → start + length (w.front ++ take this.size rest) ≤ length old =
            λ t. omega (arith, w.room, ap length (whole t), length-append (w.front ++ take this.size rest) (missing a b l theirs)) in
            record {
              inside = omega (arith, size, ap length s, length-append e.text (texts l));
              fitting = λ t. omega (arith, fits t, w.kept, w.wrote.place, length-append w.front (take this.size rest));
              listed = λ t x n. record {
                left = l;
                fits = f.1;
                lines_left = later;
                rest_is = more;
                front = w.front ++ take this.size rest;
                parts = whole t;
                wrote = writes_more w.front (take this.size rest) (fits t) w.wrote x;
                kept = n ∙ w.kept;
                room = w.room;
              };
              passed = λ t. record {
                left = l;
                fits = f.1;
                lines_left = later;
                rest_is = more;
                front = w.front;
                parts = p ∙ ap (λ (x : Bool). w.front ++ cond x (e.text ++ missing a b l theirs) (missing a b l theirs)) (sym same ∙ t);
                wrote = w.wrote;
                kept = w.kept;
                room = w.room;
              };
            }
