-- What is said of a list of words is said of its lines; so words are enough to test whether everything that a journal got was sent. Assumes nothing.
use Prim.Native.Nat.{ℕ, zero, suc, ◌<◌}
use Rattle.std.specs.Prelude.{◌≡◌, Bool, not, ◌&&◌, ◌||◌, cond, List, [], ◌∷◌, eqb, ltb, length, get_or, map}
use Rattle.std.specs.List.{list_all}
use Rattle.std.proofs.Math.Path.{refl, ap}
use Rattle.std.proofs.Common.{sym, ap₂, subst, ◌∙◌, arith, eq-eqb, eqb-true, ltb-true}
use Rattle.std.proofs.Math.Bool.{true, false}
use Rattle.column.specs.laws.Cases.{and_left, and_right, same_truth}
use Rattle.column.specs.Refusals.{Given, given, refused}
use Rattle.column.specs.Columns.{numbers}
use Rattle.text.specs.Text.{Reading, read, unread, numeral, starts_with, after_key}
use Rattle.text.specs.Pieces.{Cut, ended, unended, cut, pieces}
use Rattle.journals.specs.inner.Chains.{among, distinct}
use Rattle.journals.specs.Journals.{sent_key, got_key, line, message_kind, acknowledgement_kind, kind_of_number, good_line, line_with, line_judged, line_pieces, line_in, line_of, Entry, with_entry, cut_entries, entries_in, has_line, once_each, all_heard}
use Rattle.journals.specs.inner.LineWords.{byte_values, key_of, heard_key}
use Rattle.journals.specs.laws.LineWordLaws.{Fits, key_line, about_key_lem, turned_key}
use Rattle.journals.specs.inner.KeyedLines.{keyed, keys_of}
use Rattle.journals.specs.declared.line.Way.{Way}
use Rattle.journals.specs.declared.line.Way.TheVariants.{Sent, Got}
use Rattle.journals.specs.declared.line.Kind.{Kind}
use Rattle.journals.specs.declared.line.Line.{Line}

-- ---- the first of a list of words

or_swap : (a b c : Bool) → (a || (b || c)) ≡ (b || (a || c))
or_swap true true c = refl
or_swap true false c = refl
or_swap false b c = refl

pub among_first : (k : ℕ) (ks : List ℕ) (n key : ℕ) → among (k ∷ ks) (suc n) key ≡ (eqb k key || among ks n key)
unfolding among
among_first k ks zero key = refl
among_first k ks (suc n) key =
    ap (λ (b : Bool). eqb (get_or ks n 0) key || b) (among_first k ks n key) ∙ or_swap (eqb (get_or ks n 0) key) (eqb k key) (among ks n key)

eqb_turn : (a b : ℕ) → eqb a b ≡ eqb b a
eqb_turn a b = same_truth (eqb a b) (eqb b a) (λ e. eq-eqb b a (sym (eqb-true a b e))) (λ e. eq-eqb a b (sym (eqb-true b a e)))

turn : (a b c d : Bool) → (not (a || b) && (not c && d)) ≡ (not (a || c) && (not b && d))
turn true b c d = refl
turn false true true d = refl
turn false true false d = refl
turn false false true d = refl
turn false false false d = refl

pub distinct_first : (k : ℕ) (ks : List ℕ) (n : ℕ) → distinct (k ∷ ks) (suc n) ≡ (not (among ks n k) && distinct ks n)
unfolding distinct among
distinct_first k ks zero = refl
distinct_first k ks (suc n) =
    let g = get_or ks n 0 in
    ap₂ (λ (a b : Bool). not a && b) (among_first k ks n g) (distinct_first k ks n)
    ∙ turn (eqb k g) (among ks n g) (among ks n k) (distinct ks n)
    ∙ ap (λ (a : Bool). not (a || among ks n k) && (not (among ks n g) && distinct ks n)) (eqb_turn k g)

-- ---- of entries

unfoldable pub AllFit : List Entry → Type 0
AllFit [] = Unit {0}
AllFit (e ∷ l) = Fits e.line × AllFit l

pub among_has : (l : List Entry) (x : Line) → AllFit l → Fits x → among (keys_of l) (length (keys_of l)) (key_of x) ≡ has_line l x
unfolding among has_line AllFit
among_has [] x a f = refl
among_has (e ∷ l) x a f =
    among_first (key_of e.line) (keys_of l) (length (keys_of l)) (key_of x)
    ∙ ap₂ (λ (b c : Bool). b || c) (key_line e.line x a.0 f) (among_has l x a.1 f)

pub distinct_once : (l : List Entry) → AllFit l → distinct (keys_of l) (length (keys_of l)) ≡ once_each l
unfolding distinct once_each AllFit
distinct_once [] a = refl
distinct_once (e ∷ l) a =
    distinct_first (key_of e.line) (keys_of l) (length (keys_of l))
    ∙ ap₂ (λ (b c : Bool). not b && c) (among_has l e.line a.1 a.0) (distinct_once l a.1)

-- ---- a line that was read fits

clash : {A : Type 0} {n : ℕ} {x : A} → refused n ≡ given x → ⊥
clash e = let z : ◌≡◌ {A = ℕ} 0 1 = cc in omega arith

judged_fits : (owner : ℕ) (way : Way) (r s t : Reading ℕ) (x : Line) → line_judged owner way r s t ≡ given x → Fits x
unfolding line_judged
judged_fits owner way (read k) (read o) (read n) x e = go (good_line owner k o n) refl (kind_of_number k) e
  where
    go : (b : Bool) → good_line owner k o n ≡ b → (t : Given Kind) → cond b (line_with way o n t) (refused 19) ≡ given x → Fits x
    go true g (given kind) e =
        let z : line way kind o n ≡ x = cc in
        let h = and_right (eqb k message_kind || eqb k acknowledgement_kind) _ g in
        subst Fits z record {
          other = omega (arith, ltb-true o 16 (and_left (ltb o 16) _ h));
          number = ltb-true n numbers (and_right (not (eqb o owner)) _ (and_right (ltb o 16) _ h));
        }
    go true g (refused m) e = absurd (clash e)
    go false g t e = absurd (clash e)
judged_fits owner way (read k) (read o) unread x e = absurd (clash e)
judged_fits owner way (read k) unread t x e = absurd (clash e)
judged_fits owner way unread s t x e = absurd (clash e)

pieces_fit : (owner : ℕ) (way : Way) (ps : List (List ℕ)) (x : Line) → line_pieces owner way ps ≡ given x → Fits x
unfolding line_pieces
pieces_fit owner way [] x e = absurd (clash e)
pieces_fit owner way (a ∷ []) x e = absurd (clash e)
pieces_fit owner way (a ∷ b ∷ []) x e = absurd (clash e)
pieces_fit owner way (a ∷ b ∷ c ∷ []) x e = judged_fits owner way (numeral 1 a) (numeral 2 b) (numeral 10 c) x e
pieces_fit owner way (a ∷ b ∷ c ∷ d ∷ l) x e = absurd (clash e)

in_fits : (owner : ℕ) (way : Way) (r : Reading (List ℕ)) (x : Line) → line_in owner way r ≡ given x → Fits x
unfolding line_in
in_fits owner way (read l) x e = pieces_fit owner way (pieces l) x e
in_fits owner way unread x e = absurd (clash e)

pub line_fits : (owner : ℕ) (l : List ℕ) (x : Line) → line_of owner l ≡ given x → Fits x
unfolding line_of
line_fits owner l x e = go (starts_with sent_key l) e
  where
    go : (b : Bool) → cond b (line_in owner Sent (after_key sent_key l)) (line_in owner Got (after_key got_key l)) ≡ given x → Fits x
    go true e = in_fits owner Sent (after_key sent_key l) x e
    go false e = in_fits owner Got (after_key got_key l) x e

with_fit : (text : List ℕ) (r : Given Line) (t : Given (List Entry)) (l : List Entry) → ((x : Line) → r ≡ given x → Fits x)
    → ((m : List Entry) → t ≡ given m → AllFit m) → with_entry text r t ≡ given l → AllFit l
unfolding with_entry AllFit
with_fit text (given x) (given m) l f g e =
    let z = entry_is e in
    subst AllFit z (f x refl, g m refl)
  where
    entry_is : {a b : List Entry} → given a ≡ given b → a ≡ b
    entry_is q = cc
with_fit text (given x) (refused n) l f g e = absurd (clash e)
with_fit text (refused n) t l f g e = absurd (clash e)

pub entries_fit : (most owner : ℕ) (s : List ℕ) (l : List Entry) → entries_in most owner s ≡ given l → AllFit l
unfolding entries_in cut_entries AllFit
entries_fit zero owner s l e = subst AllFit (nothing e) tt
  where
    nothing : {b : List Entry} → given [] ≡ given b → [] ≡ b
    nothing q = cc
entries_fit (suc most) owner [] l e = subst AllFit (nothing e) tt
  where
    nothing : {b : List Entry} → given [] ≡ given b → [] ≡ b
    nothing q = cc
entries_fit (suc most) owner (b ∷ s) l e = go (cut (b ∷ s)) (λ rest m q. entries_fit most owner rest m q) e
  where
    go : (c : Cut) → ((rest : List ℕ) (m : List Entry) → entries_in most owner rest ≡ given m → AllFit m)
        → cut_entries (entries_in most owner) owner c ≡ given l → AllFit l
    go (ended text rest) f e = with_fit text (line_of owner text) (entries_in most owner rest) l (line_fits owner text) (f rest) e
    go unended f e = absurd (clash e)

-- ---- everything that was got was sent

unmatched_is : (p q : Bool) → not (p && not q) ≡ (not p || q)
unmatched_is true true = refl
unmatched_is true false = refl
unmatched_is false q = refl

pub heard_entries : (a b : ℕ) (mine theirs : List Entry) → a < byte_values → AllFit mine → AllFit theirs
    → list_all (λ x. heard_key a b (keys_of theirs) x.key) (map keyed mine) ≡ all_heard a b mine theirs
unfolding all_heard AllFit
heard_entries a b [] theirs h f g = refl
heard_entries a b (e ∷ l) theirs h f g =
    let x = e.line in
    let sent = line Sent x.kind a x.number in
    ap₂ (λ (p q : Bool). p && q)
    (ap₂ (λ (p q : Bool). not (p && not q)) (about_key_lem x f.0 b Got)
    (ap (among (keys_of theirs) (length (keys_of theirs))) (turned_key x f.0 Sent a)
    ∙ among_has theirs sent g (record { other = h; number = f.0.number }))
    ∙ unmatched_is _ _)
    (heard_entries a b l theirs h f.1 g)
