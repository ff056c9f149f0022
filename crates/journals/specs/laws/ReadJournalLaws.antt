-- How a journal is read, and what the words and sizes of its lines say of it. Assumes nothing.
use Rattle.std.specs.Prelude.{ℕ, ◌+◌, ◌-◌, ◌≤◌, ◌<◌, ◌≡◌, refl, ◌≢◌, Bool, true, false, cond, List, ltb, length, take, drop, map}
use Rattle.std.proofs.Common.{sym, ap, ap₂, ◌∙◌, true≢false, arith, length-take-le, length-drop, le-ltb, lt-ltb, ltb-true}
use Rattle.column.specs.Refusals.{Given, given, refused}
use Rattle.text.specs.Text.{column_key, newline, Reading, read, unread}
use Rattle.text.specs.Pieces.{keyed as keyed_number}
use Rattle.text.specs.laws.Cutting.{line_ended, line_unended, Found, found}
use Rattle.text.specs.Search.{place_of}
use Rattle.journals.specs.Journals.{Entry, Journal, entries_in, with_owner, owned, headed, journal_limit, journal_of, once_each, all_heard, missing}
use Rattle.journals.specs.inner.Chains.{distinct}
use Rattle.journals.specs.inner.KeyedLines.{lines_limit, keyed, keyed_in, keys_in, keys_of, heard_keys, missed_length}
use Rattle.journals.specs.inner.LineWords.{byte_values, missed_key}
use Rattle.journals.specs.inner.ReadJournals.{owner_named, is_given, entries_given, all_entries, lines_in, journal_in, Holds}
use Rattle.journals.specs.laws.KeyLaws.{AllFit, entries_fit, distinct_once, heard_entries}
use Rattle.journals.specs.laws.KeyedLineLaws.{entries_enough}
use Rattle.journals.specs.laws.MissingLaws.{texts, entries_texts, missing_words, missed_length_lem, Written, written_none}
use Rattle.journals.specs.declared.lines.KeyedLine.{KeyedLine}

clash : {A : Type 0} {n : ℕ} {x : A} → refused n ≡ given x → ⊥
clash e = cc

-- ---- how a journal is read

module _ (s : List ℕ) where
  pub journal_long : journal_limit < length s → journal_of s ≡ refused 19
  unfolding journal_of
  journal_long h = rw (lt-ltb journal_limit (length s) h)

  module _ (few : length s ≤ journal_limit) (r : ℕ) (p : r ≡ place_of newline 0 (length s) s) (h : r ≤ length s) where
    end_found : Found newline s 0 r
    end_found = found newline s 0 r (p, h) (omega arith)

    pub journal_unended : r ≡ length s → journal_of s ≡ refused 19
    unfolding journal_of headed
    journal_unended k = rw (le-ltb journal_limit (length s) few, line_unended s 0 r (omega arith) end_found k)

    module _ (k : r ≢ length s) where
      journal_headed : journal_of s ≡ owned (drop (r + 1) s) (length s) (keyed_number column_key 2 (take r s))
      unfolding journal_of headed
      journal_headed =
          let whole : r - 0 ≡ r = omega arith in
          rw (le-ltb journal_limit (length s) few, line_ended s 0 r (omega arith) end_found (omega (arith, k, h)))
          (ap (λ (i : ℕ). owned (drop (r + 1) s) (length s) (keyed_number column_key 2 (take i s))) whole)

      abbrev pub first : Reading ℕ
      first = keyed_number column_key 2 (take r s)

      pub journal_unowned : (n : ℕ) → refused n ≡ owner_named first → journal_of s ≡ refused n
      unfolding owned owner_named
      journal_unowned n e = journal_headed ∙ go first e
        where
          same : (m : ℕ) → ◌≡◌ {A = Given ℕ} (refused n) (refused m) → ◌≡◌ {A = Given Journal} (refused m) (refused n)
          same m e = let z : m ≡ n = cc in ap (λ (i : ℕ). refused i) z

          under : (owner : ℕ) (b : Bool) → refused n ≡ cond b (given owner) (refused 19)
              → cond b (with_owner owner (entries_in (length s) owner (drop (r + 1) s))) (refused 19) ≡ refused n
          under owner true e = absurd (clash e)
          under owner false e = same 19 e

          go : (t : Reading ℕ) → refused n ≡ owner_named t → owned (drop (r + 1) s) (length s) t ≡ refused n
          go (read owner) e = under owner (ltb owner 16) e
          go unread e = same 19 e

      pub journal_unread : first ≡ unread → journal_of s ≡ refused 19
      unfolding owner_named
      journal_unread q = journal_unowned 19 (sym (ap owner_named q))

      pub journal_above : (owner : ℕ) → first ≡ read owner → 16 ≤ owner → journal_of s ≡ refused 19
      unfolding owner_named
      journal_above owner q above = journal_unowned 19 (rw (q, le-ltb owner 16 above))

      pub journal_owned : (owner : ℕ) (rest : List ℕ) → given owner ≡ owner_named first → rest ≡ drop (r + 1) s
          → journal_of s ≡ with_owner owner (all_entries owner rest)
      unfolding owned owner_named
      journal_owned owner rest e f = journal_headed ∙ go first e
        where
          fewer : length rest ≤ length s
          fewer = omega (arith, ap length f, length-drop (r + 1) s)

          under : (m : ℕ) (b : Bool) → given owner ≡ cond b (given m) (refused 19)
              → cond b (with_owner m (entries_in (length s) m (drop (r + 1) s))) (refused 19) ≡ with_owner owner (all_entries owner rest)
          under m true e =
              let z : m ≡ owner = cc in
              ap₂ (λ (i : ℕ) (l : List ℕ). with_owner i (entries_in (length s) i l)) z (sym f)
              ∙ ap (with_owner owner) (entries_enough (length s) (length rest) owner rest fewer (omega arith))
          under m false e = absurd (clash (sym e))

          go : (t : Reading ℕ) → given owner ≡ owner_named t → owned (drop (r + 1) s) (length s) t ≡ with_owner owner (all_entries owner rest)
          go (read m) e = under m (ltb m 16) e
          go unread e = absurd (clash (sym e))

pub owner_below : (owner : ℕ) (t : Reading ℕ) → given owner ≡ owner_named t → owner < 16
unfolding owner_named
owner_below owner (read m) e = go (ltb m 16) refl e
  where
    go : (b : Bool) → ltb m 16 ≡ b → given owner ≡ cond b (given m) (refused 19) → owner < 16
    go true q e = let z : owner ≡ m = cc in omega (arith, z, ltb-true m 16 q)
    go false q e = absurd (clash (sym e))
owner_below owner unread e = absurd (clash (sym e))

module _ (owner : ℕ) (text : List ℕ) where
  -- lines by their words and sizes are lines
  module _ (l : List KeyedLine) (e : given l ≡ keyed_in (all_entries owner text)) where
    pub read_given : with_owner owner (all_entries owner text) ≡ given (journal_in owner text)
    unfolding keyed_in with_owner entries_given
    read_given = go (all_entries owner text) e
      where
        go : (r : Given (List Entry)) → given l ≡ keyed_in r → with_owner owner r ≡ given (record { owner = owner; entries = entries_given r })
        go (given m) e = refl
        go (refused n) e = absurd (clash (sym e))

    pub read_holds : owner < 16 → length l ≤ lines_limit → Holds owner text l
    unfolding keyed_in is_given entries_given
    read_holds below few = go (all_entries owner text) refl e
      where
        go : (r : Given (List Entry)) → all_entries owner text ≡ r → given l ≡ keyed_in r → Holds owner text l
        go (given m) q e = record {
          below = below;
          well = ap is_given q;
          keyed_all = let z : l ≡ map keyed m = cc in z ∙ ap (λ (t : Given (List Entry)). map keyed (entries_given t)) (sym q);
          few = few;
        }
        go (refused n) q e = absurd (clash (sym e))

  pub read_refused : (n : ℕ) → refused n ≡ keyed_in (all_entries owner text) → with_owner owner (all_entries owner text) ≡ refused n
  unfolding keyed_in with_owner
  read_refused n e = go (all_entries owner text) e
    where
      go : (r : Given (List Entry)) → refused n ≡ keyed_in r → with_owner owner r ≡ refused n
      go (given m) e = absurd (clash e)
      go (refused k) e = let z : k ≡ n = cc in ap (λ (i : ℕ). refused i) z

-- ---- what the words say of the lines

given_lines : (r : Given (List Entry)) → is_given r ≡ true → r ≡ given (entries_given r)
unfolding is_given entries_given
given_lines (given m) e = refl
given_lines (refused n) e = absurd (true≢false (sym e))

module _ {owner : ℕ} {text : List ℕ} {lines : List KeyedLine} (h : Holds owner text lines) where
  read_lines : all_entries owner text ≡ given (lines_in owner text)
  read_lines = given_lines (all_entries owner text) h.well

  pub holds_fit : AllFit (lines_in owner text)
  holds_fit = entries_fit (length text) owner text (lines_in owner text) read_lines

  pub holds_texts : text ≡ texts (lines_in owner text)
  holds_texts = entries_texts (length text) owner text (lines_in owner text) (omega arith) read_lines

  pub once_words : distinct (keys_in lines) (length (keys_in lines)) ≡ once_each (lines_in owner text)
  once_words = ap (λ (l : List KeyedLine). distinct (keys_in l) (length (keys_in l))) h.keyed_all ∙ distinct_once (lines_in owner text) holds_fit

module _ {a : ℕ} {one : List ℕ} {mine : List KeyedLine} (h : Holds a one mine) {b : ℕ} {two : List ℕ} {theirs : List KeyedLine} (g : Holds b two theirs) where
  pub small : a < byte_values
  small = omega (arith, h.below)

  pub heard_words : heard_keys a b (keys_in theirs) mine ≡ all_heard a b (lines_in a one) (lines_in b two)
  heard_words =
      ap₂ (λ (k l : List KeyedLine). heard_keys a b (keys_in l) k) h.keyed_all g.keyed_all
      ∙ heard_entries a b (lines_in a one) (lines_in b two) small (holds_fit h) (holds_fit g)

  pub missing_size : missed_length a b (keys_in theirs) mine ≡ length (missing a b (lines_in a one) (lines_in b two))
  missing_size =
      ap₂ (λ (k l : List KeyedLine). missed_length a b (keys_in l) k) h.keyed_all g.keyed_all
      ∙ missed_length_lem a b (keys_of (lines_in b two)) (lines_in a one)
      ∙ ap length (missing_words a b (lines_in a one) (lines_in b two) small (holds_fit h) (holds_fit g))

  -- what is missing, line by line
  pub written_start : (start : ℕ) (old : List ℕ) → start + length (missing a b (lines_in a one) (lines_in b two)) ≤ length old
      → Written a b (lines_in b two) mine 0 one (missing a b (lines_in a one) (lines_in b two)) start start old old
  written_start start old room =
      written_none a b (lines_in b two) small (holds_fit g) mine (lines_in a one) one start old (holds_fit h) h.keyed_all (holds_texts h) room

  pub line_missed : (key : ℕ) → missed_key a b (keys_in theirs) key ≡ missed_key a b (keys_of (lines_in b two)) key
  line_missed key = ap (λ (l : List KeyedLine). missed_key a b (keys_in l) key) g.keyed_all

-- as many words as lines are never more than a journal can have
pub few_words : {n : ℕ} (keys : List ℕ) → n ≤ length keys → length keys ≡ lines_limit → length (take n keys) ≤ lines_limit
few_words {n} keys h e = omega (arith, length-take-le n keys h, h, e)
