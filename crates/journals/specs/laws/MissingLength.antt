-- What is missing is never longer than both journals together: a buffer as long as both holds it, and 11 does not occur. Assumes nothing.
use Rattle.std.specs.Prelude.{ℕ, ◌+◌, ◌≤◌, zero, suc, ◌≡◌, refl, Bool, true, false, cond, not, ◌&&◌, List, [], ◌∷◌, ◌++◌, ltb, eqb}
use Rattle.std.proofs.Common.{subst, arith, length-append}
use Rattle.std.proofs.Math.ListN.{length}
use borrow.Author.Tests.{eq-eqb, le-leb}
use Rattle.column.specs.Refusals.{first, Given, given, refused}
use Rattle.text.specs.Text.{column_key, Reading, read, unread, written, newline}
use Rattle.text.specs.Pieces.{Cut, ended, unended, cut, keyed, with_first}
use Rattle.list.specs.Closing.{placed}
use Rattle.journals.specs.Journals.{Entry, entries_in, Journal, with_owner, owned, headed, journal_limit, journal_of, missing, missing_text, pair_conditions, pair_compared, both_compared, compared, with_entry, line_of, cut_entries, about, line, has_line}
use Rattle.journals.specs.inner.ReadJournals.{entries_given, all_entries, lines_in}
use Rattle.journals.specs.declared.line.Line.{Line}
use Rattle.journals.specs.declared.line.Way.TheVariants.{Sent, Got}

-- ---- the bytes of lines

unfoldable pub entries_length : List Entry → ℕ
entries_length [] = 0
entries_length (e ∷ l) = length e.text + entries_length l

abbrev pub cut_length : Cut → ℕ
cut_length (ended text rest) = length text + 1 + length rest
cut_length unended = 0

abbrev pub lines_length : Given (List Entry) → ℕ
lines_length (given l) = entries_length l
lines_length (refused n) = 0

pub cut_within : (s : List ℕ) → cut_length (cut s) ≤ length s
unfolding cut with_first
cut_within [] = omega arith
cut_within (b ∷ l) = go (eqb b newline) (cut l) (cut_within l)
  where
    go : (ends : Bool) (c : Cut) → cut_length c ≤ length l → cut_length (cond ends (ended [] l) (with_first b c)) ≤ length (b ∷ l)
    go true c h = omega arith
    go false (ended text rest) h = omega (arith, h)
    go false unended h = omega arith

entry_length : (text : List ℕ) (x : Given Line) (l : Given (List Entry)) → lines_length (with_entry text x l) ≤ length text + 1 + lines_length l
unfolding with_entry entries_length
entry_length text (given x) (given l) = omega (arith, length-append text (newline ∷ []))
entry_length text (given x) (refused n) = omega arith
entry_length text (refused n) l = omega arith

pub entries_within : (most owner : ℕ) (s : List ℕ) → lines_length (entries_in most owner s) ≤ length s
unfolding entries_in cut_entries entries_length
entries_within zero owner s = omega arith
entries_within (suc most) owner [] = omega arith
entries_within (suc most) owner (b ∷ l) = go (entries_within most owner) (cut (b ∷ l)) (cut_within (b ∷ l))
  where
    go : ((r : List ℕ) → lines_length (entries_in most owner r) ≤ length r) → (c : Cut) → cut_length c ≤ length (b ∷ l)
        → lines_length (cut_entries (entries_in most owner) owner c) ≤ length (b ∷ l)
    go more (ended text rest) h = omega (arith, h, entry_length text (line_of owner text) (entries_in most owner rest), more rest)
    go more unended h = omega arith

-- ---- what is missing

pub missing_length : (a b : ℕ) (mine theirs : List Entry) → length (missing a b mine theirs) ≤ entries_length mine
unfolding missing entries_length
missing_length a b [] theirs = omega arith
missing_length a b (e ∷ l) theirs =
    go (about b Sent e.line && not (has_line theirs (line Got e.line.kind a e.line.number))) (missing_length a b l theirs)
  where
    go : (listed : Bool) → length (missing a b l theirs) ≤ entries_length l
        → length (cond listed (e.text ++ missing a b l theirs) (missing a b l theirs)) ≤ length e.text + entries_length l
    go true h = omega (arith, h, length-append e.text (missing a b l theirs))
    go false h = omega (arith, h)

given_length : (r : Given (List Entry)) → entries_length (entries_given r) ≡ lines_length r
unfolding entries_given entries_length
given_length (given l) = refl
given_length (refused n) = refl

-- of the lines that a text is
pub text_within : (a b : ℕ) (s : List ℕ) (theirs : List Entry) → length (missing a b (lines_in a s) theirs) ≤ length s
text_within a b s theirs =
    omega (arith, missing_length a b (lines_in a s) theirs, given_length (all_entries a s), entries_within (length s) a s)

-- ---- the bytes of a journal's lines

abbrev journal_length : Given Journal → ℕ
journal_length (given j) = entries_length j.entries
journal_length (refused n) = 0

owner_within : (owner : ℕ) (l : Given (List Entry)) → journal_length (with_owner owner l) ≤ lines_length l
unfolding with_owner
owner_within owner (given l) = omega arith
owner_within owner (refused n) = omega arith

owned_within : (rest : List ℕ) (most : ℕ) (owner : Reading ℕ) → journal_length (owned rest most owner) ≤ length rest
unfolding owned
owned_within rest most (read owner) = go (ltb owner 16)
  where
    go : (below : Bool) → journal_length (cond below (with_owner owner (entries_in most owner rest)) (refused 19)) ≤ length rest
    go true = omega (arith, owner_within owner (entries_in most owner rest), entries_within most owner rest)
    go false = omega arith
owned_within rest most unread = omega arith

journal_within : (s : List ℕ) → journal_length (journal_of s) ≤ length s
unfolding journal_of headed
journal_within s = go (ltb journal_limit (length s)) (cut s) (cut_within s)
  where
    go : (long : Bool) (c : Cut) → cut_length c ≤ length s → journal_length (cond long (refused 19) (headed (length s) c)) ≤ length s
    go true c h = omega arith
    go false (ended one rest) h = omega (arith, h, owned_within rest (length s) (keyed column_key 2 one))
    go false unended h = omega arith

-- ---- what is missing

lines_within : (s : List ℕ) (j : Journal) → journal_of s ≡ given j → entries_length j.entries ≤ length s
lines_within s j e = subst (λ (g : Given Journal). journal_length g ≤ length s) e (journal_within s)

module _ (one two : List ℕ) (j k : Journal) (reads : journal_of one ≡ given j) (reads-too : journal_of two ≡ given k) where
  pub missing_within : length (missing_text j k) ≤ length one + length two
  missing_within =
      let v = missing j.owner k.owner j.entries k.entries in
      let w = missing k.owner j.owner k.entries j.entries in
      -- in whichever order they follow one another
      omega (
        arith,
        length-append v w,
        length-append w v,
        missing_length j.owner k.owner j.entries k.entries,
        missing_length k.owner j.owner k.entries j.entries,
        lines_within one j reads,
        lines_within two k reads-too,
      )

  -- "11, tested last, if they don't fit": into a buffer as long as both journals they do
  pub always_fits : (old : List ℕ) → length one + length two ≤ length old → first (pair_conditions j k) ≡ 0
      → compared one two old ≡ record { answer = given (length (missing_text j k)); buffer = written old 0 (missing_text j k) }
  unfolding both_compared pair_compared placed
  always_fits old room passes =
      rw (reads, reads-too, eq-eqb (first (pair_conditions j k)) 0 passes, le-leb (0 + length (missing_text j k)) (length old) (omega (arith, room, missing_within)))
