-- How long the text of the counts is, and what each way of an input answers. Assumes nothing.
use Rattle.std.specs.Prelude.{ℕ, ◌≤◌, ◌<◌, ◌≡◌, Bool, true, false, cond, eqb, ltb, length, drop}
use Rattle.std.proofs.Math.Path.{refl, ap}
use Rattle.std.proofs.Common.{sym, ◌∙◌, arith, length-append, drop_of_length-le, eq-eqb, ne_eqb, lt-ltb, le-ltb}
use mathlib.Core.List.{List, []}
use Rattle.column.specs.declared.tree.Tree.{Tree}
use Rattle.text.specs.Text.{Reading, read, unread, Writes, Puts, refused_text}
use Rattle.text.specs.laws.DecimalLaws.{decimal_length, refused_length}
use Rattle.text.specs.laws.WritingLaws.{puts_all}
use Rattle.text.specs.Pieces.{cut}
use Rattle.column.specs.Refusals.{Given, given, refused}
use Rattle.bank.specs.Steps as steps
use Rattle.bank.specs.Steps.{Result, accepted}
use Rattle.table.specs.Tables.{Placed, read_table, limit}
use Rattle.losses.specs.Losses.{losses_refusal, losses_of}
use Rattle.losses.specs.laws.LossesLaws.{AtMost, counts_few}
use Rattle.losses.specs.declared.count.Losses.{Losses}
use Rattle.losses_text.specs.LossTexts.{steps_in, step_count, counts_text, counted_text, asked_text, table_text, losses_text}
use Rattle.losses_text.specs.inner.LossAnswers.{longest_counts, steps_given, asked_given, table_given, losses_in}

-- ---- how long the counts are

counts_length : (l : Losses) → AtMost 256 l → length (counts_text l) ≤ longest_counts
unfolding counts_text
counts_length l m =
    simp length-append
    (omega (
      arith,
      decimal_length 20 2 l.kept (omega (arith, m.kept)),
      decimal_length 20 2 l.lost (omega (arith, m.lost)),
      decimal_length 20 2 l.none (omega (arith, m.none)),
    ))

pub counts_fit : (t : Tree) (steps : ℕ) → length (counts_text (losses_of t steps)) ≤ longest_counts
counts_fit t steps = counts_length (losses_of t steps) (counts_few t steps)

-- a refusal has room where the counts have it
pub refused_written : {r : ℕ} {new old : List ℕ} (n : ℕ) → n < 256 → longest_counts ≤ length old → Puts r new old 0 (refused_text n)
    → Writes r new old 0 (refused_text n)
refused_written n small room h = puts_all (refused_text n) (omega (arith, room, refused_length n small)) h

-- ---- what is answered after a table

pub asked_refused : (t : Tree) (rest : List ℕ) → (losses_refusal t ≡ 0 → ⊥) → asked_text t rest ≡ refused_text (losses_refusal t)
unfolding asked_text
asked_refused t rest z = rw (ne_eqb (losses_refusal t) 0 z)

module _ (t : Tree) (good : losses_refusal t ≡ 0) where
  asked_read : (rest : List ℕ) (r : Reading ℕ) → step_count rest ≡ r → asked_text t rest ≡ counted_text t r
  unfolding asked_text
  asked_read rest r e = rw (eq-eqb (losses_refusal t) 0 good) (ap (counted_text t) e)

  pub asked_unread : (rest : List ℕ) → step_count rest ≡ unread → asked_text t rest ≡ refused_text 13
  unfolding counted_text
  asked_unread rest e = asked_read rest unread e

  pub asked_missing : (s : List ℕ) (at : ℕ) → length s ≤ at → asked_text t (drop at s) ≡ refused_text 13
  unfolding steps_in cut
  asked_missing s at h = ap (asked_text t) (drop_of_length-le s h) ∙ asked_unread [] refl

  pub asked_counts : (rest : List ℕ) (steps : ℕ) → step_count rest ≡ read steps → asked_text t rest ≡ counts_text (losses_of t steps)
  unfolding counted_text
  asked_counts rest steps e = asked_read rest (read steps) e

-- ---- what is answered to an input

pub losses_long : (input : List ℕ) → limit < length input → losses_text input ≡ refused_text 13
unfolding losses_text
losses_long input h = rw (lt-ltb limit (length input) h)

pub losses_read : (input : List ℕ) (o : Result Placed) → length input ≤ limit → o ≡ read_table input → losses_text input ≡ table_text input o
unfolding losses_text
losses_read input o h e = rw (le-ltb limit (length input) h) (ap (table_text input) (sym e))

-- ---- the text of what is asked, as a value or a refusal

abbrev pub answered_text : Given Losses → List ℕ
answered_text (given l) = counts_text l
answered_text (refused n) = refused_text n

abbrev pub Fits : Given Losses → Type 0
Fits (given l) = length (counts_text l) ≤ longest_counts
Fits (refused n) = Unit {0}

-- the text is that of the value or the refusal, and the counts have room
pub record Answered (text : List ℕ) (g : Given Losses) : Type 0 where
  pub text_is : text ≡ answered_text g
  pub fits : Fits g

steps_answered : (t : Tree) (r : Reading ℕ) → Answered (counted_text t r) (steps_given t r)
unfolding counted_text
steps_answered t (read steps) = record { text_is = refl; fits = counts_fit t steps }
steps_answered t unread = record { text_is = refl; fits = tt }

asked_answered : (t : Tree) (rest : List ℕ) → Answered (asked_text t rest) (asked_given t rest)
unfolding asked_text
asked_answered t rest = go (eqb (losses_refusal t) 0)
  where
    go : (b : Bool) → Answered (cond b (counted_text t (step_count rest)) (refused_text (losses_refusal t)))
        (cond b (steps_given t (step_count rest)) (refused (losses_refusal t)))
    go true = steps_answered t (step_count rest)
    go false = record { text_is = refl; fits = tt }

table_answered : (input : List ℕ) (o : Result Placed) → Answered (table_text input o) (table_given input o)
unfolding table_text
table_answered input (accepted p) = asked_answered p.tree (drop p.end input)
table_answered input (steps.refused n p) = record { text_is = refl; fits = tt }

pub losses_answered : (input : List ℕ) → Answered (losses_text input) (losses_in input)
unfolding losses_text
losses_answered input = go (ltb limit (length input))
  where
    go : (b : Bool) → Answered (cond b (refused_text 13) (table_text input (read_table input))) (cond b (refused 13) (table_given input (read_table input)))
    go true = record { text_is = refl; fits = tt }
    go false = table_answered input (read_table input)
