-- What a call of the script's run leaves: laws from what was written to `Advanced`.
-- Assumes nothing.
use Rattle.std.specs.Prelude.{ℕ, ◌+◌, ◌-◌, ◌^◌, ◌≤◌, ◌<◌, ◌≡◌, refl, Bool, cond, List, [], Result, Ok, Err, eqb, length, drop}
use Rattle.std.proofs.Common.{sym, ap, ap₂, ◌∙◌, arith, length-append, lt-ltb, le-ltb, eq-eqb, eqb-true}
use Rattle.std.proofs.Math.Bool.{true, false}
use Rattle.std.proofs.Math.ListN.{take}
use Rattle.std.specs.Result.{result_unwrap_or}
use Rattle.column.specs.Refusals.{first, refusal_number}
use Rattle.column.specs.declared.error.Refusal.{Refusal}
use Rattle.column.specs.Trees.{tree_refusal}
use Rattle.column.specs.laws.RefusalLaws.{earlier_none}
use Rattle.text.specs.Text.{newline, Reading, read, unread, Writes, refused_text}
use Rattle.text.specs.laws.DecimalLaws.{decimal_length}
use Rattle.text.specs.laws.WritingLaws.{written_taken, writes_within}
use Rattle.text.specs.Pieces.{Cut, ended, unended, cut}
use Rattle.text.specs.laws.Cutting.{Found, line_ended, line_unended, line_length}
use Rattle.bank.specs.Banks.{State, state, fresh_bank, no_bank}
use Rattle.bank.specs.Steps as steps
use Rattle.bank.specs.Steps.{after}
use Rattle.bank.specs.Dispatch.{dispatched, dispatch_outcome, steps_of, Dispatches}
use Rattle.bank.specs.declared.dispatch.Dispatched.{Dispatched}
use Rattle.bank.specs.declared.bank.Bank.{Bank}
use Rattle.table.specs.Tables.{Table, table_of, tree_in, count_listed, counted_conditions, table_refusal, Placed, placed_at, no_tree, judged, read_table, limit}
use Rattle.script.specs.Lines.{command_of}
use Rattle.script.specs.Scripts.{printed, answered, step_text, steps_text, dispatch_text, dispatch_printed}
use Rattle.script.specs.Advances.{Progress, progress, Advanced, table_advance, first_advance, line_advance}
use Rattle.script.specs.inner.ScriptLines.{WritesStep, WritesDispatch, bank_left, Answers, replied, next_line, ReadsLine}
use Rattle.script.specs.declared.script.Run.{Run}
use Rattle.script.specs.declared.script.NextLine.{NextLine}

-- ---- how much room a text takes

pub steps_length : (n : ℕ) → n < 2 ^ 64 → length (steps_text n) ≤ 35
steps_length n h = simp length-append (omega (arith, decimal_length 20 19 n (omega arith)))

-- ---- what was written, as an advance

pub text_advanced : {b : Bank} {position n : ℕ} {begun over : Bool} {heads doors out old : List ℕ} (text : List ℕ) → Writes n out old 0 text
    → Advanced (record { bank = b; position = position; begun = begun; over = over; length = n }) heads doors out old
    (progress (state b heads doors) position begun over text)
text_advanced {b} {position} {n} {begun} {over} {heads} {doors} {out} {old} text w =
    let size : n ≡ length text = omega (arith, w.place) in
    record {
      progress_is = ap (λ (l : List ℕ). progress (state b heads doors) position begun over l)
          (ap₂ (λ (k : ℕ) (l : List ℕ). take k l) size w.left ∙ written_taken old text);
      length_is = size;
      buffer_is = w.left;
    }

-- ---- what a line leaves

-- the bank after a step that is accepted, and the bank before one that is refused
pub step_answers : {r at : ℕ} {heads doors new old : List ℕ} (before : Bank) (d : Result Bank Refusal) (o : steps.Result State)
    → steps.outcome_meant before d heads doors ≡ o → WritesStep r new old at d
    → Answers (printed (step_text o) (after o)) (result_unwrap_or d before) heads doors r new old at
unfolding step_text
step_answers before (Ok b) o e w = rw (← e) (record { state_is = refl; text_is = w })
step_answers before (Err n) o e w = rw (← e) (record { state_is = refl; text_is = w })

pub dispatch_answers : {r at : ℕ} {heads doors new old : List ℕ} (d : Result Dispatched Refusal) (limit : ℕ) (s : State)
    → Dispatches d heads doors limit s (dispatch_outcome limit s) → WritesDispatch r new old at (steps_of d) d
    → Answers (dispatch_printed (length (dispatched limit s)) (dispatch_outcome limit s)) (bank_left s.bank d) heads doors r new old at
unfolding dispatch_text
dispatch_answers (Ok d) limit s e w = rw (← e.outcome_is, ← e.count_is) (record { state_is = refl; text_is = w })
dispatch_answers (Err n) limit s e w = rw (← e.outcome_is) (record { state_is = refl; text_is = w })

-- ---- which advance it is

module _ (input : List ℕ) (p : Progress) where
  pub first_long : limit < length input → first_advance input p ≡ progress p.state p.position true true (refused_text 13)
  unfolding first_advance
  first_long h = rw (lt-ltb limit (length input) h)

  pub first_read : (o : steps.Result Placed) → length input ≤ limit → o ≡ read_table input → first_advance input p ≡ table_advance p o
  unfolding first_advance
  first_read o h e = rw (le-ltb limit (length input) h) (ap (table_advance p) (sym e))

  -- the line's byte 10 is searched for and found at r, or r is the end
  module _ (r : ℕ) (from : p.position ≤ length input) (found : Found newline input p.position r) where
    pub next_unended : r ≡ length input → next_line input p ≡ progress p.state r true false (refused_text 13)
    unfolding line_advance
    next_unended e =
        rw (line_unended input p.position r from found e) (ap (λ (k : ℕ). progress p.state k true false (refused_text 13)) (sym e))

    pub next_ended : r < length input
        → next_line input p ≡ replied (r + 1) (answered p.state (command_of (take (r - p.position) (drop p.position input))))
    unfolding line_advance
    next_ended h =
        let line = take (r - p.position) (drop p.position input) in
        let a = answered p.state (command_of line) in
        let size : p.position + (length line + 1) ≡ r + 1 = omega (arith, line_length input p.position r found.1, found.0) in
        rw (line_ended input p.position r from found h) (ap (λ (k : ℕ). progress a.state k true false a.text) size)

-- each line moves on
pub line_on : (r : NextLine) (input : List ℕ) (start : ℕ) → ReadsLine r input start → start < length input → start < r.next
unfolding line_advance
line_on r input start reads h = rw (← ap (λ (q : Progress). q.position) (reads p refl)) (go (cut (drop start input)))
  where
    p : Progress
    p = progress (state (no_bank no_tree.tree) [] []) start true false []

    go : (c : Cut) → start < (line_advance input p c).position
    go (ended line rest) = omega arith
    go unended = h

-- ---- the bank of a table

good_tree : (t : Table) → table_refusal t ≡ 0 → tree_refusal (tree_in t) ≡ 0
unfolding table_refusal
good_tree t e =
    let form = first (counted_conditions (tree_in t) (length t.up) (count_listed t.sequence t.columns)) in
    (earlier_none form (tree_refusal (tree_in t)) e).1

-- a table that is accepted has a good tree
accepted_tree : (input : List ℕ) (t : Placed) → steps.accepted t ≡ read_table input → tree_refusal t.tree ≡ 0
unfolding judged
accepted_tree input t e = go (table_of input) e
  where
    judges : (x : Table) (b : Bool) → eqb (table_refusal x) 0 ≡ b
        → steps.accepted t ≡ cond b (steps.accepted (placed_at (tree_in x) x.end)) (steps.refused (table_refusal x) no_tree)
        → tree_refusal t.tree ≡ 0
    judges x true g e =
        let same : t ≡ placed_at (tree_in x) x.end = cc in
        ap (λ (q : Placed). tree_refusal q.tree) same ∙ good_tree x (eqb-true (table_refusal x) 0 g)
    judges x false g e =
        let z : ◌≡◌ {A = ℕ} 0 1 = cc in
        absurd (omega arith)

    go : (r : Reading Table) → steps.accepted t ≡ judged r → tree_refusal t.tree ≡ 0
    go (read x) e = judges x (eqb (table_refusal x) 0) refl e
    go unread e =
        let z : ◌≡◌ {A = ℕ} 0 1 = cc in
        absurd (omega arith)

-- the fresh bank of a table that is accepted, which is not refused
module _ (input : List ℕ) (t : Placed) (accepts : steps.accepted t ≡ read_table input) where
  fresh_is : steps.fresh t.tree ≡ steps.accepted (fresh_bank t.tree)
  unfolding steps.fresh
  fresh_is = rw (eq-eqb (tree_refusal t.tree) 0 (accepted_tree input t accepts))

  pub fresh_bank_lem : (b : Bank) → steps.answered (no_bank t.tree) (Ok b) ≡ steps.fresh t.tree → b ≡ fresh_bank t.tree
  fresh_bank_lem b made = ap after (made ∙ fresh_is)

  pub fresh_not_refused : (n : Refusal) → steps.answered (no_bank t.tree) (Err n) ≡ steps.fresh t.tree → ⊥
  fresh_not_refused n made =
      let z : steps.refused (refusal_number n) (no_bank t.tree) ≡ steps.accepted (fresh_bank t.tree) = made ∙ fresh_is in
      cc

-- ---- what a caller prints

pub advanced_writes : {q : Run} {heads doors out old : List ℕ} {next : Progress} → Advanced q heads doors out old next
    → Writes q.length out old 0 next.text
advanced_writes a = record { place = omega (arith, a.length_is); left = a.buffer_is }

-- the text is within the buffer
pub text_within : {q : Run} {heads doors out old : List ℕ} {next : Progress} → Advanced q heads doors out old next → q.length ≤ length out
text_within a = writes_within (omega arith) (advanced_writes a)
