-- A buffer filled with as many texts as surely fit, one text after the other, and what the code carries from text to text.
-- Assumes nothing.
use Prim.Native.Nat.{ℕ, zero, suc, ◌+◌, ◌-◌, ◌≤◌, ◌<◌}
use Rattle.std.specs.Prelude.{◌≡◌, ◌⊎◌, Bool, ◌||◌, leb, drop}
use Rattle.std.proofs.Math.Path.{refl, sym, ap}
use Rattle.std.proofs.Common.{ap₂, subst, ◌∙◌, inl, inr, length-append}
use Rattle.std.proofs.Math.Bool.{true, false, cond}
use mathlib.Core.List.{List, [], ◌++◌}
use native.Mathlib.Omega.{arith}
use Rattle.std.proofs.Math.Dec.{ltb}
use Rattle.std.proofs.Math.ListN.{length}
use borrow.Author.Tests.{lt-ltb, le-ltb, leb-true, leb-false}
use Rattle.column.specs.laws.Cases.{truth}
use Rattle.text.specs.Pieces.{Cut, ended, unended, cut}
use Rattle.text.specs.Text.{refused_text, Writes}
use Rattle.text.specs.laws.WritingLaws.{writes_within, writes_more}
use Rattle.bank.specs.Banks.{State, state}
use Rattle.bank.specs.Steps.{Result, accepted, refused}
use Rattle.bank.specs.declared.bank.Bank.{Bank}
use Rattle.table.specs.Tables.{Placed, read_table, limit}
use Rattle.script.specs.Scripts.{rest_text, answered}
use Rattle.script.specs.Lines.{parsed_meant}
use Rattle.script.specs.Advances.{Progress, progress, Advanced, table_advance, first_advance, line_advance, advance, room, saying, onward, filled, most_texts, fill}
use Rattle.script.specs.laws.AdvanceLaws.{advance_rest, advance_line, advance_first}
use Rattle.script.specs.inner.ScriptLines.{Answers, ReadsLine, run_to, Carried, Reaches, Fills}
use Rattle.script.specs.laws.ScriptLaws.{text_advanced}
use Rattle.script.specs.declared.script.Run.{Run}
use Rattle.script.specs.declared.script.NextLine.{NextLine}

-- ---- how many texts are left at most

abbrev pub texts_left : List ℕ → Progress → ℕ
texts_left input p = cond p.over 0 (cond p.begun (length input - p.position + 1) (most_texts input))

module _ (input : List ℕ) where
  line_falls : (p : Progress) (c : Cut) → p.position < length input → texts_left input (line_advance input p c) ≤ length input - p.position
  unfolding line_advance
  line_falls p (ended line rest) h = omega arith
  line_falls p unended h = omega arith

  table_falls : (p : Progress) (o : Result Placed) → texts_left input (table_advance p o) ≤ length input + 1
  unfolding table_advance
  table_falls p (accepted t) = omega arith
  table_falls p (refused n t) = omega arith

  first_falls : (p : Progress) → texts_left input (first_advance input p) ≤ length input + 1
  unfolding first_advance
  first_falls p = go (ltb limit (length input))
    where
      go : (b : Bool) → texts_left input (cond b (progress p.state p.position true true (refused_text 13)) (table_advance p (read_table input)))
          ≤ length input + 1
      go true = omega arith
      go false = table_falls p (read_table input)

  -- each advance leaves one less
  pub advance_falls : (p : Progress) → p.over ≡ false → texts_left input (advance input p) < texts_left input p
  advance_falls p over = go (truth p.begun)
    where
      later : p.begun ≡ true → (leb (length input) p.position ≡ true) ⊎ (leb (length input) p.position ≡ false)
          → texts_left input (advance input p) < texts_left input p
      later begun (inl e) =
          let left : texts_left input p ≡ length input - p.position + 1 = rw (over, begun) in
          rw (advance_rest input p begun over (leb-true (length input) p.position e)) (omega (arith, left))
      later begun (inr e) =
          let left : texts_left input p ≡ length input - p.position + 1 = rw (over, begun) in
          let h = leb-false (length input) p.position e in
          rw (advance_line input p begun over h) (omega (arith, left, h, line_falls p (cut (drop p.position input)) h))

      go : (p.begun ≡ true) ⊎ (p.begun ≡ false) → texts_left input (advance input p) < texts_left input p
      go (inl begun) = later begun (truth (leb (length input) p.position))
      go (inr begun) =
          let left : texts_left input p ≡ most_texts input = rw (over, begun) in
          rw (advance_first input p begun over) (omega (arith, left, first_falls p))

  pub texts_most : (p : Progress) → texts_left input p ≤ most_texts input
  texts_most p = go p.over p.begun
    where
      go : (over begun : Bool) → cond over 0 (cond begun (length input - p.position + 1) (most_texts input)) ≤ most_texts input
      go true begun = omega arith
      go false true = omega arith
      go false false = omega arith

  -- ---- one text more

  pub filled_over : (n : ℕ) (p : Progress) → p.over ≡ true → filled n input p ≡ p
  unfolding filled
  filled_over zero p over = refl
  filled_over (suc n) p over = rw over

  pub filled_full : (n : ℕ) (p : Progress) → room < length p.text → filled n input p ≡ p
  unfolding filled
  filled_full zero p full = refl
  filled_full (suc n) p full = rw (lt-ltb room (length p.text) full) (go p.over)
    where
      go : (b : Bool) → cond (b || true) p (filled n input (onward input p)) ≡ p
      go true = refl
      go false = refl

  pub filled_step : (n : ℕ) (p : Progress) → p.over ≡ false → length p.text ≤ room → filled (suc n) input p ≡ filled n input (onward input p)
  unfolding filled
  filled_step n p over fits = rw (over, le-ltb room (length p.text) fits)

  -- more than are left make no difference
  filled_enough : (n : ℕ) (p : Progress) → texts_left input p ≤ n → filled n input p ≡ filled (suc n) input p
  unfolding filled
  filled_enough zero p h = go (truth p.over)
    where
      go : (p.over ≡ true) ⊎ (p.over ≡ false) → filled zero input p ≡ filled (suc zero) input p
      go (inl over) = sym (filled_over (suc zero) p over)
      go (inr over) = absurd (omega (arith, h, advance_falls p over))
  filled_enough (suc n) p h = go (λ q. filled_enough n q) (truth p.over)
    where
      go : ((q : Progress) → texts_left input q ≤ n → filled n input q ≡ filled (suc n) input q) → (p.over ≡ true) ⊎ (p.over ≡ false)
          → filled (suc n) input p ≡ filled (suc (suc n)) input p
      go fewer (inl over) = filled_over (suc n) p over ∙ sym (filled_over (suc (suc n)) p over)
      go fewer (inr over) =
          ap (λ (q : Progress). cond (p.over || ltb room (length p.text)) p q)
          (fewer (onward input p) (omega (arith, h, advance_falls p over)))

  pub filled_on : (p : Progress) → p.over ≡ false → length p.text ≤ room
      → filled (most_texts input) input p ≡ filled (most_texts input) input (onward input p)
  filled_on p over fits =
      let e : most_texts input ≡ suc (length input + 1) = omega arith in
      ap (λ (n : ℕ). filled n input p) e
      ∙ filled_step (length input + 1) p over fits
      ∙ filled_enough (length input + 1) (onward input p) (omega (arith, advance_falls p over, texts_most p))
      ∙ ap (λ (n : ℕ). filled n input (onward input p)) (sym e)

-- ---- from text to text

module _ {input : List ℕ} {p : Progress} {s : State} {position at : ℕ} {out old : List ℕ} (c : Carried input p s position at out old) where
  abbrev here : Progress
  here = progress s position true false c.text

  size : length c.text ≡ at
  size = omega (arith, c.left.place)

  -- a line more
  pub carried_line : {b : Bank} {heads doors new : List ℕ} {r : ℕ} (l : NextLine) → position < length input
      → at ≤ room → ReadsLine l input position → length new ≡ length old → at ≤ length out
      → Answers (answered s (parsed_meant l.command)) b heads doors r new out at → Carried input p (state b heads doors) l.next r new old
  carried_line {b} {heads} {doors} {new} {r} l h fits reads kept within a =
      let w = (answered s (parsed_meant l.command)).text in
      let is : advance input here ≡ progress (state b heads doors) l.next true false w =
      advance_line input here refl refl h
      ∙ reads here refl
      ∙ ap (λ (m : State). progress m l.next true false w) a.state_is in
      let long : 0 + length (c.text ++ w) ≤ length old =
      omega (arith, length-append c.text w, size, a.text_is.place, writes_within within a.text_is, kept) in
      record {
        text = c.text ++ w;
        left = writes_more c.text w long c.left a.text_is;
        same = c.same ∙ filled_on input here refl (omega (arith, size, fits))
            ∙ ap (λ (q : Progress). filled (most_texts input) input (saying (c.text ++ q.text) q)) is;
      }

  -- the rest, after which the run is over
  pub carried_rest : {b : Bank} {heads doors new : List ℕ} {r : ℕ} → s ≡ state b heads doors → length input ≤ position → at ≤ room
      → length new ≡ length old → at ≤ length out → Writes r new out at (rest_text s)
      → Advanced (run_to b position true r) heads doors new old (filled (most_texts input) input p)
  carried_rest {b} {heads} {doors} {new} {r} is h fits kept within w =
      let rest = rest_text s in
      let over = progress s position true true (c.text ++ rest) in
      let long : 0 + length (c.text ++ rest) ≤ length old =
      omega (arith, length-append c.text rest, size, w.place, writes_within within w, kept) in
      let same : filled (most_texts input) input p ≡ progress (state b heads doors) position true true (c.text ++ rest) =
      c.same
      ∙ filled_on input here refl (omega (arith, size, fits))
      ∙ ap (λ (q : Progress). filled (most_texts input) input (saying (c.text ++ q.text) q)) (advance_rest input here refl refl h)
      ∙ filled_over input (most_texts input) over refl
      ∙ ap (λ (m : State). progress m position true true (c.text ++ rest)) is in
      rw same (text_advanced (c.text ++ rest) (writes_more c.text rest long c.left w))

  -- the buffer is full
  pub carried_full : {b : Bank} {heads doors : List ℕ} → s ≡ state b heads doors → room < at
      → Advanced (run_to b position false at) heads doors out old (filled (most_texts input) input p)
  carried_full {b} {heads} {doors} is full =
      let same : filled (most_texts input) input p ≡ progress (state b heads doors) position true false c.text =
      c.same
      ∙ filled_full input (most_texts input) here (omega (arith, size, full))
      ∙ ap (λ (m : State). progress m position true false c.text) is in
      rw same (text_advanced c.text c.left)

-- ---- after the lines

module _ {q : Run} {heads doors out input : List ℕ} {r : Run} {s : State} {before : List ℕ} (k : Reaches q heads doors out input r s before) where
  pub reaches_full : room < q.length → Fills q heads doors out input r s before
  reaches_full full old text w same =
      subst (λ (p : Run). Advanced p heads doors out old (filled (most_texts input) input (progress s r.position true false text))) (sym k.run_is)
      (carried_full (k.carries old text w same) refl full)

  pub reaches_rest : {new : List ℕ} {n : ℕ} → q.length ≤ room → length new ≡ length before → q.length ≤ length out
      → Writes n new out q.length (rest_text (state q.bank heads doors)) → Fills (run_to q.bank q.position true n) heads doors new input r s before
  reaches_rest fits kept within rest old text w same =
      carried_rest (k.carries old text w same) refl (k.all_read fits) fits (kept ∙ same) within rest

-- ---- a call, by how far the run has come

module _ (input : List ℕ) (p : Progress) where
  pub fill_later : p.begun ≡ true → p.over ≡ false
      → fill input p ≡ filled (most_texts input) input (progress p.state p.position true false [])
  fill_later begun over = ap₂ (λ (b o : Bool). filled (most_texts input) input (progress p.state p.position b o [])) begun over

  abbrev pub table : Progress
  table = first_advance input (saying [] p)

  fill_first : p.begun ≡ false → p.over ≡ false → fill input p ≡ filled (most_texts input) input table
  fill_first begun over =
      filled_on input (saying [] p) over (omega arith)
      ∙ ap (λ (q : Progress). filled (most_texts input) input q) (advance_first input (saying [] p) begun over)

  table_begun : table.begun ≡ true
  unfolding first_advance table_advance
  table_begun = go (ltb limit (length input)) (read_table input)
    where
      go : (b : Bool) (o : Result Placed)
          → (cond b (progress p.state p.position true true (refused_text 13)) (table_advance (saying [] p) o)).begun ≡ true
      go true o = refl
      go false (accepted t) = refl
      go false (refused n t) = refl

  -- the table's answer is written
  module _ (begun : p.begun ≡ false) (over : p.over ≡ false) {q : Run} {heads doors out old : List ℕ} (a : Advanced q heads doors out old table) where
    pub fill_ends : q.over ≡ true → fill input p ≡ table
    fill_ends ends =
        fill_first begun over ∙ filled_over input (most_texts input) table (sym (ap (λ (r : Progress). r.over) a.progress_is) ∙ ends)

    pub fill_goes_on : q.over ≡ false
        → fill input p ≡ filled (most_texts input) input (progress (state q.bank heads doors) q.position true false table.text)
    fill_goes_on goes =
        let s = state q.bank heads doors in
        fill_first begun over
        ∙ ap (λ (r : Progress). filled (most_texts input) input r)
        (ap (λ (m : State). progress m table.position table.begun table.over table.text) (sym (ap (λ (r : Progress). r.state) a.progress_is))
        ∙ ap (λ (k : ℕ). progress s k table.begun table.over table.text) (sym (ap (λ (r : Progress). r.position) a.progress_is))
        ∙ ap₂ (λ (b o : Bool). progress s q.position b o table.text) table_begun
        (sym (ap (λ (r : Progress). r.over) a.progress_is) ∙ goes))
