-- What calls that fill a buffer leave in it, joined, is what the whole script prints. Assumes nothing.
use Prim.Native.Nat.{ℕ, zero, suc, ◌+◌, ◌≤◌}
use Rattle.std.specs.Prelude.{◌≡◌, ◌⊎◌, false, ltb, leb, length, drop}
use Rattle.std.proofs.Math.Path.{refl, sym, ap, ap₂}
use Rattle.std.proofs.Common.{◌∙◌, inl, inr, arith, ltb-true, ltb-false}
use Rattle.std.proofs.Math.Bool.{true, cond}
use mathlib.Core.List.{List, [], ◌++◌, append_assoc}
use Rattle.column.specs.laws.Cases.{truth}
use Rattle.text.specs.Pieces.{Cut, ended, unended, cut}
use Rattle.text.specs.Text.{refused_text}
use Rattle.bank.specs.Steps.{Result, accepted, refused}
use Rattle.table.specs.Tables.{Placed, read_table, limit}
use Rattle.script.specs.Scripts.{rest_text, script_text}
use Rattle.script.specs.Advances.{Progress, progress, table_advance, first_advance, line_advance, later_advance, advance, room, saying, onward, filled, most_texts, fill, start, filled_by, printed_by}
use Rattle.script.specs.laws.AdvanceLaws.{texts_by, over_prints, texts_script}
use Rattle.script.specs.laws.FillLaws.{texts_left, advance_falls, texts_most, filled_over, filled_full, filled_step, filled_on}

module _ (input : List ℕ) where
  -- ---- an advance does not look at the text before it

  line_said : (text : List ℕ) (p : Progress) (c : Cut) → line_advance input (saying text p) c ≡ line_advance input p c
  unfolding line_advance
  line_said text p (ended line rest) = refl
  line_said text p unended = refl

  table_said : (text : List ℕ) (p : Progress) (o : Result Placed) → table_advance (saying text p) o ≡ table_advance p o
  unfolding table_advance
  table_said text p (accepted t) = refl
  table_said text p (refused n t) = refl

  advance_said : (text : List ℕ) (p : Progress) → advance input (saying text p) ≡ advance input p
  unfolding advance later_advance first_advance
  advance_said text p =
      ap₂
      (λ (l t : Progress). cond p.over (progress p.state p.position p.begun true [])
      (cond p.begun
      (cond (leb (length input) p.position) (progress p.state p.position true true (rest_text p.state)) l)
      (cond (ltb limit (length input)) (progress p.state p.position true true (refused_text 13)) t)))
      (line_said text p (cut (drop p.position input)))
      (table_said text p (read_table input))

  texts_said : (n : ℕ) (text : List ℕ) (p : Progress) → texts_by n input (saying text p) ≡ texts_by n input p
  unfolding texts_by
  texts_said zero text p = refl
  texts_said (suc n) text p = ap (λ (q : Progress). q.text ++ texts_by n input q) (advance_said text p)

  -- ---- more advances than texts are left add nothing

  texts_enough : (n : ℕ) (p : Progress) → texts_left input p ≤ n → texts_by n input p ≡ texts_by (suc n) input p
  unfolding texts_by
  texts_enough zero p h = go (truth p.over)
    where
      go : (p.over ≡ true) ⊎ (p.over ≡ false) → texts_by zero input p ≡ texts_by (suc zero) input p
      go (inl over) = sym (over_prints (suc zero) input p over)
      go (inr over) = absurd (omega (arith, h, advance_falls input p over))
  texts_enough (suc n) p h = go (λ q. texts_enough n q) (truth p.over)
    where
      go : ((q : Progress) → texts_left input q ≤ n → texts_by n input q ≡ texts_by (suc n) input q) → (p.over ≡ true) ⊎ (p.over ≡ false)
          → texts_by (suc n) input p ≡ texts_by (suc (suc n)) input p
      go fewer (inl over) = over_prints (suc n) input p over ∙ sym (over_prints (suc (suc n)) input p over)
      go fewer (inr over) =
          ap (λ (l : List ℕ). (advance input p).text ++ l) (fewer (advance input p) (omega (arith, h, advance_falls input p over)))

  -- ---- a buffer that is filled

  -- what holds before and is kept by one text more holds after
  filled_keeps : (P : Progress → Type 0) → ((q : Progress) → q.over ≡ false → P q → P (onward input q))
      → (n : ℕ) (p : Progress) → P p → P (filled n input p)
  unfolding filled
  filled_keeps P step zero p h = h
  filled_keeps P step (suc n) p h = go (λ q x. filled_keeps P step n q x) (truth p.over) (truth (ltb room (length p.text)))
    where
      go : ((q : Progress) → P q → P (filled n input q)) → (p.over ≡ true) ⊎ (p.over ≡ false)
          → (ltb room (length p.text) ≡ true) ⊎ (ltb room (length p.text) ≡ false) → P (filled (suc n) input p)
      go fewer (inl over) f = rw (filled_over input (suc n) p over) h
      go fewer (inr over) (inl f) = rw (filled_full input (suc n) p (ltb-true room (length p.text) f)) h
      go fewer (inr over) (inr f) =
          rw (filled_step input n p over (ltb-false room (length p.text) f)) (fewer (onward input p) (step p over h))

  -- with the texts that come after it, it says the same
  abbrev Says : ℕ → List ℕ → Progress → Type 0
  Says k whole q = (q.text ++ texts_by k input q ≡ whole) × (texts_left input q ≤ k)

  says_on : (k : ℕ) (whole : List ℕ) (q : Progress) → q.over ≡ false → Says k whole q → Says k whole (onward input q)
  unfolding texts_by
  says_on k whole q over h =
      let a = advance input q in (
        ap (λ (l : List ℕ). (q.text ++ a.text) ++ l) (texts_said k (q.text ++ a.text) a)
            ∙ append_assoc q.text a.text (texts_by k input a)
            ∙ ap (λ (l : List ℕ). q.text ++ l) (sym (texts_enough k q h.1))
            ∙ h.0,
        omega (arith, h.1, advance_falls input q over),
      )

  -- calls after which the run is over leave what advances print
  calls_print : (n k : ℕ) (p : Progress) → (filled_by n input p).over ≡ true → texts_left input p ≤ k → printed_by n input p ≡ texts_by k input p
  unfolding filled_by printed_by
  calls_print zero k p over h = sym (over_prints k input p over)
  calls_print (suc n) k p over h =
      let says : Says k (texts_by k input p) (fill input p) =
      filled_keeps (Says k (texts_by k input p)) (says_on k (texts_by k input p)) (most_texts input) (saying [] p) (texts_said k [] p, h) in
      ap (λ (l : List ℕ). (fill input p).text ++ l) (calls_print n k (fill input p) over says.1) ∙ says.0

  -- each call leaves fewer texts
  fill_falls : (n : ℕ) (p : Progress) → texts_left input p ≤ suc n → texts_left input (fill input p) ≤ n
  fill_falls n p h = go (truth p.over)
    where
      go : (p.over ≡ true) ⊎ (p.over ≡ false) → texts_left input (fill input p) ≤ n
      go (inl over) = rw (filled_over input (most_texts input) (saying [] p) over, over) (omega arith)
      go (inr over) =
          rw (filled_on input (saying [] p) over (omega arith))
          (filled_keeps (λ (q : Progress). texts_left input q ≤ n) (λ q o x. omega (arith, x, advance_falls input q o)) (most_texts input)
          (onward input (saying [] p)) (omega (arith, h, advance_falls input (saying [] p) over)))

  calls_end : (n : ℕ) (p : Progress) → texts_left input p ≤ n → (filled_by n input p).over ≡ true
  unfolding filled_by
  calls_end zero p h = go (truth p.over)
    where
      go : (p.over ≡ true) ⊎ (p.over ≡ false) → p.over ≡ true
      go (inl over) = over
      go (inr over) = absurd (omega (arith, h, advance_falls input p over))
  calls_end (suc n) p h = calls_end n (fill input p) (fill_falls n p h)

  -- one call more
  pub calls_next : (n : ℕ) (p : Progress) → filled_by (suc n) input p ≡ fill input (filled_by n input p)
  unfolding filled_by
  calls_next zero p = refl
  calls_next (suc n) p = calls_next n (fill input p)

  -- the calls after which the run is over print the whole script's text, whenever that is
  pub over_printed : (n : ℕ) → (filled_by n input start).over ≡ true → printed_by n input start ≡ script_text input
  over_printed n over = calls_print n (most_texts input) start over (texts_most input start) ∙ texts_script input

  -- and it is after two calls more than there are bytes
  pub script_over : (filled_by (length input + 2) input start).over ≡ true
  script_over = calls_end (most_texts input) start (texts_most input start)

  pub script_printed : printed_by (length input + 2) input start ≡ script_text input
  script_printed = over_printed (most_texts input) script_over
