-- The texts of a run, one at a time and joined, are what the whole script prints. Assumes nothing.
use Prim.Native.Nat.{ℕ, zero, suc, ◌+◌, ◌≤◌, ◌<◌}
use Rattle.std.specs.Prelude.{◌≡◌, Bool, cond, eqb, ltb, drop}
use Rattle.std.proofs.Math.Path.{refl, ap}
use Rattle.std.proofs.Common.{sym, ◌∙◌, arith, add-one, drop-drop}
use Rattle.std.proofs.Math.Bool.{true, false}
use mathlib.Core.List.{List, [], ◌∷◌, ◌++◌, append-nil}
use Rattle.std.proofs.Math.ListN.{length, length-drop}
use borrow.Author.Tests.{le-leb, lt-leb}
use Rattle.text.specs.Text.{newline, refused_text}
use Rattle.text.specs.Pieces.{Cut, ended, unended, with_first, cut}
use Rattle.bank.specs.Steps.{Result, accepted, refused}
use Rattle.table.specs.Tables.{Placed, read_table, limit}
use Rattle.script.specs.Scripts.{rest_text, cut_text, lines_text, judged_text, script_text}
use Rattle.script.specs.Advances.{Progress, progress, table_advance, first_advance, line_advance, later_advance, advance, start}

-- ---- what is cut off a text

-- the rest is what follows the line and its byte 10, and is shorter
abbrev Follows : List ℕ → Cut → Type 0
Follows l (ended line rest) = (drop (length line + 1) l ≡ rest) × (length rest + (length line + 1) ≡ length l)
Follows l unended = 0 ≤ 0

follows : (l : List ℕ) → Follows l (cut l)
unfolding cut with_first
follows [] = omega arith
follows (b ∷ l) = go (eqb b newline) (cut l) (follows l)
  where
    go : (t : Bool) (c : Cut) → Follows l c → Follows (b ∷ l) (cond t (ended [] l) (with_first b c))
    go true c h = (refl, omega arith)
    go false (ended line rest) h = (ap (λ (k : ℕ). drop k (b ∷ l)) (add-one (suc (length line))) ∙ ap (λ (k : ℕ). drop k l) (sym (add-one (length line))) ∙ h.0, omega (arith, h.1))
    go false unended h = omega arith

-- ---- a run that is over prints nothing

-- the texts of n advances, joined
unfoldable pub texts_by : ℕ → List ℕ → Progress → List ℕ
texts_by zero input p = []
texts_by (suc n) input p = let q = advance input p in q.text ++ texts_by n input q

pub over_prints : (n : ℕ) (input : List ℕ) (p : Progress) → p.over ≡ true → texts_by n input p ≡ []
unfolding texts_by advance
over_prints zero input p e = refl
over_prints (suc n) input p e = rw e (over_prints n input (progress p.state p.position p.begun true []) refl)

-- ---- the lines

module _ (input : List ℕ) where
  pub advance_rest : (p : Progress) → p.begun ≡ true → p.over ≡ false → length input ≤ p.position
      → advance input p ≡ progress p.state p.position true true (rest_text p.state)
  unfolding advance later_advance
  advance_rest p begun over h = rw (over, begun, le-leb (length input) p.position h)

  pub advance_line : (p : Progress) → p.begun ≡ true → p.over ≡ false → p.position < length input
      → advance input p ≡ line_advance input p (cut (drop p.position input))
  unfolding advance later_advance
  advance_line p begun over h = rw (over, begun, lt-leb (length input) p.position h)

  pub advance_first : (p : Progress) → p.begun ≡ false → p.over ≡ false → advance input p ≡ first_advance input p
  unfolding advance
  advance_first p begun over = rw (over, begun)

  -- where all lines are done
  rest_prints : (n : ℕ) (p : Progress) → p.begun ≡ true → p.over ≡ false → length input ≤ p.position
      → texts_by (suc n) input p ≡ rest_text p.state
  unfolding texts_by
  rest_prints n p begun over h =
      ap (λ (q : Progress). q.text ++ texts_by n input q) (advance_rest p begun over h)
      ∙ ap (λ (l : List ℕ). rest_text p.state ++ l) (over_prints n input (progress p.state p.position true true (rest_text p.state)) refl)
      ∙ append-nil (rest_text p.state)

  -- as many advances as bytes are left, and one more, print the lines and the rest
  lines_print : (most : ℕ) (p : Progress) → p.begun ≡ true → p.over ≡ false → length (drop p.position input) ≤ most
      → texts_by (suc most) input p ≡ lines_text most p.state (drop p.position input)
  unfolding texts_by lines_text line_advance cut_text
  lines_print zero p begun over h =
      let e : length input ≤ p.position = omega (arith, h, length-drop p.position input) in
      rest_prints zero p begun over e
  lines_print (suc most) p begun over h = go (λ q x y z. lines_print most q x y z) (drop p.position input) refl
    where
      Later : Type 0
      Later = (q : Progress) → q.begun ≡ true → q.over ≡ false → length (drop q.position input) ≤ most
          → texts_by (suc most) input q ≡ lines_text most q.state (drop q.position input)

      line : Later → (b : ℕ) (l : List ℕ) → drop p.position input ≡ b ∷ l → (c : Cut) → Follows (b ∷ l) c
          → (line_advance input p c).text ++ texts_by (suc most) input (line_advance input p c) ≡ cut_text (lines_text most) p.state c
      line later b l e (ended one rest) f =
          let q = line_advance input p (ended one rest) in
          let left : drop q.position input ≡ rest = sym (drop-drop (length one + 1) p.position input) ∙ ap (drop (length one + 1)) e ∙ f.0 in
          let few : length (drop q.position input) ≤ most = omega (arith, ap length left, f.1, ap length e, h) in
          ap (λ (x : List ℕ). q.text ++ x) (later q refl refl few ∙ ap (lines_text most q.state) left)
      line later b l e unended f =
          let q = line_advance input p unended in
          ap (λ (x : List ℕ). q.text ++ x) (rest_prints most q refl refl (omega arith))

      go : Later → (r : List ℕ) → drop p.position input ≡ r → texts_by (suc (suc most)) input p ≡ lines_text (suc most) p.state r
      go later [] e =
          let z : length input ≤ p.position = omega (arith, ap length e, length-drop p.position input) in
          rest_prints (suc most) p begun over z
      go later (b ∷ l) e =
          let z : p.position < length input = omega (arith, ap length e, length-drop p.position input) in
          ap (λ (q : Progress). q.text ++ texts_by (suc most) input q) (advance_line p begun over z ∙ ap (λ (x : List ℕ). line_advance input p (cut x)) e)
          ∙ line later b l e (cut (b ∷ l)) (follows (b ∷ l))

-- ---- the whole script

table_prints : (input : List ℕ) (o : Result Placed)
    → let q = table_advance start o in q.text ++ texts_by (suc (length input)) input q ≡ judged_text input o
unfolding table_advance judged_text
table_prints input (accepted t) =
    let q = table_advance start (accepted t) in
    let few : length (drop t.end input) ≤ length input = omega (arith, length-drop t.end input) in
    ap (λ (l : List ℕ). q.text ++ l) (lines_print input (length input) q refl refl few)
table_prints input (refused n t) =
    let q = table_advance start (refused n t) in
    ap (λ (l : List ℕ). q.text ++ l) (over_prints (suc (length input)) input q refl) ∙ append-nil q.text

-- the texts of two advances more than there are bytes are the whole script's
pub texts_script : (input : List ℕ) → texts_by (length input + 2) input start ≡ script_text input
unfolding texts_by advance first_advance script_text
texts_script input =
    let n = length input in
    let e : n + 2 ≡ suc (suc n) = omega arith in
    ap (λ (k : ℕ). texts_by k input start) e ∙ go (ltb limit n)
  where
    go : (long : Bool) → let q = cond long (progress start.state 0 true true (refused_text 13)) (table_advance start (read_table input)) in
        q.text ++ texts_by (suc (length input)) input q ≡ cond long (refused_text 13) (judged_text input (read_table input))
    go true =
        let q = progress start.state 0 true true (refused_text 13) in
        ap (λ (l : List ℕ). q.text ++ l) (over_prints (suc (length input)) input q refl) ∙ append-nil q.text
    go false = table_prints input (read_table input)
