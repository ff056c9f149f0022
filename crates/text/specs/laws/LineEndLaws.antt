-- Where the first three lines of a text end, as the search for them answers it. Assumes nothing.
use Rattle.std.specs.Prelude.{ℕ, ◌+◌, ◌<◌, ◌≡◌, List, length}
use Rattle.std.proofs.Common.{sym, ap, subst, ◌∙◌, arith}
use Rattle.text.specs.Text.{newline, read, unread}
use Rattle.text.specs.Pieces.{third_line, second_line, first_line, three_lines, Rising, lines_at, ends_meant}
use Rattle.text.specs.laws.Cutting.{Found, line_ended, line_unended}
use Rattle.text.specs.declared.three_lines.LineEnds.{LineEnds}
use Rattle.std.specs.declared.option.Option.{Option}
use Rattle.std.specs.declared.option.Option.TheVariants.{Some, None}

pub as_rising : {r : Option LineEnds} {e : LineEnds} (s : List ℕ) → r ≡ Some e → Rising r s
    → (e.one < e.two) × (e.two < e.three) × (e.three < length s)
as_rising s e h = subst (λ (r : Option LineEnds). Rising r s) e h

-- ---- line by line

module _ (s : List ℕ) (one : ℕ) (f : Found newline s 0 one) where
  pub first_fewer : one ≡ length s → three_lines s ≡ unread
  unfolding first_line
  first_fewer e = rw (line_unended s 0 one (omega arith) f e)

  module _ (l : one < length s) (two : ℕ) (g : Found newline s (one + 1) two) where
    pub second_fewer : two ≡ length s → three_lines s ≡ unread
    unfolding first_line second_line
    second_fewer e = rw (line_ended s 0 one (omega arith) f l, line_unended s (one + 1) two (omega (arith, l)) g e)

    module _ (m : two < length s) (three : ℕ) (h : Found newline s (two + 1) three) where
      pub third_fewer : three ≡ length s → three_lines s ≡ unread
      unfolding first_line second_line third_line
      third_fewer e =
          rw (line_ended s 0 one (omega arith) f l, line_ended s (one + 1) two (omega (arith, l)) g m, line_unended s (two + 1) three (omega (arith, m)) h e)

      pub three_found : three < length s → three_lines s ≡ read (lines_at s one two three)
      unfolding first_line second_line third_line
      three_found n =
          rw (line_ended s 0 one (omega arith) f l, line_ended s (one + 1) two (omega (arith, l)) g m, line_ended s (two + 1) three (omega (arith, m)) h n)

-- ---- what the search found, as the lines

module _ {r : Option LineEnds} (s : List ℕ) (f : ends_meant r s ≡ three_lines s) where
  pub no_lines : r ≡ None → three_lines s ≡ unread
  no_lines e = sym f ∙ ap (λ (x : Option LineEnds). ends_meant x s) e

  pub lines_are : {e : LineEnds} → r ≡ Some e → three_lines s ≡ read (lines_at s e.one e.two e.three)
  lines_are e = sym f ∙ ap (λ (x : Option LineEnds). ends_meant x s) e
