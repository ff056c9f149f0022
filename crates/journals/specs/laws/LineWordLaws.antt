-- A line as one word: its way, its kind, the other column and its number. Words tell lines apart. Assumes nothing.
use Rattle.std.specs.Prelude.{ℕ, ◌<◌, ◌≡◌, refl, Bool, ◌&&◌, eqb}
use Rattle.std.proofs.Common.{sym, ap, ap₂, ◌∙◌, arith, eq-eqb, eqb-true}
use Rattle.column.specs.laws.Cases.{same_truth}
use Rattle.column.specs.Columns.{numbers}
use Rattle.journals.specs.Journals.{kind_number, line, same_way, same_line, about}
use Rattle.journals.specs.laws.ComparingLaws.{line_same, same_line_lem}
use Rattle.journals.specs.inner.LineWords.{byte_values, way_number, word, key_of, way_in, kind_in, other_in, number_in, about_key, turned}
use Rattle.journals.specs.declared.line.Way.{Way}
use Rattle.journals.specs.declared.line.Way.TheVariants.{Sent, Got}
use Rattle.journals.specs.declared.line.Kind.{Kind}
use Rattle.journals.specs.declared.line.Kind.TheVariants.{Message, Acknowledgement}
use Rattle.journals.specs.declared.line.Line.{Line}

-- ---- the parts of a word

pub record Fits (x : Line) : Type 0 where
  pub other : x.other < byte_values
  pub number : x.number < numbers

way_below : (w : Way) → way_number w < 2
way_below Sent = omega arith
way_below Got = omega arith

kind_below : (k : Kind) → kind_number k < byte_values
kind_below Message = omega arith
kind_below Acknowledgement = omega arith

module _ (x : Line) (f : Fits x) where
  way_part : way_in (key_of x) ≡ way_number x.way
  way_part = omega (arith, way_below x.way, kind_below x.kind, f.other, f.number)

  kind_part : kind_in (key_of x) ≡ kind_number x.kind
  kind_part = omega (arith, way_below x.way, kind_below x.kind, f.other, f.number)

  other_part : other_in (key_of x) ≡ x.other
  other_part = omega (arith, way_below x.way, kind_below x.kind, f.other, f.number)

  number_part : number_in (key_of x) ≡ x.number
  number_part = omega (arith, way_below x.way, kind_below x.kind, f.other, f.number)

  pub about_key_lem : (other : ℕ) (w : Way) → about_key other (way_number w) (key_of x) ≡ about other w x
  about_key_lem other w = ap₂ (λ (a b : ℕ). eqb a (way_number w) && eqb b other) way_part other_part
      ∙ ap (λ (b : Bool). b && eqb x.other other) (same x.way w)
    where
      same : (v w : Way) → eqb (way_number v) (way_number w) ≡ same_way v w
      same Sent Sent = refl
      same Sent Got = refl
      same Got Sent = refl
      same Got Got = refl

  pub turned_key : (w : Way) (other : ℕ) → turned (way_number w) other (key_of x) ≡ key_of (line w x.kind other x.number)
  turned_key w other = ap₂ (λ (a b : ℕ). word (way_number w) a other b) kind_part number_part

-- ---- words tell lines apart

key_same : (x y : Line) → Fits x → Fits y → key_of x ≡ key_of y → x ≡ y
key_same x y f g e =
    let w = ways_same x.way y.way (sym (way_part x f) ∙ ap way_in e ∙ way_part y g) in
    let k = kinds_same x.kind y.kind (sym (kind_part x f) ∙ ap kind_in e ∙ kind_part y g) in
    let o : x.other ≡ y.other = sym (other_part x f) ∙ ap other_in e ∙ other_part y g in
    let n : x.number ≡ y.number = sym (number_part x f) ∙ ap number_in e ∙ number_part y g in
    λ i. line (w i) (k i) (o i) (n i)
  where
    ways_same : (v w : Way) → way_number v ≡ way_number w → v ≡ w
    ways_same Sent Sent e = refl
    ways_same Sent Got e = absurd (omega (arith, e))
    ways_same Got Sent e = absurd (omega (arith, e))
    ways_same Got Got e = refl

    kinds_same : (j k : Kind) → kind_number j ≡ kind_number k → j ≡ k
    kinds_same Message Message e = refl
    kinds_same Message Acknowledgement e = absurd (omega (arith, e))
    kinds_same Acknowledgement Message e = absurd (omega (arith, e))
    kinds_same Acknowledgement Acknowledgement e = refl

pub key_line : (x y : Line) → Fits x → Fits y → eqb (key_of x) (key_of y) ≡ same_line x y
key_line x y f g = same_truth (eqb (key_of x) (key_of y)) (same_line x y)
    (λ e. ap (same_line x) (sym (key_same x y f g (eqb-true (key_of x) (key_of y) e))) ∙ same_line_lem x)
    (λ e. eq-eqb (key_of x) (key_of y) (ap key_of (line_same x y e)))
