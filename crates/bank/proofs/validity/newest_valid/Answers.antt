use mathlib.Core.Path.{◌≡◌, sym, ◌∙◌}
use Prim.Native.Nat.{◌-◌}
use lib.ListN.{get_or}
use borrow.Author.Tests.{eq-eqb, ne_eqb}
use Rattle.bank.specs.laws.ValidityLaws.{head_valid_lem}
use Rattle.bank.proofs.validity.newest_valid.Goals as goal

pub returns-then-count-eq0 : goal.returns-then-count-eq0
returns-then-count-eq0 c = λ b doors n root watch running_is count. rw (eq-eqb b.count 0 (count ∙ c.if-count-eq0.true))

pub returns : goal.returns
returns c =
    λ b doors n root watch running_is count.
    let a = c.args in
    let some : b.count ≡ 0 → ⊥ = λ z. c.if-count-eq0.false (sym count ∙ z) in
    rw (ne_eqb b.count 0 some)
    (c.head_valid.ensures
    ∙ rw (sym n, sym root, sym watch, sym count) (head_valid_lem b a.running running_is (get_or a.heads.now (b.count - 1) 0) (get_or doors (b.count - 1) 0)))
