use Rattle.std.proofs.Common.{ℕ, ◌≡◌, List, drop, true, sym, ap, ◌∙◌}
use Rattle.text.specs.Text.{order_key, Reading, starts_with, after_key}
use Rattle.text.specs.laws.ReadingLaws.{cut_is, after_other, after_key_is}
use Rattle.bank.specs.declared.bank.Step.TheVariants.{Order}
use Rattle.script.specs.Lines.{perform, doors_in, asking}
use Rattle.script.specs.inner.Hexadecimals.{doors_read}
use Rattle.script.specs.laws.HexadecimalLaws.{doors_asked}
use Rattle.script.proofs.line.order.Goals as goal

-- what follows the key is read as doors
asked : (line rest : List ℕ) (d : Reading ℕ) → starts_with order_key line ≡ true → rest ≡ drop 6 line → d ≡ doors_read rest
    → doors_in (after_key order_key line) ≡ asking (λ d. perform (Order d)) d
asked line rest d starts is e =
    ap doors_in (after_key_is order_key line starts)
    ∙ doors_asked (drop 6 line)
    ∙ ap (λ l. asking (λ d. perform (Order d)) (doors_read l)) (sym is)
    ∙ ap (asking (λ d. perform (Order d))) (sym e)

pub returns-in_err-strip_prefix : goal.returns-in_err-strip_prefix
unfolding doors_in
returns-in_err-strip_prefix c =
    let l = c.args.line.now in
    rw (c.from_residual.ensures, after_other order_key l (sym (cut_is order_key l) ∙ c.in_err-strip_prefix.ensures.cases))

pub returns-in_err-doors : goal.returns-in_err-doors
unfolding asking
returns-in_err-doors c =
    let l = c.args.line.now in
    let k = c.in_ok-strip_prefix.ensures.cases in
    rw (c.from_residual-in_err-doors.ensures) (sym (asked l _ _ (sym (cut_is order_key l) ∙ k.0) k.1 c.in_err-doors.ensures))

pub returns : goal.returns
unfolding asking
returns c =
    let l = c.args.line.now in
    let k = c.in_ok-strip_prefix.ensures.cases in
    sym (asked l _ _ (sym (cut_is order_key l) ∙ k.0) k.1 c.in_ok-doors.ensures)
