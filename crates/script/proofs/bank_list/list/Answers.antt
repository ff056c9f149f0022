use Rattle.std.proofs.Common.{ℕ, ◌+◌, ◌≡◌, List, length, sym, ap, ◌∙◌, arith, eq-eqb, ne_eqb}
use Rattle.std.proofs.lemmas.Bool.{lt-leb}
use Rattle.std.proofs.lemmas.Result.{err_from_is_err_and}
use Rattle.list.specs.Closing.{list_text, placed}
use Rattle.list.specs.laws.ClosingLaws.{whole, placed_part}
use Rattle.bank.specs.Banks.{State, state, column_at}
use Rattle.bank.specs.laws.StepLaws.{some_number}
use Rattle.script.specs.BankLists.{list_refusal, list}
use Rattle.script.specs.laws.BankListLaws.{list_sixteen}
use Rattle.script.proofs.bank_list.list.Goals as goal

-- the list is not refused before its place
passed : (s : State) (i at : ℕ) (buf : List ℕ) → list_refusal s i ≡ 0 → list s i buf at ≡ placed buf at (list_text i (column_at s.bank i))
unfolding list
passed s i at buf good = rw (eq-eqb (list_refusal s i) 0 good)

pub returns-in_err-check_list : goal.returns-in_err-check_list
unfolding list
returns-in_err-check_list c =
    let a = c.args in
    let p = err_from_is_err_and c.from_residual.result c.from_residual.ensures.1 in
    let e = c.in_err-check_list.ensures a.network.now.doors in
    rw (p.1, p.2, ne_eqb (list_refusal (state a.b a.network.now.heads a.network.now.doors) a.i) 0 (λ z. some_number c.in_err-check_list.field-0.0 (e ∙ z)), ← e)

pub returns-then-buf-at : goal.returns-then-buf-at
unfolding placed
returns-then-buf-at c =
    let a = c.args in
    let s = state a.b a.network.now.heads a.network.now.doors in
    rw (
      passed s a.i a.at a.buf.now (sym (c.in_ok-check_list.ensures a.network.now.doors)),
      lt-leb (a.at + length (list_text a.i (column_at a.b a.i))) (length a.buf.now) (omega arith),
    )

pub offset_bounds-b-i : goal.offset_bounds-b-i
offset_bounds-b-i c =
    let a = c.args in
    omega (arith, list_sixteen (state a.b a.network.now.heads a.network.now.doors) a.i (sym (c.in_ok-check_list.ensures a.network.now.doors)))

pub bounds-b-i : goal.bounds-b-i
bounds-b-i c =
    let a = c.args in
    list_sixteen (state a.b a.network.now.heads a.network.now.doors) a.i (sym (c.in_ok-check_list.ensures a.network.now.doors))

pub returns : goal.returns
returns c =
    let a = c.args in
    let s = state a.b a.network.now.heads a.network.now.doors in
    ap (whole a.buf.now a.at) c.write_list.ensures
    ∙ placed_part a.buf.now a.at (list_text a.i (column_at a.b a.i)) c.if-buf-at.false
    ∙ sym (passed s a.i a.at a.buf.now (sym (c.in_ok-check_list.ensures a.network.now.doors)))
