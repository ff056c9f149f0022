use Rattle.std.proofs.Common.{[], sym, arith}
use Rattle.bank.specs.Banks.{state}
use Rattle.script.specs.laws.BankListLaws.{acting_sixteen}
use Rattle.script.proofs.bank_list.check_list.Goals as goal

pub offset_bounds-b-i : goal.offset_bounds-b-i
offset_bounds-b-i c =
    let a = c.args in
    omega (arith, acting_sixteen (state a.b a.heads.now []) a.i (sym (c.in_ok-check_acting.ensures [])))

pub bounds-b-i : goal.bounds-b-i
bounds-b-i c =
    let a = c.args in
    acting_sixteen (state a.b a.heads.now []) a.i (sym (c.in_ok-check_acting.ensures []))
