use Rattle.std.proofs.lemmas.Result.{err_from_is_err_and}
use Rattle.bank.proofs.laws.ChangeLaws.{settled_none, settled_put}
use Rattle.bank.proofs.settling.settle.Goals as goal

pub returns-in-Done : goal.returns-in-Done
returns-in-Done c =
    λ b i n running_is steady aimed.
    let a = c.args in
    rw c.in-Done.is (settled_none b i a.network.now.heads a.network.now.doors a.o.column a.count n c.requires)

pub returns-in_err-count-in-Put : goal.returns-in_err-count-in-Put
returns-in_err-count-in-Put c =
    let p = err_from_is_err_and c.from_residual.result c.from_residual.ensures.1 in
    λ b i n running_is steady aimed.
    let a = c.args in
    rw (p.1, p.2)
    (settled_put b i a.network.now.heads a.network.now.doors a.o.column a.count n a.o.answer _ c.in-Put.is steady aimed
    (λ s l. c.in_err-count-in-Put.ensures a.o.column b i n running_is s l))

pub returns-in_ok-count-in-Put : goal.returns-in_ok-count-in-Put
returns-in_ok-count-in-Put c =
    λ b i n running_is steady aimed.
    let a = c.args in
    settled_put b i a.network.now.heads a.network.now.doors a.o.column a.count n a.o.answer _ c.in-Put.is steady aimed
    (λ s l. c.in_ok-count-in-Put.ensures a.o.column b i n running_is s l)
