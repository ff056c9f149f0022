use Rattle.std.proofs.Common.{ℕ, ◌≤◌, ◌≡◌, List, replicate, sym, ap, subst, ◌∙◌}
use Rattle.column.specs.declared.tree.Tree.{Tree}
use Rattle.bank.specs.Banks.{State, state, capacity}
use Rattle.bank.specs.Steps.{after, order}
use Rattle.bank.specs.Dispatch.{dispatch_outcome}
use Rattle.bank.specs.declared.bank.Bank.{Bank}
use Rattle.column.specs.Refusals.{given}
use Rattle.losses.specs.Losses.{ordered, begun, counted_of}
use Rattle.losses.specs.laws.LossesLaws.{step_left_lem, fresh_left, fresh_not_refused, begun_tree, counting, losses_counted}
use Rattle.losses.proofs.count.count_losses.Goals as goal
use Rattle.losses.proofs.count.count_losses.Goals.{After-dispatched-begun}

-- the bank that was dispatched, with the words that it left
begun_is : (c : After-dispatched-begun) → let a = c.args in
    state c.dispatched-begun.result c.dispatched-begun.new.network.heads c.dispatched-begun.new.network.doors ≡ begun a.t a.steps
unfolding begun ordered
begun_is c =
    let a = c.args in
    let words : List ℕ = replicate capacity 0 in
    let k = counting a.t (sym c.in_ok-check_losses.ensures) in
    c.dispatched-begun.ensures
    ∙ ap (λ (s : State). after (dispatch_outcome a.steps s))
    (rw (← c.unwrap_or-ordered.ensures) at (step_left_lem c.in_ok-first.first c.order.result c.order.ensures)
    ∙ ap (λ (b : Bank). after (order (state b words words) 0)) (fresh_left c.in_ok-first.first a.t k.tree c.in_ok-first.ensures))

pub returns-in_err-first : goal.returns-in_err-first
returns-in_err-first c =
    let k = counting c.args.t (sym c.in_ok-check_losses.ensures) in
    absurd (fresh_not_refused _ c.args.t k.tree c.in_err-first.ensures)

pub count-requires : goal.count-requires
count-requires c =
    let a = c.args in
    let k = counting a.t (sym c.in_ok-check_losses.ensures) in
    subst (λ (t : Tree). t.columns ≤ 8)
    (sym (ap (λ (s : State). s.bank.tree) (begun_is (goal.at.count-requires c).After-dispatched-begun) ∙ begun_tree a.t a.steps)) k.few

pub returns : goal.returns
returns c =
    ap given (c.count.ensures ∙ ap counted_of (begun_is (goal.at.returns c).After-dispatched-begun))
    ∙ sym (losses_counted c.args.t c.args.steps (sym c.in_ok-check_losses.ensures))
