-- The steps so far and those of a dispatch from here are those of the whole; the bank is valid, who runs stays, and the set is of all that are ready.
use borrow.Author.Rules.{rules}
use Prim.Native.Nat.{◌≤◌, ◌<◌}
use native.Mathlib.Omega.{arith}
use mathlib.Core.Path.{◌≡◌, refl, sym, ap, subst, ◌∙◌}
use mathlib.Core.Bool.{Bool, true, false, not, ◌&&◌, ◌||◌, true≢false}
use lib.Dec.{eqb}
use borrow.Author.Tests.{eq-eqb, eqb-false}
use Rattle.column.specs.Sets.{minus, whole}
use Rattle.column.specs.laws.TreeLaws.{tree_sixteen}
use Rattle.column.specs.declared.tree.Tree.{Tree}
use Rattle.bank.specs.laws.ValidityLaws.{valid}
use Rattle.bank.specs.laws.SurveyLaws.{others_halted}
use Rattle.bank.specs.Banks.{state, column_at, halted_of}
use Rattle.bank.specs.StepKinds.{is_take}
use Rattle.bank.specs.inner.Changes.{stored, Handed}
use Rattle.bank.specs.inner.Turning.{quick_turn}
use Rattle.bank.specs.laws.turns.LowestReady.{ready_some, ready_turn}
use Rattle.bank.proofs.laws.ChangeLaws.{running_is_of}
use Rattle.bank.proofs.laws.turns.ReadyAfter.{ready_kept}
use Rattle.bank.proofs.laws.turns.TurnLaws.{turn_below}
use Rattle.bank.proofs.laws.turns.TurnsTaken.{Turned, turned as turn_taken, halted_still, valid_if, stands_on, going_start, going_ends, going_rests, going_broken, going_unchanged}
use Rattle.bank.proofs.dispatch.take_turns.Goals as goal
use Rattle.bank.proofs.dispatch.take_turns.Goals.{After-acting-i, After-halted-halted_columns, In-Ok, then-full-b, else-full-b}

halted_is : (c : After-halted-halted_columns) → c.halted-halted_columns.result ≡ halted_of c.args.b
halted_is c = c.halted-halted_columns.ensures ∙ ap (minus (whole c.args.b.tree.columns)) c.requires.1 ∙ others_halted c.args.b

-- the step is that of the bank's turn, and no take where no packet is under way
quick : (c : After-acting-i) → c.step_of-x.result ≡ quick_turn c.loop-steps.b
quick c =
    let w = c.loop-steps.invariant in
    ready_turn c.loop-steps.b (valid _ w.ok).tree w.tree_is w.halted_is w.ready_is c.lowest-k.ensures c.step_of-x.ensures

busy : (x y : Bool) → (x && y) ≡ false → (not x || not y) ≡ true
busy true true e = absurd (true≢false e)
busy true false e = refl
busy false y e = refl

some : (c : After-acting-i) → (is_take c.step_of-x.result && eqb c.loop-steps.b.count 0) ≡ false
some c =
    let w = c.loop-steps.invariant in
    ready_some c.loop-steps.b (valid _ w.ok).tree w.ready_is c.step_of-x.result (quick c) (busy _ _ c.if-ready-b.false)

-- whoever acts is one of the bank's
small : (c : After-acting-i) → c.acting-i.result < 16
small c =
    let m = c.loop-steps in
    let ok = m.invariant.ok in
    let below = turn_below (state m.b m.network.heads m.network.doors) ok c.step_of-x.result (quick c) (some c) in
    omega (arith, c.acting-i.ensures, below, tree_sixteen m.b.tree (valid _ ok).tree)

-- what the turn is handed
handed : (c : After-acting-i) → let d = c.loop-steps.b in let i = c.acting-i.result in Handed d c.args.b.tree c.args.running i (column_at d i) d.count
handed c = let w = c.loop-steps.invariant in record { tree_is = w.tree_is; running_is = w.running_is; column_is = refl; count_is = refl }

-- the turn that is taken
turned : (c : In-Ok) (p : After-acting-i) → let m = c.loop-steps in
    c.step_of-x.result ≡ quick_turn m.b → Handed m.b c.args.b.tree c.args.running c.acting-i.result (column_at m.b c.acting-i.result) m.b.count
    → Turned c.args.limit m.steps (state c.args.b c.args.network.now.heads c.args.network.now.doors) (state m.b m.network.heads m.network.doors)
    (state (stored m.b c.acting-i.result c.in-Ok.r) c.take_turn.new.network.heads c.take_turn.new.network.doors) c.acting-i.result
turned c p q h =
    let m = c.loop-steps in
    let w = m.invariant in
    turn_taken w.going w.ok c.loop-steps-test.true c.step_of-x.result q _ (c.in-Ok.ensures m.b h w.ok q c.acting-i.ensures) c.acting-i.result c.acting-i.ensures

pub halted-halted_columns-requires : goal.halted-halted_columns-requires
halted-halted_columns-requires c = tree_sixteen _ (valid _ c.requires.0).tree

pub ready_columns-ready-requires : goal.ready_columns-ready-requires
ready_columns-ready-requires c =
    (tree_sixteen _ (valid _ c.requires.0).tree, halted_is (goal.at.ready_columns-ready-requires c).After-halted-halted_columns)

pub loop-steps-init : goal.loop-steps-init
loop-steps-init c =
    record {
      going = going_start _ _;
      ok = c.requires.0;
      tree_is = refl;
      running_is = running_is_of c.args.b c.requires.1;
      halted_is = halted_is (goal.at.loop-steps-init c).After-halted-halted_columns;
      ready_is = c.ready_columns-ready.ensures;
    }

pub returns-then-ready-b : goal.returns-then-ready-b
returns-then-ready-b c =
    let w = c.loop-steps.invariant in
    let z = going_rests w.going w.ok w.ready_is c.loop-steps-test.true c.if-ready-b.true in
    record { count_is = z.0; bank_is = z.1 }

pub offset_bounds-b-i : goal.offset_bounds-b-i
offset_bounds-b-i c = search (rules, small (goal.at.offset_bounds-b-i c).After-acting-i)

pub bounds-b-i : goal.bounds-b-i
bounds-b-i c = small (goal.at.bounds-b-i c).After-acting-i

pub take_turn-requires : goal.take_turn-requires
take_turn-requires c =
    let d = c.loop-steps.b in
    let held : is_take c.step_of-x.result ≡ true → d.count ≡ 0 → ⊥ =
    λ takes. eqb-false d.count 0 (ap (λ (b : Bool). b && eqb d.count 0) (sym takes) ∙ some (goal.at.take_turn-requires c).After-acting-i) in
    ((valid _ c.loop-steps.invariant.ok).room, λ takes. omega (arith, held takes))

pub returns-in_default : goal.returns-in_default
returns-in_default c =
    let p = (goal.at.returns-in_default c).After-acting-i in
    let m = c.loop-steps in
    let w = m.invariant in
    let q = quick p in
    let z = going_unchanged w.going w.ok c.loop-steps-test.true c.step_of-x.result q _ c.take_turn.result c.acting-i.result c.take_turn.new.network.heads c.take_turn.new.network.doors
    c.in_default.not-Ok (c.take_turn.ensures m.b (handed p) w.ok q c.acting-i.ensures) refl in
    record { count_is = z.0; bank_is = z.1 }

pub offset_bounds-b-i-in-loop-steps : goal.offset_bounds-b-i-in-loop-steps
offset_bounds-b-i-in-loop-steps c = search (rules, small (goal.at.offset_bounds-b-i-in-loop-steps c).After-acting-i)

pub bounds-b-i-in-loop-steps : goal.bounds-b-i-in-loop-steps
bounds-b-i-in-loop-steps c = small (goal.at.bounds-b-i-in-loop-steps c).After-acting-i

pub newest_valid-requires : goal.newest_valid-requires
newest_valid-requires c =
    let at = goal.at.newest_valid-requires c in
    let w = turned at.In-Ok at.After-acting-i (quick at.After-acting-i) (handed at.After-acting-i) in
    (subst (λ (t : Tree). t.columns ≤ 16) c.loop-steps.invariant.tree_is w.within.0, w.within.1)

pub returns-then-not-newest_valid : goal.returns-then-not-newest_valid
returns-then-not-newest_valid c =
    let at = goal.at.returns-then-not-newest_valid c in
    let w = turned at.In-Ok at.After-acting-i (quick at.After-acting-i) (handed at.After-acting-i) in
    let z = going_broken w.on (λ z. true≢false (sym (eq-eqb _ 0 z) ∙ sym (valid_if c.loop-steps.invariant w refl c.newest_valid.ensures) ∙ c.if-not-newest_valid.true)) in
    record { count_is = z.0; bank_is = z.1 }

pub ready_after-ready-requires : goal.ready_after-ready-requires
ready_after-ready-requires c = small (goal.at.ready_after-ready-requires c).After-acting-i

pub ready_columns-ready-requires-then-full-b : goal.ready_columns-ready-requires-then-full-b
ready_columns-ready-requires-then-full-b c =
    let at = goal.at.ready_columns-ready-requires-then-full-b c in
    let w = turned at.In-Ok at.After-acting-i (quick at.After-acting-i) (handed at.After-acting-i) in
    (w.within.0, halted_still c.loop-steps.invariant w refl)

pub loop-steps-preserved : goal.loop-steps-preserved
loop-steps-preserved c =
    let at = goal.at.loop-steps-preserved c in
    let w = turned at.In-Ok at.After-acting-i (quick at.After-acting-i) (handed at.After-acting-i) in
    let m = c.loop-steps in
    let v = m.invariant in
    stands_on v w refl c.newest_valid.ensures c.if-not-newest_valid.false
    (elim c.if-full-b.branch [
      | then-full-b b ↦ b.ready-is ∙ b.ready_columns-ready-then-full-b.ensures
      | else-full-b b ↦
          b.ready-is
          ∙ ready_kept m.b c.acting-i.result c.in-Ok.r w.actor.0 w.actor.1 w.same b.if-full-b.false v.tree_is v.halted_is v.ready_is c.ready_after-ready.ensures
    ])

pub returns : goal.returns
returns c =
    let z = going_ends c.loop-steps.invariant.going (omega arith) in
    record { count_is = omega arith; bank_is = z.1 }
