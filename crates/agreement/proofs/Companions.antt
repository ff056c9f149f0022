-- The companions of agreement. Assumes nothing.
use Prim.Native.Nat.{ℕ, zero, suc, ◌<◌}
use native.Mathlib.Omega.{arith}
use native.Mathlib.Numerals.{add-one}
use mathlib.Core.Path.{◌≡◌, refl, sym, ap, ◌∙◌}
use mathlib.Core.Logic.{⊎_elim}
use mathlib.Core.List.{List, [], ◌∷◌}
use lib.ListN.{length}
use Rattle.column.specs.laws.Cases.{truth}
use Rattle.column.specs.Packets.{receiver}
use Rattle.column.specs.laws.StateLaws.{acceptable}
use Rattle.column.specs.declared.tree.Tree.{Tree}
use Rattle.column.specs.declared.state.Column.{Column}
use Rattle.bank.specs.Banks.{State, column_at, runs, packet_at, bank_refusal}
use Rattle.bank.specs.Steps.{Result, accepted, refused, after}
use Rattle.bank.specs.Performs.{perform}
use Rattle.bank.specs.Rest.{Running, AtRest}
use Rattle.bank.specs.laws.ValidityLaws.{Valid}
use Rattle.bank.proofs.laws.RestLaws.{halted_rests}
use Rattle.bank.proofs.laws.Places.{tree_kept}
use Rattle.bank.specs.declared.bank.Step.{Step}
use Rattle.bank.specs.declared.bank.Step.TheVariants.{Order}
use Rattle.agreement.specs.History.{World, root_of, told, run, Command, steps_of, follow}
use Rattle.agreement.specs.Agreement.{begin}
use Rattle.agreement.specs.Companions.{Passes, Ordered, OrdersCount, HaltedRests, KeepsTree}
use Rattle.agreement.proofs.relation.Model.{Runs}
use Rattle.agreement.proofs.relation.Move.{Move, orders, order}
use Rattle.agreement.proofs.relation.View.{model_of}
use Rattle.agreement.proofs.refinement.RefineBack.{refines}
use Rattle.agreement.proofs.refinement.Reached.{Reached, after_every, reached_valid, reached_passes}

pub passes : Passes
passes = after_every (λ w. bank_refusal w.state ≡ 0) reached_passes

-- ---- the n-th accepted order

module _ (w : World) (r : Reached w) where
  root_newest : Runs (model_of w.state w.orders) (root_of w.state) → (column_at w.state.bank (root_of w.state)).number ≡ length w.orders
  root_newest = r.invariant.root_newest

  -- the root of the bank that an order leaves
  told_root : (d : ℕ) (s' : State) → s'.bank.tree ≡ w.state.bank.tree
      → Move w.state.bank.tree (model_of w.state w.orders) (model_of s' (d ∷ w.orders)) (orders d)
      → ((column_at s'.bank (root_of s')).number ≡ suc (length w.orders)) × ((column_at s'.bank (root_of s')).doors ≡ d)
  told_root d s' e (order d' runs idle free b) =
      let root : root_of s' ≡ root_of w.state = ap (λ (t : Tree). t.root) e in (
        ap (λ (i : ℕ). (column_at s'.bank i).number) root ∙ ap (λ (c : Column). c.number) b.mine ∙ add-one _ ∙ ap suc (root_newest runs),
        ap (λ (i : ℕ). (column_at s'.bank i).doors) root ∙ ap (λ (c : Column). c.doors) b.mine,
      )

  ordered : Ordered w
  ordered = record { gives = λ d s' e. let f = refines w.state r.formed w.orders (Order d) tt s' e in told_root d s' f.same_tree f.move }

pub orders_count : OrdersCount
orders_count = after_every Ordered ordered

-- ---- every column halted

module _ (w : World) (r : Reached w) (nobody : (i : ℕ) → Running w.state i → ⊥) where
  -- a packet has a receiver that runs
  no_packet : w.state.bank.count ≡ 0
  no_packet = go w.state.bank.count refl
    where
      st : Valid w.state
      st = reached_valid w r

      go : (n : ℕ) → w.state.bank.count ≡ n → w.state.bank.count ≡ 0
      go zero e = e
      go (suc n) e =
          let h : 0 < w.state.bank.count = omega (arith, e) in
          let p = packet_at w.state 0 in
          absurd (nobody (receiver p) ((acceptable w.state.bank.tree p (st.packets 0 h)).receiver_below, st.receivers 0 h))

  nobody_rests : AtRest w.state
  nobody_rests = halted_rests w.state no_packet
      (λ i h. ⊎_elim (λ e. absurd (nobody i (h, e))) (λ e. e) (truth (runs w.state.bank i)))

pub halted_rest : HaltedRests
halted_rest = after_every (λ w. ((i : ℕ) → Running w.state i → ⊥) → AtRest w.state) nobody_rests

-- ---- the tree stays

pub told_tree : (w : World) (x : Step) → (told w x (perform w.state x)).state.bank.tree ≡ w.state.bank.tree
unfolding told
told_tree w x = go (perform w.state x) refl
  where
    go : (o : Result State) → perform w.state x ≡ o → (told w x o).state.bank.tree ≡ w.state.bank.tree
    go (accepted s) e = sym (ap (λ (o : Result State). (after o).bank.tree) e) ∙ tree_kept w.state x
    go (refused n s) e = sym (ap (λ (o : Result State). (after o).bank.tree) e) ∙ tree_kept w.state x

pub run_tree : (w : World) (xs : List Step) → (run w xs).state.bank.tree ≡ w.state.bank.tree
unfolding run told
run_tree w [] = refl
run_tree w (x ∷ xs) = run_tree (told w x (perform w.state x)) xs ∙ told_tree w x

follow_tree : (w : World) (commands : List Command) → (follow w commands).state.bank.tree ≡ w.state.bank.tree
unfolding follow
follow_tree w [] = refl
follow_tree w (x ∷ commands) = follow_tree (run w (steps_of w x)) commands ∙ run_tree w (steps_of w x)

pub keeps_tree : KeepsTree
keeps_tree t ok heads doors h d commands = follow_tree (begin t heads doors) commands
