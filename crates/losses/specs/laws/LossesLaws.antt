-- The counts of the sets: how many there can be, what calls leave, that no step changes the tree, of which trees they are, and that the order is
-- accepted. Assumes nothing.
use Rattle.std.specs.Prelude.{ℕ, zero, suc, ◌^◌, ◌≤◌, ◌<◌, Bool, cond, List, Result, Ok, Err, eqb, ltb, replicate}
use Rattle.std.specs.Result.{result_unwrap_or}
use Rattle.std.proofs.Math.Path.{◌≡◌, refl}
use Rattle.std.proofs.Common.{sym, ap, ap₂, ◌∙◌, arith, pow_mono}
use Rattle.std.proofs.Math.Bool.{true, false, and-false}
use borrow.Author.Tests.{eq-eqb, ne_eqb, eqb-true, ltb-false, le-ltb, lt-ltb}
use Rattle.column.specs.Refusals.{first, given, refusal_number}
use Rattle.column.specs.declared.error.Refusal.{Refusal}
use Rattle.column.specs.laws.RefusalLaws.{passed, earlier_none}
use Rattle.column.specs.Trees.{tree_refusal}
use Rattle.column.specs.laws.TreeLaws.{check_exact}
use Rattle.column.specs.Steps as core
use Rattle.column.specs.declared.tree.Tree.{Tree}
use Rattle.column.specs.declared.state.Column.{Column}
use Rattle.bank.specs.Banks.{State, state, column_at, capacity, fresh_bank, no_bank, bank_refusal}
use Rattle.bank.specs.Networks.{puts}
use Rattle.bank.specs.laws.ValidityLaws.{fresh_at, fresh_valid, acting_passes}
use Rattle.bank.proofs.laws.ChangeLaws.{valid_at}
use Rattle.bank.specs.Steps as steps
use Rattle.bank.specs.Steps.{accepted, refused, after, answered, outcome_meant, unless, fresh, fitting, settled, acted, order, halt}
use Rattle.bank.specs.Performs.{perform}
use Rattle.bank.specs.Dispatch.{turn, onward, dispatch, dispatch_outcome, dispatched_meant, Dispatches}
use Rattle.bank.proofs.laws.Places.{tree_kept}
use Rattle.bank.specs.declared.bank.Bank.{Bank}
use Rattle.bank.specs.declared.dispatch.Dispatched.{Dispatched}
use Rattle.bank.specs.declared.bank.Step.TheVariants.{Order, Halt}
use Rattle.losses.specs.Losses.{most_columns, losses_conditions, losses_refusal, ordered, begun, to_rest, ended, one_if, counted, counted_of, no_losses, losses_of, losses_given}
use Rattle.losses.specs.declared.count.Losses.{Losses}

-- ---- counts

one_most : (b : Bool) → one_if b ≤ 1
one_most true = omega arith
one_most false = omega arith

pub counted_most : (f : ℕ → Bool) (n : ℕ) → counted f n ≤ n
unfolding counted
counted_most f zero = omega arith
counted_most f (suc n) = omega (arith, counted_most f n, one_most (f n))

-- ---- what a call leaves

pub step_left_lem : (before : Bank) (r : Result Bank Refusal) {heads doors : List ℕ} {o : steps.Result State} → outcome_meant before r heads doors ≡ o
    → state (result_unwrap_or r before) heads doors ≡ after o
step_left_lem before (Ok b) e = ap after e
step_left_lem before (Err n) e = ap after e

-- the bank that a dispatch leaves
abbrev pub bank_left : Bank → Result Dispatched Refusal → Bank
bank_left before (Ok d) = d.bank
bank_left before (Err n) = before

dispatched_left : (before : Bank) (r : Result Dispatched Refusal) {heads doors : List ℕ} {o : steps.Result State} → dispatched_meant before r heads doors ≡ o
    → state (bank_left before r) heads doors ≡ after o
dispatched_left before (Ok d) e = ap after e
dispatched_left before (Err n) e = ap after e

pub dispatch_left : (r : Result Dispatched Refusal) {heads doors : List ℕ} {limit : ℕ} {s : State} {o : steps.Result State}
    → Dispatches r heads doors limit s o → state (bank_left s.bank r) heads doors ≡ after o
dispatch_left r {s = s} d = dispatched_left s.bank r d.outcome_is

fresh_accepted : (t : Tree) → tree_refusal t ≡ 0 → fresh t ≡ accepted (fresh_bank t)
unfolding fresh
fresh_accepted t good = rw (eq-eqb (tree_refusal t) 0 good)

pub fresh_left : (b : Bank) (t : Tree) → tree_refusal t ≡ 0 → answered (no_bank t) (Ok b) ≡ fresh t → b ≡ fresh_bank t
fresh_left b t good e = ap after (e ∙ fresh_accepted t good)

pub fresh_not_refused : (n : Refusal) (t : Tree) → tree_refusal t ≡ 0 → answered (no_bank t) (Err n) ≡ fresh t → ⊥
fresh_not_refused n t good e =
    let z : refused (refusal_number n) (no_bank t) ≡ accepted (fresh_bank t) = e ∙ fresh_accepted t good in
    cc

-- ---- the tree

dispatch_tree : (k : ℕ) (s : State) → (dispatch k s).bank.tree ≡ s.bank.tree
unfolding dispatch
dispatch_tree zero s = refl
dispatch_tree (suc k) s = go (perform s (turn s)) (tree_kept s (turn s)) (λ x. dispatch_tree k x)
  where
    go : (o : steps.Result State) → (after o).bank.tree ≡ s.bank.tree → ((x : State) → (dispatch k x).bank.tree ≡ x.bank.tree)
        → (onward o s (λ next. dispatch k next)).bank.tree ≡ s.bank.tree
    go (accepted x) e ih = ih x ∙ e
    go (refused n x) e ih = refl

pub dispatched_tree : (k : ℕ) (s : State) → (after (dispatch_outcome k s)).bank.tree ≡ s.bank.tree
dispatched_tree k s = go (eqb (bank_refusal s) 0)
  where
    go : (b : Bool) → (after (cond b (accepted (dispatch k s)) (refused (bank_refusal s) s))).bank.tree ≡ s.bank.tree
    go true = dispatch_tree k s
    go false = refl

pub begun_tree : (t : Tree) (steps : ℕ) → (begun t steps).bank.tree ≡ t
unfolding begun ordered perform
begun_tree t steps = dispatched_tree steps (ordered t) ∙ tree_kept _ (Order 0)

pub ended_tree : (s : State) (m : ℕ) → (ended s m).bank.tree ≡ s.bank.tree
unfolding ended perform
ended_tree s m = dispatched_tree to_rest (after (halt s m)) ∙ tree_kept s (Halt m)

-- ---- what the refusal asks of a tree

pub record Counting (t : Tree) : Type 0 where
  pub tree : tree_refusal t ≡ 0
  pub few : t.columns ≤ most_columns

pub counting : (t : Tree) → losses_refusal t ≡ 0 → Counting t
unfolding losses_refusal
counting t e =
    let q = earlier_none (tree_refusal t) (first (losses_conditions t)) e in
    let p = passed (losses_conditions t) tt q.1 in
    record { tree = q.0; few = ltb-false most_columns t.columns p.0 }

-- where they are not refused, the losses are the counts
pub losses_counted : (t : Tree) (steps : ℕ) → losses_refusal t ≡ 0 → losses_given t steps ≡ given (counted_of (begun t steps))
unfolding losses_of
losses_counted t steps e = rw (eq-eqb (losses_refusal t) 0 e)

-- "23 for more than 8 columns or for watch=sender, after the table's own", and for nothing else
module _ (t : Tree) where
  pub up_to_eight : tree_refusal t ≡ 0 → t.columns ≤ 8 → t.watch ≡ false → losses_refusal t ≡ 0
  unfolding losses_refusal
  up_to_eight good few root = rw (eq-eqb (tree_refusal t) 0 good, le-ltb 8 t.columns few, root)

  pub above_eight : tree_refusal t ≡ 0 → 8 < t.columns → losses_refusal t ≡ 23
  unfolding losses_refusal
  above_eight good many = rw (eq-eqb (tree_refusal t) 0 good, lt-ltb 8 t.columns many)

  pub senders_watched : tree_refusal t ≡ 0 → t.watch ≡ true → losses_refusal t ≡ 23
  unfolding losses_refusal
  senders_watched good sender = rw (eq-eqb (tree_refusal t) 0 good, sender) (go (ltb 8 t.columns))
    where
      go : (b : Bool) → ◌≡◌ {A = ℕ} (cond b 23 23) 23
      go true = refl
      go false = refl

  pub tables_own : (tree_refusal t ≡ 0 → ⊥) → losses_refusal t ≡ tree_refusal t
  unfolding losses_refusal
  tables_own bad = rw (ne_eqb (tree_refusal t) 0 bad)

-- ---- "for every set of columns": no count is above 256, the sets of 8 columns

pub record AtMost (most : ℕ) (l : Losses) : Type 0 where
  pub kept : l.kept ≤ most
  pub lost : l.lost ≤ most
  pub none : l.none ≤ most

pub counts_few : (t : Tree) (steps : ℕ) → AtMost 256 (losses_of t steps)
unfolding losses_of
counts_few t steps = go (eqb (losses_refusal t) 0) refl
  where
    sets : losses_refusal t ≡ 0 → 2 ^ (begun t steps).bank.tree.columns ≤ 256
    sets e = rw (begun_tree t steps) (pow_mono (counting t e).few)

    each : losses_refusal t ≡ 0 → (f : ℕ → Bool) → counted f (2 ^ (begun t steps).bank.tree.columns) ≤ 256
    each e f = omega (arith, sets e, counted_most f (2 ^ (begun t steps).bank.tree.columns))

    go : (b : Bool) → eqb (losses_refusal t) 0 ≡ b → AtMost 256 (cond b (counted_of (begun t steps)) no_losses)
    go true e = let z = eqb-true (losses_refusal t) 0 e in record { kept = each z _; lost = each z _; none = each z _ }
    go false e = record { kept = omega arith; lost = omega arith; none = omega arith }

-- ---- "give order 1": the order to the fresh bank is accepted

accepted_after : {o : steps.Result State} {s : State} → o ≡ accepted s → o ≡ accepted (after o)
accepted_after e = e ∙ ap accepted (sym (ap after e))

module _ (t : Tree) (good : tree_refusal t ≡ 0) where
  abbrev freshly : State
  freshly = state (fresh_bank t) (replicate capacity 0) (replicate capacity 0)

  abbrev root : Column
  root = column_at (fresh_bank t) t.root

  root_below : t.root < t.columns
  root_below = ((check_exact t).0 good).root_below

  root_passes : core.order_refusal t t.root root ≡ 0
  unfolding core.order_refusal
  root_passes =
      rw (
        valid_at freshly (fresh_valid t good _ _) t.root root_below,
        fresh_at t good t.root root_below,
        eq-eqb t.root t.root refl,
        and-false t.watch,
      )

  pub order_accepted : order freshly 0 ≡ accepted (ordered t)
  unfolding ordered acted fitting puts core.order_effect
  order_accepted =
      let first = acting_passes freshly (fresh_valid t good _ _) t.root root_below in
      accepted_after
      (ap₂ (λ (n m : ℕ). unless n freshly (settled freshly freshly t.root (core.unless m root (core.order_effect t t.root root 0)))) first root_passes)
