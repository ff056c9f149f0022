-- The moves that change a record or stop a column keep the invariant: an order, a higher number received, a halt. Assumes nothing.
use Prim.Native.Nat.{ℕ, suc, ◌+◌, ◌≤◌, ◌<◌}
use native.Mathlib.Omega.{arith}
use mathlib.Core.Path.{◌≡◌, refl, sym, ap, subst, ◌∙◌}
use mathlib.Core.Logic.{◌≢◌, ⊎_elim, inl, inr}
use mathlib.Core.Bool.{true, false, true≢false, Bool, cond}
use mathlib.Core.List.{List, ◌∷◌}
use lib.Dec.{eqb}
use lib.ListN.{length}
use borrow.Author.Tests.{ne_eqb, eq-eqb}
use Rattle.column.specs.laws.Cases.{equal_cases, truth}
use Rattle.column.specs.Sets.{single}
use Rattle.column.specs.Trees.{IsTree, children}
use Rattle.column.specs.laws.SubtreeLaws.{subtree_self}
use Rattle.column.specs.Packets.{receiver}
use Rattle.column.specs.declared.tree.Tree.{Tree}
use Rattle.column.specs.declared.state.Column.{Column}
use Rattle.column.specs.declared.packet.Packet.{Packet}
use Rattle.column.specs.declared.packet.Packet.TheVariants.{Message}
use Rattle.agreement.specs.History.{given}
use Rattle.bank.specs.laws.NetworkLaws.{others}
use Rattle.agreement.proofs.relation.Model.{In, Empty, State, Runs, count, Taken, Becomes, taken_held, taken_back, taken_cases, taken_keeps, others_back, others_keep}
use Rattle.agreement.proofs.relation.Move.{renewed, halted, Idle}
use Rattle.agreement.proofs.relation.Members.{in_none, single_in, children_inside, root_child, under_cases, child_descends, below_child, under_root}
use Rattle.agreement.proofs.invariant.Invariant.{number, Covered, pending, reached, Local, Truthful, message_sent, acknowledgement_owed, acknowledgement_sent, Linked, Invariant}
use Rattle.agreement.proofs.invariant.InvariantCarried.{Later, each, keep, steady}
use Rattle.agreement.proofs.invariant.Packets.{message_acknowledgement, message_sender, message_number, message_issued, outstanding_cases}
use Rattle.agreement.proofs.invariant.Links.{linked_stays, receiver_other, linked_received}

module _ (d : ℕ) (ds : List ℕ) where
  pub given_new : given (d ∷ ds) (suc (length ds)) ≡ d
  unfolding given
  given_new = ap (λ (b : Bool). cond b d (given ds (suc (length ds)))) (eq-eqb (suc (length ds)) (suc (length ds)) refl)

  pub given_old : (k : ℕ) → k ≤ length ds → given (d ∷ ds) k ≡ given ds k
  unfolding given
  given_old k h = ap (λ (b : Bool). cond b d (given ds k)) (ne_eqb k (suc (length ds)) (λ e. omega arith))

module _ (t : Tree) (tree : IsTree t) {s : State} (a : ℕ) (inv : Invariant t s) (ra : Runs s a) where
  abbrev c : Column
  c = s.columns a

  pub keep_take_higher : {s' : State} (q k d : ℕ) {l : List Packet} → c.number < k → Taken s.network (Message q a k d) l → Empty c.owed →
      Becomes s s' a (renewed c k d (children t a) 0 (single q) (eqb a t.root) q) l s.orders → Invariant t s'
  keep_take_higher q k d lt taken none b = steady t inv ra b (λ o. linked_received t a q k d inv (inv.linked o) ra lt taken b) record {
    rises = omega arith;
    newest = λ e. absurd (not_root e);
    issued = λ _. message_issued truthful;
    local = λ _. record {
      root_whole = λ e. absurd (not_root e);
      members = λ x u. ⊎_elim (λ m. children_inside t a m) (λ m. absurd (in_none m)) u;
      own = λ w x u. ⊎_elim (λ m. child_descends t tree a a (inv.inside a ra) (subtree_self t tree a) m) (λ m. absurd (in_none m)) u;
      self_awaited = in_none;
      apart = λ x m. absurd (in_none m);
      shuns = λ _. record {
        root_noted = λ w. absurd (true≢false (sym w ∙ own_goal));
        root_sent = λ m. absurd (root_child t a m);
        root_owes = λ e. absurd (not_root e);
      };
    };
    coverage = λ _. record {
      own_covered = λ w p h z. let y = below_child t tree z in pending y.0 (inl y.1) y.2;
      all_covered = λ w. absurd (true≢false (sym w ∙ own_goal));
      settled = λ w. absurd (true≢false (sym w ∙ own_goal));
      noted_halted = (inv.coverages a ra).noted_halted;
    };
    new = λ r m. inl (taken_back taken m);
    old = λ r m. ⊎_elim (λ z. inl z) (λ e. inr (ap receiver e)) (taken_cases taken m);
    awaits = λ _ x n h m. absurd (in_none m);
    awaited = λ _ p n h w. outstanding_cases w
        (λ i v. ⊎_elim (λ z. message_sent i z)
        (λ e. acknowledgement_owed (subst (In (single q)) (sym (message_sender e)) (single_in q)) (sym (message_number e))) (taken_cases taken v))
        (λ o e. absurd (none p o))
        (λ v. acknowledgement_sent (taken_keeps taken v (λ e. message_acknowledgement (sym e))));
  }
    where
      truthful : Truthful t s (Message q a k d)
      truthful = inv.packets (Message q a k d) (taken_held taken)

      -- no number is above the root's
      not_root : a ≢ t.root
      not_root = receiver_other t inv a ra lt taken

      own_goal : eqb a t.root ≡ false
      own_goal = ne_eqb a t.root not_root

  pub keep_halt : {s' : State} → Becomes s s' a (halted c) (others a s.network) s.orders → Invariant t s'
  keep_halt b = steady t inv ra b (λ o. linked_stays t b (inv.linked o) ra (omega arith) (λ h. absurd (stopped h))) record {
    rises = omega arith;
    newest = λ e h. absurd (stopped h);
    issued = λ h. absurd (stopped h);
    local = λ h. absurd (stopped h);
    coverage = λ h. absurd (stopped h);
    new = λ r m. inl (others_back a s.network m);
    old = λ r m. ⊎_elim (λ e. inr e) (λ n. inl (others_keep a s.network n m)) (equal_cases (receiver r) a);
    awaits = λ h. absurd (stopped h);
    awaited = λ h. absurd (stopped h);
  }
    where
      stopped : false ≡ true → ⊥
      stopped h = true≢false (sym h)

-- ---- the root

-- a root that serves nobody: every column that runs has the newest number
pub root_served : (t : Tree) {s : State} → Invariant t s → Runs s t.root → Idle (s.columns t.root) →
    (p : ℕ) → Runs s p → number s p ≡ count s
root_served t {s} inv r idle p h =
    omega (
      arith,
      (inv.records p h).at_most,
      inv.root_newest r,
      go ((inv.coverages t.root r).all_covered ((inv.locals t.root r).root_whole refl) p h),
    )
  where
    go : Covered t s (s.columns t.root) p → number s t.root ≤ number s p
    go (pending q u v) = absurd (⊎_elim (idle.0 q) (idle.1 q) u)
    go (reached z) = z

pub keep_order : (t : Tree) → IsTree t → {s s' : State} (d : ℕ) → Invariant t s → Runs s t.root → Idle (s.columns t.root) →
    (t.watch ≡ true → Empty (s.columns t.root).owed) →
    Becomes s s' t.root
    (renewed (s.columns t.root) ((s.columns t.root).number + 1) d (children t t.root) (s.columns t.root).awaited
    (s.columns t.root).owed (s.columns t.root).whole (s.columns t.root).sender)
    s.network (d ∷ s.orders) → Invariant t s'
keep_order t tree {s} {s'} d inv r idle free b = keep t inv r b linked record {
  later = l;
  near = λ i h. omega (arith, told, near i h);
  newest = λ h. omega (arith, told, mine, inv.root_newest r);
  issued = λ _. record {
    at_most = omega (arith, told, inv.root_newest r);
    doors_given = sym (ap (λ (orders : List ℕ). given orders (number s t.root + 1)) b.told
        ∙ (ap (given (d ∷ s.orders)) next ∙ given_new d s.orders));
  };
  local = λ _. record {
    root_whole = here.root_whole;
    members = λ x u. ⊎_elim (λ m. children_inside t t.root m) (λ m. absurd (idle.1 x m)) u;
    own = λ _ x u. ⊎_elim (λ m. child_descends t tree t.root t.root tree.root_below (subtree_self t tree t.root) m)
        (λ m. absurd (idle.1 x m)) u;
    self_awaited = idle.1 t.root;
    apart = λ q m. absurd (idle.1 q m);
    shuns = λ o. record {
      root_noted = λ w n. absurd (n refl);
      root_sent = λ m. absurd (root_child t t.root m);
      root_owes = (here.shuns o).root_owes;
    };
  };
  coverage = λ _. record {
    own_covered = λ w. absurd (true≢false (sym (here.root_whole refl) ∙ w));
    all_covered = λ w p h. ⊎_elim
        (λ z. reached (omega (arith, ap (number s') z, mine)))
        (λ z. let k = below_child t tree z in pending k.0 (inl k.1) k.2)
        (under_cases t t.root p (under_root t tree p (inv.inside p (l.runs p h))));
    settled = λ w n. absurd (n refl);
    noted_halted = λ q m h. (inv.coverages t.root r).noted_halted q m (l.runs q h);
  };
  new = λ p m. inl m;
  old = λ p m. inl m;
  awaits = λ _ q n h m. absurd (idle.1 q m);
  awaited = λ _ p n h w. outstanding_cases w
      (λ i m. message_sent i m) (λ o z. absurd (owes_nobody p o)) (λ m. acknowledgement_sent m);
}
  where
    here : Local t t.root (s.columns t.root)
    here = inv.locals t.root r

    -- where the root is watched nobody sends to it, and else row 7 asks for it
    owes_nobody : Empty (s.columns t.root).owed
    owes_nobody = ⊎_elim free (λ o. (here.shuns o).root_owes refl) (truth t.watch)

    linked : t.watch ≡ true → Linked t s'
    linked o = linked_stays t b (inv.linked o) r (omega arith) (λ _ w. absurd (true≢false (sym (here.root_whole refl) ∙ w)))

    told : count s' ≡ suc (count s)
    told = ap length b.told

    mine : number s' t.root ≡ number s t.root + 1
    mine = ap (λ (x : Column). x.number) b.mine

    next : number s t.root + 1 ≡ suc (count s)
    next = omega (arith, inv.root_newest r)

    l : Later s s'
    l = record {
      runs = each b (λ (j : ℕ) (x : Column). x.running ≡ true → Runs s j) (λ h. h) (λ j n h. h);
      rises = each b (λ (j : ℕ) (x : Column). number s j ≤ x.number) (omega arith) (λ j n. omega arith);
      counts = omega (arith, told);
      gave = λ k h. ap (λ (orders : List ℕ). given orders k) b.told ∙ given_old d s.orders k h;
    }

    near : (i : ℕ) → Runs s' i → suc (count s) ≤ suc (number s' i)
    near = each b (λ (j : ℕ) (x : Column). x.running ≡ true → suc (count s) ≤ suc x.number)
        (λ _. omega (arith, inv.root_newest r)) (λ j n h. omega (arith, root_served t inv r idle j h))
