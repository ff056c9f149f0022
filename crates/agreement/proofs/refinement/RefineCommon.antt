-- From an accepted step of the bank to a move of the model: what is the same for every step. Assumes nothing.
use Prim.Native.Nat.{ℕ, ◌≤◌, ◌<◌}
use mathlib.Core.Path.{◌≡◌, refl, sym, ap, ap₂, subst, ◌∙◌}
use mathlib.Core.Logic.{◌≢◌, ◌⊎◌, inl, inr}
use mathlib.Core.Bool.{Bool, true, false, ◌&&◌, cond}
use mathlib.Core.List.{List, [], ◌∷◌, ◌++◌}
use native.Mathlib.Omega.{arith}
use lib.Dec.{eqb, ltb}
use lib.ListN.{length, get_or, set, length-set}
use lib.Seq.{get_or-set_same, get_or-set_other}
use borrow.Author.Tests.{eqb-true, ltb-false, lt-ltb}
use Rattle.column.specs.laws.Cases.{equal_cases}
use Rattle.column.specs.Packets.{receiver}
use Rattle.column.specs.Steps as core
use Rattle.column.specs.laws.TreeLaws.{tree_sixteen}
use Rattle.column.specs.Columns.{numbers}
use Rattle.column.specs.declared.tree.Tree.{Tree}
use Rattle.column.specs.declared.state.Column.{Column}
use Rattle.column.specs.declared.packet.Packet.{Packet}
use Rattle.bank.specs.laws.WordLaws.{HeadFits}
use Rattle.bank.specs.Banks.{State, no_column, column_at, runs, capacity, Whole}
use Rattle.bank.specs.laws.ValidityLaws.{Valid}
use Rattle.bank.specs.Networks.{put, puts, with_packet}
use Rattle.bank.specs.laws.NetworkLaws.{packets_of, put_meant, put_whole}
use Rattle.bank.specs.Steps.{Result, accepted, refused, unless, with_column, fitting, settled}
use Rattle.agreement.specs.Returning.{Formed}
use Rattle.agreement.proofs.relation.Model.{Becomes, post}
use Rattle.agreement.proofs.relation.Move.{Event, Move}
use Rattle.agreement.proofs.relation.View.{view, model_of}

-- an accepted step is a move, and leaves a bank that is formed, with the same tree and room for its packets
pub record Refined (s : State) (orders orders' : List ℕ) (e : Event) (s' : State) : Type 0 where
  pub move : Move s.bank.tree (model_of s orders) (model_of s' orders') e
  pub formed : Formed s'
  pub same_tree : s'.bank.tree ≡ s.bank.tree
  pub room : s'.bank.count ≤ capacity

abbrev pub Refines : State → List ℕ → List ℕ → Event → Result State → Type 0
Refines s orders orders' e o = (s' : State) → o ≡ accepted s' → Refined s orders orders' e s'

-- what is accepted is not refused
pub accepted_goes : (s s' : State) (n : ℕ) (o : Result State) → unless n s o ≡ accepted s' → (n ≡ 0) × (o ≡ accepted s')
accepted_goes s s' n o = go (eqb n 0) refl
  where
    go : (b : Bool) → eqb n 0 ≡ b → cond b o (refused n s) ≡ accepted s' → (n ≡ 0) × (o ≡ accepted s')
    go true z h = (eqb-true n 0 z, h)
    go false z h = let z : ◌≡◌ {A = ℕ} 0 1 = cc in absurd (omega arith)

-- only place i is rewritten, as c
pub record Rewritten (s next : State) (i : ℕ) (c : Column) : Type 0 where
  pub tree_stays : next.bank.tree ≡ s.bank.tree
  pub columns_are : next.bank.columns ≡ set s.bank.columns i c
  pub whole : Whole next

module _ (s : State) (orders orders' : List ℕ) (e : Event) where
  abbrev Goal : Result State → Type 0
  Goal o = Refines s orders orders' e o

  pub refines_refused : (n : ℕ) (r : State) → Goal (refused n r)
  refines_refused n r s' q = let z : ◌≡◌ {A = ℕ} 0 1 = cc in absurd (omega arith)

  pub refines_unless : (n : ℕ) (o : Result State) → (n ≡ 0 → Goal o) → Goal (unless n s o)
  refines_unless n o h = go (eqb n 0) refl
    where
      go : (b : Bool) → eqb n 0 ≡ b → Goal (cond b o (refused n s))
      go true z = h (eqb-true n 0 z)
      go false z = refines_refused n s

  -- the same of the core's refusal
  pub refines_core : (gone : State) (i n : ℕ) (c : Column) (r : core.Result) → (n ≡ 0 → Goal (settled s gone i r))
      → Goal (settled s gone i (core.unless n c r))
  refines_core gone i n c r h = go (eqb n 0) refl
    where
      go : (b : Bool) → eqb n 0 ≡ b → Goal (settled s gone i (cond b r (core.refused n c)))
      go true z = h (eqb-true n 0 z)
      go false z = refines_refused n s

  pub refines_fitting : (next : State) → (next.bank.count ≤ capacity → Refined s orders orders' e next) → Goal (fitting s next)
  unfolding fitting
  refines_fitting next h s' = go (ltb capacity next.bank.count) refl
    where
      go : (b : Bool) → ltb capacity next.bank.count ≡ b → cond b (refused 9 s) (accepted next) ≡ accepted s' → Refined s orders orders' e s'
      go true z q = refines_refused 9 s s' q
      go false z q =
          let same : next ≡ s' = cc in
          subst (Refined s orders orders' e) same (h (ltb-false capacity next.bank.count z))

module _ (s : State) (formed : Formed s) (i : ℕ) (i-place : i < 16) (c : Column) where
  abbrev t : Tree
  t = s.bank.tree

  i_held : i < length s.bank.columns
  i_held = omega (arith, formed.places, i-place)

  module _ {next : State} (r : Rewritten s next i c) where
    column_same : column_at next.bank i ≡ c
    column_same = ap (λ (l : List Column). get_or l i no_column) r.columns_are ∙ get_or-set_same s.bank.columns i c no_column i_held

    column_other : (j : ℕ) → j ≢ i → column_at next.bank j ≡ column_at s.bank j
    column_other j n =
        ap (λ (l : List Column). get_or l j no_column) r.columns_are ∙ get_or-set_other s.bank.columns i j c no_column n

    pub rewritten_becomes : (orders orders' : List ℕ) →
        Becomes (model_of s orders) (model_of next orders') i (view t i c) (packets_of next) orders'
    rewritten_becomes orders orders' = record {
      mine = ap₂ (λ (u : Tree) (x : Column). view u i x) r.tree_stays column_same;
      same = λ j n. ap₂ (λ (u : Tree) (x : Column). view u j x) r.tree_stays (column_other j n);
      packets = refl;
      told = refl;
    }

    pub rewritten_formed : c.number < numbers → Formed next
    rewritten_formed h = record {
      places = ap length r.columns_are ∙ length-set s.bank.columns i c ∙ formed.places;
      whole = r.whole;
      numbers_fit = λ j. fit j (equal_cases j i);
    }
      where
        fit : (j : ℕ) → (j ≡ i) ⊎ (j ≡ i → ⊥) → (column_at next.bank j).number < numbers
        fit j (inl e) = subst (λ (x : ℕ). (column_at next.bank x).number < numbers) (sym e)
            (subst (λ (x : Column). x.number < numbers) (sym column_same) h)
        fit j (inr n) = subst (λ (x : Column). x.number < numbers) (sym (column_other j n)) (formed.numbers_fit j)

-- ---- the bank after the core's result: column i is c, and its packets are put

module _ (s : State) (formed : Formed s) (valid : Valid s) (i : ℕ) (below : i < s.bank.tree.columns) (c : Column)
    (fits : c.number < numbers) (gone : State) (gone-tree : gone.bank.tree ≡ s.bank.tree)
    (gone-columns : gone.bank.columns ≡ s.bank.columns) (gone_whole : Whole gone)
    (orders orders' : List ℕ) (e : Event) where
  place : i < 16
  place = omega (arith, below, tree_sixteen s.bank.tree valid.tree)

  refined : {next : State} → Rewritten s next i c → next.bank.count ≤ capacity
      → Move s.bank.tree (model_of s orders) (model_of next orders') e → Refined s orders orders' e next
  refined r h m = record {
    move = m;
    formed = rewritten_formed s formed i place c r fits;
    same_tree = r.tree_stays;
    room = h;
  }

  quiet_rewritten : Rewritten s (with_column gone i c) i c
  quiet_rewritten = record {
    tree_stays = gone-tree;
    columns_are = ap (λ (l : List Column). set l i c) gone-columns;
    whole = record { heads_length = gone_whole.heads_length; doors_length = gone_whole.doors_length };
  }

  -- no packet is put
  pub refines_quiet : ((s' : State) → Becomes (model_of s orders) (model_of s' orders') i (view s.bank.tree i c) (packets_of gone) orders'
      → Move s.bank.tree (model_of s orders) (model_of s' orders') e)
      → Refines s orders orders' e (fitting s (puts (with_column gone i c) []))
  unfolding puts
  refines_quiet m =
      refines_fitting s orders orders' e (with_column gone i c) (λ h. refined quiet_rewritten h
      (m (with_column gone i c) (rewritten_becomes s formed i place c quiet_rewritten orders orders')))

  -- one packet is put, unless its receiver is halted
  module _ (p : Packet) (p-fits : HeadFits p) (to-column : receiver p < s.bank.tree.columns) (to_other : receiver p ≢ i) where
    abbrev with : State
    with = with_column gone i c

    abbrev next : Bool → State
    next b = cond b (with_packet with p) with

    still_runs : runs with.bank (receiver p) ≡ runs s.bank (receiver p)
    still_runs =
        ap (λ (x : Column). x.running) (get_or-set_other gone.bank.columns i (receiver p) c no_column to_other
        ∙ ap (λ (l : List Column). get_or l (receiver p) no_column) gone-columns)

    put_is : (b : Bool) → runs s.bank (receiver p) ≡ b → puts with (p ∷ []) ≡ next b
    unfolding put puts
    put_is b q = ap (λ (x : Bool). cond x (with_packet with p) with) (still_runs ∙ q)

    post_is : (b : Bool) → runs s.bank (receiver p) ≡ b → (l : List Packet) → post (model_of s orders) p l ≡ cond b (l ++ p ∷ []) l
    unfolding post
    post_is b q l =
        ap (λ (x : Bool). cond x (l ++ p ∷ []) l) (ap₂ (λ (x y : Bool). x && y) (lt-ltb (receiver p) s.bank.tree.columns to-column) q)

    next_rewritten : (b : Bool) → Rewritten s (next b) i c
    next_rewritten false = quiet_rewritten
    next_rewritten true = record {
      tree_stays = gone-tree;
      columns_are = ap (λ (l : List Column). set l i c) gone-columns;
      whole = put_whole with quiet_rewritten.whole p;
    }

    next_packets : (b : Bool) → (next b).bank.count ≤ capacity → packets_of (next b) ≡ cond b (packets_of gone ++ p ∷ []) (packets_of gone)
    next_packets false h = refl
    next_packets true h = put_meant with quiet_rewritten.whole p p-fits (omega (arith, h))

    pub refines_put : ((s' : State)
        → Becomes (model_of s orders) (model_of s' orders') i (view s.bank.tree i c) (post (model_of s orders) p (packets_of gone)) orders'
        → Move s.bank.tree (model_of s orders) (model_of s' orders') e)
        → Refines s orders orders' e (fitting s (puts with (p ∷ [])))
    refines_put m = go (runs s.bank (receiver p)) refl
      where
        go : (b : Bool) → runs s.bank (receiver p) ≡ b → Refines s orders orders' e (fitting s (puts with (p ∷ [])))
        go b q = subst (λ (x : State). Refines s orders orders' e (fitting s x)) (sym (put_is b q))
            (refines_fitting s orders orders' e (next b) (λ h. refined (next_rewritten b) h (m (next b)
            (subst (λ (l : List Packet). Becomes (model_of s orders) (model_of (next b) orders') i (view s.bank.tree i c) l orders')
            (next_packets b h ∙ sym (post_is b q (packets_of gone)))
            (rewritten_becomes s formed i place c (next_rewritten b) orders orders')))))
