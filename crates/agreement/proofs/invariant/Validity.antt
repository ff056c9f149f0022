-- Every state that moves reach passes row 4, halted columns too: set members and packet ends are columns, no column owes itself, the
-- root's goal is the whole bank, a packet's ends differ, its receiver runs, and no message goes to the root. Assumes nothing.
use Prim.Native.Nat.{ℕ, ◌^◌, ◌<◌}
use native.Mathlib.Omega.{arith}
use mathlib.Core.Path.{◌≡◌, refl, sym, subst, ◌∙◌}
use mathlib.Core.Logic.{◌≢◌, ◌⊎◌, ⊎_elim, inl, inr}
use mathlib.Core.Bool.{Bool, true, false, true≢false}
use mathlib.Core.List.{List, []}
use lib.Pow.{pow_pos, pow_mono}
use borrow.Author.Tests.{eq-eqb}
use Rattle.column.specs.laws.Cases.{equal_cases}
use Rattle.column.specs.Sets.{has, single, join, insert, without}
use Rattle.column.specs.laws.SetLaws.{has_none, single_lt, join_lt, insert_lt, without_lt, member_lt}
use Rattle.column.specs.Trees.{IsTree, children}
use Rattle.column.specs.laws.ChildLaws.{children_lt}
use Rattle.column.specs.Columns.{fresh, state_refusal}
use Rattle.column.specs.Packets.{receiver}
use Rattle.column.specs.Returns as core
use Rattle.column.specs.laws.StateLaws.{Acceptable, sound_passes}
use Rattle.column.specs.declared.tree.Tree.{Tree}
use Rattle.column.specs.declared.state.Column.{Column}
use Rattle.column.specs.declared.packet.Packet.{Packet}
use Rattle.column.specs.declared.packet.Packet.TheVariants.{Message, Acknowledgement}
use Rattle.agreement.proofs.relation.Model.{In, State, Runs, post, Taken, Becomes, Holds, holds_none, taken_held, taken_back, post_cases, others_back, others_receiver}
use Rattle.agreement.proofs.relation.Move.{owing, renewed, with_running, Remaining, Returns, Event, Move, order, send_self, send_noted, send_message, take_acknowledgement, take_stale, take_equal, take_lower, take_left, take_higher, acknowledge, widen, note_awaited, note_other, halt, back}
use Rattle.agreement.proofs.relation.Members.{absent, in_single, insert_cases, without_in}
use Rattle.agreement.proofs.invariant.Invariant.{Invariant, Fresh}
use Rattle.agreement.proofs.invariant.InvariantCarried.{each}
use Rattle.agreement.proofs.invariant.Adjusting.{adjusted}

-- what row 4 asks of column i
pub record Valid (t : Tree) (i : ℕ) (c : Column) : Type 0 where
  pub send : c.send < 2 ^ t.columns
  pub awaited : c.awaited < 2 ^ t.columns
  pub owed : c.owed < 2 ^ t.columns
  pub noted : c.noted < 2 ^ t.columns
  pub owes_others : has c.owed i ≡ false
  pub root_whole : i ≡ t.root → c.whole ≡ true
  pub sender : c.sender < t.columns

pub record Deliverable (t : Tree) (s : State) (p : Packet) : Type 0 where
  pub acceptable : Acceptable t p
  pub runs : Runs s (receiver p)

pub record Validity (t : Tree) (s : State) : Type 0 where
  pub each_valid : (i : ℕ) → i < t.columns → Valid t i (s.columns i)
  pub packets : (p : Packet) → Holds s.network p → Deliverable t s p

-- so row 4 refuses nothing
pub valid_passes : (t : Tree) → IsTree t → (i : ℕ) (c : Column) → i < t.columns → Valid t i c → state_refusal t i c ≡ 0
valid_passes t tree i c h w = sound_passes t i c
    (record { send = mask w.send; awaited = mask w.awaited; owed = mask w.owed; noted = mask w.noted })
    (record {
      below = h;
      send_below = λ j. member_lt t.columns c.send j w.send;
      awaited_below = λ j. member_lt t.columns c.awaited j w.awaited;
      owed_below = λ j. member_lt t.columns c.owed j w.owed;
      noted_below = λ j. member_lt t.columns c.noted j w.noted;
      owes_others = w.owes_others;
      root_whole = w.root_whole;
      sender_below = w.sender;
    })
  where
    mask : {m : ℕ} → m < 2 ^ t.columns → m < 2 ^ 16
    mask l = omega (arith, pow_mono tree.sixteen)

pub fresh_validity : (t : Tree) {s : State} → t.root < t.columns → Fresh t s → Validity t s
fresh_validity t {s} below f = record {
  each_valid = λ i h. subst (Valid t i) (sym (f.columns_fresh i h)) (valid i);
  packets = λ p m. absurd (holds_none (subst (λ (l : List Packet). Holds l p) f.no_packet m));
}
  where
    valid : (i : ℕ) → Valid t i (fresh t i)
    valid i = record {
      send = pow_pos t.columns;
      awaited = pow_pos t.columns;
      owed = pow_pos t.columns;
      noted = pow_pos t.columns;
      owes_others = has_none i;
      root_whole = λ e. eq-eqb i t.root e;
      sender = below;
    }

module _ {t : Tree} {s : State} (tree : IsTree t) (inv : Invariant t s) (v : Validity t s) where
  -- a move: its column is valid, each packet is an old one or deliverable, and nobody stops to whom a packet is under way
  validity_after : {s' : State} {a : ℕ} {c : Column} {network : List Packet} {orders : List ℕ} → Becomes s s' a c network orders → Valid t a c →
      ((p : Packet) → Holds network p → Holds s.network p ⊎ Deliverable t s p) →
      ((p : Packet) → Holds network p → receiver p ≡ a → c.running ≡ true) → Validity t s'
  validity_after {s'} {a} {c} {network} b w new runs = record {
    each_valid = each b (λ (j : ℕ) (x : Column). j < t.columns → Valid t j x) (λ _. w) (λ j n h. v.each_valid j h);
    packets = λ p m.
        let m' : Holds network p = subst (λ (l : List Packet). Holds l p) b.packets m in
        let d : Deliverable t s p = ⊎_elim (λ o. v.packets p o) (λ z. z) (new p m') in
        record {
          acceptable = d.acceptable;
          runs = each b (λ (j : ℕ) (x : Column). receiver p ≡ j → Runs s j → x.running ≡ true)
              (λ e h. runs p m' e) (λ j n e h. h) (receiver p) refl d.runs;
        };
  }

  unmoved : (p : Packet) → Holds s.network p → Holds s.network p ⊎ Deliverable t s p
  unmoved p m = inl m

  posted : (p : Packet) (l : List Packet) → (Runs s (receiver p) → Acceptable t p) → ((x : Packet) → Holds l x → Holds s.network x) →
      (x : Packet) → Holds (post s p l) x → Holds s.network x ⊎ Deliverable t s x
  posted p l f g x m = ⊎_elim (λ z. inl (g x z))
      (λ z. inr (subst (Deliverable t s) (sym z.0) (record { acceptable = f z.1; runs = z.1 }))) (post_cases s p l m)

  module _ (a : ℕ) (r : Runs s a) where
    before : Valid t a (s.columns a)
    before = v.each_valid a (inv.inside a r)

    -- the column's sets anew
    valid : {send awaited owed noted : ℕ} → send < 2 ^ t.columns → awaited < 2 ^ t.columns → owed < 2 ^ t.columns →
        noted < 2 ^ t.columns → (In owed a → ⊥) → Valid t a (adjusted (s.columns a) send awaited owed noted)
    valid {owed = owed} hs ha ho hn n =
        record { send = hs; awaited = ha; owed = ho; noted = hn; owes_others = absent owed a n; root_whole = before.root_whole; sender = before.sender }

    -- another set to send to and another goal: row 4 asks nothing of the number, of the doors, and of whether the column runs
    sending_valid : {running whole : Bool} {number doors send : ℕ} → send < 2 ^ t.columns → (a ≡ t.root → whole ≡ true) →
        Valid t a
        (with_running running (renewed (s.columns a) number doors send (s.columns a).awaited (s.columns a).owed whole (s.columns a).sender))
    sending_valid h w = record {
      send = h;
      awaited = before.awaited;
      owed = before.owed;
      noted = before.noted;
      owes_others = before.owes_others;
      root_whole = w;
      sender = before.sender;
    }

    owes_not_self : In (s.columns a).owed a → ⊥
    owes_not_self m = true≢false (sym m.holds ∙ before.owes_others)

    -- a member is struck out
    struck : (m x : ℕ) → m < 2 ^ t.columns → In m x → without m x < 2 ^ t.columns
    struck m x h k = without_lt t.columns m x h (member_lt t.columns m x h k.holds)

    with_children : (m x : ℕ) → m < 2 ^ t.columns → join m (children t x) < 2 ^ t.columns
    with_children m x h = join_lt t.columns m (children t x) h (children_lt t x)

    -- only the owed change
    owing_valid : (owed : ℕ) → owed < 2 ^ t.columns → (In owed a → ⊥) →
        Valid t a (adjusted (s.columns a) (s.columns a).send (s.columns a).awaited owed (s.columns a).noted)
    owing_valid owed h n = valid before.send before.awaited h before.noted n

    -- one who is owed is acknowledged
    answers : (x k : ℕ) → In (s.columns a).owed x → Runs s x → Acceptable t (Acknowledgement a x k)
    answers x k m h = record {
      sender_below = inv.inside a r;
      receiver_below = inv.inside x h;
      apart = λ e. owes_not_self (subst (In (s.columns a).owed) (sym e) m);
      not_to_root = λ _ e. absurd (true≢false (sym e));
    }

    answered : {s' : State} (x : ℕ) → In (s.columns a).owed x →
        Becomes s s' a (owing (s.columns a) (without (s.columns a).owed x))
        (post s (Acknowledgement a x (s.columns a).number) s.network) s.orders → Validity t s'
    answered x m b = validity_after b
        (owing_valid (without (s.columns a).owed x) (struck (s.columns a).owed x before.owed m)
        (λ z. owes_not_self (without_in (s.columns a).owed x z)))
        (posted (Acknowledgement a x (s.columns a).number) s.network (answers x (s.columns a).number m) (λ y z. z)) (λ _ _ _. r)

  arrived : {p : Packet} {l : List Packet} → Taken s.network p l → Acceptable t p
  arrived {p} taken = (v.packets p (taken_held taken)).acceptable

  taken_packets : {p : Packet} {l : List Packet} → Taken s.network p l → (x : Packet) → Holds l x → Holds s.network x ⊎ Deliverable t s x
  taken_packets taken x m = inl (taken_back taken m)

  -- a column comes back
  returned : {s' : State} (j l noted : ℕ) {whole : Bool} → j < t.columns → j ≢ t.root → Runs s l → Remaining t s j noted →
      Returns t s s' j (core.rejoined (s.columns j) (s.columns l) noted whole l) → s.network ≡ [] → Validity t s'
  returned {s'} j l noted {whole} h nr r k b gone = record {
    each_valid = λ i hi. ⊎_elim
        (λ e. subst (λ (x : ℕ). Valid t x (s'.columns x)) (sym e) (subst (Valid t j) (sym b.mine) mine))
        (λ n. subst (Valid t i) (sym (b.strikes i n hi)) (other i hi)) (equal_cases i j);
    packets = λ p m. absurd (holds_none (subst (λ (x : List Packet). Holds x p) (b.packets ∙ gone) m));
  }
    where
      mine : Valid t j (core.rejoined (s.columns j) (s.columns l) noted whole l)
      mine = record {
        send = pow_pos t.columns;
        awaited = pow_pos t.columns;
        owed = pow_pos t.columns;
        noted = k.fits;
        owes_others = has_none j;
        root_whole = λ e. absurd (nr e);
        sender = inv.inside l r;
      }

      other : (i : ℕ) → i < t.columns → Valid t i (core.struck (s.columns i) j)
      other i hi =
          let z = v.each_valid i hi in
          record {
            send = z.send;
            awaited = z.awaited;
            owed = z.owed;
            noted = without_lt t.columns (s.columns i).noted j z.noted h;
            owes_others = z.owes_others;
            root_whole = z.root_whole;
            sender = z.sender;
          }

  pub validity_kept : {s' : State} {e : Event} → Move t s s' e → Validity t s'
  validity_kept (order d r idle free b) =
      validity_after b (sending_valid t.root r (children_lt t t.root) (before t.root r).root_whole) unmoved (λ _ _ _. r)
  validity_kept (send_self a x r e m b) =
      let w = before a r in
      validity_after b (valid a r (struck a r (s.columns a).send x w.send m) w.awaited w.owed w.noted (owes_not_self a r)) unmoved (λ _ _ _. r)
  validity_kept (send_noted a x r m n b) =
      let w = before a r in
      validity_after b
      (valid a r (with_children a r (without (s.columns a).send x) x (struck a r (s.columns a).send x w.send m)) w.awaited w.owed
      w.noted (owes_not_self a r))
      unmoved (λ _ _ _. r)
  validity_kept (send_message a x r e m n b) =
      let w = before a r in
      let h : x < t.columns = member_lt t.columns (s.columns a).send x w.send m.holds in
      validity_after b
      (valid a r (struck a r (s.columns a).send x w.send m) (insert_lt t.columns (s.columns a).awaited x w.awaited h) w.owed
      w.noted (owes_not_self a r))
      (posted (Message a x (s.columns a).number (s.columns a).doors) s.network
      (λ _. record {
        sender_below = inv.inside a r;
        receiver_below = h;
        apart = λ z. e (sym z);
        not_to_root = λ o _ z. n (subst (In (s.columns a).noted) (sym z) (((inv.locals a r).shuns o).root_sent (subst (In (s.columns a).send) z m)));
      })
      (λ y k. k)) (λ _ _ _. r)
  validity_kept (take_acknowledgement a q k r e taken b) =
      let w = before a r in
      validity_after b
      (valid a r w.send (without_lt t.columns (s.columns a).awaited q w.awaited (arrived taken).sender_below) w.owed
      w.noted (owes_not_self a r))
      (taken_packets taken) (λ _ _ _. r)
  validity_kept (take_stale a q k r e taken b) = validity_after b (before a r) (taken_packets taken) (λ _ _ _. r)
  validity_kept (take_equal a q k d r e taken b) = validity_after b
      (owing_valid a r (insert (s.columns a).owed q)
      (insert_lt t.columns (s.columns a).owed q (before a r).owed (arrived taken).sender_below)
      (λ m. ⊎_elim (owes_not_self a r) (λ y. (arrived taken).apart (sym y)) (insert_cases (s.columns a).owed q m)))
      (taken_packets taken) (λ _ _ _. r)
  validity_kept (take_lower a q k d {l} r lt taken b) = validity_after b (before a r)
      (posted (Acknowledgement a q k) l
      (λ _. record {
        sender_below = (arrived taken).receiver_below;
        receiver_below = (arrived taken).sender_below;
        apart = λ y. (arrived taken).apart (sym y);
        not_to_root = λ _ y. absurd (true≢false (sym y));
      })
      (λ y m. taken_back taken m)) (λ _ _ _. r)
  validity_kept (take_left a q k d x r lt taken m b) = answered a r x m b
  validity_kept (take_higher a q k d r lt taken e b) = validity_after b
      (record {
        send = children_lt t a;
        awaited = pow_pos t.columns;
        owed = single_lt (arrived taken).sender_below;
        noted = (before a r).noted;
        owes_others = absent (single q) a (λ m. (arrived taken).apart (sym (in_single q m)));
        root_whole = λ y. eq-eqb a t.root y;
        sender = (arrived taken).sender_below;
      })
      (taken_packets taken) (λ _ _ _. r)
  validity_kept (acknowledge a x r m o b) = answered a r x m b
  validity_kept (widen a r n m h idle b) =
      validity_after b (sending_valid a r (single_lt tree.root_below) (λ _. refl)) unmoved (λ _ _ _. r)
  validity_kept (note_awaited a j r h n m b) =
      let w = before a r in
      validity_after b
      (valid a r (with_children a r (s.columns a).send j w.send) (struck a r (s.columns a).awaited j w.awaited m) w.owed
      (insert_lt t.columns (s.columns a).noted j w.noted h) (owes_not_self a r))
      unmoved (λ _ _ _. r)
  validity_kept (note_other a j r h n m u b) =
      let w = before a r in
      validity_after b
      (valid a r w.send w.awaited w.owed (insert_lt t.columns (s.columns a).noted j w.noted h) (owes_not_self a r))
      unmoved (λ _ _ _. r)
  validity_kept (halt a r b) =
      let w = before a r in
      validity_after b (sending_valid a r w.send w.root_whole)
      (λ p m. inl (others_back a s.network m)) (λ p m e. absurd (others_receiver a s.network m e))
  validity_kept (back j l noted rest h n nr r k b) = returned j l noted h nr r k b rest.no_packet
