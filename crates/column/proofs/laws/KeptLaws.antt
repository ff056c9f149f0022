-- Every step keeps row 4 of its column: what it refuses of a state, no accepted step brings about. Assumes nothing.
use Rattle.std.specs.Prelude.{ℕ, ◌^◌, ◌<◌, ◌≡◌, Bool, ◌&&◌, cond, eqb, ltb}
use Rattle.std.proofs.Math.Path.{refl, ap₂}
use Rattle.std.proofs.Common.{sym, ap, ◌∙◌, arith, lt_of_lt_of_le, pow_mono}
use Rattle.std.proofs.Math.Bool.{true, false, not, ◌||◌, and-false}
use Rattle.std.proofs.Math.Pow.{pow_pos}
use borrow.Author.Tests.{ne_eqb, eqb-true, eqb-false, leb-false, lt-leb, not-false}
use Rattle.column.specs.laws.RefusalLaws.{passed, passes, earlier_none}
use Rattle.column.specs.Refusals.{first}
use Rattle.column.specs.Sets.{has, without, lowest, within}
use Rattle.column.specs.laws.SetLaws.{has_single, has_insert, has_without, single_lt, join_lt, insert_lt, without_lt, within_lt, lt_within, member_lt}
use Rattle.column.specs.laws.Digits.{lowest_member}
use Rattle.column.specs.Packets.{sender, receiver}
use Rattle.column.specs.Trees.{tree_refusal, choose, children}
use Rattle.column.specs.laws.TreeLaws.{check_exact}
use Rattle.column.specs.laws.ChildLaws.{children_lt}
use Rattle.column.proofs.laws.ChoiceLaws.{choose_lt}
use Rattle.column.specs.Columns.{state_conditions, state_refusal, validity_refusal, with_sets}
use Rattle.column.specs.laws.StateLaws.{acceptable, validity_refusal_tree, validity_refusal_sixteen}
use Rattle.column.specs.Steps.{Result, accepted, refused, unless, packet_refusal, order_refusal, order_effect, send_conditions, send_refusal, send_effect, take_conditions, take_refusal, acknowledgement_effect, acknowledge_lowest, receive_effect, message_effect, take_effect, ack_conditions, ack_refusal, ack_effect, all_refusal, all_effect, note_conditions, note_refusal, note_effect}
use Rattle.column.specs.declared.tree.Tree.{Tree}
use Rattle.column.specs.declared.state.Column.{Column}
use Rattle.column.specs.declared.packet.Packet.{Packet}
use Rattle.column.specs.declared.packet.Packet.TheVariants.{Message, Acknowledgement}

-- the column after an accepted step passes row 4
abbrev pub Keeps : Tree → ℕ → Result → Type 0
Keeps t i (accepted d packets left) = state_refusal t i d ≡ 0
Keeps t i (refused n d) = Unit {0}

module _ (t : Tree) (i : ℕ) where
  keeps_cond : (b : Bool) (r q : Result) → (b ≡ true → Keeps t i r) → (b ≡ false → Keeps t i q) → Keeps t i (cond b r q)
  keeps_cond true r q h k = h refl
  keeps_cond false r q h k = k refl

  pub keeps_unless : (n : ℕ) (c : Column) (effect : Result) → (n ≡ 0 → Keeps t i effect) → Keeps t i (unless n c effect)
  keeps_unless n c effect h = keeps_cond (eqb n 0) effect (refused n c) (λ e. h (eqb-true n 0 e)) (λ e. tt)

-- ---- row 4 with sets as numbers

abbrev Inside : Tree → ℕ → Type 0
Inside t m = m < 2 ^ t.columns

record Fits (t : Tree) (i : ℕ) (c : Column) : Type 0 where
  below : i < t.columns
  send : Inside t c.send
  awaited : Inside t c.awaited
  owed : Inside t c.owed
  noted : Inside t c.noted
  others : has c.owed i ≡ false
  goal : (eqb i t.root && not c.whole) ≡ false
  sent_by : c.sender < t.columns

module _ (t : Tree) (i : ℕ) (c : Column) where
  inside : (m : ℕ) → not (within m t.columns) ≡ false → Inside t m
  inside m e = within_lt m t.columns (not-false (within m t.columns) e)

  within_all : (m : ℕ) → Inside t m → not (within m t.columns) ≡ false
  within_all m h = ap not (lt_within m t.columns h)

  fits : state_refusal t i c ≡ 0 → Fits t i c
  unfolding state_refusal
  fits e =
      let p = passed (state_conditions t i c) tt e in
      record {
        below = leb-false t.columns i p.0;
        send = inside c.send p.1.0;
        awaited = inside c.awaited p.1.1.0;
        owed = inside c.owed p.1.1.1.0;
        noted = inside c.noted p.1.1.1.1.0;
        others = p.1.1.1.1.1.0;
        goal = p.1.1.1.1.1.1.0;
        sent_by = leb-false t.columns c.sender p.1.1.1.1.1.1.1.0;
      }

  fits_passes : Fits t i c → state_refusal t i c ≡ 0
  unfolding state_refusal
  fits_passes f =
      let n = t.columns in
      passes (state_conditions t i c) (
        lt-leb n i f.below,
        (
          within_all c.send f.send,
          (
            within_all c.awaited f.awaited,
            (within_all c.owed f.owed, (within_all c.noted f.noted, (f.others, (f.goal, (lt-leb n c.sender f.sent_by, tt))))),
          ),
        ),
      )

-- ---- the effects

module _ (t : Tree) (i : ℕ) (c : Column) (good : validity_refusal t i c ≡ 0) where
  now : Fits t i c
  now = fits t i c (earlier_none (tree_refusal t) (state_refusal t i c) good).1

  -- other sets to send to, to await and to owe
  sets_kept : (s a o : ℕ) → Inside t s → Inside t a → Inside t o → has o i ≡ false → state_refusal t i (with_sets c s a o) ≡ 0
  sets_kept s a o hs ha ho others =
      let f = now in
      fits_passes t i (with_sets c s a o) (record {
        below = f.below;
        send = hs;
        awaited = ha;
        owed = ho;
        noted = f.noted;
        others = others;
        goal = f.goal;
        sent_by = f.sent_by;
      })

  order_kept : (doors : ℕ) → Keeps t i (order_effect t i c doors)
  unfolding order_effect
  order_kept doors =
      let f = now in
      fits_passes t i _ (record {
        below = f.below;
        send = children_lt t i;
        awaited = f.awaited;
        owed = f.owed;
        noted = f.noted;
        others = f.others;
        goal = f.goal;
        sent_by = f.sent_by;
      })

  send_kept : first (send_conditions t i c) ≡ 0 → Keeps t i (send_effect t i c)
  unfolding send_effect
  send_kept z =
      let f = now in
      let k = choose t c.send in
      let some : 0 < c.send = omega (arith, eqb-false c.send 0 (passed (send_conditions t i c) tt z).1.0) in
      let low : k < t.columns = choose_lt t (validity_refusal_tree t i c good) c.send f.send some in
      let rest : Inside t (without c.send k) = without_lt t.columns c.send k f.send low in
      keeps_cond t i (eqb k i) _ _ (λ e. sets_kept _ _ _ rest f.awaited f.owed f.others)
      (λ e.
      keeps_cond t i (has c.noted k) _ _
      (λ e. sets_kept _ _ _ (join_lt t.columns _ (children t k) rest (children_lt t k)) f.awaited f.owed f.others)
      (λ e. sets_kept _ _ _ rest (insert_lt t.columns c.awaited k f.awaited low) f.owed f.others))

  -- the lowest owed is struck out
  lowest_kept : eqb c.owed 0 ≡ false → (left : Bool) → Keeps t i (acknowledge_lowest i c left)
  lowest_kept e left =
      let f = now in
      let k = lowest c.owed in
      let some : 0 < c.owed = omega (arith, eqb-false c.owed 0 e) in
      let member = lowest_member 16 c.owed (lt_of_lt_of_le f.owed (pow_mono (validity_refusal_sixteen t i c good))) some in
      sets_kept _ _ _ f.send f.awaited (without_lt t.columns c.owed k f.owed (member_lt t.columns c.owed k f.owed member))
      (has_without c.owed k i ∙ ap (λ (b : Bool). b && not (eqb i k)) f.others)

  ack_kept : first (ack_conditions t i c) ≡ 0 → Keeps t i (ack_effect i c)
  unfolding ack_effect
  ack_kept z = lowest_kept (passed (ack_conditions t i c) tt z).1.0 false

  all_kept : Keeps t i (all_effect t c)
  unfolding all_effect
  all_kept =
      let f = now in
      fits_passes t i _ (record {
        below = f.below;
        send = single_lt ((check_exact t).0 (validity_refusal_tree t i c good)).root_below;
        awaited = f.awaited;
        owed = f.owed;
        noted = f.noted;
        others = f.others;
        goal = and-false (eqb i t.root);
        sent_by = f.sent_by;
      })

  note_kept : (j : ℕ) → first (note_conditions t i c j) ≡ 0 → Keeps t i (note_effect t c j)
  unfolding note_effect
  note_kept j z =
      let f = now in
      let low : j < t.columns = leb-false t.columns j (passed (note_conditions t i c j) tt z).0 in
      fits_passes t i _ (record {
        below = f.below;
        send = either (has c.awaited j) _ _ (join_lt t.columns c.send (children t j) f.send (children_lt t j)) f.send;
        awaited = either (has c.awaited j) _ _ (without_lt t.columns c.awaited j f.awaited low) f.awaited;
        owed = f.owed;
        noted = insert_lt t.columns c.noted j f.noted low;
        others = f.others;
        goal = f.goal;
        sent_by = f.sent_by;
      })
    where
      either : (b : Bool) (m n : ℕ) → Inside t m → Inside t n → Inside t (cond b m n)
      either true m n h k = h
      either false m n h k = k

  -- ---- a packet taken

  module _ (from : ℕ) (low : from < t.columns) (other : from ≡ i → ⊥) where
    apart : eqb i from ≡ false
    apart = ne_eqb i from (λ e. other (sym e))

    receive_kept : (number doors : ℕ) → Keeps t i (receive_effect t i c from number doors)
    unfolding receive_effect
    receive_kept number doors =
        let f = now in
        fits_passes t i _ (record {
          below = f.below;
          send = children_lt t i;
          awaited = pow_pos t.columns;
          owed = single_lt low;
          noted = f.noted;
          others = has_single from i ∙ apart;
          goal = whole (eqb i t.root);
          sent_by = low;
        })
      where
        whole : (b : Bool) → (b && not b) ≡ false
        whole true = refl
        whole false = refl

    message_kept : (number doors : ℕ) → Keeps t i (message_effect t i c from number doors)
    unfolding message_effect
    message_kept number doors =
        let f = now in
        keeps_cond t i (eqb number c.number) _ _
        (λ e.
        sets_kept _ _ _ f.send f.awaited (insert_lt t.columns c.owed from f.owed low)
        (has_insert c.owed from i ∙ ap₂ ◌||◌ f.others apart))
        (λ e.
        keeps_cond t i (ltb number c.number) _ _ (λ e. fits_passes t i c f)
        (λ e. keeps_cond t i (eqb c.owed 0) _ _ (λ e. receive_kept number doors) (λ e. lowest_kept e true)))

    acknowledgement_kept : (number : ℕ) → Keeps t i (acknowledgement_effect c from number)
    unfolding acknowledgement_effect
    acknowledgement_kept number =
        let f = now in
        keeps_cond t i (eqb number c.number) _ _
        (λ e. sets_kept _ _ _ f.send (without_lt t.columns c.awaited from f.awaited low) f.owed f.others) (λ e. fits_passes t i c f)

  take_kept : (p : Packet) → packet_refusal t p ≡ 0 → first (take_conditions t i c p) ≡ 0 → Keeps t i (take_effect t i c p)
  take_kept p fit z =
      let a = acceptable t p fit in
      let own = eqb-true (receiver p) i (not-false _ (passed (take_conditions t i c p) tt z).0) in
      go p a.sender_below (λ e. a.apart (e ∙ sym own))
    where
      go : (p : Packet) → sender p < t.columns → (sender p ≡ i → ⊥) → Keeps t i (take_effect t i c p)
      go (Message from to number doors) low other = message_kept from low other number doors
      go (Acknowledgement from to number) low other = acknowledgement_kept from low other number

-- ---- the steps: each where its refusal is 0

module _ (t : Tree) (i : ℕ) (c : Column) where
  pub order_keeps : (doors : ℕ) → order_refusal t i c ≡ 0 → Keeps t i (order_effect t i c doors)
  unfolding order_refusal
  order_keeps doors z = order_kept t i c (earlier_none (validity_refusal t i c) _ z).0 doors

  pub send_keeps : send_refusal t i c ≡ 0 → Keeps t i (send_effect t i c)
  unfolding send_refusal
  send_keeps z = let q = earlier_none (validity_refusal t i c) _ z in send_kept t i c q.0 q.1

  pub take_keeps : (p : Packet) → take_refusal t i c p ≡ 0 → Keeps t i (take_effect t i c p)
  unfolding take_refusal
  take_keeps p z =
      let q = earlier_none (validity_refusal t i c) _ z in
      let own = earlier_none (packet_refusal t p) _ q.1 in
      take_kept t i c q.0 p own.0 own.1

  pub ack_keeps : ack_refusal t i c ≡ 0 → Keeps t i (ack_effect i c)
  unfolding ack_refusal
  ack_keeps z = let q = earlier_none (validity_refusal t i c) _ z in ack_kept t i c q.0 q.1

  pub all_keeps : all_refusal t i c ≡ 0 → Keeps t i (all_effect t c)
  unfolding all_refusal
  all_keeps z = all_kept t i c (earlier_none (validity_refusal t i c) _ z).0

  pub note_keeps : (j : ℕ) → note_refusal t i c j ≡ 0 → Keeps t i (note_effect t c j)
  unfolding note_refusal
  note_keeps j z = let q = earlier_none (validity_refusal t i c) _ z in note_kept t i c q.0 j q.1
