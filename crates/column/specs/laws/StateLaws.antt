-- What row 4's tests decide: a law for each of its conditions, both ways.
-- Assumes nothing.
use Rattle.std.specs.Prelude.{ℕ, ◌^◌, ◌≤◌, ◌<◌, ◌≡◌, true, false, not, ◌&&◌, ◌⊎◌, eqb}
use Rattle.std.proofs.Common.{sym, ap, ◌∙◌, true≢false, inl, inr, arith, lt_of_lt_of_le, pow_mono}
use borrow.Author.Tests.{eq-eqb, ne_eqb, eqb-true, eqb-false, leb-false, lt-leb, le-leb, not-false}
use Rattle.column.specs.laws.Cases.{truth, and_none, none_and}
use Rattle.column.specs.laws.RefusalLaws.{passed, passes, earlier_none}
use Rattle.column.specs.Sets.{has, lowest, within}
use Rattle.column.specs.laws.SetLaws.{within_lt, lt_within, member_lt, members_lt}
use Rattle.column.specs.Trees.{tree_refusal}
use Rattle.column.specs.laws.TreeLaws.{tree_sixteen}
use Rattle.column.specs.laws.Digits.{lowest_lt}
use Rattle.column.specs.Packets.{is_message, sender, receiver}
use Rattle.column.specs.Columns.{state_conditions, state_refusal, validity_refusal}
use Rattle.column.specs.Steps.{packet_conditions, packet_refusal, order_refusal, take_refusal, note_refusal}
use Rattle.column.specs.declared.tree.Tree.{Tree}
use Rattle.column.specs.declared.state.Column.{Column}
use Rattle.column.specs.declared.packet.Packet.{Packet}

-- ---- the state of a column

-- what row 4 asks of the state of column i
pub record Sound (t : Tree) (i : ℕ) (c : Column) : Type 0 where
  -- "a column number or set member not below columns"
  pub below : i < t.columns
  pub send_below : (j : ℕ) → has c.send j ≡ true → j < t.columns
  pub awaited_below : (j : ℕ) → has c.awaited j ≡ true → j < t.columns
  pub owed_below : (j : ℕ) → has c.owed j ≡ true → j < t.columns
  pub noted_below : (j : ℕ) → has c.noted j ≡ true → j < t.columns
  -- "a column owing itself"
  pub owes_others : has c.owed i ≡ false
  -- "a root with a goal other than the whole bank"
  pub root_whole : i ≡ t.root → c.whole ≡ true
  -- who sent its record is "a column number" too
  pub sender_below : c.sender < t.columns

-- what the types of the code say: sets are masks of sixteen columns
pub record Masks (c : Column) : Type 0 where
  pub send : c.send < 2 ^ 16
  pub awaited : c.awaited < 2 ^ 16
  pub owed : c.owed < 2 ^ 16
  pub noted : c.noted < 2 ^ 16

members : (m n : ℕ) → not (within m n) ≡ false → (j : ℕ) → has m j ≡ true → j < n
members m n e j h = member_lt n m j (within_lt m n (not-false (within m n) e)) h

inside : (m n : ℕ) → m < 2 ^ 16 → ((j : ℕ) → has m j ≡ true → j < n) → not (within m n) ≡ false
inside m n h f = ap not (lt_within m n (members_lt 16 n m h f))

pub sound : (t : Tree) (i : ℕ) (c : Column) → state_refusal t i c ≡ 0 → Sound t i c
unfolding state_refusal
sound t i c e =
    let p = passed (state_conditions t i c) tt e in
    let n = t.columns in
    record {
      below = leb-false n i p.0;
      send_below = members c.send n p.1.0;
      awaited_below = members c.awaited n p.1.1.0;
      owed_below = members c.owed n p.1.1.1.0;
      noted_below = members c.noted n p.1.1.1.1.0;
      owes_others = p.1.1.1.1.1.0;
      root_whole = λ r. not-false c.whole (and_none (eqb i t.root) (not c.whole) p.1.1.1.1.1.1.0 (eq-eqb i t.root r));
      sender_below = leb-false n c.sender p.1.1.1.1.1.1.1.0;
    }

pub sound_passes : (t : Tree) (i : ℕ) (c : Column) → Masks c → Sound t i c → state_refusal t i c ≡ 0
unfolding state_refusal
sound_passes t i c m s =
    let n = t.columns in
    passes (state_conditions t i c) (
      lt-leb n i s.below,
      (
        inside c.send n m.send s.send_below,
        (
          inside c.awaited n m.awaited s.awaited_below,
          (
            inside c.owed n m.owed s.owed_below,
            (
              inside c.noted n m.noted s.noted_below,
              (
                s.owes_others,
                (
                  none_and (eqb i t.root) (not c.whole) (λ r. ap not (s.root_whole (eqb-true i t.root r))),
                  (lt-leb n c.sender s.sender_below, tt),
                ),
              ),
            ),
          ),
        ),
      ),
    )

-- ---- a packet

-- what row 4 asks of a packet
pub record Acceptable (t : Tree) (p : Packet) : Type 0 where
  -- "an end not below columns, equal ends"
  pub sender_below : sender p < t.columns
  pub receiver_below : receiver p < t.columns
  pub apart : sender p ≡ receiver p → ⊥
  -- "a message to the root"; "Under sender a running root may also be sent a message, which is then not 4"
  pub not_to_root : t.watch ≡ false → is_message p ≡ true → receiver p ≡ t.root → ⊥

pub acceptable : (t : Tree) (p : Packet) → packet_refusal t p ≡ 0 → Acceptable t p
unfolding packet_refusal
acceptable t p e =
    let q = passed (packet_conditions t p) tt e in
    record {
      sender_below = leb-false t.columns (sender p) q.0;
      receiver_below = leb-false t.columns (receiver p) q.1.0;
      apart = eqb-false (sender p) (receiver p) q.1.1.0;
      not_to_root =
          λ o m r.
          let e = and_none (is_message p) (eqb (receiver p) t.root && not t.watch) q.1.1.1.0 m in
          true≢false (sym (not-false t.watch (and_none (eqb (receiver p) t.root) (not t.watch) e (eq-eqb (receiver p) t.root r))) ∙ o);
    }

pub acceptable_passes : (t : Tree) (p : Packet) → Acceptable t p → packet_refusal t p ≡ 0
unfolding packet_refusal
acceptable_passes t p a =
    passes (packet_conditions t p) (
      lt-leb t.columns (sender p) a.sender_below,
      (
        lt-leb t.columns (receiver p) a.receiver_below,
        (
          ne_eqb (sender p) (receiver p) a.apart,
          (
            none_and (is_message p) (eqb (receiver p) t.root && not t.watch)
                (λ m. none_and (eqb (receiver p) t.root) (not t.watch) (λ r. closed m (eqb-true (receiver p) t.root r) (truth t.watch))),
            tt,
          ),
        ),
      ),
    )
  where
    closed : is_message p ≡ true → receiver p ≡ t.root → (t.watch ≡ true) ⊎ (t.watch ≡ false) → not t.watch ≡ false
    closed m r (inl o) = ap not o
    closed m r (inr o) = absurd (a.not_to_root o m r)

-- ---- the steps' own conditions of row 4

module _ (t : Tree) (i : ℕ) (c : Column) (good : validity_refusal t i c ≡ 0) where
  -- "an order to a lone core that isn't the root"
  pub order_elsewhere : (i ≡ t.root → ⊥) → order_refusal t i c ≡ 4
  unfolding order_refusal
  order_elsewhere n = rw (eq-eqb (validity_refusal t i c) 0 good, ne_eqb i t.root n)

  -- "another addressee than the lone core it is given to"
  pub take_elsewhere : (p : Packet) → packet_refusal t p ≡ 0 → (receiver p ≡ i → ⊥) → take_refusal t i c p ≡ 4
  unfolding take_refusal
  take_elsewhere p e n = rw (eq-eqb (validity_refusal t i c) 0 good, eq-eqb (packet_refusal t p) 0 e, ne_eqb (receiver p) i n)

  -- "column not below columns (both are tested in note)"
  pub note_beyond : (j : ℕ) → t.columns ≤ j → note_refusal t i c j ≡ 4
  unfolding note_refusal
  note_beyond j h = rw (eq-eqb (validity_refusal t i c) 0 good, le-leb t.columns j h)

  pub validity_refusal_tree : tree_refusal t ≡ 0
  validity_refusal_tree = (earlier_none (tree_refusal t) (state_refusal t i c) good).0

  pub validity_refusal_sound : Sound t i c
  validity_refusal_sound = sound t i c (earlier_none (tree_refusal t) (state_refusal t i c) good).1

  pub validity_refusal_sixteen : t.columns ≤ 16
  validity_refusal_sixteen = tree_sixteen t validity_refusal_tree

  pub validity_refusal_column : i < 16
  validity_refusal_column = omega (arith, validity_refusal_sixteen, validity_refusal_sound.below)

  pub validity_refusal_send : c.send < 2 ^ t.columns
  unfolding state_refusal
  validity_refusal_send =
      let p = passed (state_conditions t i c) tt (earlier_none (tree_refusal t) (state_refusal t i c) good).1 in
      within_lt c.send t.columns (not-false (within c.send t.columns) p.1.0)

  pub validity_refusal_owed : c.owed < 2 ^ t.columns
  unfolding state_refusal
  validity_refusal_owed =
      let p = passed (state_conditions t i c) tt (earlier_none (tree_refusal t) (state_refusal t i c) good).1 in
      within_lt c.owed t.columns (not-false (within c.owed t.columns) p.1.1.1.0)

  -- the one that an acknowledgement is for
  pub validity_refusal_lowest : 0 < c.owed → lowest c.owed < 16
  validity_refusal_lowest some = lowest_lt 16 c.owed (lt_of_lt_of_le validity_refusal_owed (pow_mono validity_refusal_sixteen)) some
