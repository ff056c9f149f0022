-- What a step leaves of a column that a block can hold, a block can hold. Assumes nothing.
use Rattle.std.specs.Prelude.{ℕ, ◌^◌, ◌≤◌, ◌<◌, ◌≡◌, refl, Bool, cond, ltb}
use Rattle.std.proofs.Math.Bool.{true, false}
use mathlib.Core.List.{[]}
use Rattle.std.proofs.Common.{arith, pow_mono}
use Rattle.std.proofs.lemmas.Nat.{xor_lt}
use Rattle.std.proofs.Math.Dec.{eqb}
use borrow.Author.Tests.{eqb-true, eqb-false, leb-false, not-false}
use Rattle.column.specs.laws.RefusalLaws.{passed, earlier_none}
use Rattle.column.specs.Refusals.{first, earlier}
use Rattle.column.specs.Sets.{has, join, without, minus, whole, lowest}
use Rattle.column.specs.laws.SetLaws.{single_lt, join_lt, insert_lt, without_lt, selected_lt}
use Rattle.column.specs.laws.Digits.{lowest_lt}
use Rattle.column.specs.Trees.{is_child, children, choose}
use Rattle.column.specs.laws.TreeLaws.{tree_root}
use Rattle.column.specs.Columns.{highest, validity_refusal, with_sets, with_registers}
use Rattle.column.specs.Packets.{wide, doors_size}
use Rattle.column.specs.laws.PacketLaws.{Fits}
use Rattle.column.specs.laws.StateLaws.{acceptable, validity_refusal_tree, validity_refusal_sixteen, validity_refusal_column}
use Rattle.column.proofs.laws.ChoiceLaws.{validity_refusal_choice}
use Rattle.column.specs.Returns.{struck}
use Rattle.column.specs.Pages.{mask_offset, clear_offset, write_refusal, written, write}
use Rattle.column.specs.Steps.{send_conditions, send_refusal, send_effect, ack_conditions, ack_refusal, ack_effect, acknowledge_lowest, packet_refusal, take_conditions, take_refusal, message_effect, receive_effect, acknowledgement_effect, order_conditions, order_refusal, order_effect, all_conditions, all_refusal, all_effect, note_conditions, note_refusal, note_effect, halt_refusal, halt_effect}
use Rattle.column.specs.Steps as core
use Rattle.column.specs.declared.tree.Tree.{Tree}
use Rattle.column.specs.declared.state.Column.{Column}
use Rattle.column.specs.declared.packet.Packet.{Packet}
use Rattle.column.specs.declared.packet.Packet.TheVariants.{Message, Acknowledgement}
use Rattle.firmware.specs.declared.lone.QuietStep.{QuietStep}
use Rattle.firmware.specs.declared.lone.QuietStep.TheVariants.{Order, All, Note, Halt, Write, Rejoin, Strike}
use Rattle.firmware.specs.declared.lone.PuttingStep.{PuttingStep}
use Rattle.firmware.specs.declared.lone.PuttingStep.TheVariants.{Send, Take, Ack, Next}
use Rattle.firmware.proofs.laws.BlockLaws.{ColumnFits}
use Rattle.firmware.specs.LoneSteps.{or_else, next, running_others, rejoin_conditions, rejoin_refusal, rejoin_effect, rejoin, strike_conditions, strike_refusal, strike}
use Rattle.firmware.specs.laws.LoneLaws.{rejoin_halted}
use Rattle.firmware.specs.inner.StepCalls.{quiet_of, putting_of}
use Rattle.firmware.proofs.laws.PutLaws.{some_of}

-- the column after a step; one that is refused leaves it
abbrev pub after : Column → core.Result → Column
after c (core.accepted d ps left) = d
after c (core.refused n d) = c

-- ---- what a step leaves can be held by a block

module _ (c : Column) where
  unless_fits : (n : ℕ) (effect : core.Result) → ColumnFits c → (n ≡ 0 → ColumnFits (after c effect)) → ColumnFits (after c (core.unless n c effect))
  unless_fits n effect f h = go (eqb n 0) refl
    where
      go : (b : Bool) → eqb n 0 ≡ b → ColumnFits (after c (cond b effect (core.refused n c)))
      go true e = h (eqb-true n 0 e)
      go false e = f

  cond_fits : (b : Bool) (x y : core.Result) → ColumnFits (after c x) → ColumnFits (after c y) → ColumnFits (after c (cond b x y))
  cond_fits true x y f g = f
  cond_fits false x y f g = g

-- those of so many columns that are none of a set are a mask of sixteen
others_mask : (columns halted : ℕ) → columns ≤ 16 → halted < 2 ^ 16 → minus (whole columns) halted < 2 ^ 16
others_mask columns halted h l =
    let small : 2 ^ columns ≤ 2 ^ 16 = pow_mono h in
    let every : whole columns < 2 ^ 16 = omega (arith, small) in
    xor_lt 16 (join (whole columns) halted) halted (join_lt 16 (whole columns) halted every l) l

cond_lt : (b : Bool) (x y k : ℕ) → x < k → y < k → cond b x y < k
cond_lt true x y k h l = h
cond_lt false x y k h l = l

module _ (t : Tree) (i : ℕ) (c : Column) (f : ColumnFits c) where
  sets_fit : (s a o : ℕ) → s < 2 ^ 16 → a < 2 ^ 16 → o < 2 ^ 16 → ColumnFits (with_sets c s a o)
  sets_fit s a o hs ha ho = record { doors = f.doors; number = f.number; send = hs; awaited = ha; owed = ho; noted = f.noted; sender = f.sender }

  children_fit : validity_refusal t i c ≡ 0 → (k : ℕ) → children t k < 2 ^ 16
  children_fit good k = selected_lt (is_child t k) t.columns 16 (validity_refusal_sixteen t i c good)

  lowest_fits : 0 < c.owed → (left : Bool) → ColumnFits (after c (acknowledge_lowest i c left))
  lowest_fits some left =
      sets_fit _ _ _ f.send f.awaited (without_lt 16 c.owed (lowest c.owed) f.owed (lowest_lt 16 c.owed f.owed some))

  order_fits : (doors : ℕ) → doors < 256 ^ doors_size → ColumnFits (after c (core.order t i c doors))
  unfolding order_refusal order_effect
  order_fits doors h = unless_fits c (order_refusal t i c) (order_effect t i c doors) f (λ z. go (earlier_none (validity_refusal t i c) (first (order_conditions t i c)) z))
    where
      go : (validity_refusal t i c ≡ 0) × (first (order_conditions t i c) ≡ 0) → ColumnFits (after c (order_effect t i c doors))
      go e =
          let more = eqb-false c.number highest (passed (order_conditions t i c) tt e.1).1.1.1.1.0 in
          record {
            doors = h;
            number = omega (arith, f.number, more);
            send = children_fit e.0 i;
            awaited = f.awaited;
            owed = f.owed;
            noted = f.noted;
            sender = f.sender;
          }

  send_fits : ColumnFits (after c (core.send t i c))
  unfolding send_refusal send_effect
  send_fits = unless_fits c (send_refusal t i c) (send_effect t i c) f (λ z. go (earlier_none (validity_refusal t i c) (first (send_conditions t i c)) z))
    where
      go : (validity_refusal t i c ≡ 0) × (first (send_conditions t i c) ≡ 0) → ColumnFits (after c (send_effect t i c))
      go e =
          let k = choose t c.send in
          let below = validity_refusal_choice t i c e.0 (some_of c.send (passed (send_conditions t i c) tt e.1).1.0) in
          let rest : without c.send k < 2 ^ 16 = without_lt 16 c.send k f.send below in
          cond_fits c (eqb k i) _ _ (sets_fit _ _ _ rest f.awaited f.owed)
          (cond_fits c (has c.noted k) _ _ (sets_fit _ _ _ (join_lt 16 _ _ rest (children_fit e.0 k)) f.awaited f.owed)
          (sets_fit _ _ _ rest (insert_lt 16 c.awaited k f.awaited below) f.owed))

  take_fits : (p : Packet) → Fits wide p → ColumnFits (after c (core.take t i c p))
  unfolding take_refusal message_effect receive_effect acknowledgement_effect
  take_fits (Acknowledgement from to number) g =
      unless_fits c (take_refusal t i c (Acknowledgement from to number)) (acknowledgement_effect c from number) f (λ z. go (earlier_none (validity_refusal t i c) _ z))
    where
      go : (validity_refusal t i c ≡ 0) × (earlier (packet_refusal t (Acknowledgement from to number)) (first (take_conditions t i c (Acknowledgement from to number))) ≡ 0)
          → ColumnFits (after c (acknowledgement_effect c from number))
      go e =
          let a = acceptable t (Acknowledgement from to number) (earlier_none (packet_refusal t (Acknowledgement from to number)) _ e.1).0 in
          cond_fits c (eqb number c.number) _ _
          (sets_fit _ _ _ f.send (without_lt 16 c.awaited from f.awaited (omega (arith, a.sender_below, validity_refusal_sixteen t i c e.0))) f.owed)
          f
  take_fits (Message from to number doors) g =
      unless_fits c (take_refusal t i c (Message from to number doors)) (message_effect t i c from number doors) f (λ z. go (earlier_none (validity_refusal t i c) _ z))
    where
      higher : validity_refusal t i c ≡ 0 → from < 16 → (b : Bool) → eqb c.owed 0 ≡ b
          → ColumnFits (after c (cond b (receive_effect t i c from number doors) (acknowledge_lowest i c true)))
      higher good h true e = record {
        doors = g.doors;
        number = g.number;
        send = children_fit good i;
        awaited = omega arith;
        owed = single_lt h;
        noted = f.noted;
        sender = omega (arith, h);
      }
      higher good h false e = lowest_fits (some_of c.owed e) true

      go : (validity_refusal t i c ≡ 0) × (earlier (packet_refusal t (Message from to number doors)) (first (take_conditions t i c (Message from to number doors))) ≡ 0)
          → ColumnFits (after c (message_effect t i c from number doors))
      go e =
          let a = acceptable t (Message from to number doors) (earlier_none (packet_refusal t (Message from to number doors)) _ e.1).0 in
          let below : from < 16 = omega (arith, a.sender_below, validity_refusal_sixteen t i c e.0) in
          cond_fits c (eqb number c.number) _ _ (sets_fit _ _ _ f.send f.awaited (insert_lt 16 c.owed from f.owed below))
          (cond_fits c (ltb number c.number) _ _ f (higher e.0 below (eqb c.owed 0) refl))

  ack_fits : ColumnFits (after c (core.ack t i c))
  unfolding ack_refusal ack_effect
  ack_fits = unless_fits c (ack_refusal t i c) (ack_effect i c) f (λ z. go (earlier_none (validity_refusal t i c) (first (ack_conditions t i c)) z))
    where
      go : (validity_refusal t i c ≡ 0) × (first (ack_conditions t i c) ≡ 0) → ColumnFits (after c (ack_effect i c))
      go e = lowest_fits (some_of c.owed (passed (ack_conditions t i c) tt e.1).1.0) false

  all_fits : ColumnFits (after c (core.all t i c))
  unfolding all_refusal all_effect
  all_fits = unless_fits c (all_refusal t i c) (all_effect t c) f (λ z. go (earlier_none (validity_refusal t i c) (first (all_conditions t i c)) z))
    where
      go : (validity_refusal t i c ≡ 0) × (first (all_conditions t i c) ≡ 0) → ColumnFits (after c (all_effect t c))
      go e = record {
        doors = f.doors;
        number = f.number;
        send = single_lt (tree_root t (validity_refusal_tree t i c e.0));
        awaited = f.awaited;
        owed = f.owed;
        noted = f.noted;
        sender = f.sender;
      }

  note_fits : (j : ℕ) → ColumnFits (after c (core.note t i c j))
  unfolding note_refusal note_effect
  note_fits j = unless_fits c (note_refusal t i c j) (note_effect t c j) f (λ z. go (earlier_none (validity_refusal t i c) (first (note_conditions t i c j)) z))
    where
      go : (validity_refusal t i c ≡ 0) × (first (note_conditions t i c j) ≡ 0) → ColumnFits (after c (note_effect t c j))
      go e =
          let known = leb-false t.columns j (passed (note_conditions t i c j) tt e.1).0 in
          let below : j < 16 = omega (arith, known, validity_refusal_sixteen t i c e.0) in
          record {
            doors = f.doors;
            number = f.number;
            send = cond_lt (has c.awaited j) _ _ (2 ^ 16) (join_lt 16 c.send _ f.send (children_fit e.0 j)) f.send;
            awaited = cond_lt (has c.awaited j) _ _ (2 ^ 16) (without_lt 16 c.awaited j f.awaited below) f.awaited;
            owed = f.owed;
            noted = insert_lt 16 c.noted j f.noted below;
            sender = f.sender;
          }

  halt_fits : ColumnFits (after c (core.halt t i c))
  unfolding halt_effect
  halt_fits =
      unless_fits c (halt_refusal t i c) (halt_effect c) f
      (λ z. record { doors = f.doors; number = f.number; send = f.send; awaited = f.awaited; owed = f.owed; noted = f.noted; sender = f.sender })

  registers_fit : (mask pending : ℕ) → ColumnFits (with_registers c mask pending)
  registers_fit mask pending =
      record { doors = f.doors; number = f.number; send = f.send; awaited = f.awaited; owed = f.owed; noted = f.noted; sender = f.sender }

  page_fits : (offset value : ℕ) → ColumnFits (after c (write t i c offset value))
  unfolding written
  page_fits offset value =
      unless_fits c (write_refusal t i c offset) (core.accepted (written c offset value) [] false) f (λ z. go (eqb offset mask_offset) (eqb offset clear_offset))
    where
      go : (a b : Bool) → ColumnFits (cond a (with_registers c value c.pending) (cond b (with_registers c c.mask (minus c.pending value)) c))
      go true b = registers_fit value c.pending
      go false true = registers_fit c.mask (minus c.pending value)
      go false false = f

  -- the column that is copied from is one of those that run
  rejoin_copied : (copied halted : ℕ) → rejoin_refusal t i c copied halted ≡ 0 → copied < 16
  unfolding rejoin_refusal
  rejoin_copied copied halted z =
      let others = running_others t.columns halted i in
      let q = earlier_none (validity_refusal t i c) (first (rejoin_conditions t i c copied halted)) z in
      let p = passed (rejoin_conditions t i c copied halted) tt q.1 in
      let some : eqb others 0 ≡ false = p.1.1.1.1.1.0 in
      let same : copied ≡ lowest others = eqb-true copied (lowest others) (not-false _ (rw some at p.1.1.0)) in
      let mask : others < 2 ^ 16 = without_lt 16 (minus (whole t.columns) halted) i (others_mask t.columns halted (validity_refusal_sixteen t i c q.0) (rejoin_halted t i c copied halted z)) (validity_refusal_column t i c q.0) in
      omega (arith, same, lowest_lt 16 others mask (some_of others some))

  rejoin_fits : (copied number doors halted : ℕ) → number < 256 ^ 4 → doors < 256 ^ doors_size → ColumnFits (after c (rejoin t i c copied number doors halted))
  unfolding rejoin_effect
  rejoin_fits copied number doors halted hn hd =
      unless_fits c (rejoin_refusal t i c copied halted) (rejoin_effect t c copied number doors halted) f
      (λ z. record {
        doors = hd;
        number = hn;
        send = omega arith;
        awaited = omega arith;
        owed = omega arith;
        noted = rejoin_halted t i c copied halted z;
        sender = omega (arith, rejoin_copied copied halted z);
      })

  strike_fits : (back : ℕ) → ColumnFits (after c (strike t i c back))
  unfolding strike_refusal
  strike_fits back = unless_fits c (strike_refusal t i c back) (core.accepted (struck c back) [] false) f (λ z. go (earlier_none (validity_refusal t i c) (first (strike_conditions t i c back)) z))
    where
      go : (validity_refusal t i c ≡ 0) × (first (strike_conditions t i c back) ≡ 0) → ColumnFits (struck c back)
      go e =
          let known = leb-false t.columns back (passed (strike_conditions t i c back) tt e.1).0 in
          record {
            doors = f.doors;
            number = f.number;
            send = f.send;
            awaited = f.awaited;
            owed = f.owed;
            noted = without_lt 16 c.noted back f.noted (omega (arith, known, validity_refusal_sixteen t i c e.0));
            sender = f.sender;
          }

  next_fits : ColumnFits (after c (next t i c))
  unfolding or_else
  next_fits = first_of (core.send t i c) _ send_fits (first_of (core.ack t i c) (core.all t i c) ack_fits all_fits)
    where
      first_of : (x y : core.Result) → ColumnFits (after c x) → ColumnFits (after c y) → ColumnFits (after c (or_else x y))
      first_of (core.accepted d ps left) y h k = h
      first_of (core.refused n d) y h k = k

-- what a step is given, as it comes from bytes
abbrev pub QuietFits : QuietStep → Type 0
QuietFits (Order doors) = doors < 256 ^ doors_size
QuietFits All = Unit {0}
QuietFits (Note j) = Unit {0}
QuietFits Halt = Unit {0}
QuietFits (Write offset value) = Unit {0}
QuietFits (Rejoin back) = (back.number < 256 ^ 4) × (back.doors < 256 ^ doors_size)
QuietFits (Strike back) = Unit {0}

pub quiet_fits : (x : QuietStep) (t : Tree) (i : ℕ) (c : Column) → ColumnFits c → QuietFits x → ColumnFits (after c (quiet_of x t i c))
quiet_fits (Order doors) t i c f h = order_fits t i c f doors h
quiet_fits All t i c f h = all_fits t i c f
quiet_fits (Note j) t i c f h = note_fits t i c f j
quiet_fits Halt t i c f h = halt_fits t i c f
quiet_fits (Write offset value) t i c f h = page_fits t i c f offset value
quiet_fits (Rejoin back) t i c f h = rejoin_fits t i c f back.copied back.number back.doors back.halted h.0 h.1
quiet_fits (Strike back) t i c f h = strike_fits t i c f back

abbrev pub PuttingFits : PuttingStep → Type 0
PuttingFits Send = Unit {0}
PuttingFits (Take p) = Fits wide p
PuttingFits Ack = Unit {0}
PuttingFits Next = Unit {0}

pub putting_fits : (x : PuttingStep) (t : Tree) (i : ℕ) (c : Column) → ColumnFits c → PuttingFits x → ColumnFits (after c (putting_of x t i c))
putting_fits Send t i c f h = send_fits t i c f
putting_fits (Take p) t i c f h = take_fits t i c f p h
putting_fits Ack t i c f h = ack_fits t i c f
putting_fits Next t i c f h = next_fits t i c f
