-- An answer says whether a call is refused: below `refused_by` it is not, and from there on every lent byte is as it was. Assumes nothing.
use Rattle.std.specs.Prelude.{ℕ, ◌+◌, ◌≤◌, ◌<◌, ◌≡◌, refl, Bool, ◌&&◌, cond, ◌⊎◌, List, [], ◌∷◌, eqb, leb, ltb, take}
use Rattle.std.proofs.Math.Path.{ap}
use Rattle.std.proofs.Math.Bool.{true, false}
use Rattle.std.proofs.Math.Logic.{inl, inr}
use Rattle.std.proofs.Common.{arith, eqb-true}
use Rattle.std.proofs.Math.ListN.{length}
use Rattle.column.specs.laws.RefusalLaws.{earlier_none}
use Rattle.column.specs.Refusals.{Given, given, refused}
use Rattle.column.specs.Columns.{validity_refusal, fresh_given}
use Rattle.column.specs.Packets.{sender, receiver, number_of, low_value, narrow, wide, bytes_in, bytes_of, Part, Wrote, wrote, wrote_none, read, write}
use Rattle.column.specs.laws.PacketLaws.{read_used, length_bytes, write_length, write_read, good_ends_lem}
use Rattle.column.specs.laws.NumberLaws.{Bytes}
use Rattle.column.specs.Frames.{frame_packets}
use Rattle.column.specs.laws.FrameLaws.{frame_count}
use Rattle.column.specs.Conversions.{narrow_highest, alone_in, widened, narrowed, convert}
use Rattle.column.specs.laws.StateLaws.{validity_refusal_column}
use Rattle.column.specs.Steps as core
use Rattle.column.specs.declared.tree.Tree.{Tree}
use Rattle.column.specs.declared.state.Column.{Column}
use Rattle.column.specs.declared.packet.Packet.{Packet}
use Rattle.text.specs.Text.{written}
use Rattle.list.specs.Closing.{list_text, placed, lone_refusal, lone_list}
use Rattle.list.specs.laws.ClosingLaws.{list_longest}
use Rattle.bank.specs.Steps as bank
use Rattle.table.specs.Tables.{Placed, read_table}
use Rattle.journals.specs.Journals.{sent_key, got_key}
use Rattle.journals.specs.PacketLines.{sent_line, got_line, owner_bytes, line_bytes}
use Rattle.journals.specs.declared.line.Line.{Line}
use Rattle.firmware.specs.inner.JournalTexts.{kind_of}
use Rattle.firmware.specs.Blocks.{is_tree, tree_in, is_column, own_in, column_in, are_blocks, column_size, tree_size}
use Rattle.firmware.proofs.laws.BlockLaws.{block_column_fits}
use Rattle.firmware.specs.laws.JournalTextLaws.{owner_length, sent_text, got_text, kind_below, packet_length}
use Rattle.firmware.specs.laws.TableLength.{table_length}
use Rattle.firmware.specs.Calls.{refused_by, other_block, left_in_place, no_room, not_its_own, Filled, filled_meant, unfilled, filled_over, table_left, table_call, fresh_left, fresh_call, packet_size, size_left, packet_call, doors_call, packet_count, joined_at, join_left, join_call, list_left, list_call, owner_call, line_left, sent_left, sent_call, got_left, got_call, quiet_left, quiet_call, doors_over, Called, uncalled, step_left, step_blocks, step_call, take_left, take_call}
use Rattle.firmware.specs.inner.StepCalls.{quiet_of, putting_of}
use Rattle.firmware.specs.declared.lone.QuietStep.{QuietStep}
use Rattle.firmware.specs.declared.lone.PuttingStep.{PuttingStep}

-- ---- calls that lend one buffer to be written

abbrev pub Told : Filled → List ℕ → Type 0
Told f old = (f.answer < refused_by) ⊎ ((n : ℕ) × (f ≡ unfilled n old))

over_told : (b : Bool) (f : Filled) (old : List ℕ) → Told f old → Told (filled_over b f old) old
over_told true f old t = t
over_told false f old t = inr (other_block, refl)

pub table_told : (text tree : List ℕ) → Told (table_call text tree) tree
unfolding table_call
table_told text tree = over_told (eqb (length tree) tree_size) (table_left (read_table text) tree) tree (go (read_table text) refl)
  where
    go : (o : bank.Result Placed) → read_table text ≡ o → Told (table_left o tree) tree
    go (bank.accepted p) e = inl (omega (arith, table_length text p e))
    go (bank.refused n p) e = inr (n, refl)

pub fresh_told : (tree : List ℕ) (i : ℕ) (column : List ℕ) → Told (fresh_call tree i column) column
unfolding fresh_call
fresh_told tree i column = over_told (is_tree tree && eqb (length column) column_size) (fresh_left i (fresh_given (tree_in tree) i) column) column (go (fresh_given (tree_in tree) i))
  where
    go : (g : Given Column) → Told (fresh_left i g column) column
    go (given c) = inl (omega arith)
    go (refused n) = inr (n, refl)

-- a writer's size is that of the longest packet at most
abbrev pub Small : Wrote → Type 0
Small w = (n : ℕ) → w.size ≡ given n → n ≤ packet_size

pub packet_told : (w : Wrote) (old : List ℕ) → Small w → Told (packet_call w old) old
unfolding packet_call
packet_told w old small = over_told (eqb (length old) packet_size) (size_left w.size w.bytes old) old (go w.size refl)
  where
    go : (g : Given ℕ) → w.size ≡ g → Told (size_left g w.bytes old) old
    go (given n) e = inl (omega (arith, small n e))
    go (refused n) e = inr (n, refl)

wrote_small : (s : List ℕ) → length s ≤ packet_size → Small (wrote s)
wrote_small s l n e =
    let m : length s ≡ n = cc in
    omega (arith, l, m)

none_small : (k : ℕ) → Small (wrote_none k)
none_small k n e =
    let z : ◌≡◌ {A = ℕ} 0 1 = cc in
    absurd (omega arith)

pub write_small : (p : Packet) → Small (write p)
write_small p n e =
    let l : length (bytes_in wide p) ≤ packet_size = length_bytes wide p (omega arith) in
    let m : length (bytes_in wide p) ≡ n = write_length p n e in
    omega (arith, l, m)

pub convert_small : (s : List ℕ) → Small (convert s)
unfolding convert
convert_small s = go (alone_in narrow s) (alone_in wide s)
  where
    narrower : (p : Packet) (b : Bool) → Small (cond b (wrote_none 18) (wrote (bytes_in narrow p)))
    narrower p true = none_small 18
    narrower p false = wrote_small (bytes_in narrow p) (length_bytes narrow p (omega arith))

    back : (g : Given Packet) → Small (narrowed g)
    back (given p) = narrower p (ltb narrow_highest (number_of p))
    back (refused n) = none_small 12

    go : (g h : Given Packet) → Small (widened g (narrowed h))
    go (given p) h = wrote_small (bytes_in wide p) (length_bytes wide p (omega arith))
    go (refused n) h = back h

pub doors_told : (w : ℕ → Wrote) (doors old : List ℕ) → ((d : ℕ) → Small (w d)) → Told (doors_call w doors old) old
unfolding doors_call
doors_told w doors old small =
    over_told (eqb (length doors) 8) (packet_call (w (low_value doors)) old) old (packet_told (w (low_value doors)) old (small (low_value doors)))

-- ---- texts

-- a text of fewer bytes than a refusal's first number
placed_told : (old text : List ℕ) → length text < refused_by → Told (list_left (placed old 0 text)) old
unfolding placed
placed_told old text l = go (leb (0 + length text) (length old))
  where
    go : (b : Bool) → Told (list_left (cond b (record { answer = given (length text); buffer = written old 0 text }) (record { answer = refused no_room; buffer = old }))) old
    go true = inl l
    go false = inr (no_room, refl)

module _ (tree column old : List ℕ) (bytes : Bytes column) where
  abbrev t : Tree
  t = tree_in tree

  abbrev i : ℕ
  i = own_in column

  abbrev c : Column
  c = column_in column

  abbrev n : ℕ
  n = lone_refusal t i c

  each : (b : Bool) → eqb n 0 ≡ b → Told (list_left (cond b (placed old 0 (list_text i c)) (record { answer = refused n; buffer = old }))) old
  each true e =
      let f = block_column_fits column bytes in
      let below = validity_refusal_column t i c (earlier_none (validity_refusal t i c) _ (eqb-true n 0 e)).0 in
      placed_told old (list_text i c) (omega (arith, list_longest i c below (omega (arith, f.number)) f.doors))
  each false e = inr (n, refl)

  pub list_told : Told (list_call tree column old) old
  unfolding list_call lone_list
  list_told = over_told (are_blocks tree column) (list_left (lone_list t i c old)) old (each (eqb n 0) refl)

  pub owner_told : Told (owner_call column old) old
  unfolding owner_call
  owner_told =
      over_told (is_column column) (list_left (placed old 0 (owner_bytes i))) old
      (placed_told old (owner_bytes i) (omega (arith, owner_length i (bytes 1))))

  module _ (packet : List ℕ) (packet_bytes : Bytes packet) where
    line_told : (end : ℕ) (x : Line) → length (line_bytes x) < refused_by → Told (line_left i end x old) old
    unfolding line_left
    line_told end x l = go (eqb end i)
      where
        go : (b : Bool) → Told (cond b (list_left (placed old 0 (line_bytes x))) (unfilled not_its_own old)) old
        go true = placed_told old (line_bytes x) l
        go false = inr (not_its_own, refl)

    pub sent_told : Told (sent_call column packet old) old
    unfolding sent_call
    sent_told = over_told (is_column column) (sent_left i (read packet) old) old (go (read packet) refl)
      where
        go : (g : Given Part) → read packet ≡ g → Told (sent_left i g old) old
        go (given q) e =
            let p = q.packet in
            let r = write_read wide packet packet_bytes q e in
            line_told (sender p) (sent_line p)
            (omega (arith, ap length (sent_text p), packet_length sent_key (kind_of p) (receiver p) (number_of p) (kind_below p) (good_ends_lem p r.ends).1 r.fits.number))
        go (refused n) e = inr (n, refl)

    pub got_told : Told (got_call column packet old) old
    unfolding got_call
    got_told = over_told (is_column column) (got_left i (read packet) old) old (go (read packet) refl)
      where
        go : (g : Given Part) → read packet ≡ g → Told (got_left i g old) old
        go (given q) e =
            let p = q.packet in
            let r = write_read wide packet packet_bytes q e in
            line_told (receiver p) (got_line p)
            (omega (arith, ap length (got_text p), packet_length got_key (kind_of p) (sender p) (number_of p) (kind_below p) (good_ends_lem p r.ends).0 r.fits.number))
        go (refused n) e = inr (n, refl)

-- ---- frames

pub join_told : (bytes old : List ℕ) (at : ℕ) → Bytes bytes → Told (join_call bytes old at) old
unfolding joined_at
join_told bytes old at h = go (read bytes) refl (packet_count (take at old))
  where
    fits : (used : ℕ) → used ≤ packet_size → (b : Bool) → Told (cond b (filled_meant used (written old at (take used bytes))) (unfilled no_room old)) old
    fits used l true = inl (omega (arith, l))
    fits used l false = inr (no_room, refl)

    go : (g : Given Part) → read bytes ≡ g → (k : Given ℕ) → Told (join_left g k bytes old at) old
    go (given q) e (given count) =
        let l : length (bytes_in wide q.packet) ≤ packet_size = length_bytes wide q.packet (omega arith) in
        let m : length (bytes_in wide q.packet) ≡ q.used = read_used wide bytes h q e in
        fits q.used (omega (arith, l, m)) (leb (at + q.used) (length old) && ltb count frame_packets)
    go (given q) e (refused n) = inr (n, refl)
    go (refused n) e k = inr (n, refl)

-- a count is that of the most packets of a frame at most
pub frame_told : (s : List ℕ) (n : ℕ) → packet_count s ≡ given n → n < refused_by
frame_told s n e = omega (arith, frame_count s n e)

-- ---- steps that put nothing

module _ (tree column : List ℕ) where
  pub quiet_told : (x : QuietStep) → Told (quiet_call (quiet_of x) tree column) column
  unfolding quiet_call
  quiet_told x =
      let r = quiet_of x (tree_in tree) (own_in column) (column_in column) in
      over_told (are_blocks tree column) (quiet_left (own_in column) r column) column (go r)
    where
      go : (r : core.Result) → Told (quiet_left (own_in column) r column) column
      go (core.accepted c ps left) = inl (omega arith)
      go (core.refused n c) = inr (n, refl)

  -- an order, and a return
  pub quiet_doors_told : (x : ℕ → QuietStep) (doors : List ℕ) → Told (doors_over doors (λ d. quiet_call (quiet_of (x d)) tree column) column) column
  unfolding doors_over
  quiet_doors_told x doors =
      over_told (eqb (length doors) 8) (quiet_call (quiet_of (x (low_value doors))) tree column) column (quiet_told (x (low_value doors)))

-- ---- steps that may put a packet

abbrev pub StepTold : Called → List ℕ → List ℕ → Type 0
StepTold k column put = (k.answer < refused_by) ⊎ ((n : ℕ) × (k ≡ uncalled n column put))

most : (b : Bool) → cond b left_in_place 0 ≤ left_in_place
most true = omega arith
most false = omega arith

left_told : (own : ℕ) (r : core.Result) (column put : List ℕ) → StepTold (step_left own r column put) column put
left_told own (core.accepted c [] left) column put = inl (omega arith)
left_told own (core.accepted c (p ∷ ps) left) column put =
    let l : length (bytes_of p) ≤ packet_size = length_bytes wide p (omega arith) in
    inl (omega (arith, l, most left))
left_told own (core.refused n c) column put = inr (n, refl)

module _ (tree column put : List ℕ) where
  pub step_told : (x : PuttingStep) → StepTold (step_call (putting_of x) tree column put) column put
  unfolding step_call
  step_told x = go (step_blocks tree column (length put))
    where
      go : (b : Bool)
          → StepTold (cond b (step_left (own_in column) (putting_of x (tree_in tree) (own_in column) (column_in column)) column put) (uncalled other_block column put)) column put
      go true = left_told (own_in column) (putting_of x (tree_in tree) (own_in column) (column_in column)) column put
      go false = inr (other_block, refl)

  pub take_told : (packet : List ℕ) → StepTold (take_call tree column packet put) column put
  unfolding take_call
  take_told packet = go (step_blocks tree column (length put)) (read packet)
    where
      go : (b : Bool) (g : Given Part) → StepTold (cond b (take_left g tree column put) (uncalled other_block column put)) column put
      go true (given q) = left_told (own_in column) (core.take (tree_in tree) (own_in column) (column_in column) q.packet) column put
      go true (refused n) = inr (n, refl)
      go false g = inr (other_block, refl)
