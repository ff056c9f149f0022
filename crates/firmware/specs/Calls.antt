-- What each call of the boundary to C answers and leaves, by the core's own definitions: no paper names them. A refused call leaves every lent byte.
use Rattle.std.specs.Prelude.{ℕ, ◌+◌, Bool, ◌&&◌, cond, List, [], ◌∷◌, eqb, leb, ltb, length, take}
use Rattle.column.specs.Refusals.{Given, given, refused, given_unless}
use Rattle.column.specs.Trees.{tree_refusal}
use Rattle.column.specs.Columns.{validity_refusal, fresh_given}
use Rattle.column.specs.Packets.{sender, receiver, low_value, doors_size, wide, message_size, Part, Wrote, wrote_none, bytes_of, read, write, padded}
use Rattle.column.specs.Frames.{frame_packets, read_frame, frame_of}
use Rattle.column.specs.Pages.{read_byte, line_up}
use Rattle.column.specs.Pages as page
use Rattle.column.specs.Steps as core
use Rattle.column.specs.declared.tree.Tree.{Tree}
use Rattle.column.specs.declared.state.Column.{Column}
use Rattle.text.specs.Text.{written}
use Rattle.list.specs.Closing.{Listed, placed, lone_list}
use Rattle.bank.specs.Steps as bank
use Rattle.table.specs.Tables.{Placed, read_table}
use Rattle.journals.specs.PacketLines.{sent_line, got_line, owner_bytes, line_bytes}
use Rattle.journals.specs.declared.line.Line.{Line}
use Rattle.firmware.specs.Blocks.{bit, tree_size, is_tree, tree_in, tree_bytes, column_size, is_column, own_in, column_in, column_bytes, are_blocks}
use Rattle.firmware.specs.LoneSteps.{rests, rejoin}

-- ---- answers: what is below `refused_by` is a size, a count or a length; from there on it is a refusal with its number added

abbrev pub refused_by : ℕ
refused_by = 1000

-- a block of another size or another layout, before all else
abbrev pub other_block : ℕ
other_block = 24

-- "the list doesn't fit from its place"; here a packet from its place in a frame, and a line, too
abbrev pub no_room : ℕ
no_room = 11

-- a packet that the column neither sent nor got, as row 4 has another addressee
abbrev pub not_its_own : ℕ
not_its_own = 4

-- added where a packet taken is left in its place
abbrev pub left_in_place : ℕ
left_in_place = 100

abbrev pub answer_of : Given ℕ → ℕ
answer_of (given answer) = answer
answer_of (refused n) = refused_by + n

-- what is answered where blocks are what they must be
abbrev pub over_blocks : Bool → ℕ → ℕ
over_blocks good answer = cond good answer (refused_by + other_block)

-- ---- calls that lend one buffer to be written

pub record Filled : Type 0 where
  pub answer : ℕ
  pub buffer : List ℕ

abbrev pub filled_meant : ℕ → List ℕ → Filled
filled_meant r buffer = record { answer = r; buffer = buffer }

abbrev pub unfilled : ℕ → List ℕ → Filled
unfilled n old = filled_meant (refused_by + n) old

abbrev pub filled_over : Bool → Filled → List ℕ → Filled
filled_over good f old = cond good f (unfilled other_block old)

-- ---- trees

unfoldable pub tree_call : List ℕ → ℕ
tree_call tree = over_blocks (is_tree tree) (answer_of (given_unless (tree_refusal (tree_in tree)) 0))

-- the tree of a table's text, and how many bytes the table takes; the block to be written need only have its size
abbrev pub table_left : bank.Result Placed → List ℕ → Filled
table_left (bank.accepted p) old = filled_meant p.end (tree_bytes p.tree)
table_left (bank.refused n p) old = unfilled n old

unfoldable pub table_call : List ℕ → List ℕ → Filled
table_call text old = filled_over (eqb (length old) tree_size) (table_left (read_table text) old) old

-- ---- a column as it begins: the block to be written need only have its size

abbrev pub fresh_left : ℕ → Given Column → List ℕ → Filled
fresh_left i (given c) old = filled_meant 0 (column_bytes i c)
fresh_left i (refused n) old = unfilled n old

unfoldable pub fresh_call : List ℕ → ℕ → List ℕ → Filled
fresh_call tree i old = filled_over (is_tree tree && eqb (length old) column_size) (fresh_left i (fresh_given (tree_in tree) i) old) old

-- ---- packets: "fifteen bytes", "those past the packet 0, and the packet's size"

abbrev pub packet_size : ℕ
packet_size = message_size wide

abbrev pub size_left : Given ℕ → List ℕ → List ℕ → Filled
size_left (given size) bytes old = filled_meant size bytes
size_left (refused n) bytes old = unfilled n old

abbrev pub packet_left : Wrote → List ℕ → Filled
packet_left w old = size_left w.size w.bytes old

-- what a writer gives, into the bytes of a packet
unfoldable pub packet_call : Wrote → List ℕ → Filled
packet_call w old = filled_over (eqb (length old) packet_size) (packet_left w old) old

-- the packet at the start of the bytes, as the writer gives it
abbrev pub rewritten : Given Part → Wrote
rewritten (given q) = write q.packet
rewritten (refused n) = wrote_none n

-- a packet with doors, which are a block of eight bytes
unfoldable pub doors_call : (ℕ → Wrote) → List ℕ → List ℕ → Filled
doors_call written doors old = filled_over (eqb (length doors) doors_size) (packet_call (written (low_value doors)) old) old

-- ---- frames

-- how many packets are joined in bytes
abbrev pub packet_count : List ℕ → Given ℕ
packet_count s = (frame_of (read_frame s)).count

-- a packet of `used` bytes is joined from a place on to a frame that holds `count`, where it fits and is not the 513th
unfoldable pub joined_at : List ℕ → List ℕ → ℕ → ℕ → ℕ → Filled
joined_at bytes old at used count =
    cond (leb (at + used) (length old) && ltb count frame_packets) (filled_meant used (written old at (take used bytes))) (unfilled no_room old)

abbrev pub join_left : Given Part → Given ℕ → List ℕ → List ℕ → ℕ → Filled
join_left (given q) (given count) bytes old at = joined_at bytes old at q.used count
join_left (given q) (refused n) bytes old at = unfilled n old
join_left (refused n) count bytes old at = unfilled n old

-- the packet at the start of the bytes is joined to the frame that the bytes before a place are
abbrev pub join_call : List ℕ → List ℕ → ℕ → Filled
join_call bytes old at = join_left (read bytes) (packet_count (take at old)) bytes old at

-- ---- texts: the closing list

abbrev pub list_left : Listed → Filled
list_left l = filled_meant (answer_of l.answer) l.buffer

unfoldable pub list_call : List ℕ → List ℕ → List ℕ → Filled
list_call tree column old = filled_over (are_blocks tree column) (list_left (lone_list (tree_in tree) (own_in column) (column_in column) old)) old

-- ---- texts: lines of a journal

unfoldable pub owner_call : List ℕ → List ℕ → Filled
owner_call column old = filled_over (is_column column) (list_left (placed old 0 (owner_bytes (own_in column)))) old

-- the line of a packet, where the column is the one of its ends whose journal has it: 4 where it is not
unfoldable pub line_left : ℕ → ℕ → Line → List ℕ → Filled
line_left own end x old = cond (eqb end own) (list_left (placed old 0 (line_bytes x))) (unfilled not_its_own old)

abbrev pub sent_left : ℕ → Given Part → List ℕ → Filled
sent_left own (given q) old = line_left own (sender q.packet) (sent_line q.packet) old
sent_left own (refused n) old = unfilled n old

abbrev pub got_left : ℕ → Given Part → List ℕ → Filled
got_left own (given q) old = line_left own (receiver q.packet) (got_line q.packet) old
got_left own (refused n) old = unfilled n old

unfoldable pub sent_call : List ℕ → List ℕ → List ℕ → Filled
sent_call column packet old = filled_over (is_column column) (sent_left (own_in column) (read packet) old) old

unfoldable pub got_call : List ℕ → List ℕ → List ℕ → Filled
got_call column packet old = filled_over (is_column column) (got_left (own_in column) (read packet) old) old

-- ---- the register page of a column; a write is a step

unfoldable pub byte_call : List ℕ → List ℕ → ℕ → ℕ
byte_call tree column offset =
    over_blocks (are_blocks tree column) (answer_of (read_byte (tree_in tree) (own_in column) (column_in column) offset))

unfoldable pub line_up_call : List ℕ → ℕ
line_up_call column = over_blocks (is_column column) (bit (line_up (column_in column)))

-- ---- rest

abbrev pub idle_of : Tree → ℕ → Column → Given ℕ
idle_of t i c = given_unless (validity_refusal t i c) (bit (rests t i c))

unfoldable pub idle_call : List ℕ → List ℕ → ℕ
idle_call tree column = over_blocks (are_blocks tree column) (answer_of (idle_of (tree_in tree) (own_in column) (column_in column)))

-- ---- steps that put nothing: the column's block

abbrev pub quiet_left : ℕ → core.Result → List ℕ → Filled
quiet_left own (core.accepted c ps left) old = filled_meant 0 (column_bytes own c)
quiet_left own (core.refused n c) old = unfilled n old

unfoldable pub quiet_call : (Tree → ℕ → Column → core.Result) → List ℕ → List ℕ → Filled
quiet_call step tree column =
    filled_over (are_blocks tree column) (quiet_left (own_in column) (step (tree_in tree) (own_in column) (column_in column)) column) column

-- doors are a block of eight bytes
unfoldable pub doors_over : List ℕ → (ℕ → Filled) → List ℕ → Filled
doors_over doors call column = filled_over (eqb (length doors) doors_size) (call (low_value doors)) column

abbrev pub order_call : List ℕ → List ℕ → List ℕ → Filled
order_call tree column doors = doors_over doors (λ d. quiet_call (λ t i c. core.order t i c d) tree column) column

-- a byte is written to the column's page
abbrev pub write_call : List ℕ → List ℕ → ℕ → ℕ → Filled
write_call tree column offset value = quiet_call (λ t i c. page.write t i c offset value) tree column

-- the record of the column copied from: a number and doors
abbrev pub rejoin_call : List ℕ → List ℕ → ℕ → ℕ → List ℕ → ℕ → Filled
rejoin_call tree column copied number doors halted =
    doors_over doors (λ d. quiet_call (λ t i c. rejoin t i c copied number d halted) tree column) column

-- ---- steps that may put a packet: the column's block and the packet

pub record Called : Type 0 where
  pub answer : ℕ
  pub column : List ℕ
  pub put : List ℕ

abbrev pub called_meant : ℕ → List ℕ → List ℕ → Called
called_meant r column put = record { answer = r; column = column; put = put }

abbrev pub uncalled : ℕ → List ℕ → List ℕ → Called
uncalled n column put = called_meant (refused_by + n) column put

-- a step puts one packet at most: its bytes with 0 past them, and their count
abbrev pub step_left : ℕ → core.Result → List ℕ → List ℕ → Called
step_left own (core.accepted c [] left) column put = called_meant 0 (column_bytes own c) (padded [])
step_left own (core.accepted c (p ∷ ps) left) column put = called_meant (length (bytes_of p) + cond left left_in_place 0) (column_bytes own c) (padded (bytes_of p))
step_left own (core.refused n c) column put = uncalled n column put

abbrev pub step_blocks : List ℕ → List ℕ → ℕ → Bool
step_blocks tree column put = are_blocks tree column && eqb put packet_size

unfoldable pub step_call : (Tree → ℕ → Column → core.Result) → List ℕ → List ℕ → List ℕ → Called
step_call step tree column put =
    cond (step_blocks tree column (length put))
    (step_left (own_in column) (step (tree_in tree) (own_in column) (column_in column)) column put)
    (uncalled other_block column put)

-- bytes that begin with no packet are 12 before the step is looked at
abbrev pub take_left : Given Part → List ℕ → List ℕ → List ℕ → Called
take_left (given q) tree column put =
    step_left (own_in column) (core.take (tree_in tree) (own_in column) (column_in column) q.packet) column put
take_left (refused n) tree column put = uncalled n column put

unfoldable pub take_call : List ℕ → List ℕ → List ℕ → List ℕ → Called
take_call tree column packet put = cond (step_blocks tree column (length put)) (take_left (read packet) tree column put) (uncalled other_block column put)
