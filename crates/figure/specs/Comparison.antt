-- What the comparison of a column's steps with Figure 3.2 says. Each statement is proved under its name in proofs/.
use Rattle.std.specs.Prelude.{ℕ, zero, suc, ◌<◌, ◌≤◌, ◌≡◌, Bool, true, false, ◌&&◌, cond, List, [], ◌++◌, eqb}
use Rattle.column.specs.Sets.{insert}
use Rattle.column.specs.Columns.{fresh, validity_refusal, highest}
use Rattle.column.specs.Steps as steps
use Rattle.column.specs.Steps.{Result, accepted, refused, note_refusal, packet_refusal}
use Rattle.column.specs.Packets.{receiver}
use Rattle.column.specs.Pages.{write}
use Rattle.column.specs.Returns.{rejoined, struck}
use Rattle.column.specs.declared.tree.Tree.{Tree}
use Rattle.column.specs.declared.state.Column.{Column}
use Rattle.column.specs.declared.packet.Packet.{Packet}
use Rattle.column.specs.declared.packet.Packet.TheVariants.{Message, Acknowledgement}
use Rattle.figure.specs.Figure.{Variables, Made, makes, aborts, meet, initially, send_guard, send_command, failed_guard, failed_command, acknowledgement_command, takeover_guard, takeover_command, message_command, ack_guard, ack_command, broadcast_guard, broadcast_command, sender_takeover_guard, sender_root_ack_guard, sender_broadcast_guard}

-- ---- the column read as the report's variables; failed(p) is 'noted by this column'

-- goal own subtree is r = i, goal the whole bank is r = b
abbrev pub variables_of : Tree → ℕ → Column → Variables
variables_of t i c =
    record {
      seqno = c.number;
      info = c.doors;
      sendto = c.send;
      ackfrom = c.awaited;
      ackto = c.owed;
      r = cond c.whole t.root i;
    }

-- the number of a step's refusal, 0 where it is accepted
abbrev pub number_of : Result → ℕ
number_of (accepted c put left) = 0
number_of (refused n c) = n

-- a running column in a state that rows 2 to 4 let pass, whoever is watched
pub record Ready (t : Tree) (i : ℕ) (c : Column) : Type 0 where
  pub good : validity_refusal t i c ≡ 0
  pub runs : c.running ≡ true

-- nobody awaited is noted: so it is with a fresh column, and every step keeps it (`Apartness`, below)
abbrev pub Apart : Column → Type 0
Apart c = meet c.awaited c.noted ≡ 0

-- a step that is accepted and makes what a command makes, packet for packet, its packet gone, and leaves these noted
pub record Makes (t : Tree) (i : ℕ) (noted : ℕ) (result : Result) (made : Made) : Type 0 where
  pub after : Column
  pub is : result ≡ accepted after made.sent false
  pub variables : variables_of t i after ≡ made.variables
  pub keeps_noted : after.noted ≡ noted
  pub keeps_running : after.running ≡ true

-- a guard holds exactly where the step is not refused with a number
abbrev pub Guards : Bool → ℕ → Result → Type 0
Guards guard n result = (guard ≡ true → number_of result ≡ n → ⊥) × ((number_of result ≡ n → ⊥) → guard ≡ true)

-- ---- document 01 is finer: a step repeated until it is through

-- the column at the end, all packets put, in their order, and whether the step is through
pub record Repeated : Type 0 where
  pub column : Column
  pub put : List Packet
  pub through : Bool

abbrev pub after : List Packet → Repeated → Repeated
after put r = record { column = r.column; put = put ++ r.put; through = r.through }

-- a take that leaves its packet is repeated; one that does not is through
abbrev pub take_again : Result → (Column → Repeated) → Repeated
take_again (accepted c put left) again = cond left (after put (again c)) (record { column = c; put = put; through = true })
take_again (refused n c) again = record { column = c; put = []; through = false }

unfoldable pub repeat_take : ℕ → Tree → ℕ → Column → Packet → Repeated
repeat_take zero t i c p = record { column = c; put = []; through = false }
repeat_take (suc most) t i c p = take_again (steps.take t i c p) (λ next. repeat_take most t i next p)

-- an ack is repeated until nobody is owed
abbrev pub ack_again : Result → (Column → Repeated) → Repeated
ack_again (accepted c put left) again = after put (again c)
ack_again (refused n c) again = record { column = c; put = []; through = false }

unfoldable pub repeat_ack : ℕ → Tree → ℕ → Column → Repeated
repeat_ack zero t i c = record { column = c; put = []; through = eqb c.owed 0 }
repeat_ack (suc most) t i c =
    cond (eqb c.owed 0)
    (record { column = c; put = []; through = true })
    (ack_again (steps.ack t i c) (λ next. repeat_ack most t i next))

-- a repeated step that is through and makes what a command makes, with the same packets in the order of service
pub record RepeatMakes (t : Tree) (i : ℕ) (noted : ℕ) (repeated : Repeated) (made : Made) : Type 0 where
  pub through : repeated.through ≡ true
  pub put : repeated.put ≡ made.sent
  pub variables : variables_of t i repeated.column ≡ made.variables
  pub keeps_noted : repeated.column.noted ≡ noted
  pub keeps_running : repeated.column.running ≡ true

-- ---- the guards by the tree's watch: the figure's, or, where senders are watched, those that take their place

abbrev pub takeover_guard_of : Tree → ℕ → Column → Bool
takeover_guard_of t i c =
    cond t.watch (sender_takeover_guard t i c.noted c.sender (variables_of t i c)) (takeover_guard t i c.noted (variables_of t i c))

abbrev pub ack_guard_of : Tree → ℕ → Column → Bool
ack_guard_of t i c = cond (t.watch && eqb i t.root) (sender_root_ack_guard (variables_of t i c)) (ack_guard t (variables_of t i c))

abbrev pub broadcast_guard_of : Tree → ℕ → Column → Bool
broadcast_guard_of t i c = cond t.watch (sender_broadcast_guard (variables_of t i c)) (broadcast_guard (variables_of t i c))

-- ---- the statements: one for each command

module _ (t : Tree) (i : ℕ) (c : Column) where
  abbrev v : Variables
  v = variables_of t i c

  pub record SendCompares : Type 0 where
    pub guards : Guards (send_guard v) 6 (steps.send t i c)
    pub does : send_guard v ≡ true → Makes t i c.noted (steps.send t i c) (send_command t i c.noted v)

  -- FAILED is the set noted after the note; nobody awaited was noted before it
  pub record NoteCompares (j : ℕ) : Type 0 where
    pub does : failed_guard (insert c.noted j) v ≡ true
        → Makes t i (insert c.noted j) (steps.note t i c j) (failed_command t (insert c.noted j) v)
    pub skips : failed_guard (insert c.noted j) v ≡ false
        → Makes t i (insert c.noted j) (steps.note t i c j) (record { variables = v; sent = [] })

  -- an acknowledgement of a higher number has no branch in the figure: document 01 decides it, and nothing changes
  pub record AcknowledgementCompares (from number : ℕ) : Type 0 where
    pub does : (made : Made) → acknowledgement_command from number v ≡ makes made
        → Makes t i c.noted (steps.take t i c (Acknowledgement from i number)) made
    pub higher : (c.number < number → acknowledgement_command from number v ≡ aborts)
    pub nothing : (c.number < number → steps.take t i c (Acknowledgement from i number) ≡ accepted c [] false)

  pub record TakeoverCompares : Type 0 where
    pub guards : Guards (takeover_guard_of t i c) 6 (steps.all t i c)
    pub does : takeover_guard_of t i c ≡ true → Makes t i c.noted (steps.all t i c) (takeover_command t v)

  -- a higher number while some are owed takes as many steps more as are owed: at most sixteen
  pub record MessageCompares (from number doors : ℕ) : Type 0 where
    pub does : number ≤ c.number → Makes t i c.noted (steps.take t i c (Message from i number doors)) (message_command t i from number doors v)
    pub higher : c.number < number
        → RepeatMakes t i c.noted (repeat_take 17 t i c (Message from i number doors)) (message_command t i from number doors v)

  pub record AckCompares : Type 0 where
    pub guards : Guards (ack_guard_of t i c) 6 (steps.ack t i c)
    pub does : ack_guard_of t i c ≡ true → RepeatMakes t i c.noted (repeat_ack 16 t i c) (ack_command i v)

  -- the highest order number is the last: row 8 is the papers' own
  pub record BroadcastCompares (doors : ℕ) : Type 0 where
    pub guards : Guards (broadcast_guard_of t i c) 7 (steps.order t i c doors)
    pub does : broadcast_guard_of t i c ≡ true → (c.number ≡ highest → ⊥)
        → Makes t i c.noted (steps.order t i c doors) (broadcast_command t doors v)

  -- a packet that rows 2 to 4 let pass is never refused with 6 or 7: it is taken
  abbrev pub Passes : Packet → Type 0
  Passes p = (packet_refusal t p ≡ 0) × (receiver p ≡ i)

  -- the step comparison, for every column that runs in a state that rows 2 to 4 let pass
  pub record Compares : Type 0 where
    pub send : SendCompares
    pub note : (j : ℕ) → Apart c → note_refusal t i c j ≡ 0 → NoteCompares j
    pub acknowledgement : (from number : ℕ) → Passes (Acknowledgement from i number) → AcknowledgementCompares from number
    pub takeover : TakeoverCompares
    pub message : (from number doors : ℕ) → Passes (Message from i number doors) → MessageCompares from number doors
    pub ack : AckCompares
    pub broadcast : (doors : ℕ) → i ≡ t.root → BroadcastCompares doors

-- the theorem, proved as `comparison` of proofs/Comparison
abbrev pub Comparison : Type 0
Comparison = (t : Tree) (i : ℕ) (c : Column) → Ready t i c → Compares t i c

-- a fresh column is where the figure begins; proved as `beginning` of proofs/Comparison
abbrev pub Beginning : Type 0
Beginning = (t : Tree) (i : ℕ) → variables_of t i (fresh t i) ≡ initially i

-- ---- what the comparison of note asks for

abbrev pub column_of : Result → Column
column_of (accepted c put left) = c
column_of (refused n c) = c

-- every step that there is, of this column or of another that comes back
pub record StaysApart (t : Tree) (i : ℕ) (c : Column) : Type 0 where
  pub order : (doors : ℕ) → Apart (column_of (steps.order t i c doors))
  pub send : Apart (column_of (steps.send t i c))
  pub take : (p : Packet) → Apart (column_of (steps.take t i c p))
  pub ack : Apart (column_of (steps.ack t i c))
  pub all : Apart (column_of (steps.all t i c))
  pub note : (j : ℕ) → Apart (column_of (steps.note t i c j))
  pub halt : Apart (column_of (steps.halt t i c))
  -- document 02: a byte of its page is written; another column comes back, or itself, which copies one
  pub write : (offset value : ℕ) → Apart (column_of (write t i c offset value))
  pub strike : (j : ℕ) → Apart (struck c j)
  pub rejoin : (copied : Column) (noted : ℕ) (whole : Bool) (sender : ℕ) → Apart (rejoined c copied noted whole sender)

-- proved as `apartness` of proofs/Apart
abbrev pub Apartness : Type 0
Apartness = ((t : Tree) (i : ℕ) → Apart (fresh t i)) × ((t : Tree) (i : ℕ) (c : Column) → Apart c → StaysApart t i c)
