-- The journals of a bank's columns, from the list of steps: Point 11 of document 02.
use Rattle.std.specs.Prelude.{ℕ, ◌≤◌, ◌<◌, ◌≡◌, ◌≢◌, false, cond, eqb, length}
use mathlib.Core.List.{List, [], ◌∷◌, ◌++◌, Memᴰ}
use Rattle.column.specs.Trees.{tree_refusal}
use Rattle.column.specs.Packets.{sender, receiver}
use Rattle.column.specs.Steps as core
use Rattle.column.specs.Columns.{numbers}
use Rattle.column.specs.declared.tree.Tree.{Tree}
use Rattle.column.specs.declared.packet.Packet.{Packet}
use Rattle.list.specs.Closing.{placed}
use Rattle.bank.specs.Banks.{State, column_at, runs, packet_at, capacity}
use Rattle.bank.specs.Steps.{Result, accepted, refused}
use Rattle.bank.specs.Performs.{perform}
use Rattle.bank.specs.StepKinds.{is_back}
use Rattle.bank.specs.declared.bank.Step.{Step}
use Rattle.bank.specs.declared.bank.Step.TheVariants.{Order, Send, Take, Ack, All, Note, Halt, Back, Write}
use Rattle.journals.specs.Journals.{line, journal_text, journal_limit, missing_text, compared, Once, journal}
use Rattle.journals.specs.PacketLines.{sent_line, got_line}
use Rattle.journals.specs.declared.line.Way.TheVariants.{Sent, Got}
use Rattle.journals.specs.declared.line.Kind.{Kind}
use Rattle.journals.specs.declared.line.Line.{Line}
use Rattle.agreement.specs.History.{World, left_by, told}
use Rattle.agreement.specs.Agreement.{begin}

-- ---- journals: each column's lines, the oldest first

abbrev pub Journals : Type 0
Journals = ℕ → List Line

abbrev pub written : Journals → ℕ → Line → Journals
written j a x i = cond (eqb i a) (j i ++ (x ∷ [])) (j i)

unfoldable pub all_got : Journals → List Packet → Journals
all_got j [] = j
all_got j (p ∷ l) = all_got (written j (receiver p) (got_line p)) l

unfoldable pub all_sent : Journals → List Packet → Journals
all_sent j [] = j
all_sent j (p ∷ l) = all_sent (written j (sender p) (sent_line p)) l

-- ---- what a step writes

-- "A packet left in its place is not got"
abbrev pub got_in : State → Step → List Packet
got_in s (Order doors) = []
got_in s (Send i) = []
got_in s (Take place) = cond (left_by s (packet_at s place)) [] (packet_at s place ∷ [])
got_in s (Ack i) = []
got_in s (All i) = []
got_in s (Note i j) = []
got_in s (Halt m) = []
got_in s (Back j) = []
got_in s (Write i offset value) = []

-- the packets that the core answers with
abbrev pub answered_with : core.Result → List Packet
answered_with (core.accepted c packets left) = packets
answered_with (core.refused n c) = []

-- "and one to a halted column is not sent"
unfoldable pub to_running : State → List Packet → List Packet
to_running s [] = []
to_running s (p ∷ l) = cond (runs s.bank (receiver p)) (p ∷ to_running s l) (to_running s l)

abbrev pub sent_in : State → Step → List Packet
sent_in s (Order doors) = []
sent_in s (Send i) = to_running s (answered_with (core.send s.bank.tree i (column_at s.bank i)))
sent_in s (Take place) =
    let p = packet_at s place in
    to_running s (answered_with (core.take s.bank.tree (receiver p) (column_at s.bank (receiver p)) p))
sent_in s (Ack i) = to_running s (answered_with (core.ack s.bank.tree i (column_at s.bank i)))
sent_in s (All i) = []
sent_in s (Note i j) = []
sent_in s (Halt m) = []
sent_in s (Back j) = []
sent_in s (Write i offset value) = []

abbrev pub journals_after : State → Step → Journals → Journals
journals_after s x j = all_sent (all_got j (got_in s x)) (sent_in s x)

-- only accepted steps write
unfoldable pub recorded : State → Step → Result State → Journals → Journals
recorded s x (accepted s') j = journals_after s x j
recorded s x (refused n s') j = j

-- the journals after a list of steps
unfoldable pub journals : World → List Step → Journals → Journals
journals w [] j = j
journals w (x ∷ xs) j = journals (told w x (perform w.state x)) xs (recorded w.state x (perform w.state x) j)

-- ---- "a bank that had no column come back"

-- a return that is refused is none
abbrev pub Stays : Step → Result State → Type 0
Stays x (accepted s') = is_back x ≡ false
Stays x (refused n s') = Unit {0}

unfoldable pub NoneBack : World → List Step → Type 0
NoneBack w [] = Unit {0}
NoneBack w (x ∷ xs) = Stays x (perform w.state x) × NoneBack (told w x (perform w.state x)) xs

-- ---- what Point 11 claims of them

-- no 19: a line of a journal's form, "the other column and the owner are 0 to 15 and differ"; here even columns of the bank, and numbers of a packet
pub record Proper (columns owner : ℕ) (x : Line) : Type 0 where
  pub owner_below : owner < columns
  pub other_below : x.other < columns
  pub other_apart : x.other ≢ owner
  pub number_fits : x.number < numbers

abbrev pub Wrote : Journals → ℕ → Line → Type 0
Wrote j i x = Memᴰ x (j i)

pub record Consistent (columns : ℕ) (j : Journals) : Type 0 where
  pub proper : (i : ℕ) (x : Line) → Wrote j i x → Proper columns i x
  -- "20 the same line twice in a journal"
  pub once : (i : ℕ) → Once (j i)
  -- "21 a packet got that the other didn't send"
  pub heard : (i q : ℕ) (kind : Kind) (number : ℕ) → Wrote j i (line Got kind q number) → Wrote j q (line Sent kind i number)

-- "Journals .. of two columns of one such bank stepped from fresh and pulled at one moment, meet none of 19 to 21": of every list of steps, with
-- any numbers, refused ones included, in which none comes back: from the fresh bank of every tree, whoever is watched, with any words in its
-- two arrays
abbrev pub JournalsAgree : Type 0
JournalsAgree = (t : Tree) → tree_refusal t ≡ 0
    → (heads doors : List ℕ) → length heads ≡ capacity → length doors ≡ capacity
    → (xs : List Step) → NoneBack (begin t heads doors) xs → Consistent t.columns (journals (begin t heads doors) xs (λ i. []))

-- the same of their texts: whatever the buffer, the comparison answers what is missing, or 11 where that does not fit
abbrev pub TextsAgree : Type 0
TextsAgree = (t : Tree) → tree_refusal t ≡ 0
    → (heads doors : List ℕ) → length heads ≡ capacity → length doors ≡ capacity
    → (xs : List Step) → NoneBack (begin t heads doors) xs → (p q : ℕ) → p < t.columns → q < t.columns → p ≢ q
    → let j = journals (begin t heads doors) xs (λ i. []) in
    length (journal_text p (j p)) ≤ journal_limit → length (journal_text q (j q)) ≤ journal_limit
    → (old : List ℕ) → compared (journal_text p (j p)) (journal_text q (j q)) old ≡ placed old 0 (missing_text (journal p (j p)) (journal q (j q)))
