-- The lines of a journal as they are written, piece by piece. Assumes nothing.
use Rattle.std.specs.Prelude.{ℕ, ◌+◌, ◌^◌, ◌≤◌, ◌<◌, ◌≡◌, refl, true, false, List, [], ◌∷◌, ◌++◌, length, take}
use Rattle.std.proofs.Common.{sym, ap, ap₂, ◌∙◌, true≢false, append_assoc, arith, length-append}
use Rattle.column.specs.Refusals.{Given, given, refused}
use Rattle.column.specs.Packets.{is_message, sender, receiver, number_of, good_ends, wide, Part, read}
use Rattle.column.specs.laws.NumberLaws.{Bytes}
use Rattle.column.specs.laws.PacketLaws.{write_read, good_ends_lem}
use Rattle.column.specs.declared.packet.Packet.{Packet}
use Rattle.column.specs.declared.packet.Packet.TheVariants.{Message, Acknowledgement}
use Rattle.text.specs.Text.{decimal, Writes, Puts}
use Rattle.text.specs.laws.DecimalLaws.{decimal_length}
use Rattle.text.specs.laws.WritingLaws.{puts_all, written_taken}
use Rattle.journals.specs.Journals.{sent_key, got_key, way_key, line_text}
use Rattle.journals.specs.PacketLines.{sent_line, got_line, owner_bytes, line_bytes}
use Rattle.journals.specs.inner.LineWords.{other_way}
use Rattle.journals.specs.declared.line.Way.{Way}
use Rattle.journals.specs.declared.line.Way.TheVariants.{Sent, Got}
use Rattle.firmware.specs.Blocks.{is_column, own_in}
use Rattle.firmware.specs.Calls.{Filled, filled_over, sent_left, got_left, sent_call, got_call}
use Rattle.firmware.specs.inner.JournalTexts.{kind_of, packet_text, from_number, from_other, from_kind, end_of, other_of, way_line, way_left, way_call}

pieces : (a b c : List ℕ) → (a ++ (44 ∷ (b ++ (44 ∷ c)))) ++ (10 ∷ []) ≡ a ++ (44 ∷ (b ++ (44 ∷ (c ++ (10 ∷ [])))))
pieces a b c = append_assoc a (44 ∷ (b ++ (44 ∷ c))) (10 ∷ []) ∙ ap (λ (s : List ℕ). a ++ (44 ∷ s)) (append_assoc b (44 ∷ c) (10 ∷ []))

pub sent_text : (p : Packet) → packet_text sent_key (kind_of p) (receiver p) (number_of p) ≡ line_bytes (sent_line p)
unfolding line_text
sent_text p = ap (λ (s : List ℕ). sent_key ++ s) (sym (pieces (decimal (kind_of p)) (decimal (receiver p)) (decimal (number_of p))))

pub got_text : (p : Packet) → packet_text got_key (kind_of p) (sender p) (number_of p) ≡ line_bytes (got_line p)
unfolding line_text
got_text p = ap (λ (s : List ℕ). got_key ++ s) (sym (pieces (decimal (kind_of p)) (decimal (sender p)) (decimal (number_of p))))

pub kind_message : (p : Packet) → is_message p ≡ true → kind_of p ≡ 1
kind_message (Message from to number doors) e = refl
kind_message (Acknowledgement from to number) e = absurd (true≢false (sym e))

pub kind_acknowledgement : (p : Packet) → is_message p ≡ false → kind_of p ≡ 2
kind_acknowledgement (Message from to number doors) e = absurd (true≢false e)
kind_acknowledgement (Acknowledgement from to number) e = refl

-- the other end is the end at the other end's way
pub other_end : (way : Way) (p : Packet) → end_of (other_way way) p ≡ other_of way p
other_end Sent p = refl
other_end Got p = refl

-- ---- a line that was written from the start of a small array on, where it has room

module _ {r : ℕ} {new old : List ℕ} (w : List ℕ) (room : length w ≤ length old) (h : Puts r new old 0 w) where
  wrote : Writes r new old 0 w
  wrote = puts_all w (omega (arith, room)) h

  pub line_size : r ≡ length w
  line_size = omega (arith, wrote.place)

  pub line_begins : take r new ≡ w
  line_begins = ap₂ (λ (k : ℕ) (l : List ℕ). take k l) line_size wrote.left ∙ written_taken old w

-- ---- their lengths

pub owner_length : (owner : ℕ) → owner < 256 → length (owner_bytes owner) ≤ 11
owner_length owner h = omega (arith, length-append (decimal owner) (10 ∷ []), decimal_length 20 2 owner (omega (arith, h)))

pub kind_below : (p : Packet) → kind_of p < 10
kind_below (Message from to number doors) = omega arith
kind_below (Acknowledgement from to number) = omega arith

pub packet_length : (key : List ℕ) (kind other number : ℕ) → kind < 10 → other < 16 → number < 2 ^ 32 → length (packet_text key kind other number) ≤ length key + 16
packet_length key kind other number hk ho hn =
    omega (
      arith,
      length-append key (from_kind kind other number),
      length-append (decimal kind) (from_other other number),
      length-append (decimal other) (from_number number),
      length-append (decimal number) (10 ∷ []),
      decimal_length 20 0 kind (omega (arith, hk)),
      decimal_length 20 1 other (omega (arith, ho)),
      decimal_length 20 9 number (omega (arith, hn)),
    )

-- ---- a packet that was sent or got

pub way_text : (way : Way) (p : Packet) → packet_text (way_key way) (kind_of p) (other_of way p) (number_of p) ≡ line_bytes (way_line way p)
way_text Sent p = sent_text p
way_text Got p = got_text p

key_length : (way : Way) → length (way_key way) ≤ 5
key_length Sent = omega arith
key_length Got = omega arith

other_below : (way : Way) (p : Packet) → good_ends p ≡ true → other_of way p < 16
other_below Sent p e = (good_ends_lem p e).1
other_below Got p e = (good_ends_lem p e).0

-- the line of a packet that was read
pub way_length : (way : Way) (s : List ℕ) → Bytes s → (q : Part) → given q ≡ read s
    → length (packet_text (way_key way) (kind_of q.packet) (other_of way q.packet) (number_of q.packet)) ≤ 21
way_length way s h q e =
    let p = q.packet in
    let r = write_read wide s h q (sym e) in
    omega (arith, packet_length (way_key way) (kind_of p) (other_of way p) (number_of p) (kind_below p) (other_below way p r.ends) r.fits.number, key_length way)

pub way_called : (way : Way) (column packet old : List ℕ)
    → way_call way column packet old ≡ filled_over (is_column column) (way_left way (own_in column) (read packet) old) old
unfolding sent_call got_call
way_called Sent column packet old = ap (λ (f : Filled). filled_over (is_column column) f old) (go (read packet))
  where
    go : (g : Given Part) → sent_left (own_in column) g old ≡ way_left Sent (own_in column) g old
    go (given q) = refl
    go (refused n) = refl
way_called Got column packet old = ap (λ (f : Filled). filled_over (is_column column) f old) (go (read packet))
  where
    go : (g : Given Part) → got_left (own_in column) g old ≡ way_left Got (own_in column) g old
    go (given q) = refl
    go (refused n) = refl
