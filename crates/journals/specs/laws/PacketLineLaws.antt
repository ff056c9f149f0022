-- What a column writes, line by line, is the journal that the comparer reads. Assumes nothing.
use Rattle.std.specs.Prelude.{ℕ, ◌<◌, ◌≡◌, refl, true, List, [], ◌∷◌, ◌++◌}
use Rattle.std.proofs.Common.{sym, ap, ◌∙◌, append_assoc}
use Rattle.column.specs.Refusals.{given}
use Rattle.column.specs.Packets.{sender, receiver, number_of, good_ends}
use Rattle.column.specs.laws.PacketLaws.{good_ends_lem}
use Rattle.column.specs.Columns.{numbers}
use Rattle.column.specs.declared.packet.Packet.{Packet}
use Rattle.text.specs.Text.{column_key, newline, decimal}
use Rattle.journals.specs.Journals.{line_of, line_text, lines_text, journal_text}
use Rattle.journals.specs.laws.JournalLaws.{line_reads}
use Rattle.journals.specs.PacketLines.{sent_line, got_line, owner_bytes, line_bytes}
use Rattle.journals.specs.declared.line.Line.{Line}

-- the comparer reads the line of a packet as that line, in the journal of the column that sent it, and of the one that got it
module _ (p : Packet) (good : good_ends p ≡ true) (fits : number_of p < numbers) where
  pub sent_reads : line_of (sender p) (line_text (sent_line p)) ≡ given (sent_line p)
  sent_reads =
      line_reads (sender p) (sent_line p)
      (record { other_below = (good_ends_lem p good).1; other_apart = λ e. (good_ends_lem p good).2 (sym e); number_below = fits })

  pub got_reads : line_of (receiver p) (line_text (got_line p)) ≡ given (got_line p)
  got_reads =
      line_reads (receiver p) (got_line p)
      (record { other_below = (good_ends_lem p good).0; other_apart = λ e. (good_ends_lem p good).2 e; number_below = fits })

-- a journal begins with its owner's line, and a line more follows those before it
pub journal_begins : (owner : ℕ) → journal_text owner [] ≡ owner_bytes owner
unfolding lines_text
journal_begins owner = refl

lines_more : (l : List Line) (x : Line) → lines_text (l ++ (x ∷ [])) ≡ lines_text l ++ line_bytes x
unfolding lines_text
lines_more [] x = refl
lines_more (y ∷ l) x = ap (λ (s : List ℕ). line_text y ++ (newline ∷ s)) (lines_more l x) ∙ sym (append_assoc (line_text y) (newline ∷ lines_text l) (line_bytes x))

pub journal_more : (owner : ℕ) (l : List Line) (x : Line) → journal_text owner (l ++ (x ∷ [])) ≡ journal_text owner l ++ line_bytes x
journal_more owner l x =
    ap (λ (s : List ℕ). column_key ++ (decimal owner ++ (newline ∷ s))) (lines_more l x)
    ∙ ap (λ (s : List ℕ). column_key ++ s) (sym (append_assoc (decimal owner) (newline ∷ lines_text l) (line_bytes x)))
    ∙ sym (append_assoc column_key (decimal owner ++ (newline ∷ lines_text l)) (line_bytes x))
