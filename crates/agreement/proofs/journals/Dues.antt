-- The journals beside the columns: what a move writes, and what a column's journal says of whom it owes and whom it has served. Assumes nothing.
use Prim.Native.Nat.{ℕ, ◌≤◌, ◌<◌}
use native.Mathlib.Omega.{arith}
use mathlib.Core.Path.{◌≡◌, refl, sym, subst, ◌∙◌, ap}
use mathlib.Core.Logic.{◌≢◌, ⊎_elim}
use mathlib.Core.Bool.{Bool, true, false, cond, not, ◌&&◌}
use mathlib.Core.List.{List, [], ◌∷◌, ◌++◌, Memᴰ}
use lib.Dec.{eqb, ltb}
use borrow.Author.Tests.{eq-eqb, ne_eqb, lt-ltb, le-ltb}
use Rattle.column.specs.laws.SubtreeLaws.{Under}
use Rattle.column.specs.Packets.{sender, receiver}
use Rattle.column.specs.Sets.{has}
use Rattle.column.specs.laws.SetLaws.{member_pos, no_members}
use Rattle.column.specs.declared.tree.Tree.{Tree}
use Rattle.column.specs.declared.state.Column.{Column}
use Rattle.column.specs.declared.packet.Packet.{Packet}
use Rattle.column.specs.declared.packet.Packet.TheVariants.{Message, Acknowledgement}
use Rattle.journals.specs.Journals.{line}
use Rattle.journals.specs.declared.line.Way.TheVariants.{Sent, Got}
use Rattle.journals.specs.declared.line.Kind.TheVariants as kind-is
use Rattle.journals.specs.declared.line.Line.{Line}
use Rattle.journals.specs.PacketLines.{sent_line}
use Rattle.agreement.specs.Journals.{Journals, written, all_got, all_sent, Wrote, Proper}
use Rattle.agreement.proofs.relation.Model.{In, State, Runs}
use Rattle.agreement.proofs.relation.Move.{Event, Move, order, send_self, send_noted, send_message, take_acknowledgement, take_stale, take_equal, take_lower, take_left, take_higher, acknowledge, widen, note_awaited, note_other, halt, back, orders, sends, takes, acknowledges, widens, notes, halts, backs}
use Rattle.agreement.proofs.relation.Members.{Below, absent}
use Rattle.agreement.proofs.invariant.Invariant.{number, Invariant}
use Rattle.agreement.proofs.invariant.Adjusting.{adjusted}
use Rattle.agreement.proofs.journals.PacketsLogged.{got_sent, way_of, kind_of_lem, other_of, number_of_lem, written_other, wrote_cases, wrote_old, Logged, logged_put}
use Rattle.agreement.proofs.bounds.SpreadKept.{AllSpread}
use Rattle.agreement.proofs.refinement.ReceivedByMoves.{leaves}
use Rattle.agreement.proofs.invariant.Validity.{Validity}

-- ---- what a move writes

abbrev pub posted : State → Packet → List Packet
posted s p = cond (s.columns (receiver p)).running (p ∷ []) []

module _ {t : Tree} {s s' : State} where
  -- the packets that it gets
  unfoldable pub gots : {e : Event} → Move t s s' e → List Packet
  gots (order d r idle free b) = []
  gots (send_self a x r e m b) = []
  gots (send_noted a x r m n b) = []
  gots (send_message a x r e m n b) = []
  gots (take_acknowledgement a q k r e taken b) = Acknowledgement q a k ∷ []
  gots (take_stale a q k r e taken b) = Acknowledgement q a k ∷ []
  gots (take_equal a q k d r e taken b) = Message q a k d ∷ []
  gots (take_lower a q k d r lt taken b) = Message q a k d ∷ []
  gots (take_left a q k d x r lt taken m b) = []
  gots (take_higher a q k d r lt taken e b) = Message q a k d ∷ []
  gots (acknowledge a x r m o b) = []
  gots (widen a r n m w idle b) = []
  gots (note_awaited a j r h n m b) = []
  gots (note_other a j r h n m u b) = []
  gots (halt a r b) = []
  gots (back j l noted rest h n nr r k b) = []

  -- the packets that it puts
  unfoldable pub puts : {e : Event} → Move t s s' e → List Packet
  puts (order d r idle free b) = []
  puts (send_self a x r e m b) = []
  puts (send_noted a x r m n b) = []
  puts (send_message a x r e m n b) = posted s (Message a x (s.columns a).number (s.columns a).doors)
  puts (take_acknowledgement a q k r e taken b) = []
  puts (take_stale a q k r e taken b) = []
  puts (take_equal a q k d r e taken b) = []
  puts (take_lower a q k d r lt taken b) = posted s (Acknowledgement a q k)
  puts (take_left a q k d x r lt taken m b) = posted s (Acknowledgement a x (s.columns a).number)
  puts (take_higher a q k d r lt taken e b) = []
  puts (acknowledge a x r m o b) = posted s (Acknowledgement a x (s.columns a).number)
  puts (widen a r n m w idle b) = []
  puts (note_awaited a j r h n m b) = []
  puts (note_other a j r h n m u b) = []
  puts (halt a r b) = []
  puts (back j l noted rest h n nr r k b) = []

  abbrev pub moved : Journals → {e : Event} → Move t s s' e → Journals
  moved j m = all_sent (all_got j (gots m)) (puts m)

-- ---- the journal of a column beside the column

module _ (t : Tree) where
  -- x may still be sent to under this number
  pub data Ahead (c : Column) (x : ℕ) : Type 0 where
    to_send : (y : ℕ) → In c.send y → Under t y x → Ahead c x
    beyond : (y : ℕ) → In c.awaited y → Below t y x → Ahead c x

  -- column i has sent a message numbered k to q
  pub record Served (i : ℕ) (c : Column) (q k : ℕ) : Type 0 where
    pub at_most : k ≤ c.number
    pub own : k ≡ c.number → c.whole ≡ false → Below t i q
    pub done : k ≡ c.number → Ahead c q → (c.whole ≡ true) × (i ≢ t.root) × Below t i q

  pub record Dues (i : ℕ) (c : Column) (l : List Line) : Type 0 where
    pub owed_got : (p : ℕ) → In c.owed p → Memᴰ (line Got kind-is.Message p c.number) l
    pub owed_open : (p : ℕ) → In c.owed p → Memᴰ (line Sent kind-is.Acknowledgement p c.number) l → ⊥
    pub served : (q k : ℕ) → Memᴰ (line Sent kind-is.Message q k) l → Served i c q k

pub record Recorded (t : Tree) (s : State) (j : Journals) : Type 0 where
  pub logged : Logged t.columns s.network j
  pub dues : (i : ℕ) → Runs s i → Dues t i (s.columns i) (j i)
  pub spread : AllSpread t s

pub one_two : kind-is.Message ≡ kind-is.Acknowledgement → ⊥
one_two e = cc

module _ (t : Tree) (i : ℕ) where
  -- nobody more is owed, and nobody more is ahead
  pub dues_adjusted : {c : Column} {l : List Line} {send awaited owed noted : ℕ} → Dues t i c l
      → ((p : ℕ) → In owed p → In c.owed p)
      → ((q : ℕ) → Ahead t (adjusted c send awaited owed noted) q → Ahead t c q)
      → Dues t i (adjusted c send awaited owed noted) l
  dues_adjusted d f g = record {
    owed_got = λ p m. d.owed_got p (f p m);
    owed_open = λ p m. d.owed_open p (f p m);
    served = λ q k w. let z = d.served q k w in record { at_most = z.at_most; own = z.own; done = λ e h. z.done e (g q h) };
  }

  module _ (j : Journals) {c : Column} (d : Dues t i c (j i)) where
    pub dues_got : (x : Line) → x.way ≡ Got → Dues t i c (written j i x i)
    dues_got x e = record {
      owed_got = λ p m. wrote_old j i x i (d.owed_got p m);
      owed_open = λ p m w. ⊎_elim (d.owed_open p m) (λ z. got_sent (sym e ∙ sym (way_of z.1))) (wrote_cases j i x i w);
      served = λ q k w. ⊎_elim (d.served q k) (λ z. absurd (got_sent (sym e ∙ sym (way_of z.1)))) (wrote_cases j i x i w);
    }

    pub dues_acknowledged : (r n : ℕ) → ((p : ℕ) → In c.owed p → p ≡ r → c.number ≡ n → ⊥) → Dues t i c (written j i (line Sent kind-is.Acknowledgement r n) i)
    dues_acknowledged r n f = record {
      owed_got = λ p m. wrote_old j i (line Sent kind-is.Acknowledgement r n) i (d.owed_got p m);
      owed_open = λ p m w. ⊎_elim (d.owed_open p m) (λ z. f p m (other_of z.1) (number_of_lem z.1)) (wrote_cases j i (line Sent kind-is.Acknowledgement r n) i w);
      served = λ q k w. ⊎_elim (d.served q k) (λ z. absurd (one_two (kind_of_lem z.1))) (wrote_cases j i (line Sent kind-is.Acknowledgement r n) i w);
    }

    pub dues_served : (x n : ℕ) → Served t i c x n → Dues t i c (written j i (line Sent kind-is.Message x n) i)
    dues_served x n f = record {
      owed_got = λ p m. wrote_old j i (line Sent kind-is.Message x n) i (d.owed_got p m);
      owed_open = λ p m w. ⊎_elim (d.owed_open p m) (λ z. one_two (sym (kind_of_lem z.1))) (wrote_cases j i (line Sent kind-is.Message x n) i w);
      served = λ q k w. ⊎_elim (d.served q k)
          (λ z. subst (λ (y : ℕ). Served t i c y k) (sym (other_of z.1)) (subst (λ (y : ℕ). Served t i c x y) (sym (number_of_lem z.1)) f))
          (wrote_cases j i (line Sent kind-is.Message x n) i w);
    }

-- ---- a packet is put, or not

module _ (j : Journals) (p : Packet) where
  pub logged_posted : {columns : ℕ} {l : List Packet} → Logged columns l j → Proper columns (sender p) (sent_line p) → (Wrote j (sender p) (sent_line p) → ⊥)
      → ((q n : ℕ) → line Sent kind-is.Acknowledgement q n ≡ sent_line p → Wrote j (sender p) (line Got kind-is.Message q n))
      → (b : Bool) → Logged columns (cond b (l ++ (p ∷ [])) l) (all_sent j (cond b (p ∷ []) []))
  unfolding all_sent
  logged_posted g c n f true = logged_put g p c n f
  logged_posted g c n f false = g

  pub posted_other : (b : Bool) (i : ℕ) → i ≢ sender p → all_sent j (cond b (p ∷ []) []) i ≡ j i
  unfolding all_sent
  posted_other true i n = written_other j (sender p) (sent_line p) i n
  posted_other false i n = refl

  pub posted_mine : (P : List Line → Type 0) → P (j (sender p)) → P (written j (sender p) (sent_line p) (sender p)) → (b : Bool) → P (all_sent j (cond b (p ∷ []) []) (sender p))
  unfolding all_sent
  posted_mine P f g true = g
  posted_mine P f g false = f

-- ---- by the event

abbrev pub got_by : State → Event → List Packet
got_by s (orders d) = []
got_by s (sends i x) = []
got_by s (takes (Message q a k d) o) = cond (leaves s a k) [] (Message q a k d ∷ [])
got_by s (takes (Acknowledgement q a k) o) = Acknowledgement q a k ∷ []
got_by s (acknowledges i o) = []
got_by s (widens i) = []
got_by s (notes i j) = []
got_by s (halts i) = []
got_by s (backs j l) = []

abbrev pub answered_by : State → ℕ → ℕ → ℕ → ℕ → List Packet
answered_by s q a k o =
    cond (eqb k (number s a)) []
    (cond (ltb k (number s a)) (posted s (Acknowledgement a q k))
    (cond (eqb (s.columns a).owed 0) [] (posted s (Acknowledgement a o (number s a)))))

abbrev pub put_by : State → Event → List Packet
put_by s (orders d) = []
put_by s (sends i x) =
    cond (eqb x i) [] (cond (has (s.columns i).noted x) [] (posted s (Message i x (number s i) (s.columns i).doors)))
put_by s (takes (Message q a k d) o) = answered_by s q a k o
put_by s (takes (Acknowledgement q a k) o) = []
put_by s (acknowledges i o) = posted s (Acknowledgement i o (number s i))
put_by s (widens i) = []
put_by s (notes i j) = []
put_by s (halts i) = []
put_by s (backs j l) = []

-- ---- a move gets and puts these

module _ {t : Tree} {s : State} (inv : Invariant t s) (v : Validity t s) where
  some_owed : (a x : ℕ) → In (s.columns a).owed x → eqb (s.columns a).owed 0 ≡ false
  some_owed a x m = ne_eqb (s.columns a).owed 0 (λ z. omega (arith, member_pos (s.columns a).owed x m.holds))

  none_owed : (a : ℕ) → Runs s a → ((q : ℕ) → In (s.columns a).owed q → ⊥) → eqb (s.columns a).owed 0 ≡ true
  none_owed a r e =
      eq-eqb (s.columns a).owed 0 (no_members t.columns (s.columns a).owed (v.each_valid a (inv.inside a r)).owed (λ i h. absent (s.columns a).owed i (e i)))

  not_left : (a k : ℕ) → ¬ (number s a < k) → leaves s a k ≡ false
  not_left a k n = ap (λ (b : Bool). b && not (eqb (s.columns a).owed 0)) (le-ltb (number s a) k (omega (arith, n)))

  pub gots_by : {s' : State} {e : Event} (m : Move t s s' e) → gots m ≡ got_by s e
  unfolding gots
  gots_by (order d r idle free b) = refl
  gots_by (send_self a x r e m b) = refl
  gots_by (send_noted a x r m n b) = refl
  gots_by (send_message a x r e m n b) = refl
  gots_by (take_acknowledgement a q k r e taken b) = refl
  gots_by (take_stale a q k r e taken b) = refl
  gots_by (take_equal a q k d r e taken b) = rw (not_left a k (λ l. omega (arith, e)))
  gots_by (take_lower a q k d r lt taken b) = rw (not_left a k (λ l. omega arith))
  gots_by (take_left a q k d x r lt taken m b) = rw (lt-ltb (number s a) k lt, some_owed a x m)
  gots_by (take_higher a q k d r lt taken e b) = rw (lt-ltb (number s a) k lt, none_owed a r e)
  gots_by (acknowledge a x r m o b) = refl
  gots_by (widen a r n m w idle b) = refl
  gots_by (note_awaited a j r h n m b) = refl
  gots_by (note_other a j r h n m u b) = refl
  gots_by (halt a r b) = refl
  gots_by (back j l noted rest h n nr r k b) = refl

  pub puts_by : {s' : State} {e : Event} (m : Move t s s' e) → puts m ≡ put_by s e
  unfolding puts
  puts_by (order d r idle free b) = refl
  puts_by (send_self a x r e m b) = rw (eq-eqb x a e)
  puts_by (send_noted a x r m n b) =
      let other : x ≢ a = λ e. (inv.coverages a r).noted_halted x n (subst (Runs s) (sym e) r) in
      rw (ne_eqb x a other, n.holds)
  puts_by (send_message a x r e m n b) = rw (ne_eqb x a e, absent (s.columns a).noted x n)
  puts_by (take_acknowledgement a q k r e taken b) = refl
  puts_by (take_stale a q k r e taken b) = refl
  puts_by (take_equal a q k d r e taken b) = rw (eq-eqb k (number s a) e)
  puts_by (take_lower a q k d r lt taken b) = rw (ne_eqb k (number s a) (λ e. omega arith), lt-ltb k (number s a) lt)
  puts_by (take_left a q k d x r lt taken m b) =
      rw (ne_eqb k (number s a) (λ e. omega arith), le-ltb k (number s a) (omega arith), some_owed a x m)
  puts_by (take_higher a q k d r lt taken e b) =
      rw (ne_eqb k (number s a) (λ e. omega arith), le-ltb k (number s a) (omega arith), none_owed a r e)
  puts_by (acknowledge a x r m o b) = refl
  puts_by (widen a r n m w idle b) = refl
  puts_by (note_awaited a j r h n m b) = refl
  puts_by (note_other a j r h n m u b) = refl
  puts_by (halt a r b) = refl
  puts_by (back j l noted rest h n nr r k b) = refl
