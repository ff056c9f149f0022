-- The packets under way beside the journals: what each says of the other, and that a put and a take keep it. Assumes nothing.
use Prim.Native.Nat.{ℕ}
use mathlib.Core.Path.{◌≡◌, refl, sym, ap, subst, ◌∙◌}
use mathlib.Core.Logic.{⊎_elim, ◌≢◌, ◌⊎◌, inl, inr}
use mathlib.Core.Bool.{Bool, true, false, cond}
use mathlib.Core.List.Memᴰ
use mathlib.Core.List.{List, [], ◌∷◌, ◌++◌, Memᴰ}
use native.Mathlib.Omega.{arith}
use lib.Dec.{eqb}
use borrow.Author.Tests.{eq-eqb, ne_eqb}
use Rattle.column.specs.Packets.{sender, receiver, number_of}
use Rattle.column.specs.laws.Cases.{equal_cases}
use Rattle.column.specs.declared.packet.Packet.{Packet}
use Rattle.bank.specs.laws.NetworkLaws.{others}
use Rattle.journals.specs.Journals.{line, Once}
use Rattle.journals.specs.declared.line.Way.{Way}
use Rattle.journals.specs.declared.line.Way.TheVariants.{Sent, Got}
use Rattle.journals.specs.declared.line.Kind.{Kind}
use Rattle.journals.specs.declared.line.Kind.TheVariants as kind-is
use Rattle.journals.specs.declared.line.Line.{Line}
use Rattle.journals.specs.PacketLines.{packet_kind, sent_line, got_line}
use Rattle.agreement.specs.Journals.{Journals, written, Wrote, Proper}
use Rattle.agreement.proofs.relation.Model.{Taken, first, later, Holds, holds_none, taken_held, taken_back, others_back}

pub got_sent : Got ≡ Sent → ⊥
got_sent e = let z : ◌≡◌ {A = ℕ} 0 1 = cc in omega arith

pub way_of : {x y : Line} → x ≡ y → x.way ≡ y.way
way_of e = ap (λ (l : Line). l.way) e

pub kind_of_lem : {x y : Line} → x ≡ y → x.kind ≡ y.kind
kind_of_lem e = ap (λ (l : Line). l.kind) e

pub other_of : {x y : Line} → x ≡ y → x.other ≡ y.other
other_of e = ap (λ (l : Line). l.other) e

pub number_of_lem : {x y : Line} → x ≡ y → x.number ≡ y.number
number_of_lem e = ap (λ (l : Line). l.number) e

-- ---- a line is written

module _ (j : Journals) (a : ℕ) (x : Line) where
  pub written_mine : written j a x a ≡ j a ++ (x ∷ [])
  written_mine = ap (λ (b : Bool). cond b (j a ++ (x ∷ [])) (j a)) (eq-eqb a a refl)

  pub written_other : (i : ℕ) → i ≢ a → written j a x i ≡ j i
  written_other i n = ap (λ (b : Bool). cond b (j i ++ (x ∷ [])) (j i)) (ne_eqb i a n)

  pub wrote_cases : (i : ℕ) {y : Line} → Wrote (written j a x) i y → Wrote j i y ⊎ ((i ≡ a) × (y ≡ x))
  wrote_cases i {y} h = ⊎_elim
      (λ e. ⊎_elim (λ k. inl k) (λ k. inr (e, Memᴰ.eq_of_singleton k))
      (Memᴰ.append_cases (j i) (subst (λ (l : List Line). Memᴰ y l) (ap (written j a x) e ∙ written_mine ∙ sym (ap (λ (k : ℕ). j k ++ (x ∷ [])) e)) h)))
      (λ n. inl (subst (λ (l : List Line). Memᴰ y l) (written_other i n) h))
      (equal_cases i a)

  pub wrote_old : (i : ℕ) {y : Line} → Wrote j i y → Wrote (written j a x) i y
  wrote_old i {y} h = ⊎_elim
      (λ e. subst (λ (l : List Line). Memᴰ y l) (sym (ap (written j a x) e ∙ written_mine))
      (Memᴰ.append_left (x ∷ []) (subst (λ (k : ℕ). Memᴰ y (j k)) e h)))
      (λ n. subst (λ (l : List Line). Memᴰ y l) (sym (written_other i n)) h)
      (equal_cases i a)

  pub wrote_new : Wrote (written j a x) a x
  wrote_new = subst (λ (l : List Line). Memᴰ x l) (sym written_mine) (Memᴰ.append_right (j a) (Memᴰ.head refl))

-- ---- no line twice

pub once_append : (l : List Line) (x : Line) → Once l → (Memᴰ x l → ⊥) → Once (l ++ (x ∷ []))
unfolding Once
once_append [] x o n = (λ h. Memᴰ.not-nil h, tt)
once_append (y ∷ l) x o n = (
  λ h. ⊎_elim o.0 (λ k. n (Memᴰ.head (sym (Memᴰ.eq_of_singleton k)))) (Memᴰ.append_cases l h),
  once_append l x o.1 (λ h. n (Memᴰ.tail h)),
)

pub once_written : (j : Journals) (a : ℕ) (x : Line) → ((i : ℕ) → Once (j i)) → (Wrote j a x → ⊥) → (i : ℕ) → Once (written j a x i)
once_written j a x o n i = ⊎_elim
    (λ e. subst Once (sym (ap (written j a x) e ∙ written_mine j a x)) (once_append (j a) x (o a) n))
    (λ d. subst Once (sym (written_other j a x i d)) (o i))
    (equal_cases i a)

-- ---- packets that write the same line

-- the same kind, ends and number
abbrev pub Alike : Packet → Packet → Type 0
Alike p r = (sender p ≡ sender r) × (sent_line p ≡ sent_line r)

-- no two of them alike
unfoldable pub Distinct : List Packet → Type 0
Distinct [] = Unit {0}
Distinct (p ∷ l) = ((r : Packet) → Holds l r → Alike p r → ⊥) × Distinct l

pub distinct_taken : {l l' : List Packet} {p : Packet} → Taken l p l' → Distinct l → Distinct l' × ((r : Packet) → Holds l' r → Alike p r → ⊥)
unfolding Distinct
distinct_taken first d = (d.1, d.0)
distinct_taken (later {p} {q} {l} {l'} t) d =
    let z = distinct_taken t d.1 in (
      ((λ r h. d.0 r (taken_back t h)), z.0),
      λ r h k. ⊎_elim (λ e. d.0 p (taken_held t) (sym (k.0 ∙ ap sender e), sym (k.1 ∙ ap sent_line e))) (λ m. z.1 r m k) (Memᴰ.cases_cons h),
    )

pub distinct_put : (l : List Packet) (p : Packet) → Distinct l → ((r : Packet) → Holds l r → Alike r p → ⊥) → Distinct (l ++ (p ∷ []))
unfolding Distinct
distinct_put [] p d n = ((λ r h k. holds_none h), tt)
distinct_put (q ∷ l) p d n = (
  λ r h k. ⊎_elim (λ m. d.0 r m k)
      (λ m. let e = Memᴰ.eq_of_singleton m in n q (Memᴰ.head refl) (k.0 ∙ ap sender e, k.1 ∙ ap sent_line e))
      (Memᴰ.append_cases l h),
  distinct_put l p d.1 (λ r m. n r (Memᴰ.tail m)),
)

pub distinct_others : (a : ℕ) (l : List Packet) → Distinct l → Distinct (others a l)
unfolding Distinct others
distinct_others a [] d = tt
distinct_others a (p ∷ l) d = go (eqb (receiver p) a) (distinct_others a l d.1)
  where
    go : (b : Bool) → Distinct (others a l) → Distinct (cond b (others a l) (p ∷ others a l))
    go true rest = rest
    go false rest = ((λ r h. d.0 r (others_back a l h)), rest)

-- ---- lines of one packet

-- two packets to one column that it got by the same line were sent by the same
pub alike : (p r : Packet) → receiver p ≡ receiver r → got_line p ≡ got_line r → Alike p r
alike p r f e = (other_of e, λ i. line Sent (kind_of_lem e i) (f i) (number_of_lem e i))

-- the line that the sender of p wrote, from the one by which its receiver got it
pub sent_as : (j : Journals) (p : Packet) (i q : ℕ) (kind : Kind) (n : ℕ) → i ≡ receiver p → line Got kind q n ≡ got_line p → Wrote j (sender p) (sent_line p)
    → Wrote j q (line Sent kind i n)
sent_as j p i q kind n f e h =
    subst (λ (x : ℕ). Wrote j x (line Sent kind i n)) (sym (other_of e))
    (subst (λ (x : Line). Wrote j (sender p) x) (sym (λ k. line Sent (kind_of_lem e k) (f k) (number_of_lem e k))) h)

-- ---- the network and the journals

pub record Logged (columns : ℕ) (l : List Packet) (j : Journals) : Type 0 where
  pub proper : (i q : ℕ) (kind : Kind) (n : ℕ) → Wrote j i (line Sent kind q n) → Proper columns i (line Sent kind q n)
  pub distinct : Distinct l
  pub was_sent : (p : Packet) → Holds l p → Wrote j (sender p) (sent_line p)
  pub not_got : (p : Packet) → Holds l p → Wrote j (receiver p) (got_line p) → ⊥
  pub heard : (i q : ℕ) (kind : Kind) (n : ℕ) → Wrote j i (line Got kind q n) → Wrote j q (line Sent kind i n)
  pub acknowledged : (i q n : ℕ) → Wrote j i (line Sent kind-is.Acknowledgement q n) → Wrote j i (line Got kind-is.Message q n)
  pub once : (i : ℕ) → Once (j i)

pub logged_none : (columns : ℕ) → Logged columns [] (λ i. [])
unfolding Distinct Once
logged_none columns = record {
  proper = λ i q kind n h. absurd (Memᴰ.not-nil h);
  distinct = tt;
  was_sent = λ p h. absurd (holds_none h);
  not_got = λ p h. absurd (holds_none h);
  heard = λ i q kind n h. absurd (Memᴰ.not-nil h);
  acknowledged = λ i q n h. absurd (Memᴰ.not-nil h);
  once = λ i. tt;
}

module _ {columns : ℕ} {l : List Packet} {j : Journals} (g : Logged columns l j) where
  -- packets vanish
  pub logged_others : (a : ℕ) → Logged columns (others a l) j
  logged_others a = record {
    proper = g.proper;
    distinct = distinct_others a l g.distinct;
    was_sent = λ p h. g.was_sent p (others_back a l h);
    not_got = λ p h. g.not_got p (others_back a l h);
    heard = g.heard;
    acknowledged = g.acknowledged;
    once = g.once;
  }

  -- a packet is got
  pub logged_got : {l' : List Packet} {p : Packet} → Taken l p l' → Logged columns l' (written j (receiver p) (got_line p))
  logged_got {l'} {p} t = record {
    proper = λ i q kind n w. ⊎_elim (g.proper i q kind n) (λ z. absurd (got_sent (sym (way_of z.1)))) (wrote_cases j a x i w);
    distinct = d.0;
    was_sent = λ r h. wrote_old j a x (sender r) (g.was_sent r (taken_back t h));
    not_got = λ r h w. ⊎_elim (g.not_got r (taken_back t h)) (λ z. d.1 r h (alike p r (sym z.0) (sym z.1))) (wrote_cases j a x (receiver r) w);
    heard = λ i q kind n w. wrote_old j a x q (⊎_elim (g.heard i q kind n)
        (λ z. sent_as j p i q kind n z.0 z.1 (g.was_sent p (taken_held t))) (wrote_cases j a x i w));
    acknowledged = λ i q n w. wrote_old j a x i (⊎_elim (g.acknowledged i q n) (λ z. absurd (got_sent (sym (way_of z.1)))) (wrote_cases j a x i w));
    once = once_written j a x g.once (g.not_got p (taken_held t));
  }
    where
      a : ℕ
      a = receiver p

      x : Line
      x = got_line p

      d : Distinct l' × ((r : Packet) → Holds l' r → Alike p r → ⊥)
      d = distinct_taken t g.distinct

  -- a packet is put that its sender has not sent before; an acknowledgement answers a message that was got
  pub logged_put : (p : Packet) → Proper columns (sender p) (sent_line p) → (Wrote j (sender p) (sent_line p) → ⊥) → ((q n : ℕ) → line Sent kind-is.Acknowledgement q n ≡ sent_line p → Wrote j (sender p) (line Got kind-is.Message q n))
      → Logged columns (l ++ (p ∷ [])) (written j (sender p) (sent_line p))
  logged_put p fits new answers = record {
    proper = λ i q kind n w. ⊎_elim (g.proper i q kind n)
        (λ z. subst (λ (y : Line). Proper columns i y) (sym z.1) (subst (λ (k : ℕ). Proper columns k x) (sym z.0) fits)) (wrote_cases j a x i w);
    distinct = distinct_put l p g.distinct (λ r h k. new (subst (λ (i : ℕ). Wrote j i x) k.0 (subst (λ (y : Line). Wrote j (sender r) y) k.1 (g.was_sent r h))));
    was_sent = λ r h. ⊎_elim (λ m. wrote_old j a x (sender r) (g.was_sent r m))
        (λ m. subst (λ (y : Packet). Wrote (written j a x) (sender y) (sent_line y)) (sym (Memᴰ.eq_of_singleton m)) (wrote_new j a x))
        (Memᴰ.append_cases l h);
    not_got = λ r h w. ⊎_elim (λ m. ⊎_elim (λ m. g.not_got r m) (λ m v. unheard r (Memᴰ.eq_of_singleton m) v) (Memᴰ.append_cases l h) m)
        (λ z. got_sent (way_of z.1)) (wrote_cases j a x (receiver r) w);
    heard = λ i q kind n w. wrote_old j a x q (⊎_elim (g.heard i q kind n) (λ z. absurd (got_sent (way_of z.1))) (wrote_cases j a x i w));
    acknowledged = λ i q n w. wrote_old j a x i (⊎_elim (g.acknowledged i q n)
        (λ z. subst (λ (k : ℕ). Wrote j k (line Got kind-is.Message q n)) (sym z.0) (answers q n z.1)) (wrote_cases j a x i w));
    once = once_written j a x g.once new;
  }
    where
      a : ℕ
      a = sender p

      x : Line
      x = sent_line p

      unheard : (r : Packet) → r ≡ p → Wrote j (receiver r) (got_line r) → ⊥
      unheard r e w = new (subst (λ (y : Packet). Wrote j (sender y) (sent_line y)) e (g.heard (receiver r) (sender r) (packet_kind r) (number_of r) w))

  -- a line of either way
  pub logged_proper : (i : ℕ) (x : Line) → Wrote j i x → Proper columns i x
  logged_proper i x h = go x.way x.kind x.other x.number h
    where
      go : (w : Way) (kind : Kind) (q n : ℕ) → Wrote j i (line w kind q n) → Proper columns i (line w kind q n)
      go Sent kind q n h = g.proper i q kind n h
      go Got kind q n h = let z = g.proper q i kind n (g.heard i q kind n h) in record {
        owner_below = z.other_below;
        other_below = z.owner_below;
        other_apart = λ e. z.other_apart (sym e);
        number_fits = z.number_fits;
      }
