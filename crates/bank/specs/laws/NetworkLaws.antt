-- The packets that the words of a network mean, and what a put, a removal and a halt make of them. The words of places without a packet
-- are neither read nor written, but for those that a step frees.
-- Assumes nothing.
use Rattle.std.specs.Prelude.{ℕ, zero, suc, ◌+◌, ◌≤◌, ◌<◌, ◌≡◌, refl, Bool, true, false, not, cond, List, [], ◌∷◌, ◌++◌, eqb, length, get_or, set, take, drop}
use Rattle.std.proofs.Common.{sym, ◌∙◌, arith, add-one, length-take, length-set, get_or-take, length-take-le}
use Rattle.std.proofs.Math.Path.{ap, ap₂}
use Rattle.std.proofs.Math.Seq.{take-suc-set}
use Rattle.column.specs.Packets.{receiver, doors_of}
use Rattle.column.specs.declared.packet.Packet.{Packet}
use Rattle.bank.specs.Words.{head_of, packet_of, receiver_in}
use Rattle.bank.specs.laws.WordLaws.{HeadFits, packet_words, receiver_of}
use Rattle.bank.specs.Networks.{keeping, with_packet, removed, only, elsewhere, vanished}
use Rattle.bank.specs.laws.ListSteps.{keeping_few, keeping_same}
use Rattle.bank.specs.laws.ListLaws.{Freed, closed_up_front, closed_up_length, closed_up_freed, padded_front, padded_length, padded_freed}
use Rattle.bank.specs.Banks.{State, packet_at, capacity, Whole}

unfoldable pub packets_meant : List ℕ → List ℕ → List Packet
packets_meant [] ds = []
packets_meant (h ∷ hs) [] = []
packets_meant (h ∷ hs) (d ∷ ds) = packet_of h d ∷ packets_meant hs ds

-- the network, "oldest first, place 0 the oldest"
abbrev pub packets_of : State → List Packet
packets_of s = packets_meant (take s.bank.count s.heads) (take s.bank.count s.doors)

-- the packets that are not addressed to column i
unfoldable pub others : ℕ → List Packet → List Packet
others i [] = []
others i (p ∷ l) = cond (eqb (receiver p) i) (others i l) (p ∷ others i l)

-- the places that a step frees hold words 0 and 0, and those that were free are as they were
pub record WordsFreed (s t : State) : Type 0 where
  pub heads_freed : Freed 0 t.bank.count s.bank.count s.heads t.heads
  pub doors_freed : Freed 0 t.bank.count s.bank.count s.doors t.doors

-- ---- the packets of two lists of words

meant_none : (hs : List ℕ) → packets_meant hs [] ≡ []
unfolding packets_meant
meant_none [] = refl
meant_none (h ∷ hs) = refl

meant_take : (n : ℕ) (hs ds : List ℕ) → take n (packets_meant hs ds) ≡ packets_meant (take n hs) (take n ds)
unfolding packets_meant
meant_take zero hs ds = refl
meant_take (suc n) [] ds = refl
meant_take (suc n) (h ∷ hs) [] = refl
meant_take (suc n) (h ∷ hs) (d ∷ ds) = ap (λ l. packet_of h d ∷ l) (meant_take n hs ds)

meant_drop : (n : ℕ) (hs ds : List ℕ) → drop n (packets_meant hs ds) ≡ packets_meant (drop n hs) (drop n ds)
unfolding packets_meant
meant_drop zero hs ds = refl
meant_drop (suc n) [] ds = refl
meant_drop (suc n) (h ∷ hs) [] = sym (meant_none (drop n hs))
meant_drop (suc n) (h ∷ hs) (d ∷ ds) = meant_drop n hs ds

meant_append : (hs ds hs' ds' : List ℕ) → length hs ≡ length ds → packets_meant (hs ++ hs') (ds ++ ds') ≡ packets_meant hs ds ++ packets_meant hs' ds'
unfolding packets_meant
meant_append [] [] hs' ds' e = refl
meant_append [] (d ∷ ds) hs' ds' e = absurd (omega (arith, e))
meant_append (h ∷ hs) [] hs' ds' e = absurd (omega (arith, e))
meant_append (h ∷ hs) (d ∷ ds) hs' ds' e = ap (λ l. packet_of h d ∷ l) (meant_append hs ds hs' ds' (omega (arith, e)))

meant_length : (hs ds : List ℕ) → length hs ≡ length ds → length (packets_meant hs ds) ≡ length hs
unfolding packets_meant
meant_length [] ds e = refl
meant_length (h ∷ hs) [] e = absurd (omega (arith, e))
meant_length (h ∷ hs) (d ∷ ds) e = ap suc (meant_length hs ds (omega (arith, e)))

meant_at : (hs ds : List ℕ) (k : ℕ) (p : Packet) → k < length hs → k < length ds
    → get_or (packets_meant hs ds) k p ≡ packet_of (get_or hs k 0) (get_or ds k 0)
unfolding packets_meant
meant_at [] ds k p h d = absurd (omega arith)
meant_at (x ∷ hs) [] k p h d = absurd (omega arith)
meant_at (x ∷ hs) (y ∷ ds) zero p h d = refl
meant_at (x ∷ hs) (y ∷ ds) (suc k) p h d = meant_at hs ds k p (omega arith) (omega arith)

meant_others : (i : ℕ) (hs ds : List ℕ) → length hs ≡ length ds
    → packets_meant (keeping (elsewhere (only i)) hs hs) (keeping (elsewhere (only i)) hs ds) ≡ others i (packets_meant hs ds)
unfolding keeping packets_meant others
meant_others i [] ds e = refl
meant_others i (h ∷ hs) [] e = absurd (omega (arith, e))
meant_others i (h ∷ hs) (d ∷ ds) e = rw (receiver_of h d) (go (eqb (receiver_in h) i) (meant_others i hs ds (omega (arith, e))))
  where
    go : (t : Bool) → packets_meant (keeping (elsewhere (only i)) hs hs) (keeping (elsewhere (only i)) hs ds) ≡ others i (packets_meant hs ds)
        → packets_meant (cond (not t) (h ∷ keeping (elsewhere (only i)) hs hs) (keeping (elsewhere (only i)) hs hs))
        (cond (not t) (d ∷ keeping (elsewhere (only i)) hs ds) (keeping (elsewhere (only i)) hs ds))
        ≡ cond t (others i (packets_meant hs ds)) (packet_of h d ∷ others i (packets_meant hs ds))
    go true r = r
    go false r = ap (λ l. packet_of h d ∷ l) r

-- ---- the packets of a bank

module _ (s : State) (w : Whole s) where
  abbrev count : ℕ
  count = s.bank.count

  abbrev hs : List ℕ
  hs = take count s.heads

  abbrev ds : List ℕ
  ds = take count s.doors

  same_length : (n : ℕ) → length (take n s.heads) ≡ length (take n s.doors)
  same_length n = simp length-take (omega (arith, w.heads_length, w.doors_length))

  heads_there : count ≤ capacity → count ≤ length s.heads
  heads_there l = omega (arith, w.heads_length, l)

  doors_there : count ≤ capacity → count ≤ length s.doors
  doors_there l = omega (arith, w.doors_length, l)

  pub packets_length : count ≤ capacity → length (packets_of s) ≡ count
  packets_length l = meant_length hs ds (same_length count) ∙ length-take-le count s.heads (heads_there l)

  pub packet_at_lem : (k : ℕ) (p : Packet) → k < count → count ≤ capacity → get_or (packets_of s) k p ≡ packet_at s k
  packet_at_lem k p h l =
      let a : k < length hs = simp length-take (omega (arith, w.heads_length)) in
      meant_at hs ds k p a (omega (arith, a, same_length count)) ∙ ap₂ packet_of (get_or-take count s.heads k 0 h) (get_or-take count s.doors k 0 h)

  -- ---- a packet is put

  pub put_meant : (p : Packet) → HeadFits p → count < capacity → packets_of (with_packet s p) ≡ packets_of s ++ (p ∷ [])
  unfolding packets_meant
  put_meant p f l =
      let a = take-suc-set s.heads count (head_of p) (omega (arith, w.heads_length)) in
      let b = take-suc-set s.doors count (doors_of p) (omega (arith, w.doors_length)) in
      ap (λ n. packets_meant (take n (set s.heads count (head_of p))) (take n (set s.doors count (doors_of p)))) (add-one count)
      ∙ ap₂ packets_meant a b
      ∙ meant_append hs ds (head_of p ∷ []) (doors_of p ∷ []) (same_length count)
      ∙ ap (λ q. packets_of s ++ (q ∷ [])) (packet_words p f)

  pub put_whole : (p : Packet) → Whole (with_packet s p)
  put_whole p = record {
    heads_length = length-set s.heads count (head_of p) ∙ w.heads_length;
    doors_length = length-set s.doors count (doors_of p) ∙ w.doors_length;
  }

  -- ---- a packet is taken off

  module _ (place : ℕ) (h : place < count) (l : count ≤ capacity) where
    pub removed_meant : packets_of (removed s place) ≡ take place (packets_of s) ++ drop (place + 1) (packets_of s)
    removed_meant =
        let e : length (take place hs) ≡ length (take place ds) = simp length-take (omega (arith, w.heads_length, w.doors_length)) in
        ap₂ packets_meant (closed_up_front s.heads place count 0 h (heads_there l)) (closed_up_front s.doors place count 0 h (doors_there l))
        ∙ meant_append (take place hs) (take place ds) (drop (place + 1) hs) (drop (place + 1) ds) e
        ∙ sym (ap₂ ◌++◌ (meant_take place hs ds) (meant_drop (place + 1) hs ds))

    pub removed_whole : Whole (removed s place)
    removed_whole = record {
      heads_length = closed_up_length s.heads place count 0 h (heads_there l) ∙ w.heads_length;
      doors_length = closed_up_length s.doors place count 0 h (doors_there l) ∙ w.doors_length;
    }

    pub removed_freed : WordsFreed s (removed s place)
    removed_freed = record {
      heads_freed = closed_up_freed s.heads place count 0 h (heads_there l);
      doors_freed = closed_up_freed s.doors place count 0 h (doors_there l);
    }

  -- ---- the packets to a column vanish

  module _ (member : ℕ → Bool) where
    kept_few : {A : Type 0} (xs : List A) → length (keeping (elsewhere member) hs xs) ≤ count
    kept_few xs = omega (arith, keeping_few (elsewhere member) hs xs, length-take count s.heads)

    kept_same : length (keeping (elsewhere member) hs hs) ≡ length (keeping (elsewhere member) hs ds)
    kept_same = keeping_same (elsewhere member) hs hs ds (same_length count)

    pub vanished_whole : count ≤ capacity → Whole (vanished s member)
    unfolding vanished
    vanished_whole l = record {
      heads_length = padded_length (keeping (elsewhere member) hs hs) s.heads count 0 (kept_few hs) (heads_there l) ∙ w.heads_length;
      doors_length = padded_length (keeping (elsewhere member) hs ds) s.doors count 0 (kept_few ds) (doors_there l) ∙ w.doors_length;
    }

    pub vanished_freed : WordsFreed s (vanished s member)
    unfolding vanished
    vanished_freed = record {
      heads_freed = padded_freed (keeping (elsewhere member) hs hs) s.heads count 0 (kept_few hs);
      doors_freed =
          let f = padded_freed (keeping (elsewhere member) hs ds) s.doors count 0 (kept_few ds) in
          record { free = λ k a b. f.free k (omega (arith, kept_same)) b; others_kept = f.others_kept };
    }

  pub vanished_meant : (i : ℕ) → packets_of (vanished s (only i)) ≡ others i (packets_of s)
  unfolding vanished
  vanished_meant i =
      ap₂ packets_meant
      (padded_front (keeping (elsewhere (only i)) hs hs) s.heads count 0 _ refl)
      (padded_front (keeping (elsewhere (only i)) hs ds) s.doors count 0 _ (sym (kept_same (only i))))
      ∙ meant_others i hs ds (same_length count)
