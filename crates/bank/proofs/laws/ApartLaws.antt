-- No step but a write goes by a mask or by what is pending: the law for each step, and for every list of steps. Assumes nothing.
use Rattle.std.specs.Prelude.{ℕ, ◌≡◌, refl, Bool, true, false, ◌&&◌, ◌||◌, cond}
use Rattle.std.proofs.Math.Path.{sym, ap, ap₂}
use Rattle.std.proofs.Common.{◌∙◌, arith}
use Rattle.std.proofs.Math.Bool.{not}
use mathlib.Core.List.{List, [], ◌∷◌, map}
use Rattle.std.proofs.Math.Dec.{eqb, leb, ltb}
use Rattle.std.proofs.Math.ListN.{set}
use Rattle.std.proofs.Math.Seq.{map-set_same}
use Rattle.column.specs.Refusals.{first, earlier}
use Rattle.column.specs.Sets.{has, within, without, lowest, selected}
use Rattle.column.specs.Trees.{every, tree_refusal}
use Rattle.column.specs.Columns.{state_refusal, stopped, plain}
use Rattle.column.specs.Packets.{receiver}
use Rattle.column.specs.Returns.{rejoined, struck}
use Rattle.column.specs.Pages as page
use Rattle.column.specs.laws.PageLaws.{plain_written}
use Rattle.column.specs.laws.PlainLaws.{plain_result, Same, order_plain, send_plain, take_plain, ack_plain, all_plain, note_plain, note_refusal_plain}
use Rattle.column.specs.Steps as core
use Rattle.column.specs.declared.tree.Tree.{Tree}
use Rattle.column.specs.declared.state.Column.{Column}
use Rattle.bank.specs.Banks.{State, state, column_at, runs, packet_at, no_column, capacity, bank_refusal, acting_refusal}
use Rattle.bank.specs.Networks.{removed, vanished}
use Rattle.bank.specs.Steps.{Result, accepted, refused, after, unless, with_column, settled, acted, noted, note_refusal, take_refusal, delivered, rewriting, halted, halt_refusal, send, ack, all, note}
use Rattle.bank.specs.Rest.{is_refused, is_at_rest}
use Rattle.bank.specs.Returns.{back_refusal, come_back, returned}
use Rattle.bank.specs.Pages.{write_refusal}
use Rattle.bank.specs.Performs.{perform}
use Rattle.bank.specs.laws.PlainStates.{plain_twice, plain_set, plain_rewriting, twice, column_plain, plain_unless, plain_settled}
use Rattle.bank.specs.Apart.{plain_state, plain_outcome, Alike, answer_of, answers, Apart, SameAnswers}
use Rattle.bank.specs.declared.bank.Step.{Step}
use Rattle.bank.specs.declared.bank.Step.TheVariants.{Order, Send, Take, Ack, All, Note, Halt, Back, Write}

-- ---- what every step tests first

module _ (s : State) where
  abbrev t : Tree
  t = s.bank.tree

  abbrev p : State
  p = plain_state s

  -- the column of a place, without its mask and what is pending
  abbrev at : (i : ℕ) → column_at p.bank i ≡ plain (column_at s.bank i)
  at i = column_plain s.bank i

  bank_plain : bank_refusal p ≡ bank_refusal s
  unfolding bank_refusal state_refusal
  bank_plain = λ k. earlier (tree_refusal t) (first
      ((4, not (every (λ i. eqb (state_refusal t i (at i k)) 0) t.columns))
      ∷ (4, ltb capacity s.bank.count)
      ∷ (4, not (every (λ j. eqb (core.packet_refusal t (packet_at s j)) 0 && (at (receiver (packet_at s j)) k).running) s.bank.count))
      ∷ []))

  acting_plain : (i : ℕ) → acting_refusal p i ≡ acting_refusal s i
  acting_plain i = ap (λ (n : ℕ). earlier n (first ((4, leb t.columns i) ∷ []))) bank_plain

  -- ---- a step of the core

  plain_acted : (i : ℕ) (r : core.Result) → plain_outcome (acted s i r) ≡ acted p i (plain_result r)
  unfolding acted
  plain_acted i r =
      plain_unless (acting_refusal s i) s (settled s s i r)
      ∙ ap₂ (λ (n : ℕ) (o : Result State). unless n p o) (sym (acting_plain i)) (plain_settled s s i r)

acted_apart : (s : State) (i : ℕ) (r r' : core.Result) → Same r' r → plain_outcome (acted (plain_state s) i r') ≡ plain_outcome (acted s i r)
acted_apart s i r r' e =
    plain_acted (plain_state s) i r' ∙ ap₂ (λ (u : State) (q : core.Result). acted u i q) (twice s) e ∙ sym (plain_acted s i r)

module _ (s : State) where
  -- a step f of column i by what that is
  by : (i : ℕ) (f : Column → core.Result) → ((c : Column) → Same (f (plain c)) (f c))
      → plain_outcome (acted (p s) i (f (column_at (p s).bank i))) ≡ plain_outcome (acted s i (f (column_at s.bank i)))
  by i f e = acted_apart s i (f (column_at s.bank i)) (f (column_at (p s).bank i)) (ap (λ (c : Column). plain_result (f c)) (at s i) ∙ e (column_at s.bank i))

  send_apart : (i : ℕ) → plain_outcome (send (p s) i) ≡ plain_outcome (send s i)
  send_apart i = by i (core.send (t s) i) (send_plain (t s) i)

  ack_apart : (i : ℕ) → plain_outcome (ack (p s) i) ≡ plain_outcome (ack s i)
  ack_apart i = by i (core.ack (t s) i) (ack_plain (t s) i)

  all_apart : (i : ℕ) → plain_outcome (all (p s) i) ≡ plain_outcome (all s i)
  all_apart i = by i (core.all (t s) i) (all_plain (t s) i)

  note_apart : (i j : ℕ) → plain_outcome (note (p s) i j) ≡ plain_outcome (note s i j)
  note_apart i j = acted_apart s i (noted s.bank i j) (noted (p s).bank i j) (same ∙ note_plain (t s) i (column_at s.bank i) (note_refusal s.bank i j) j)
    where
      number : (c : Column) (b : Bool) → ℕ
      number c b = earlier (core.note_refusal (t s) i c j) (first ((6, b) ∷ []))

      same : plain_result (noted (p s).bank i j)
          ≡ plain_result (core.unless (note_refusal s.bank i j) (plain (column_at s.bank i)) (core.note_effect (t s) (plain (column_at s.bank i)) j))
      same = (λ k. plain_result (core.unless (number (at s i k) (at s j k).running) (at s i k) (core.note_effect (t s) (at s i k) j)))
          ∙ ap (λ (n : ℕ). plain_result (core.unless (earlier n (first ((6, runs s.bank j) ∷ []))) (plain (column_at s.bank i)) (core.note_effect (t s) (plain (column_at s.bank i)) j)))
          (note_refusal_plain (t s) i (column_at s.bank i) j)

  take_apart : (place : ℕ) → plain_outcome (perform (p s) (Take place)) ≡ plain_outcome (perform s (Take place))
  unfolding perform delivered
  take_apart place =
      let q = packet_at s place in
      let i = receiver q in
      let ten = first ((10, leb s.bank.count place) ∷ []) in
      plain_unless (take_refusal (p s) place) (p s) _
      ∙ ap₂ (λ (n : ℕ) (u : State). unless (earlier n ten) u (plain_outcome (settled (p s) (removed (p s) place) i (core.take (t s) i (column_at (p s).bank i) q)))) (bank_plain s) (twice s)
      ∙ ap (unless (take_refusal s place) (p s))
      (plain_settled (p s) (removed (p s) place) i (core.take (t s) i (column_at (p s).bank i) q)
      ∙ ap₂ (λ (u : State) (r : core.Result). settled u (removed u place) i r) (twice s)
      (ap (λ (c : Column). plain_result (core.take (t s) i c q)) (at s i) ∙ take_plain (t s) i (column_at s.bank i) q)
      ∙ sym (plain_settled s (removed s place) i (core.take (t s) i (column_at s.bank i) q)))
      ∙ sym (plain_unless (take_refusal s place) s _)

  -- ---- a halt, a return, a write: refused by a number, or a state

  -- two that are refused by the same number, and where not become alike
  pub alike_unless : (n n' : ℕ) (next next' : State) → n' ≡ n → Alike next' next
      → plain_outcome (unless n' (p s) (accepted next')) ≡ plain_outcome (unless n s (accepted next))
  alike_unless n n' next next' e h =
      plain_unless n' (p s) (accepted next') ∙ (λ k. unless (e k) (twice s k) (accepted (h k))) ∙ sym (plain_unless n s (accepted next))

  abbrev n : ℕ
  n = (t s).columns

  halt_apart : (m : ℕ) → plain_outcome (perform (p s) (Halt m)) ≡ plain_outcome (perform s (Halt m))
  unfolding perform halt_refusal halted vanished
  halt_apart m =
      let u = halted s (has m) in
      alike_unless (halt_refusal s m) (halt_refusal (p s) m) u (halted (p s) (has m))
      (λ k. earlier (bank_plain s k) (first
      ((4, not (within m n))
      ∷ (5, not (every (λ j. not (has m j) || (at s j k).running) n))
      ∷ [])))
      (ap (λ (l : List Column). state (record { tree = t s; columns = l; count = u.bank.count }) u.heads u.doors)
      (plain_rewriting stopped (λ c. refl) (has m) 0 (map plain s.bank.columns)
      ∙ ap (rewriting stopped (has m) 0) (plain_twice s.bank.columns)
      ∙ sym (plain_rewriting stopped (λ c. refl) (has m) 0 s.bank.columns)))

  -- ---- a return asks for rest

  refused_plain : (o : Result State) → is_refused (plain_outcome o) ≡ is_refused o
  refused_plain (accepted u) = refl
  refused_plain (refused k u) = refl

  refused_same : (o o' : Result State) → plain_outcome o ≡ plain_outcome o' → is_refused o ≡ is_refused o'
  refused_same o o' e = sym (refused_plain o) ∙ ap is_refused e ∙ refused_plain o'

  rest_plain : is_at_rest (p s) ≡ is_at_rest s
  unfolding is_at_rest
  rest_plain = λ k. eqb s.bank.count 0 && every (λ i. not (at s i k).running
      || (refused_same (send (p s) i) (send s i) (send_apart i) k
      && (refused_same (ack (p s) i) (ack s i) (ack_apart i) k
      && (refused_same (all (p s) i) (all s i) (all_apart i) k
      && every (λ j. refused_same (note (p s) i j) (note s i j) (note_apart i j) k) n)))) n

  back_apart : (j : ℕ) → plain_outcome (perform (p s) (Back j)) ≡ plain_outcome (perform s (Back j))
  unfolding perform back_refusal returned
  back_apart j =
      alike_unless (back_refusal s j) (back_refusal (p s) j) (state (returned s.bank j) s.heads s.doors) (state (returned (p s).bank j) s.heads s.doors)
      (λ k. earlier (bank_plain s k) (first
      ((4, leb n j)
      ∷ (6, (at s j k).running)
      ∷ (15, eqb j (t s).root)
      ∷ (14, not (rest_plain k))
      ∷ (16, eqb (selected (λ i. (at s i k).running) n) 0)
      ∷ [])))
      (ap (λ (l : List Column). state (record { tree = t s; columns = l; count = s.bank.count }) s.heads s.doors)
      (plain_set (strikes (map plain s.bank.columns)) j (come_back (p s).bank j)
      ∙ ap₂ (λ (l : List Column) (c : Column). set l j c)
      (plain_rewriting strike (λ c. refl) member 0 (map plain s.bank.columns) ∙ ap strikes (plain_twice s.bank.columns)
      ∙ sym (plain_rewriting strike (λ c. refl) member 0 s.bank.columns))
      comes
      ∙ sym (plain_set (strikes s.bank.columns) j (come_back s.bank j))))
    where
      strike : Column → Column
      strike c = struck c j

      member : ℕ → Bool
      member k = ltb k n

      strikes : List Column → List Column
      strikes l = rewriting strike member 0 l

      comes : plain (come_back (p s).bank j) ≡ plain (come_back s.bank j)
      comes = λ k.
          let l = lowest (selected (λ i. (at s i k).running) n) in
          plain (rejoined (at s j k) (at s l k) (without (selected (λ i. not (at s i k).running) n) j) (not (at s (t s).root k).running) l)

-- ---- a write

-- "a write alters nothing but bytes 5 and 6"
alters_page : (s : State) (i offset value : ℕ) → Alike (with_column s i (page.written (column_at s.bank i) offset value)) s
alters_page s i offset value =
    ap (λ (l : List Column). state (record { tree = s.bank.tree; columns = l; count = s.bank.count }) s.heads s.doors)
    (map-set_same plain s.bank.columns i _ no_column (plain_written (column_at s.bank i) offset value))

module _ (s : State) where
  write_apart : (i offset value : ℕ) → plain_outcome (perform (p s) (Write i offset value)) ≡ plain_outcome (perform s (Write i offset value))
  unfolding perform write_refusal
  write_apart i offset value =
      alike_unless s (write_refusal s i offset) (write_refusal (p s) i offset) _ _
      (ap (λ (n : ℕ). earlier n (first (page.write_conditions offset))) (acting_plain s i))
      (alters_page (p s) i offset value ∙ twice s ∙ sym (alters_page s i offset value))

  -- ---- every step

  apart : (x : Step) → plain_outcome (perform (p s) x) ≡ plain_outcome (perform s x)
  unfolding perform
  apart (Order doors) = by s (t s).root (λ c. core.order (t s) (t s).root c doors) (λ c. order_plain (t s) (t s).root c doors)
  apart (Send i) = send_apart s i
  apart (Take place) = take_apart s place
  apart (Ack i) = ack_apart s i
  apart (All i) = all_apart s i
  apart (Note i j) = note_apart s i j
  apart (Halt m) = halt_apart s m
  apart (Back j) = back_apart s j
  apart (Write i offset value) = write_apart i offset value

pub pages_apart : Apart
pages_apart s s' e x = sym (apart s x) ∙ ap (λ (u : State). plain_outcome (perform u x)) e ∙ apart s' x

-- ---- every list of steps

answer_plain : (o : Result State) → answer_of (plain_outcome o) ≡ answer_of o
answer_plain (accepted s) = refl
answer_plain (refused n s) = refl

after_plain : (o : Result State) → after (plain_outcome o) ≡ plain_state (after o)
after_plain (accepted s) = refl
after_plain (refused n s) = refl

pub same_answers : SameAnswers
unfolding answers
same_answers s s' e [] = refl
same_answers s s' e (x ∷ xs) =
    let o = perform s x in
    let o' = perform s' x in
    let z = pages_apart s s' e x in
    ap₂ ◌∷◌ (sym (answer_plain o) ∙ ap answer_of z ∙ answer_plain o')
    (same_answers (after o) (after o') (sym (after_plain o) ∙ ap after z ∙ after_plain o') xs)

-- an accepted write: no step after it is answered otherwise
pub write_unanswered : (s s' : State) (i offset value : ℕ) → perform s (Write i offset value) ≡ accepted s' → (xs : List Step)
    → (Alike s' s) × (answers s' xs ≡ answers s xs)
unfolding perform
write_unanswered s s' i offset value e xs = (alike, same_answers s' s alike xs)
  where
    go : (b : Bool) (next : State) → Alike next s → cond b (accepted next) (refused (write_refusal s i offset) s) ≡ accepted s' → Alike s' s
    go true next h q = let same : next ≡ s' = cc in sym (ap plain_state same) ∙ h
    go false next h q = let z : ◌≡◌ {A = ℕ} 0 1 = cc in absurd (omega arith)

    alike : Alike s' s
    alike = go (eqb (write_refusal s i offset) 0) _ (alters_page s i offset value) e
