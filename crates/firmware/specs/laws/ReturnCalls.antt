-- A return, column by column, is the bank's: where `back` is accepted, what `rejoin` leaves of the column that comes back and what `strike` leaves of each other
-- are the columns of the bank after it. Assumes nothing.
use Rattle.std.specs.Prelude.{ℕ, ◌^◌, ◌<◌, ◌≡◌, refl, Bool, true, ◌&&◌, ◌||◌, cond, ◌⊎◌, length}
use Rattle.std.proofs.Math.Path.{sym, ap}
use Rattle.std.proofs.Common.{ap₂, ◌∙◌, true≢false, inl, inr, arith, pow_pos}
use Rattle.std.proofs.Math.Bool.{false, not}
use mathlib.Core.List.{[]}
use Rattle.std.proofs.lemmas.Nat.{xor_lt}
use Rattle.std.proofs.Math.Dec.{eqb}
use borrow.Author.Tests.{eq-eqb, ne_eqb, lt-leb}
use Rattle.column.specs.laws.Cases.{truth, equal_cases}
use Rattle.column.specs.laws.RefusalLaws.{passes}
use Rattle.column.specs.Sets.{has, join, minus, whole, lowest}
use Rattle.column.specs.laws.SetLaws.{has_without, has_without_self, has_minus, join_lt, without_lt, lt_within, same_members, selected_lt, selected_has}
use Rattle.column.specs.laws.SequenceLaws.{whole_has}
use Rattle.column.specs.laws.TreeLaws.{check_exact}
use Rattle.column.specs.Columns.{validity_refusal}
use Rattle.column.specs.Returns.{rejoined}
use Rattle.column.specs.Steps as core
use Rattle.column.specs.declared.tree.Tree.{Tree}
use Rattle.column.specs.declared.state.Column.{Column}
use Rattle.bank.specs.Banks.{State, column_at, runs, running_of, halted_of, bank_refusal}
use Rattle.bank.specs.Returns.{back_refusal, lowest_running, remaining, returned}
use Rattle.bank.proofs.laws.ReturnLaws.{Returning, returning, place_mine, place_struck}
use Rattle.bank.specs.laws.ValidityLaws.{valid_passes}
use Rattle.bank.proofs.laws.RestSteps.{refuses, send_refused, ack_refused, all_refused}
use Rattle.bank.specs.declared.bank.Bank.{Bank}
use Rattle.firmware.specs.LoneSteps.{is_refused, rests, running_others, rejoin_conditions, rejoin_refusal, rejoin_effect, rejoin, strike_refusal, strike}

-- a step that its number refuses is refused
number_refuses : (n : ℕ) (c : Column) (effect : core.Result) → refuses n ≡ true → is_refused (core.unless n c effect) ≡ true
unfolding is_refused
number_refuses n c effect e = go (eqb n 0) e
  where
    go : (b : Bool) → not b ≡ true → is_refused (cond b effect (core.refused n c)) ≡ true
    go true h = absurd (true≢false (sym h))
    go false h = refl

either_way : (a e : Bool) → ((true && not (not a && not e)) && not e) ≡ (a && not e)
either_way true true = refl
either_way true false = refl
either_way false true = refl
either_way false false = refl

with_true : (x : Bool) → (x && true) ≡ x
with_true true = refl
with_true false = refl

module _ (s : State) (j : ℕ) (accepted : back_refusal s j ≡ 0) where
  abbrev b : Bank
  b = s.bank

  abbrev t : Tree
  t = b.tree

  abbrev n : ℕ
  n = t.columns

  r : Returning s j
  r = returning s j accepted

  valid : (k : ℕ) → k < n → validity_refusal t k (column_at b k) ≡ 0
  valid k h = rw (r.valid.tree, r.valid.columns k h)

  -- ---- each other column

  all_rest : (k : ℕ) → k < n → rests t k (column_at b k) ≡ true
  all_rest k h = go (truth (runs b k))
    where
      none : s.bank.count ≡ 0
      none = r.at_rest.no_packet

      good : bank_refusal s ≡ 0
      good = valid_passes s r.valid

      go : (runs b k ≡ true) ⊎ (runs b k ≡ false) → rests t k (column_at b k) ≡ true
      go (inl e) =
          let c = column_at b k in
          let no_send = number_refuses (core.send_refusal t k c) c (core.send_effect t k c) (sym (send_refused s none good k) ∙ r.at_rest.no_send k (h, e)) in
          let no_ack = number_refuses (core.ack_refusal t k c) c (core.ack_effect k c) (sym (ack_refused s none good k) ∙ r.at_rest.no_ack k (h, e)) in
          let no_all = number_refuses (core.all_refusal t k c) c (core.all_effect t c) (sym (all_refused s none good k) ∙ r.at_rest.no_all k (h, e)) in
          ap₂ (λ (x y : Bool). not c.running || (x && y)) no_send (ap₂ (λ (x y : Bool). x && y) no_ack no_all) ∙ ap (λ (x : Bool). not x || true) e
      go (inr e) =
          let c = column_at b k in
          ap (λ (x : Bool). not x || (is_refused (core.send t k c) && (is_refused (core.ack t k c) && is_refused (core.all t k c)))) e

  strike_passes : (k : ℕ) → k < n → (k ≡ j → ⊥) → strike_refusal t k (column_at b k) j ≡ 0
  unfolding strike_refusal
  strike_passes k h other = rw (valid k h, lt-leb n j r.below, ne_eqb j k (λ e. other (sym e)), all_rest k h)

  pub strike_returns : (k : ℕ) → k < n → (k ≡ j → ⊥) → strike t k (column_at b k) j ≡ core.accepted (column_at (returned b j) k) [] false
  strike_returns k h other = rw (strike_passes k h other) (ap (λ (x : Column). core.accepted x [] false) (sym (place_struck b j k other h)))

  -- ---- the column that comes back

  abbrev halted : ℕ
  halted = remaining b j

  halted_below : halted < 2 ^ n
  halted_below = without_lt n (halted_of b) j (selected_lt (λ i. not (runs b i)) n n (omega arith)) r.below

  -- whoever is not among those that remain halted, and is another, runs
  others_run : running_others n halted j ≡ running_of b
  others_run =
      let most : whole n < 2 ^ n = omega (arith, pow_pos n) in
      same_members n (running_others n halted j) (running_of b)
      (without_lt n (minus (whole n) halted) j (xor_lt n (join (whole n) halted) halted (join_lt n (whole n) halted most halted_below) halted_below) r.below)
      (selected_lt (runs b) n n (omega arith))
      (λ i h.
      has_without (minus (whole n) halted) j i
      ∙ ap (λ (x : Bool). x && not (eqb i j)) (has_minus (whole n) halted i ∙ ap₂ (λ (x y : Bool). x && not y) (whole_has n i h) (halted_has i h))
      ∙ either_way (runs b i) (eqb i j)
      ∙ mine i
      ∙ sym (selected_has (runs b) n i h))
    where
      halted_has : (i : ℕ) → i < n → has halted i ≡ (not (runs b i) && not (eqb i j))
      halted_has i h = has_without (halted_of b) j i ∙ ap (λ (x : Bool). x && not (eqb i j)) (selected_has (λ k. not (runs b k)) n i h)

      mine : (i : ℕ) → (runs b i && not (eqb i j)) ≡ runs b i
      mine i = go (equal_cases i j)
        where
          go : (i ≡ j) ⊎ (i ≡ j → ⊥) → (runs b i && not (eqb i j)) ≡ runs b i
          go (inl e) = let off : runs b i ≡ false = ap (runs b) e ∙ r.halted in rw off
          go (inr e) = rw (ne_eqb i j e) (with_true (runs b i))

  rejoin_passes : rejoin_refusal t j (column_at b j) (lowest_running b) halted ≡ 0
  unfolding rejoin_refusal
  rejoin_passes =
      rw (valid j r.below)
      (passes (rejoin_conditions t j (column_at b j) (lowest_running b) halted) (
        ap not (lt_within halted n halted_below),
        (
          has_without_self (halted_of b) j,
          (
            ap (λ (o : ℕ). not (eqb o 0) && not (eqb (lowest_running b) (lowest o))) others_run ∙ same_lowest,
            (r.halted, (ne_eqb j t.root r.not_root, (ap (λ (o : ℕ). eqb o 0) others_run ∙ ne_eqb (running_of b) 0 r.some_run, tt))),
          ),
        ),
      ))
    where
      same_lowest : (not (eqb (running_of b) 0) && not (eqb (lowest_running b) (lowest (running_of b)))) ≡ false
      same_lowest = rw (ne_eqb (running_of b) 0 r.some_run, eq-eqb (lowest_running b) (lowest_running b) refl)

  -- the root is among those that remain halted exactly where it does not run
  root_has : has halted t.root ≡ not (runs b t.root)
  root_has =
      let below = ((check_exact t).0 r.valid.tree).root_below in
      has_without (halted_of b) j t.root
      ∙ ap₂ (λ (x y : Bool). x && not y) (selected_has (λ k. not (runs b k)) n t.root below) (ne_eqb t.root j (λ e. r.not_root (sym e)))
      ∙ with_true (not (runs b t.root))

  pub rejoin_returns : j < length b.columns → let l = column_at b (lowest_running b) in
      rejoin t j (column_at b j) (lowest_running b) l.number l.doors halted ≡ core.accepted (column_at (returned b j) j) [] false
  unfolding rejoin_effect
  rejoin_returns h =
      rw rejoin_passes
      (ap (λ (x : Column). core.accepted x [] false)
      (ap (λ (w : Bool). rejoined (column_at b j) (column_at b (lowest_running b)) halted w (lowest_running b)) root_has ∙ sym (place_mine b j h)))
