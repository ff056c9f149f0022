-- The potential of a bank: a number that falls with each move other than an order and a halt, and what a change of one column makes of it.
-- Each packet, each acknowledgement owed, each column not yet noted and each column still to reach counts, and so does what a later
-- takeover or a later number will make a column do. Assumes nothing.
use Prim.Native.Nat.{ℕ, ◌+◌, ◌*◌, ◌≤◌, ◌<◌}
use native.Mathlib.Omega.{arith}
use mathlib.Core.Path.{◌≡◌, refl, sym, ap, subst}
use mathlib.Core.Logic.{◌≢◌, ◌⊎◌, ⊎_elim}
use mathlib.Core.Bool.{Bool, true, false, not, ◌&&◌, cond}
use mathlib.Core.List.{List}
use lib.Dec.{eqb, ltb}
use lib.ListN.{length}
use borrow.Author.Tests.{eq-eqb, ne_eqb}
use Rattle.column.specs.laws.Cases.{equal_cases}
use Rattle.column.specs.Sets.{has, without}
use Rattle.column.specs.laws.SetLaws.{has_without_self}
use Rattle.column.specs.Packets.{is_message}
use Rattle.column.specs.declared.tree.Tree.{Tree}
use Rattle.column.specs.declared.state.Column.{Column}
use Rattle.column.specs.declared.packet.Packet.{Packet}
use Rattle.bank.specs.laws.NetworkLaws.{others}
use Rattle.agreement.proofs.relation.Model.{In, State, count, post, Taken, Becomes}
use Rattle.agreement.proofs.relation.Members.{without_in}
use Rattle.agreement.proofs.bounds.TokenLaws.{one, many, every, many_taken, many_post, many_others}
use Rattle.agreement.proofs.bounds.Sums.{sum, sum_le, sum_drop, sum_rise, sum_change}
use Rattle.agreement.proofs.bounds.Cover.{is_below, cover}

-- ---- the definition

-- column p, which is c, for its own part; n orders were given
abbrev pub own_part : Tree → ℕ → ℕ → Column → ℕ
own_part t n p c = one (cover t p c p) + (2 * one (not c.whole) + 2 * one (ltb c.number n))

-- and for another column q
abbrev pub other_part : Tree → ℕ → ℕ → Column → ℕ → ℕ
other_part t n p c q =
    one (not (has c.noted q)) + (4 * one (cover t p c q) + (4 * one (not c.whole && not (is_below t p q)) + 4 * one (ltb c.number n)))

-- the number `own` at p and `other` elsewhere
abbrev pub beside : ℕ → ℕ → (ℕ → ℕ) → ℕ → ℕ
beside p own other q = cond (eqb q p) own (other q)

unfoldable pub parts : Tree → ℕ → ℕ → Column → ℕ
parts t n p c = sum (beside p (own_part t n p c) (other_part t n p c)) t.columns

unfoldable pub debts : Tree → ℕ → ℕ
debts t owed = sum (λ q. 2 * one (has owed q)) t.columns

abbrev pub row : Tree → ℕ → ℕ → Column → ℕ
row t n p c = cond c.running (debts t c.owed + parts t n p c) 0

-- a message counts 3, an acknowledgement 1
abbrev pub weight : Packet → ℕ
weight x = 1 + 2 * one (is_message x)

abbrev pub load : List Packet → ℕ
load l = many every l + 2 * many is_message l

abbrev pub rows : Tree → State → ℕ
rows t s = sum (λ p. row t (count s) p (s.columns p)) t.columns

abbrev pub potential : Tree → State → ℕ
potential t s = load s.network + rows t s

-- ---- tests as numbers

pub one_le : (a b : Bool) → (a ≡ true → b ≡ true) → one a ≤ one b
one_le true b f = omega (arith, ap one (f refl))
one_le false b f = omega arith

pub one_few : (a : Bool) → one a ≤ 1
one_few true = omega arith
one_few false = omega arith

-- ---- the network

pub load_taken : {l l' : List Packet} {p : Packet} → Taken l p l' → load l ≡ weight p + load l'
load_taken k = omega (arith, many_taken every k, many_taken is_message k)

pub load_post : (s : State) (p : Packet) (l : List Packet) → load (post s p l) ≤ load l + weight p
load_post s p l = omega (arith, many_post every s p l, many_post is_message s p l)

pub load_others : (a : ℕ) (l : List Packet) → load (others a l) ≤ load l
load_others a l = omega (arith, many_others every a l, many_others is_message a l)

-- ---- the row of a column

module _ (t : Tree) (n p : ℕ) (c c' : Column) where
  abbrev before : ℕ → ℕ
  before = beside p (own_part t n p c) (other_part t n p c)

  abbrev after : ℕ → ℕ
  after = beside p (own_part t n p c') (other_part t n p c')

  -- what holds of both for the column's own part and of both for the others
  either : (P : ℕ → ℕ → Type 0) (q : ℕ) → (q ≡ p → P (own_part t n p c') (own_part t n p c)) →
      (q ≢ p → P (other_part t n p c' q) (other_part t n p c q)) → P (after q) (before q)
  either P q h r = ⊎_elim
      (λ (e : q ≡ p). subst (λ (b : Bool). P (cond b (own_part t n p c') (other_part t n p c' q)) (cond b (own_part t n p c) (other_part t n p c q)))
      (sym (eq-eqb q p e)) (h e))
      (λ (e : q ≢ p). subst (λ (b : Bool). P (cond b (own_part t n p c') (other_part t n p c' q)) (cond b (own_part t n p c) (other_part t n p c q)))
      (sym (ne_eqb q p e)) (r e))
      (equal_cases q p)

  abbrev pub Others : Type 0
  Others = (q : ℕ) → q ≢ p → other_part t n p c' q ≤ other_part t n p c q

  pub parts_le : own_part t n p c' ≤ own_part t n p c → Others → parts t n p c' ≤ parts t n p c
  unfolding parts
  parts_le h r = sum_le after before t.columns (λ q l. either (λ (a b : ℕ). a ≤ b) q (λ _. h) (r q))

  pub parts_own : p < t.columns → own_part t n p c' + 1 ≤ own_part t n p c → Others → parts t n p c' + 1 ≤ parts t n p c
  unfolding parts
  parts_own l h r = sum_drop after before t.columns p 1 l
      (either (λ (a b : ℕ). a + 1 ≤ b) p (λ _. h) (λ e. absurd (e refl)))
      (λ q k. either (λ (a b : ℕ). a ≤ b) q (λ _. omega (arith, h)) (r q))

  pub parts_other : (d z : ℕ) → z < t.columns → z ≢ p → other_part t n p c' z + d ≤ other_part t n p c z → own_part t n p c' ≤ own_part t n p c → Others →
      parts t n p c' + d ≤ parts t n p c
  unfolding parts
  parts_other d z l e w h r = sum_drop after before t.columns z d l
      (either (λ (a b : ℕ). a + d ≤ b) z (λ k. absurd (e k)) (λ _. w))
      (λ q k. either (λ (a b : ℕ). a ≤ b) q (λ _. h) (r q))

-- ---- whom a column owes

module _ (t : Tree) where
  -- x is struck out
  pub debts_without : (m x : ℕ) → x < t.columns → In m x → debts t (without m x) + 2 ≤ debts t m
  unfolding debts
  debts_without m x l k = sum_drop (λ q. 2 * one (has (without m x) q)) (λ q. 2 * one (has m q)) t.columns x 2 l
      (omega (arith, ap one (has_without_self m x), ap one k.holds))
      (λ q _. omega (arith, one_le (has (without m x) q) (has m q) (λ h. (without_in m x (record { holds = h })).holds)))

  -- x comes at most
  pub debts_with : (m m' x : ℕ) → ((q : ℕ) → In m' q → In m q ⊎ (q ≡ x)) → debts t m' ≤ debts t m + 2
  unfolding debts
  debts_with m m' x f = sum_rise (λ q. 2 * one (has m' q)) (λ q. 2 * one (has m q)) t.columns x 2
      (omega (arith, one_few (has m' x)))
      (λ q _ e. omega (
        arith,
        one_le (has m' q) (has m q)
            (λ h. ⊎_elim (λ (k : In m q). k.holds) (λ z. absurd (e z)) (f q (record { holds = h }))),
      ))

-- ---- a move of column a

module _ (t : Tree) {s s' : State} {a : ℕ} {c : Column} {network : List Packet} (b : Becomes s s' a c network s.orders) (l : a < t.columns) where
  abbrev n : ℕ
  n = count s

  same_count : count s' ≡ n
  same_count = ap length b.told

  pub potential_moves : potential t s' + (row t n a (s.columns a) + load s.network) ≡ potential t s + (row t n a c + load network)
  potential_moves = omega (
    arith,
    ap load b.packets,
    ap (λ (x : Column). row t n a x) b.mine,
    ap (λ (k : ℕ). sum (λ p. row t k p (s'.columns p)) t.columns) same_count,
    sum_change (λ p. row t n p (s'.columns p)) (λ p. row t n p (s.columns p)) t.columns a l (λ j e. ap (row t n j) (b.same j e)),
  )

  -- a running column stays running
  module _ (r : (s.columns a).running ≡ true) (r' : c.running ≡ true) where
    pub falls : debts t c.owed + (parts t n a c + load network) < debts t (s.columns a).owed + (parts t n a (s.columns a) + load s.network) →
        potential t s' < potential t s
    falls h = omega (
      arith,
      potential_moves,
      ap (λ (x : Bool). cond x (debts t (s.columns a).owed + parts t n a (s.columns a)) 0) r,
      ap (λ (x : Bool). cond x (debts t c.owed + parts t n a c) 0) r',
      h,
    )
