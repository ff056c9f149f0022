-- Document 02, Point 3: the theorem. A step is refused with 9 only in a bank whose network is full: by `exact`, since neither the bank nor the core says 9
-- for anything else. Assumes nothing.
use Prim.Native.Nat.{ℕ, ◌-◌, ◌*◌, ◌≤◌, ◌<◌}
use native.Mathlib.Nat.{mul_comm, mul_left_comm, mul-le-mul, mul-le-mul_left}
use native.Mathlib.Omega.{arith}
use mathlib.Core.Path.{◌≡◌, refl, sym, ap, ◌∙◌}
use mathlib.Core.Bool.{Bool, true, not, ◌&&◌, false, cond, and-false}
use mathlib.Core.List.{List, [], ◌∷◌}
use mathlib.Core.Logic.{◌≢◌}
use lib.Dec.{eqb, T, leb}
use borrow.Author.Tests.{eqb-false, ne_eqb}
use Rattle.column.specs.laws.TreeLaws.{check_exact, tree_sixteen}
use Rattle.column.specs.Refusals.{first, earlier}
use Rattle.column.specs.Trees.{tree_conditions, tree_refusal}
use Rattle.column.specs.Columns.{state_conditions, state_refusal, validity_refusal}
use Rattle.column.specs.Packets.{receiver}
use Rattle.column.specs.Pages.{write_conditions}
use Rattle.column.specs.Steps as core
use Rattle.column.specs.declared.tree.Tree.{Tree}
use Rattle.column.specs.declared.state.Column.{Column}
use Rattle.column.specs.declared.packet.Packet.{Packet}
use Rattle.bank.specs.Banks.{State, capacity, column_at, runs, packet_at, bank_conditions, bank_refusal}
use Rattle.bank.specs.laws.NetworkLaws.{packets_length}
use Rattle.bank.specs.Steps.{refused, accepted, after, halt_conditions}
use Rattle.bank.specs.Performs.{perform}
use Rattle.bank.specs.Returns.{back_conditions}
use Rattle.bank.specs.Exact.{own_refusal, raised, overfull, refusal_of}
use Rattle.bank.proofs.laws.ExactLaws.{exact}
use Rattle.bank.specs.declared.bank.Step.{Step}
use Rattle.bank.specs.declared.bank.Step.TheVariants.{Order, Send, Take, Ack, All, Note, Halt, Back, Write}
use Rattle.agreement.specs.History.{World, columns_of}
use Rattle.agreement.specs.Limits.{packet_limit, NeverFills, At480, packet_bound, WithinPacketBound, At435, NeverNine}
use Rattle.agreement.proofs.bounds.PacketCount.{packets_bounded}
use Rattle.agreement.proofs.refinement.Reached.{Reached, after_every}

-- ---- numbers of conditions

abbrev lacks : List (ℕ × Bool) → Bool
lacks [] = true
lacks (x ∷ l) = not (eqb x.0 9) && lacks l

first_lacks : (l : List (ℕ × Bool)) → T (lacks l) → first l ≢ 9
first_lacks [] h = λ e. omega (arith, e)
first_lacks (x ∷ l) h = go (eqb x.0 9) refl x.1 h (first_lacks l)
  where
    go : (n : Bool) → eqb x.0 9 ≡ n → (b : Bool) → T (not n && lacks l) → (T (lacks l) → first l ≢ 9) → cond b x.0 (first l) ≢ 9
    go true e b h ih z = h
    go false e true h ih z = eqb-false x.0 9 e z
    go false e false h ih z = ih h z

earlier_lacks : (n m : ℕ) → n ≢ 9 → m ≢ 9 → earlier n m ≢ 9
earlier_lacks n m a b = go (eqb n 0)
  where
    go : (z : Bool) → cond z m n ≢ 9
    go true = b
    go false = a

tree_lacks : (t : Tree) → tree_refusal t ≢ 9
unfolding tree_refusal
tree_lacks t = first_lacks (tree_conditions t) tt

validity_refusal_lacks : (t : Tree) (i : ℕ) (c : Column) → validity_refusal t i c ≢ 9
unfolding state_refusal
validity_refusal_lacks t i c = earlier_lacks (tree_refusal t) (state_refusal t i c) (tree_lacks t) (first_lacks (state_conditions t i c) tt)

-- the core tests the column before a step's own conditions
later_lacks : (t : Tree) (i : ℕ) (c : Column) (l : List (ℕ × Bool)) → T (lacks l) → earlier (validity_refusal t i c) (first l) ≢ 9
later_lacks t i c l h = earlier_lacks (validity_refusal t i c) (first l) (validity_refusal_lacks t i c) (first_lacks l h)

-- ---- the bank

module _ (s : State) where
  abbrev t : Tree
  t = s.bank.tree

  abbrev at : ℕ → Column
  at i = column_at s.bank i

  bank_lacks : bank_refusal s ≢ 9
  unfolding bank_refusal
  bank_lacks = earlier_lacks (tree_refusal t) _ (tree_lacks t) (first_lacks (bank_conditions s) tt)

  take_lacks : (p : Packet) → core.take_refusal t (receiver p) (at (receiver p)) p ≢ 9
  unfolding core.take_refusal core.packet_refusal
  take_lacks p =
      let i = receiver p in
      earlier_lacks (validity_refusal t i (at i)) _ (validity_refusal_lacks t i (at i))
      (earlier_lacks (core.packet_refusal t p) _ (first_lacks (core.packet_conditions t p) tt) (first_lacks (core.take_conditions t i (at i) p) tt))

  own_lacks : (x : Step) → own_refusal s x ≢ 9
  unfolding core.order_refusal core.send_refusal core.ack_refusal core.all_refusal core.note_refusal
  own_lacks (Order d) = later_lacks t t.root (at t.root) (core.order_conditions t t.root (at t.root)) tt
  own_lacks (Send i) = later_lacks t i (at i) (core.send_conditions t i (at i)) tt
  own_lacks (Take place) =
      earlier_lacks (first ((10, leb s.bank.count place) ∷ [])) _ (first_lacks ((10, leb s.bank.count place) ∷ []) tt)
      (take_lacks (packet_at s place))
  own_lacks (Ack i) = later_lacks t i (at i) (core.ack_conditions t i (at i)) tt
  own_lacks (All i) = later_lacks t i (at i) (core.all_conditions t i (at i)) tt
  own_lacks (Note i j) =
      earlier_lacks _ (first ((6, runs s.bank j) ∷ [])) (later_lacks t i (at i) (core.note_conditions t i (at i) j) tt)
      (first_lacks ((6, runs s.bank j) ∷ []) tt)
  own_lacks (Halt m) = first_lacks (halt_conditions s m) tt
  own_lacks (Back j) = first_lacks (back_conditions s j) tt
  own_lacks (Write i offset value) =
      earlier_lacks (first ((4, leb t.columns i) ∷ [])) _ (first_lacks ((4, leb t.columns i) ∷ []) tt) (first_lacks (write_conditions offset) tt)

  module _ (room : s.bank.count < capacity) (x : Step) where
    not_overfull : overfull s x ≡ false
    not_overfull =
        ap (λ (b : Bool). raised s x && b) (ne_eqb s.bank.count capacity (λ e. omega (arith, e, room))) ∙ and-false (raised s x)

    refusal_lacks : refusal_of s x ≢ 9
    refusal_lacks =
        earlier_lacks (bank_refusal s) _ bank_lacks (earlier_lacks (own_refusal s x) _ (own_lacks x)
        (λ e. omega (arith, sym (ap (λ (b : Bool). first ((9, b) ∷ [])) not_overfull) ∙ e)))

    pub no_nine : (s' : State) → perform s x ≡ refused 9 s' → ⊥
    no_nine s' e = go (eqb (refusal_of s x) 0) (after (perform s x)) (sym (exact s x) ∙ e)
      where
        go : (b : Bool) (next : State) → cond b (accepted next) (refused (refusal_of s x) s) ≡ refused 9 s' → ⊥
        go true next z = let y : ◌≡◌ {A = ℕ} 0 1 = cc in omega arith
        go false next z = refusal_lacks cc

-- it is lower than the document's
below_limit : (n : ℕ) → packet_bound n ≤ packet_limit n
below_limit n =
    let less : 2 * n - 3 ≤ 2 * n = omega arith in
    let z : (n - 1) * (2 * n - 3) ≤ (n - 1) * (2 * n) = mul-le-mul_left (n - 1) less in
    omega (arith, z, mul_left_comm (n - 1) 2 n, mul_comm (n - 1) n)

limit_480 : (n : ℕ) → n ≤ 16 → packet_limit n ≤ 480
limit_480 n h =
    let less : n - 1 ≤ 15 = omega arith in
    let z : n * (n - 1) ≤ 16 * 15 = mul-le-mul h less in
    omega (arith, z)

limit_435 : (n : ℕ) → n ≤ 16 → packet_bound n ≤ 435
limit_435 n h =
    let less : n - 1 ≤ 15 = omega arith in
    let few : 2 * n - 3 ≤ 29 = omega arith in
    let z : (n - 1) * (2 * n - 3) ≤ 15 * 29 = mul-le-mul less few in
    omega (arith, z)

module _ (w : World) (r : Reached w) where
  reached_within : w.state.bank.count ≤ packet_bound (columns_of w)
  reached_within = omega (
    arith,
    packets_length w.state r.formed.whole r.room,
    packets_bounded w.state.bank.tree r.validity r.bounded ((check_exact w.state.bank.tree).0 r.tree).root_below,
  )

  reached_bounded : w.state.bank.count ≤ packet_limit (columns_of w)
  reached_bounded = omega (arith, reached_within, below_limit (columns_of w))

  sixteen : columns_of w ≤ 16
  sixteen = tree_sixteen w.state.bank.tree r.tree

  reached_480 : w.state.bank.count ≤ 480
  reached_480 = omega (arith, reached_bounded, limit_480 (columns_of w) sixteen)

  reached_435 : w.state.bank.count ≤ 435
  reached_435 = omega (arith, reached_within, limit_435 (columns_of w) sixteen)

  pub reached_room : w.state.bank.count < capacity
  reached_room = omega (arith, reached_480)

pub never_fills : NeverFills
never_fills = after_every (λ w. w.state.bank.count ≤ packet_limit (columns_of w)) reached_bounded

pub at_480 : At480
at_480 = after_every (λ w. w.state.bank.count ≤ 480) reached_480

pub within_packet_bound : WithinPacketBound
within_packet_bound = after_every (λ w. w.state.bank.count ≤ packet_bound (columns_of w)) reached_within

pub at_435 : At435
at_435 = after_every (λ w. w.state.bank.count ≤ 435) reached_435

pub never_nine : NeverNine
never_nine = after_every (λ w. (x : Step) (s : State) → perform w.state x ≡ refused 9 s → ⊥) (λ w r. no_nine w.state (reached_room w r))
