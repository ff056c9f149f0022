-- Every accepted step of the bank that takes no packet off is a move of the model. Assumes nothing.
use Prim.Native.Nat.{ℕ, ◌^◌, ◌<◌}
use native.Mathlib.Omega.{arith}
use mathlib.Core.Path.{◌≡◌, refl, sym, ap, ap₂, subst, ◌∙◌}
use mathlib.Core.Logic.{◌≢◌}
use mathlib.Core.Bool.{Bool, true, false, ◌&&◌, cond, true≢false}
use mathlib.Core.List.{List, [], ◌∷◌}
use lib.Dec.{eqb, ltb}
use lib.Pow.{pow_mono}
use native.Mathlib.Nat.{lt_of_lt_of_le}
use borrow.Author.Tests.{eqb-true, eqb-false, lt-ltb}
use Rattle.column.specs.laws.Cases.{and_right}
use Rattle.column.specs.Refusals.{first}
use Rattle.column.specs.laws.RefusalLaws.{passed, earlier_none}
use Rattle.column.specs.Sets.{has, join, insert, without, lowest}
use Rattle.column.specs.laws.Digits.{lowest_member}
use Rattle.column.specs.Trees.{tree_refusal, choose, children}
use Rattle.column.specs.laws.TreeLaws.{tree_sixteen}
use Rattle.column.proofs.laws.ChoiceLaws.{choose_member}
use Rattle.column.specs.laws.StateLaws.{Sound, sound}
use Rattle.column.specs.Columns.{with_sets, halt_noted, with_pending}
use Rattle.column.specs.Steps as core
use Rattle.column.specs.Steps.{order_refusal, order_effect, send_refusal, send_effect, ack_refusal, ack_effect, all_refusal, all_effect, note_refusal, note_effect}
use Rattle.column.specs.declared.tree.Tree.{Tree}
use Rattle.column.specs.declared.state.Column.{Column}
use Rattle.column.specs.declared.packet.Packet.TheVariants.{Message, Acknowledgement}
use Rattle.bank.specs.Banks.{State, column_at, runs, acting_refusal}
use Rattle.bank.specs.Networks.{puts}
use Rattle.bank.specs.laws.NetworkLaws.{packets_of}
use Rattle.bank.specs.laws.ValidityLaws.{Valid, acting}
use Rattle.bank.specs.Steps as bank
use Rattle.bank.specs.Steps.{fitting, with_column, settled, acted, order, send, ack, all, note}
use Rattle.agreement.specs.Returning.{Formed}
use Rattle.agreement.proofs.relation.Model.{In, Runs, Becomes, post}
use Rattle.agreement.proofs.relation.Move as move
use Rattle.agreement.proofs.relation.Move.{Move}
use Rattle.agreement.proofs.relation.Conditions.{member, not_member, widths, order_in, send_in, ack_in, all_in, note_in}
use Rattle.agreement.proofs.relation.View.{view, model_of}
use Rattle.agreement.proofs.refinement.RefineCommon.{Refines, refines_unless, refines_core, refines_quiet, refines_put}

-- ---- a column of a valid bank

module _ (s : State) (valid : Valid s) (i : ℕ) (below : i < s.bank.tree.columns) where
  abbrev tree : Tree
  tree = s.bank.tree

  abbrev column : Column
  column = column_at s.bank i

  pub column_sound : Sound tree i column
  column_sound = sound tree i column (valid.columns i below)

  pub model_runs : (orders : List ℕ) → column.running ≡ true → Runs (model_of s orders) i
  model_runs orders r = ap₂ (λ (x y : Bool). x && y) (lt-ltb i tree.columns below) r

  pub column_small : i < 256
  column_small = omega (arith, below, tree_sixteen tree valid.tree)

-- the lowest member of a set that is not empty
pub lowest_in : (t : Tree) → tree_refusal t ≡ 0 → (m : ℕ) → m < 2 ^ t.columns → m ≢ 0 → In m (lowest m)
lowest_in t ok m h n = member (lowest_member 16 m (lt_of_lt_of_le h (pow_mono (tree_sixteen t ok))) (omega (arith, n)))

module _ (s : State) (formed : Formed s) (orders : List ℕ) where
  abbrev t : Tree
  t = s.bank.tree

  -- ---- a step of column i that acts

  -- what is left to show once the bank is valid and the core does not refuse
  refines_acting : (i n : ℕ) (r : core.Result) (orders' : List ℕ) (e : move.Event)
      → (Valid s → i < t.columns → n ≡ 0 → Refines s orders orders' e (settled s s i r))
      → Refines s orders orders' e (acted s i (core.unless n (column_at s.bank i) r))
  unfolding acted
  refines_acting i n r orders' e h =
      refines_unless s orders orders' e (acting_refusal s i) _ (λ ok.
      refines_core s orders orders' e s i n (column_at s.bank i) r (λ no.
      h (acting s i ok).0 (acting s i ok).1 no))

  pub refines_order : (d : ℕ) → Refines s orders (d ∷ orders) (move.orders d) (order s d)
  unfolding order_effect
  refines_order d =
      let b = t.root in
      let c = column_at s.bank b in
      refines_acting b (order_refusal t b c) (order_effect t b c d) (d ∷ orders) (move.orders d) (λ st below no.
      let k = order_in t b c no in
      refines_quiet s formed st b below _ (omega (arith, formed.numbers_fit b, k.3)) s refl refl formed.whole orders (d ∷ orders) (move.orders d)
      (λ s' z. move.order d (model_runs s st b below orders k.0) k.1 k.2 z))

  -- a send to the column itself, to one that is noted, and to another
  pub refines_send : (i : ℕ) → Refines s orders orders (move.sends i (choose t (column_at s.bank i).send)) (send s i)
  unfolding send_effect
  refines_send i =
      refines_acting i (send_refusal t i c) (send_effect t i c) orders e (λ st below no.
      let k = send_in t i c no in
      let runs = model_runs s st i below orders k.0 in
      let m = member (choose_member t st.tree c.send (widths t i c (st.columns i below)).send (omega (arith, k.1))) in
      let below-x = (column_sound s st i below).send_below x m.holds in
      go st below runs m below-x (eqb x i) (has c.noted x) refl refl)
    where
      c : Column
      c = column_at s.bank i

      x : ℕ
      x = choose t c.send

      e : move.Event
      e = move.sends i x

      go : Valid s → i < t.columns → Runs (model_of s orders) i → In c.send x → x < t.columns → (self noted : Bool) → eqb x i ≡ self → has c.noted x ≡ noted
          → Refines s orders orders e (settled s s i
          (cond self (core.accepted (with_sets c (without c.send x) c.awaited c.owed) [] false)
          (cond noted (core.accepted (with_sets c (join (without c.send x) (children t x)) c.awaited c.owed) [] false)
          (core.accepted (with_sets c (without c.send x) (insert c.awaited x) c.owed) (Message i x c.number c.doors ∷ []) false))))
      go st below runs m below-x true noted p q =
          refines_quiet s formed st i below _ (formed.numbers_fit i) s refl refl formed.whole orders orders e
          (λ s' z. move.send_self i x runs (eqb-true x i p) m z)
      go st below runs m below-x false true p q =
          refines_quiet s formed st i below _ (formed.numbers_fit i) s refl refl formed.whole orders orders e
          (λ s' z. move.send_noted i x runs m (member q) z)
      go st below runs m below-x false false p q =
          refines_put s formed st i below _ (formed.numbers_fit i) s refl refl formed.whole orders orders e
          (Message i x c.number c.doors) (record { sender_lt = column_small s st i below; receiver_lt = column_small s st x below-x; number_lt = formed.numbers_fit i }) below-x (eqb-false x i p)
          (λ s' z. move.send_message i x runs (eqb-false x i p) m (not_member q) z)

  -- the lowest owed gets its acknowledgement: with ack, and with a take that leaves its packet
  pub refines_acknowledgement : (i : ℕ) (gone : State) (left : Bool) → cond left s gone ≡ s → Valid s → (below : i < t.columns)
      → (column_at s.bank i).owed ≢ 0 → (e : move.Event)
      → ((s' : State) → In (column_at s.bank i).owed (lowest (column_at s.bank i).owed)
      → Becomes (model_of s orders) (model_of s' orders) i
      (view t i (with_sets (column_at s.bank i) (column_at s.bank i).send (column_at s.bank i).awaited
      (without (column_at s.bank i).owed (lowest (column_at s.bank i).owed))))
      (post (model_of s orders) (Acknowledgement i (lowest (column_at s.bank i).owed) (column_at s.bank i).number) (packets_of s)) orders
      → Move t (model_of s orders) (model_of s' orders) e)
      → Refines s orders orders e (settled s gone i (core.acknowledge_lowest i (column_at s.bank i) left))
  refines_acknowledgement i gone left stays st below some e m =
      let c = column_at s.bank i in
      let r = lowest c.owed in
      let in_owed : In c.owed r = lowest_in t st.tree c.owed (widths t i c (st.columns i below)).owed some in
      let r-below = (column_sound s st i below).owed_below r in_owed.holds in
      let apart : r ≢ i = λ z. true≢false (sym in_owed.holds ∙ ap (λ (x : ℕ). has c.owed x) z ∙ (column_sound s st i below).owes_others) in
      subst (λ (g : State). Refines s orders orders e
      (fitting s (puts (with_column g i (with_sets c c.send c.awaited (without c.owed r))) (Acknowledgement i r c.number ∷ [])))) (sym stays)
      (refines_put s formed st i below _ (formed.numbers_fit i) s refl refl formed.whole orders orders e
      (Acknowledgement i r c.number) (record { sender_lt = column_small s st i below; receiver_lt = column_small s st r r-below; number_lt = formed.numbers_fit i }) r-below apart
      (λ s' z. m s' in_owed z))

  pub refines_ack : (i : ℕ) → Refines s orders orders (move.acknowledges i (lowest (column_at s.bank i).owed)) (ack s i)
  unfolding ack_effect
  refines_ack i =
      let c = column_at s.bank i in
      refines_acting i (ack_refusal t i c) (ack_effect i c) orders (move.acknowledges i (lowest c.owed)) (λ st below no.
      let k = ack_in t i c no in
      refines_acknowledgement i s false refl st below k.1 (move.acknowledges i (lowest c.owed))
      (λ s' m z. move.acknowledge i (lowest c.owed) (model_runs s st i below orders k.0) m k.2 z))

  pub refines_all : (i : ℕ) → Refines s orders orders (move.widens i) (all s i)
  unfolding all_effect
  refines_all i =
      let c = column_at s.bank i in
      refines_acting i (all_refusal t i c) (all_effect t c) orders (move.widens i) (λ st below no.
      let k = all_in t i c no in
      refines_quiet s formed st i below _ (formed.numbers_fit i) s refl refl formed.whole orders orders (move.widens i)
      (λ s' z. move.widen i (model_runs s st i below orders k.0) k.1 k.2 k.3 k.4 z))

  -- a column that the bank tests to be halted: awaited, or not
  pub refines_note : (i j : ℕ) → Refines s orders orders (move.notes i j) (note s i j)
  unfolding note_effect
  refines_note i j =
      refines_acting i (bank.note_refusal s.bank i j) (note_effect t c j) orders e (λ st below no.
      let q = earlier_none (note_refusal t i c j) (first ((6, runs s.bank j) ∷ [])) no in
      go st below q.0 (passed ((6, runs s.bank j) ∷ []) tt q.1).0 (has c.awaited j) refl)
    where
      c : Column
      c = column_at s.bank i

      e : move.Event
      e = move.notes i j

      halted : runs s.bank j ≡ false → Runs (model_of s orders) j → ⊥
      halted h r = true≢false (sym (and_right (ltb j t.columns) _ r) ∙ h)

      go : Valid s → i < t.columns → note_refusal t i c j ≡ 0 → runs s.bank j ≡ false → (b : Bool) → has c.awaited j ≡ b
          → Refines s orders orders e (settled s s i (core.accepted
          (with_pending (move.noting c (cond b (join c.send (children t j)) c.send) (cond b (without c.awaited j) c.awaited) (insert c.noted j)) halt_noted) [] false))
      go st below ok h true a =
          let k = note_in t i c j ok in
          refines_quiet s formed st i below _ (formed.numbers_fit i) s refl refl formed.whole orders orders e
          (λ s' z. move.note_awaited i j (model_runs s st i below orders k.1) k.0 (halted h) (member a) z)
      go st below ok h false a =
          let k = note_in t i c j ok in
          refines_quiet s formed st i below _ (formed.numbers_fit i) s refl refl formed.whole orders orders e
          (λ s' z. move.note_other i j (model_runs s st i below orders k.1) k.0 (halted h) (not_member a) k.2 z)
