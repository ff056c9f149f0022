-- Who acts in a turn of the dispatcher, and what its step comes to in a valid bank. Assumes nothing.
use Prim.Native.Nat.{ℕ, zero, suc, ◌+◌, ◌≤◌, ◌<◌}
use Rattle.std.proofs.Common.{arith, sym, ◌∙◌, true≢false}
use Rattle.std.specs.Prelude.{◌≡◌, Bool, true, false, ◌&&◌, List, [], ◌∷◌, eqb, get_or}
use Rattle.std.proofs.Math.Path.{refl, ap, subst}
use Rattle.std.proofs.Math.Bool.{cond}
use borrow.Author.Tests.{eq-eqb, eqb-true, eqb-false, leb-false, lt-leb, le-leb, not-false}
use Rattle.column.specs.Refusals.{first}
use Rattle.column.specs.laws.RefusalLaws.{passed, earlier_none}
use Rattle.column.specs.Sets.{has, lowest, minus}
use Rattle.column.specs.Packets.{receiver}
use Rattle.column.specs.Columns.{validity_refusal}
use Rattle.column.specs.laws.StateLaws.{acceptable}
use Rattle.column.specs.Steps as core
use Rattle.column.specs.Unchecked.{bounded_take}
use Rattle.column.specs.laws.UncheckedLaws.{take_bounded, ack_bounded, all_bounded, note_bounded}
use Rattle.column.proofs.laws.UncheckedLaws.{send_bounded}
use Rattle.column.specs.declared.tree.Tree.{Tree}
use Rattle.column.specs.declared.state.Column.{Column}
use Rattle.bank.specs.Banks.{State, state, column_at, runs, packet_at, bank_refusal}
use Rattle.bank.specs.laws.ValidityLaws.{valid}
use Rattle.bank.specs.laws.WordLaws.{receiver_of}
use Rattle.bank.specs.Steps.{Result, refused, settled, delivered, note_refusal}
use Rattle.bank.specs.Networks.{removed}
use Rattle.bank.specs.laws.StepLaws.{note_halted}
use Rattle.bank.specs.Performs.{perform}
use Rattle.bank.specs.inner.Changes.{Steady, Aimed, RunningIs, Handed, core_step}
use Rattle.bank.specs.StepKinds.{is_own, is_take}
use Rattle.bank.proofs.laws.ChangeLaws.{valid_at, own_done, taken_done}
use Rattle.bank.specs.Rest.{is_refused}
use Rattle.bank.proofs.laws.RestSteps.{refused_exactly}
use Rattle.bank.specs.Exact.{own_refusal, refusal_of}
use Rattle.bank.proofs.laws.DispatchLaws.{turn_accepted, core_takes}
use Rattle.bank.proofs.laws.turns.FirstAccepted.{quick_turn_lem}
use Rattle.bank.specs.inner.Turning.{turn_effect, can_send, can_ack, can_take_over, step_of, step_from, quick_turn, acting_in}
use Rattle.bank.specs.laws.Kinds.{is_order, by_no_column}
use Rattle.bank.specs.inner.Moves.{acts}
use Rattle.bank.specs.declared.bank.Bank.{Bank}
use Rattle.bank.specs.declared.bank.Step.{Step}
use Rattle.bank.specs.declared.bank.Step.TheVariants.{Order, Send, Take, Ack, All, Note, Halt, Back, Write}

-- ---- who acts

pub record Turning (s : State) (x : Step) : Type 0 where
  pub moves : by_no_column x ≡ false
  pub given : is_order x ≡ false
  pub actor : acts s x (acting_in x (get_or s.heads 0 0)) ≡ true
  -- the packet that is taken is the oldest
  pub oldest : is_take x ≡ true → x ≡ Take 0
  -- the column that acts by itself is one of the bank's
  pub below : is_take x ≡ false → acting_in x (get_or s.heads 0 0) < s.bank.tree.columns

module _ (s : State) where
  either : (b : Bool) (x y : Step) → Turning s x → Turning s y → Turning s (cond b x y)
  either true x y h k = h
  either false x y h k = k

  module _ (i : ℕ) (l : i < s.bank.tree.columns) where
    abbrev own : eqb i i ≡ true
    own = eq-eqb i i refl

    by_itself : (x : Step) → by_no_column x ≡ false → is_order x ≡ false → acts s x (acting_in x (get_or s.heads 0 0)) ≡ true → is_take x ≡ false
        → acting_in x (get_or s.heads 0 0) ≡ i → Turning s x
    by_itself x moves given actor none is =
        record {
          moves = moves;
          given = given;
          actor = actor;
          oldest = λ e. absurd (true≢false (sym e ∙ none));
          below = λ e. omega (arith, is, l);
        }

    column_turning : (t : Tree) (full : Bool) (halted : ℕ) (c : Column) (other : Step) → Turning s other → Turning s (step_of t full halted i c other)
    unfolding step_of
    column_turning t full halted c other h =
        let new = minus halted c.noted in
        let third : Step = cond (can_take_over t i c) (All i) other in
        let second : Step = cond (can_ack t full halted i c) (Ack i) third in
        let first : Step = cond (can_send t full halted i c) (Send i) second in
        let last : Turning s third = either (can_take_over t i c) (All i) other (by_itself (All i) refl refl own refl refl) h in
        let later : Turning s second = either (can_ack t full halted i c) (Ack i) third (by_itself (Ack i) refl refl own refl refl) last in
        either c.running (cond (eqb new 0) first (Note i (lowest new))) other
        (either (eqb new 0) first (Note i (lowest new)) (either (can_send t full halted i c) (Send i) second (by_itself (Send i) refl refl own refl refl) later)
        (by_itself (Note i (lowest new)) refl refl own refl refl))
        h

  turning_from : (b : Bank) (full : Bool) (halted i k : ℕ) → i + k ≤ s.bank.tree.columns → Turning s (step_from b full halted i k)
  unfolding step_from
  turning_from b full halted i zero l =
      record {
        moves = refl;
        given = refl;
        actor = eq-eqb _ _ (sym (receiver_of (get_or s.heads 0 0) (get_or s.doors 0 0)));
        oldest = λ e. refl;
        below = λ e. absurd (true≢false e);
      }
  turning_from b full halted i (suc k) l =
      column_turning i (omega (arith, l)) b.tree full halted (column_at b i) (step_from b full halted (suc i) k) (turning_from b full halted (suc i) k (omega (arith, l)))

  pub turning : (x : Step) → x ≡ quick_turn s.bank → Turning s x
  turning x quick = subst (Turning s) (sym quick) (turning_from s.bank _ _ 0 _ (omega arith))

-- who acts is one of the bank's, unless the step is a take where no packet is under way
pub turn_below : (s : State) → bank_refusal s ≡ 0 → (x : Step) → x ≡ quick_turn s.bank → (is_take x && eqb s.bank.count 0) ≡ false
    → acting_in x (get_or s.heads 0 0) < s.bank.tree.columns
turn_below s ok x quick e = go (is_take x) refl
  where
    go : (b : Bool) → is_take x ≡ b → acting_in x (get_or s.heads 0 0) < s.bank.tree.columns
    go true takes =
        let held : 0 < s.bank.count = omega (arith, eqb-false s.bank.count 0 (ap (λ (y : Bool). y && eqb s.bank.count 0) (sym takes) ∙ e)) in
        let to_below = (acceptable s.bank.tree (packet_at s 0) ((valid s ok).packets 0 held)).receiver_below in
        let is = ap (λ (y : Step). acting_in y (get_or s.heads 0 0)) ((turning s x quick).oldest takes) in
        omega (arith, to_below, is, receiver_of (get_or s.heads 0 0) (get_or s.doors 0 0))
    go false none = (turning s x quick).below none

-- ---- what its step comes to

own_turn : (x : Step) → by_no_column x ≡ false → is_take x ≡ false → is_own x ≡ true
own_turn (Order doors) e z = refl
own_turn (Send i) e z = refl
own_turn (Take place) e z = absurd (true≢false z)
own_turn (Ack i) e z = refl
own_turn (All i) e z = refl
own_turn (Note i j) e z = refl
own_turn (Halt m) e z = absurd (true≢false e)
own_turn (Back j) e z = absurd (true≢false e)
own_turn (Write i offset value) e z = absurd (true≢false e)

-- a step that the bank does not refuse is its effect
module _ (s : State) (i : ℕ) (good : validity_refusal s.bank.tree i (column_at s.bank i) ≡ 0) (running : ℕ) (running_is : RunningIs running s.bank) where
  abbrev tree : Tree
  tree = s.bank.tree

  abbrev column : Column
  column = column_at s.bank i

  note_effect : (j : ℕ) → note_refusal s.bank i j ≡ 0 → turn_effect tree (Note i j) i column ≡ core_step tree running (Note i j) i column
  unfolding core.note_refusal
  note_effect j z =
      let q = earlier_none (core.note_refusal tree i column j) (first ((6, runs s.bank j) ∷ [])) z in
      let own = earlier_none (validity_refusal tree i column) (first (core.note_conditions tree i column j)) q.0 in
      let below = leb-false tree.columns j (passed (core.note_conditions tree i column j) tt own.1).0 in
      note_bounded tree i column good j q.0 ∙ note_halted tree i column j (has running j) (running_is j below ∙ (passed ((6, runs s.bank j) ∷ []) tt q.1).0)

  effect_is : (x : Step) → by_no_column x ≡ false → is_order x ≡ false → is_take x ≡ false → acts s x i ≡ true → own_refusal s x ≡ 0
      → turn_effect tree x i column ≡ core_step tree running x i column
  effect_is (Order doors) m o n a z = absurd (true≢false o)
  effect_is (Send k) m o n a z =
      send_bounded tree i column good (subst (λ (k : ℕ). core.send_refusal tree k (column_at s.bank k) ≡ 0) (sym (eqb-true i k a)) z)
  effect_is (Take place) m o n a z = absurd (true≢false n)
  effect_is (Ack k) m o n a z =
      ack_bounded tree i column good (subst (λ (k : ℕ). core.ack_refusal tree k (column_at s.bank k) ≡ 0) (sym (eqb-true i k a)) z)
  effect_is (All k) m o n a z =
      all_bounded tree i column good (subst (λ (k : ℕ). core.all_refusal tree k (column_at s.bank k) ≡ 0) (sym (eqb-true i k a)) z)
  effect_is (Note k j) m o n a z = note_effect j (subst (λ (k : ℕ). note_refusal s.bank k j ≡ 0) (sym (eqb-true i k a)) z)
  effect_is (Halt m) e o n a z = absurd (true≢false e)
  effect_is (Back j) m o n a z = absurd (true≢false m)
  effect_is (Write k offset value) m o n a z = absurd (true≢false m)

module _ {b : Bank} {t : Tree} {running i : ℕ} {c : Column} {count : ℕ} (heads doors : List ℕ) (handed : Handed b t running i c count)
    (ok : bank_refusal (state b heads doors) ≡ 0) (x : Step) (quick : x ≡ quick_turn b) (is : i ≡ acting_in x (get_or heads 0 0)) where
  abbrev s : State
  s = state b heads doors

  turns : Turning s x
  turns = turning s x quick

  -- the turn's step, where it is no take, is accepted
  none_refuses : is_take x ≡ false → own_refusal s x ≡ 0
  none_refuses none =
      let same = quick_turn_lem s (valid s ok) ∙ sym quick in
      let goes = ap (λ (y : Step). is_refused (perform s y)) (sym same) ∙ turn_accepted s (ap is_take same ∙ none) in
      let z : refusal_of s x ≡ 0 = eqb-true (refusal_of s x) 0 (not-false (eqb (refusal_of s x) 0) (sym (refused_exactly s x) ∙ goes)) in
      (earlier_none (own_refusal s x) _ (earlier_none (bank_refusal s) _ z).1).0

  pub turn_own : is_take x ≡ false → (m : core.Result) → m ≡ turn_effect t x i c → {after : Result State}
      → (Steady (column_at b i) (m) → Aimed b.tree (m) → after ≡ settled s s i (m)) → after ≡ perform s x
  turn_own none m e settles =
      let stood = valid s ok in
      let below : i < b.tree.columns = omega (arith, is, turns.below none) in
      let actor = ap (acts s x) is ∙ turns.actor in
      let same : m ≡ core_step b.tree running x i (column_at b i) =
      e ∙ ap (λ (t : Tree). turn_effect t x i c) (sym handed.tree_is) ∙ ap (turn_effect b.tree x i) (sym handed.column_is)
      ∙ effect_is s i (valid_at s stood i below) running handed.running_is x turns.moves turns.given none actor (none_refuses none) in
      own_done s stood i below running handed.running_is x (own_turn x turns.moves none) actor same settles

  module _ (takes : is_take x ≡ true) where
    pub turn_receiver : i ≡ receiver (packet_at s 0)
    turn_receiver = is ∙ ap (λ (y : Step). acting_in y (get_or heads 0 0)) (turns.oldest takes) ∙ sym (receiver_of (get_or heads 0 0) (get_or doors 0 0))

    pub turn_none : count ≡ 0 → refused 10 s ≡ perform s x
    unfolding perform
    turn_none z = rw (turns.oldest takes, eq-eqb (bank_refusal s) 0 ok, le-leb b.count 0 (omega (arith, handed.count_is, z)))

    turn_takes : (count ≡ 0 → ⊥) → delivered s 0 (packet_at s 0) ≡ perform s x
    unfolding perform
    turn_takes some = rw (turns.oldest takes, eq-eqb (bank_refusal s) 0 ok, lt-leb b.count 0 (omega (arith, handed.count_is, some)))

    pub turn_taken : (count ≡ 0 → ⊥) → (m : core.Result) → m ≡ bounded_take t i c (packet_at s 0) → {after : Result State}
        → (Steady (column_at b i) (m) → Aimed b.tree (m) → after ≡ settled s (removed s 0) i (m)) → after ≡ perform s x
    unfolding core.take_refusal
    turn_taken some m e settles =
        let p = packet_at s 0 in
        let held : 0 < b.count = omega (arith, handed.count_is, some) in
        let stood = valid s ok in
        let none : core.take_refusal b.tree i (column_at b i) p ≡ 0 =
        subst (λ (k : ℕ). core.take_refusal b.tree k (column_at b k) p ≡ 0) (sym turn_receiver) (core_takes s stood 0 held) in
        let q = earlier_none (validity_refusal b.tree i (column_at b i)) _ none in
        let own = (earlier_none (core.packet_refusal b.tree p) (first (core.take_conditions b.tree i (column_at b i) p)) q.1).1 in
        taken_done s stood 0 held i turn_receiver m
        (e ∙ ap (λ (t : Tree). bounded_take t i c p) (sym handed.tree_is) ∙ ap (λ (c : Column). bounded_take b.tree i c p) (sym handed.column_is)
        ∙ take_bounded b.tree i (column_at b i) q.0 p own)
        settles
        ∙ turn_takes some
