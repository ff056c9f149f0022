-- What a step makes of the parts of a bank that was tested is the step of the bank, and what is known of the bank goes on. Assumes nothing.
use Rattle.std.specs.Prelude.{ℕ, ◌%◌, ◌≤◌, ◌<◌, ◌≡◌, refl, Bool, true, false, not, cond, List, [], ◌∷◌, eqb, leb, ltb, set, Ok, Err, IfOk}
use Rattle.std.specs.Prelude as prelude
use Rattle.std.proofs.Common.{sym, ap, subst, ◌∙◌, true≢false, arith, eq-eqb, ne_eqb, leb-false}
use Rattle.column.specs.Refusals.{first, refusal_number, refusal_of}
use Rattle.column.specs.declared.error.Refusal.{Refusal}
use Rattle.column.specs.laws.RefusalLaws.{passed}
use Rattle.column.specs.Sets.{selected}
use Rattle.column.specs.Trees.{tree_refusal}
use Rattle.column.specs.laws.TreeLaws.{tree_sixteen}
use Rattle.column.specs.declared.state.Column.{Column}
use Rattle.bank.specs.Banks.{State, state, column_at, runs, running_of, bank_refusal, columns_valid, packets_valid, capacity, joined}
use Rattle.bank.proofs.laws.ValidityOn.{room_on, runs_on, valid_on}
use Rattle.bank.specs.Steps.{accepted, refused}
use Rattle.bank.specs.laws.StepLaws.{some_number}
use Rattle.bank.specs.Performs.{perform}
use Rattle.bank.specs.laws.Kinds.{by_no_column}
use Rattle.bank.specs.Parts.{Tells, actor_of, with_part, PartOf}
use Rattle.bank.specs.StepKinds.{is_take, is_move}
use Rattle.bank.specs.inner.Changes.{stored, RunningIs}
use Rattle.bank.proofs.laws.ChangeLaws.{running_is_of, running_is_on}
use Rattle.bank.specs.inner.Moves.{place_in, Moving, own_opening, KnownAfter}
use Rattle.bank.proofs.laws.RestSteps.{unchanged}
use Rattle.bank.proofs.laws.MoveLaws.{opening, opening_take, opening_refused, Opened, opened, taker}
use Rattle.bank.specs.declared.bank.Bank.{Bank}
use Rattle.bank.specs.declared.bank.Step.{Step}
use Rattle.bank.specs.declared.bank.Step.TheVariants.{Order, Send, Take, Ack, All, Note, Halt, Back, Write}
use Rattle.bank.specs.declared.unchecked_for_script.Part.{Part}

-- ---- whose step it is

pub actor_moves : (s : State) (x : Step) (i : ℕ) → is_move x ≡ true → i ≡ actor_of s.bank.tree x s.heads → Moving s x i
actor_moves s (Order doors) i m e = (refl, λ h. eq-eqb i s.bank.tree.root e)
actor_moves s (Send k) i m e = (refl, λ h. eq-eqb i k e)
actor_moves s (Take place) i m e = taker s place e
actor_moves s (Ack k) i m e = (refl, λ h. eq-eqb i k e)
actor_moves s (All k) i m e = (refl, λ h. eq-eqb i k e)
actor_moves s (Note k j) i m e = (refl, λ h. eq-eqb i k e)
actor_moves s (Halt set) i m e = absurd (true≢false (sym m))
actor_moves s (Back j) i m e = absurd (true≢false (sym m))
actor_moves s (Write k offset value) i m e = absurd (true≢false (sym m))

moves_by_column : (x : Step) → is_move x ≡ true → by_no_column x ≡ false
moves_by_column (Order doors) m = refl
moves_by_column (Send k) m = refl
moves_by_column (Take place) m = refl
moves_by_column (Ack k) m = refl
moves_by_column (All k) m = refl
moves_by_column (Note k j) m = refl
moves_by_column (Halt set) m = absurd (true≢false (sym m))
moves_by_column (Back j) m = absurd (true≢false (sym m))
moves_by_column (Write k offset value) m = absurd (true≢false (sym m))

-- what is opened to a take has a packet at its place
pub opening_there : (columns : ℕ) (x : Step) (i count : ℕ) → 0 ≡ own_opening columns x i count → is_take x ≡ true → place_in x < count
opening_there columns x i count e takes =
    leb-false count (place_in x) (passed ((10, leb count (place_in x)) ∷ []) tt (sym (e ∙ opening_take columns x i count takes))).0

-- ---- by which number the bank is refused after a step

-- a good tree leaves nothing but 4
pub four : (s : State) → tree_refusal s.bank.tree ≡ 0 → cond (eqb (bank_refusal s) 0) 0 4 ≡ bank_refusal s
unfolding bank_refusal
four s good = rw (eq-eqb (tree_refusal s.bank.tree) 0 good) (go (not (columns_valid s.bank)) (ltb capacity s.bank.count) (not (packets_valid s)))
  where
    go : (a b c : Bool) → let n : ℕ = first ((4, a) ∷ (4, b) ∷ (4, c) ∷ []) in cond (eqb n 0) 0 4 ≡ n
    go true b c = refl
    go false true c = refl
    go false false true = refl
    go false false false = refl

-- ---- the step

module _ (s : State) (x : Step) (i : ℕ) (move : is_move x ≡ true) (is : i ≡ actor_of s.bank.tree x s.heads) where
  abbrev b : Bank
  b = s.bank

  -- the bank is refused
  pub part_barred : (e : Refusal) → refusal_number e ≡ bank_refusal s → refused (refusal_number e) s ≡ perform s x
  part_barred e bars =
      opening_refused s x i e (actor_moves s x i move is)
      (bars ∙ rw (ne_eqb (bank_refusal s) 0 (λ z. some_number e (bars ∙ z))))

  -- the step is refused, so that what was known is so of the words that it left
  pub part_refused : (known : prelude.Result ℕ Refusal) → Tells known s → (e : Refusal) (heads doors : List ℕ)
      → refused (refusal_number e) (state b heads doors) ≡ perform s x → PartOf (Err e) known s x i heads doors
  part_refused known tells e heads doors made =
      (made, subst (λ (kept : State). Tells known kept) (sym (unchanged s x (refusal_number e) (state b heads doors) (sym made))) tells)

  module _ (running : ℕ) (tells : Tells (Ok running) s) where
    opening_is : own_opening b.tree.columns x i b.count ≡ opening s x i
    opening_is = rw (eq-eqb (bank_refusal s) 0 (sym tells.refuses))

    -- its column is none of the bank's, or there is no packet to take
    pub part_closed : (e : Refusal) → refusal_number e ≡ own_opening b.tree.columns x i b.count → refused (refusal_number e) s ≡ perform s x
    part_closed e closes = opening_refused s x i e (actor_moves s x i move is) (closes ∙ opening_is)

    pub who_runs : RunningIs running b
    who_runs = running_is_of b tells.running_is

    module _ (opens : 0 ≡ own_opening b.tree.columns x i b.count) where
      pub part_opened : Opened s x i
      part_opened = opened s x i (actor_moves s x i move is) (sym (opens ∙ opening_is))

      pub sixteen : b.tree.columns ≤ 16
      sixteen = tree_sixteen b.tree part_opened.stood.tree

      here : i % 16 ≡ i
      here = omega (arith, part_opened.below, sixteen)

      pub place_is : {c : Column} → column_at b (i % 16) ≡ c → column_at b i ≡ c
      place_is place = ap (column_at b) (sym here) ∙ place

      -- the part is accepted, and the bank after it tested by the newest packet
      pub part_accepted : (r : Part) (heads doors : List ℕ) → let next = state (stored b i (record { column = r.column; count = r.count })) heads doors in
          accepted next ≡ perform s x → KnownAfter r.known b.tree running r.count heads → (known : prelude.Result ℕ Refusal) → PartOf (Ok r) known s x i heads doors
      part_accepted r heads doors made after known =
          subst (λ (d : Bank). (accepted (state d heads doors) ≡ perform s x) × Tells r.known (state d heads doors)) (sym with)
          (made, record { refuses = refuses; running_is = who r.known after.running_is })
        where
          next : State
          next = state (stored b i (record { column = r.column; count = r.count })) heads doors

          with : with_part b i r ≡ next.bank
          with = ap (λ (j : ℕ). joined b.tree (set b.columns j r.column) r.count) here

          actor : by_no_column x ≡ false
          actor = moves_by_column x move

          good : bank_refusal s ≡ 0
          good = sym tells.refuses

          runs_same : (j : ℕ) → runs next.bank j ≡ runs b j
          runs_same = runs_on s x next i actor good (sym made) part_opened.actor

          same : running_of next.bank ≡ running_of b
          same = ap (λ (f : ℕ → Bool). selected f b.tree.columns) (λ y j. runs_same j y)

          refuses : refusal_of r.known ≡ bank_refusal next
          refuses =
              after.refuses next.bank doors refl (running_is_on b next.bank refl runs_same running who_runs) refl sixteen
              (room_on s x next i actor good (sym made) part_opened.actor)
              ∙ ap (λ (t : Bool). cond t 0 4) (valid_on s x next i actor good (sym made) part_opened.actor)
              ∙ four next part_opened.stood.tree

          who : (k : prelude.Result ℕ Refusal) → IfOk k (λ who. who ≡ running) → IfOk k (λ who. who ≡ running_of next.bank)
          who (Ok r) e = e ∙ tells.running_is ∙ sym same
          who (Err e) z = z
