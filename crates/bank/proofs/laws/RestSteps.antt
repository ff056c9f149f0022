-- Which steps of a bank are refused: those that `refusal_of` refuses; where no packet is under way, those that the core refuses.
-- Assumes nothing.
use Rattle.std.specs.Prelude.{ℕ, suc, ◌≤◌, ◌<◌, ◌≡◌, refl, Bool, true, false, not, ◌&&◌, ◌||◌, cond, List, [], ◌∷◌, T, eqb, ltb}
use Rattle.std.proofs.Common.{ap, ◌∙◌, sym, ⊎_elim}
use Rattle.std.proofs.Math.Bool.{and-false}
use native.Mathlib.Omega.{arith}
use borrow.Author.Tests.{eq-eqb, ne_eqb, ltb-true, ltb-false, leb-false}
use Rattle.column.specs.laws.Cases.{truth}
use Rattle.column.specs.Refusals.{first, earlier}
use Rattle.column.specs.laws.RefusalLaws.{Passed, numbered, passed, earlier_none, earlier_zero}
use Rattle.column.specs.Columns.{validity_refusal}
use Rattle.column.specs.Steps as core
use Rattle.column.specs.declared.state.Column.{Column}
use Rattle.bank.specs.Banks.{State, column_at, runs, capacity, bank_refusal}
use Rattle.bank.specs.Steps.{accepted, refused, after, send, ack, all, note}
use Rattle.bank.specs.Performs.{perform}
use Rattle.bank.specs.Exact.{own_refusal, raised, overfull, refusal_of}
use Rattle.bank.proofs.laws.ExactLaws.{exact}
use Rattle.bank.specs.Rest.{is_refused, Refused}
use Rattle.bank.specs.declared.bank.Step.{Step}
use Rattle.bank.specs.declared.bank.Step.TheVariants.{Send, Ack, All, Note}

abbrev pub refuses : ℕ → Bool
refuses n = not (eqb n 0)

-- a condition of the list holds
pub met : (n : ℕ) (l : List (ℕ × Bool)) → T (numbered l) → (Passed l → ⊥) → refuses (earlier n (first l)) ≡ true
met n l h f = ap not (ne_eqb (earlier n (first l)) 0 (λ e. f (passed l h (earlier_none n (first l) e).1)))

-- one condition after others
pub then_refuses : (n k : ℕ) (holds : Bool) → refuses (earlier n (first ((suc k, holds) ∷ []))) ≡ (holds || refuses n)
then_refuses n k false = ap refuses (earlier_zero n)
then_refuses n k true = go (eqb n 0) refl
  where
    go : (b : Bool) → eqb n 0 ≡ b → refuses (cond b (suc k) n) ≡ true
    go true e = ap not (ne_eqb (suc k) 0 (λ z. omega arith))
    go false e = ap not e

module _ (s : State) (x : Step) where
  pub refused_exactly : is_refused (perform s x) ≡ refuses (refusal_of s x)
  refused_exactly = ap is_refused (exact s x) ∙ go (eqb (refusal_of s x) 0)
    where
      go : (b : Bool) → is_refused (cond b (accepted (after (perform s x))) (refused (refusal_of s x) s)) ≡ not b
      go true = refl
      go false = refl

  -- where no packet is under way and the bank is valid, 9 is not met
  only_own : s.bank.count ≡ 0 → bank_refusal s ≡ 0 → refusal_of s x ≡ own_refusal s x
  only_own none good =
      let room : overfull s x ≡ false = ap (λ n. raised s x && eqb n capacity) none ∙ and-false (raised s x) in
      rw (eq-eqb (bank_refusal s) 0 good, room) (earlier_zero (own_refusal s x))

  pub own_refused : s.bank.count ≡ 0 → bank_refusal s ≡ 0 → is_refused (perform s x) ≡ refuses (own_refusal s x)
  own_refused none good = refused_exactly ∙ ap refuses (only_own none good)

  -- a step that is refused for its own sake is refused in any bank
  pub own_always : (own_refusal s x ≡ 0 → ⊥) → Refused (perform s x)
  own_always ne =
      refused_exactly ∙ ap not (ne_eqb (refusal_of s x) 0 (λ e. ne (earlier_none (own_refusal s x) _ (earlier_none (bank_refusal s) _ e).1).0))

  -- so is every step of a bank that is not valid
  pub broken_refused : (bank_refusal s ≡ 0 → ⊥) → Refused (perform s x)
  broken_refused ne = refused_exactly ∙ ap not (ne_eqb (refusal_of s x) 0 (λ e. ne (earlier_none (bank_refusal s) _ e).0))

-- ---- the steps that rest asks about

module _ (s : State) (none : s.bank.count ≡ 0) (good : bank_refusal s ≡ 0) (i : ℕ) where
  abbrev c : Column
  c = column_at s.bank i

  pub send_refused : is_refused (send s i) ≡ refuses (core.send_refusal s.bank.tree i c)
  unfolding perform
  send_refused = own_refused s (Send i) none good

  pub ack_refused : is_refused (ack s i) ≡ refuses (core.ack_refusal s.bank.tree i c)
  unfolding perform
  ack_refused = own_refused s (Ack i) none good

  pub all_refused : is_refused (all s i) ≡ refuses (core.all_refusal s.bank.tree i c)
  unfolding perform
  all_refused = own_refused s (All i) none good

  -- "j is halted, differs from i and is not yet noted by i"
  pub note_refused : (j : ℕ) → is_refused (note s i j) ≡ (runs s.bank j || refuses (core.note_refusal s.bank.tree i c j))
  unfolding perform
  note_refused j = own_refused s (Note i j) none good ∙ then_refuses (core.note_refusal s.bank.tree i c j) 5 (runs s.bank j)

-- "every j": one that is not below columns is refused in any bank
module _ (s : State) (i : ℕ) where
  beyond_refused : (j : ℕ) → s.bank.tree.columns ≤ j → Refused (note s i j)
  unfolding perform core.note_refusal
  beyond_refused j h =
      let t = s.bank.tree in
      let l = core.note_conditions t i (column_at s.bank i) j in
      own_always s (Note i j) (λ e. omega (
        arith,
        h,
        leb-false t.columns j
            (passed l tt (earlier_none (validity_refusal t i (column_at s.bank i)) (first l) (earlier_none _ (first ((6, runs s.bank j) ∷ [])) e).0).1).0,
      ))

  pub any_note_refused : ((j : ℕ) → j < s.bank.tree.columns → Refused (note s i j)) → (j : ℕ) → Refused (note s i j)
  any_note_refused f j =
      let n = s.bank.tree.columns in
      ⊎_elim (λ e. f j (ltb-true j n e)) (λ e. beyond_refused j (ltb-false j n e)) (truth (ltb j n))

module _ (s : State) (x : Step) where
  pub unchanged : (n : ℕ) (s' : State) → perform s x ≡ refused n s' → s' ≡ s
  unchanged n s' e = go (eqb (refusal_of s x) 0) (after (perform s x)) (sym (exact s x) ∙ e)
    where
      go : (b : Bool) (next : State) → cond b (accepted next) (refused (refusal_of s x) s) ≡ refused n s' → s' ≡ s
      go true next z = let y : ◌≡◌ {A = ℕ} 0 1 = cc in absurd (omega arith)
      go false next z = cc

  -- "Before all else a tree that breaks row 2 or 3 gives that number. Next, 4": whatever the step
  pub before_all_else : (bank_refusal s ≡ 0 → ⊥) → perform s x ≡ refused (bank_refusal s) s
  before_all_else ne = exact s x ∙ rw (ne_eqb (bank_refusal s) 0 ne, ne_eqb (bank_refusal s) 0 ne)
