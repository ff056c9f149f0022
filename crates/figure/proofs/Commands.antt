-- Ways to compare a step with a command: by the tests of both, and by the number of the step's refusal.
-- Assumes nothing.
use Prim.Native.Nat.{ℕ, zero, suc}
use mathlib.Core.Path.{◌≡◌, refl, sym, ap, ◌∙◌}
use mathlib.Core.Bool.{Bool, true, false, not, ◌&&◌, cond, and-true, and_comm, false≢true}
use lib.Dec.{eqb, eqb-suc-zero}
use borrow.Author.Tests.{eq-eqb, eqb-true}
use Rattle.column.specs.Sets.{single, selected}
use Rattle.column.specs.laws.SetLaws.{has_single}
use Rattle.column.specs.Trees.{parent, children}
use Rattle.column.specs.Steps.{Result, accepted, unless}
use Rattle.column.specs.declared.tree.Tree.{Tree}
use Rattle.column.specs.declared.state.Column.{Column}
use Rattle.figure.specs.Figure.{Made, SUCC}
use Rattle.figure.specs.Comparison.{variables_of, number_of, Ready, Guards, Makes}
use Rattle.figure.proofs.Refusals.{valid}

pub cond_not : {A : Type 0} (b : Bool) (x y : A) → cond b x y ≡ cond (not b) y x
cond_not true x y = refl
cond_not false x y = refl

-- "neither sends nor awaits", whichever is asked first
pub cond_rests : {A : Type 0} (sent none : Bool) (x y : A) → cond (not (sent && none)) x y ≡ cond (none && sent) y x
cond_rests sent none x y = sym (cond_not (sent && none) y x) ∙ ap (λ (b : Bool). cond b y x) (and_comm sent none)

-- the processors whose father is c are c's children
pub successors : (t : Tree) (c : ℕ) → SUCC t (single c) ≡ children t c
successors t c = ap (λ (f : ℕ → Bool). selected f t.columns) (λ k q. has_single c (parent t q) k && not (eqb q t.root))

-- the goal is the whole bank exactly where r = b: "the root's goal is always the whole bank"
pub goal_is : (t : Tree) (i : ℕ) (c : Column) → Ready t i c → eqb (variables_of t i c).r t.root ≡ c.whole
goal_is t i c ready = go c.whole (valid t i c ready.good).root_whole
  where
    go : (w : Bool) → (eqb i t.root && not w) ≡ false → eqb (cond w t.root i) t.root ≡ w
    go true e = eq-eqb t.root t.root refl
    go false e = sym (and-true (eqb i t.root)) ∙ e

-- the goal own subtree, or the whole bank at the root: r = i
pub own_goal : (t : Tree) (i : ℕ) → cond (eqb i t.root) t.root i ≡ i
own_goal t i = go (eqb i t.root) refl
  where
    go : (b : Bool) → eqb i t.root ≡ b → cond b t.root i ≡ i
    go true e = sym (eqb-true i t.root e)
    go false e = refl

-- a step that is accepted, by the column after it
pub makes_of : {t : Tree} {i : ℕ} {after : Column} {made : Made} → variables_of t i after ≡ made.variables → after.running ≡ true
    → Makes t i after.noted (accepted after made.sent false) made
makes_of same runs = record { after = _; is = refl; variables = same; keeps_noted = refl; keeps_running = runs }

module _ {t : Tree} {i noted : ℕ} where
  -- a step and a command that go by the same test
  pub makes_either : (b : Bool) {x y : Result} {m n : Made}
      → (b ≡ true → Makes t i noted x m) → (b ≡ false → Makes t i noted y n) → Makes t i noted (cond b x y) (cond b m n)
  makes_either true f g = f refl
  makes_either false f g = g refl

  -- a step that nothing refuses makes what its effect makes
  pub makes_goes : {n : ℕ} (c : Column) {effect : Result} {made : Made} → n ≡ 0 → Makes t i noted effect made
      → Makes t i noted (unless n c effect) made
  makes_goes c e m = rw e m

-- the number of a step is that of its refusal, where its effect is none
number_of_lem : (n : ℕ) (c : Column) (effect : Result) → number_of effect ≡ 0 → number_of (unless n c effect) ≡ n
number_of_lem zero c effect e = e
number_of_lem (suc n) c effect e = rw (eqb-suc-zero n)

-- a guard by which the step's refusal goes
pub guards_by : (guard : Bool) {n other number : ℕ} (c : Column) (effect : Result)
    → number ≡ cond guard other n → (other ≡ n → ⊥) → number_of effect ≡ 0 → Guards guard n (unless number c effect)
guards_by true c effect e ne z = (λ g q. ne (sym (number_of_lem _ c effect z ∙ e) ∙ q), λ f. refl)
guards_by false c effect e ne z = (λ g q. false≢true g, λ f. absurd (f (number_of_lem _ c effect z ∙ e)))
