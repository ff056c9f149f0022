-- What no refusal says of a column and of a step's conditions.
-- Assumes nothing.
use Prim.Native.Nat.{ℕ, ◌^◌, ◌<◌}
use mathlib.Core.Path.{◌≡◌, ap}
use mathlib.Core.Bool.{true, false, not, ◌&&◌}
use native.Mathlib.Nat.{lt_of_lt_of_le}
use lib.Dec.{eqb, leb}
use lib.Pow.{pow_mono}
use borrow.Author.Tests.{not-false}
use Rattle.column.specs.laws.RefusalLaws.{passed, earlier_none}
use Rattle.column.specs.Sets.{has, within}
use Rattle.column.specs.laws.SetLaws.{within_lt}
use Rattle.column.specs.Trees.{tree_refusal}
use Rattle.column.specs.laws.TreeLaws.{tree_sixteen}
use Rattle.column.specs.Columns.{validity_refusal, state_conditions, state_refusal}
use Rattle.column.specs.Steps.{Result, unless}
use Rattle.column.specs.declared.tree.Tree.{Tree}
use Rattle.column.specs.declared.state.Column.{Column}

-- a step that nothing refuses has its effect
pub goes : {n : ℕ} (c : Column) (effect : Result) → n ≡ 0 → unless n c effect ≡ effect
goes c effect e = ap (λ (n : ℕ). unless n c effect) e

-- what rows 2 to 4 ask of a column
pub record Valid (t : Tree) (i : ℕ) (c : Column) : Type 0 where
  pub tree : tree_refusal t ≡ 0
  pub below : leb t.columns i ≡ false
  pub send : within c.send t.columns ≡ true
  pub awaited : within c.awaited t.columns ≡ true
  pub owed : within c.owed t.columns ≡ true
  pub noted : within c.noted t.columns ≡ true
  pub not_itself : has c.owed i ≡ false
  pub root_whole : (eqb i t.root && not c.whole) ≡ false
  pub sender : leb t.columns c.sender ≡ false

module _ (t : Tree) (i : ℕ) (c : Column) where
  pub valid : validity_refusal t i c ≡ 0 → Valid t i c
  unfolding state_refusal
  valid e =
      let q = earlier_none (tree_refusal t) (state_refusal t i c) e in
      let p = passed (state_conditions t i c) tt q.1 in
      record {
        tree = q.0;
        below = p.0;
        send = not-false _ p.1.0;
        awaited = not-false _ p.1.1.0;
        owed = not-false _ p.1.1.1.0;
        noted = not-false _ p.1.1.1.1.0;
        not_itself = p.1.1.1.1.1.0;
        root_whole = p.1.1.1.1.1.1.0;
        sender = p.1.1.1.1.1.1.1.0;
      }

  pub validity_refusal_of : Valid t i c → validity_refusal t i c ≡ 0
  unfolding state_refusal
  validity_refusal_of s = simp (s.tree, s.below, s.send, s.awaited, s.owed, s.noted, s.not_itself, s.root_whole, s.sender)

-- "A bank has 1 to 16 columns", so that sixteen digits hold each of its sets
pub set_lt : (t : Tree) (m : ℕ) → tree_refusal t ≡ 0 → within m t.columns ≡ true → m < 2 ^ 16
set_lt t m e w = lt_of_lt_of_le (within_lt m t.columns w) (pow_mono (tree_sixteen t e))
