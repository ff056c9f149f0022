-- Each premise of the statements holds of something: trees and schedules that meet it, and what the statements say of them.
use Rattle.std.specs.Prelude.{ℕ, zero, suc, ◌+◌, ◌-◌, ◌*◌, ◌≤◌, ◌<◌, ◌≡◌, refl, ◌⊎◌, ◌∷◌, replicate}
use Rattle.std.proofs.Common.{ap, inl, inr, arith}
use Rattle.column.specs.laws.Cases.{compare_cases, equal_cases}
use Rattle.column.specs.Trees.{every, climbs_in, tree_of, IsTree, tree_refusal, parent}
use Rattle.column.specs.laws.TreeLaws.{check_exact}
use Rattle.column.specs.declared.tree.Tree.{Tree}
use Rattle.fastest.specs.Schedules.{arrival, Keeps, CompleteBy}
use Rattle.fastest.specs.Strategy.{fastest_tree, fastest_sent}
use Rattle.fastest.specs.Formula.{sum, received}
use Rattle.fastest.specs.Fastest.{completion, arrivals, Possible}
use Rattle.fastest.specs.laws.Timing.{heard_other}
use Rattle.fastest.specs.laws.StrategyLaws.{zeros}
use Rattle.fastest.specs.laws.FastestLaws.{is_scheduled, none_earlier, none_earlier_in_parts}
use Rattle.fastest.specs.laws.FormulaLaws.{received_formula}
use Rattle.fastest.specs.laws.ArrivalLaws.{before_the_last, at_the_last}

-- document 02's example: five columns, delay 2, gap 1
pub five : Possible 5 2 1
five = record { some = omega arith; few = omega arith; delays = omega arith; gaps = omega arith }

-- ---- another tree, with a schedule that keeps to them: the root sends to all, one after the other

abbrev pub bush : Tree
bush = tree_of 5 0 (replicate 16 0)

abbrev pub in_turn : ℕ → ℕ
in_turn c = c - 1

pub bush_tree : IsTree bush
unfolding tree_refusal every climbs_in
bush_tree = (check_exact bush).0 refl

pub bush_keeps : Keeps 2 1 bush in_turn
bush_keeps =
    record {
      held = λ c l ne. omega (arith, ap (arrival 2 bush in_turn) (zeros 16 c));
      apart = λ b c l m x y ne e. go b c x y ne (compare_cases b c);
    }
  where
    go : (b c : ℕ) → (b ≡ 0 → ⊥) → (c ≡ 0 → ⊥) → (b ≡ c → ⊥) → (b < c) ⊎ ((b ≡ c) ⊎ (c < b))
        → (in_turn b + 1 ≤ in_turn c) ⊎ (in_turn c + 1 ≤ in_turn b)
    go b c x y ne (inl h) = inl (omega arith)
    go b c x y ne (inr (inl h)) = absurd (ne h)
    go b c x y ne (inr (inr h)) = inr (omega arith)

pub bush_complete : CompleteBy 2 bush in_turn 5
bush_complete c l = go (equal_cases c 0)
  where
    go : (c ≡ 0) ⊎ (c ≡ 0 → ⊥) → arrival 2 bush in_turn c ≤ 5
    go (inl z) = omega (arith, ap (arrival 2 bush in_turn) z)
    go (inr nz) = omega (arith, heard_other 0 2 in_turn c nz)

pub none_earlier_said : completion 5 2 1 ≤ 5
none_earlier_said = none_earlier 5 2 1 five bush in_turn 5 bush_tree refl bush_keeps bush_complete

-- ---- a third, whose root is column 2: it serves the higher of its children first, and everybody waits longer than need be before a send

-- columns=4, root=2, up=2,0,2,2
abbrev pub slanted : Tree
slanted = tree_of 4 2 (2 ∷ 0 ∷ 2 ∷ 2 ∷ replicate 12 0)

-- column 3 is sent to at 1, column 0 at 4; it has the message at 6 and sends to column 1 at 9
abbrev pub late : ℕ → ℕ
late zero = 4
late (suc zero) = 9
late (suc (suc zero)) = 0
late (suc (suc (suc c))) = 1

pub slanted_tree : IsTree slanted
unfolding tree_refusal every climbs_in
slanted_tree = (check_exact slanted).0 refl

pub slanted_keeps : Keeps 2 1 slanted late
slanted_keeps = record { held = held; apart = λ b c l m x y ne e. apart b c l m x y ne e }
  where
    held : (c : ℕ) → c < 4 → (c ≡ 2 → ⊥) → arrival 2 slanted late (parent slanted c) ≤ late c
    held zero l ne = omega arith
    held (suc zero) l ne = omega arith
    held (suc (suc zero)) l ne = absurd (ne refl)
    held (suc (suc (suc zero))) l ne = omega arith
    held (suc (suc (suc (suc c)))) l ne = absurd (omega (arith, l))

    apart : (b c : ℕ) → b < 4 → c < 4 → (b ≡ 2 → ⊥) → (c ≡ 2 → ⊥) → (b ≡ c → ⊥) → parent slanted b ≡ parent slanted c
        → (late b + 1 ≤ late c) ⊎ (late c + 1 ≤ late b)
    apart zero zero l m x y ne e = absurd (ne refl)
    apart zero (suc zero) l m x y ne e = absurd (omega (arith, e))
    apart zero (suc (suc zero)) l m x y ne e = absurd (y refl)
    apart zero (suc (suc (suc c))) l m x y ne e = inr (omega arith)
    apart (suc zero) zero l m x y ne e = absurd (omega (arith, e))
    apart (suc zero) (suc zero) l m x y ne e = absurd (ne refl)
    apart (suc zero) (suc (suc zero)) l m x y ne e = absurd (y refl)
    apart (suc zero) (suc (suc (suc c))) l m x y ne e = inr (omega arith)
    apart (suc (suc zero)) c l m x y ne e = absurd (x refl)
    apart (suc (suc (suc b))) zero l m x y ne e = inl (omega arith)
    apart (suc (suc (suc b))) (suc zero) l m x y ne e = inl (omega arith)
    apart (suc (suc (suc b))) (suc (suc zero)) l m x y ne e = absurd (y refl)
    apart (suc (suc (suc b))) (suc (suc (suc c))) l m x y ne e = absurd (ne (omega (arith, l, m)))

pub slanted_complete : CompleteBy 2 slanted late 11
slanted_complete zero l = omega arith
slanted_complete (suc zero) l = omega arith
slanted_complete (suc (suc zero)) l = omega arith
slanted_complete (suc (suc (suc c))) l = within c l
  where
    within : (c : ℕ) → suc (suc (suc c)) < 4 → arrival 2 slanted late (suc (suc (suc c))) ≤ 11
    within zero l = omega arith
    within (suc c) l = absurd (omega (arith, l))

pub slanted_said : completion 4 2 1 ≤ 11
slanted_said =
    none_earlier 4 2 1 (record { some = omega arith; few = omega arith; delays = omega arith; gaps = omega arith }) slanted late 11 slanted_tree refl
    slanted_keeps slanted_complete

-- ---- in halves of a unit: the strategy's tree for twice the delay and twice the gap

pub in_parts_said : completion 5 2 1 * 2 ≤ completion 5 4 2
in_parts_said =
    let s = is_scheduled 5 4 2 (record { some = omega arith; few = omega arith; delays = omega arith; gaps = omega arith }) in
    none_earlier_in_parts 5 2 1 five 2 (omega arith) (fastest_tree 5 4 2) (fastest_sent 4 2) (completion 5 4 2) s.is_tree refl s.keeps
    s.completes

-- ---- what (4.1) asks of R, `received` does

pub before_the_last_said : (time : ℕ) → time < completion 5 2 1 → arrivals 5 2 1 time ≡ received 2 1 time
before_the_last_said = before_the_last 5 2 1 five (received 2 1) (received_formula 2 1 (omega arith))

pub at_the_last_said : let last = completion 5 2 1 in
    (sum (received 2 1) last + arrivals 5 2 1 last ≡ 5) × (arrivals 5 2 1 last ≤ received 2 1 last)
at_the_last_said = at_the_last 5 2 1 five (received 2 1) (received_formula 2 1 (omega arith))
