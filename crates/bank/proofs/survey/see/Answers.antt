use borrow.Author.Rules.{rules}
use Prim.Native.Nat.{ℕ, ◌*◌, ◌/◌, ◌%◌, ◌<◌, ◌^◌}
use mathlib.Core.Bool.{Bool, true, false, ◌||◌, cond}
use mathlib.Core.Path.{◌≡◌, refl, ap, ◌∙◌}
use mir.Val.{bool_byte}
use native.Mathlib.Nat.{mod-eq_of_lt}
use native.Mathlib.Omega.{arith}
use lib.Bits.{or_zero_r}
use lib.Pow.{pow-lt}
use Rattle.column.specs.Sets.{has, join, insert, within}
use Rattle.column.specs.laws.SetLaws.{has_join}
use Rattle.bank.specs.inner.Surveys.{members_in}
use Rattle.bank.specs.laws.SetsWordLaws.{Narrow, sets_joined, owed_digit}
use Rattle.bank.proofs.survey.see.Goals as goal
use Rattle.bank.proofs.survey.see.Goals.{Start}

narrow : (c : Start) → Narrow c.args.c
narrow c = record { send_lt = search rules; awaited_lt = search rules; owed_lt = search rules; noted_lt = search rules }

-- a digit is set where the column runs
taken : (m i : ℕ) → i < 16 → (b : Bool) → join m (bool_byte b * 2 ^ i % 2 ^ 16) ≡ cond b (insert m i) m
taken m i h true = let one : 1 * 2 ^ i ≡ 2 ^ i = omega arith in rw (one, mod-eq_of_lt (pow-lt h))
taken m i h false = let none : 0 * 2 ^ i % 2 ^ 16 ≡ 0 = omega arith in rw none (or_zero_r m)

pub returns : goal.returns
returns c =
    let a = c.args in
    let i = a.i in
    let one : (b : Bool) → join a.v.running (bool_byte b * 2 ^ i % 2 ^ 16) ≡ cond b (insert a.v.running i) a.v.running = taken a.v.running i c.requires in
    record {
      members_so =
          ap (λ (z : ℕ). within (members_in (join a.v.sets z)) a.columns) c.sets_of-sets.ensures
          ∙ sets_joined a.v.sets a.c a.columns (narrow (goal.at.returns c).Start);
      own_so =
          has_join a.v.own (c.sets_of-sets.result / 2 ^ a.i) 32
          ∙ ap (λ (z : Bool). has a.v.own 32 || z)
          (ap (λ (z : ℕ). has (z / 2 ^ a.i) 32) c.sets_of-sets.ensures ∙ owed_digit a.c a.i (narrow (goal.at.returns c).Start) c.requires);
      sent_so = refl;
      running_so = one a.c.running;
    }
