-- No count is above the sets before this one, of which there are fewer than 256.
use Rattle.std.proofs.Common.{ℕ, ◌≤◌, ◌<◌, Bool, arith, pow_mono, subst, sym}
use Rattle.std.proofs.lemmas.Nat.{one_shl}
use Rattle.column.specs.declared.tree.Tree.{Tree}
use Rattle.losses.specs.Losses.{counted}
use Rattle.losses.specs.laws.LossesLaws.{counted_most, ended_tree}
use Rattle.losses.specs.declared.count.Losses.{Losses}
use Rattle.losses.proofs.count.count.Goals as goal

pub with_ended-l-requires : goal.with_ended-l-requires
with_ended-l-requires c =
    let l = c.loop-set in
    let n = c.args.b.tree.columns in
    let below : l.set < 256 = omega (arith, one_shl n 32 (omega (arith, c.requires)), pow_mono c.requires, c.loop-set-test.true) in
    let most : (f : ℕ → Bool) → counted f l.set < 256 = λ f. omega (arith, below, counted_most f l.set) in (
      rw c.ended.ensures (subst (λ (t : Tree). t.columns ≤ 16) (sym (ended_tree _ l.set)) (omega (arith, c.requires))),
      subst (λ (x : Losses). (x.kept < 256) × ((x.lost < 256) × (x.none < 256))) (sym l.invariant) (most _, (most _, most _)),
    )
