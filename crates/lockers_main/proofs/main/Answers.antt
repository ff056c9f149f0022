use Rattle.std.proofs.Common.{rules, ℕ, replicate, take, sym, ap, ◌∙◌}
use Rattle.std.proofs.Math.Numerals.{add-one}
use Rattle.bank.specs.Banks.{capacity}
use Rattle.script.specs.Advances.{progress_of, buffer_size, fill, filled_by, start as beginning}
use Rattle.script.specs.laws.Printing.{calls_next}
use Rattle.script.specs.declared.script.Run.{Run}
use Rattle.lockers_main.proofs.main.Goals as goal

pub loop-k-init : goal.loop-k-init
unfolding filled_by
loop-k-init c = (
  search rules,
  ap (λ (r : Run). progress_of r (replicate capacity 0) (replicate capacity 0) (replicate buffer_size 0)) c.start-run.ensures,
)

pub loop-k-preserved : goal.loop-k-preserved
loop-k-preserved c =
    let before = c.loop-k.invariant in
    let input = take c.read_full-n.result.0 c.read_full-n.new.bytes in (
      before.0,
      c.fill-run.ensures.progress_is
          ∙ ap (fill input) before.1
          ∙ sym (ap (λ (k : ℕ). filled_by k input beginning) (add-one c.loop-k.k) ∙ calls_next input c.loop-k.k beginning),
    )
