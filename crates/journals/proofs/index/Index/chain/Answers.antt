use Rattle.std.proofs.Common.{refl, sym, ap, ◌∙◌, true≢false, length, arith}
use Rattle.std.proofs.lemmas.List.{length-map}
use Rattle.journals.specs.inner.Chains.{among, distinct}
use Rattle.journals.specs.inner.KeyedLines.{keys_in}
use Rattle.journals.specs.laws.ChainLaws.{key_at, distinct_more, distinct_twice}
use Rattle.journals.proofs.index.Index.chain.Goals as goal

pub loop-n-init : goal.loop-n-init
unfolding distinct
loop-n-init c = (refl, c.requires.1)

pub returns-then-has : goal.returns-then-has
returns-then-has c =
    let lines = c.args.lines.now in
    let n = c.loop-n.n in
    record {
      answer = sym (distinct_twice (keys_in lines) n (length (keys_in lines)) (omega (arith, length-map lines (λ x. x.key))) (ap (among (keys_in lines) n) (key_at lines n _ (omega arith)) ∙ sym c.has.ensures ∙ c.if-has.true));
      indexed = λ e. absurd (true≢false (sym e));
    }

pub loop-n-preserved : goal.loop-n-preserved
loop-n-preserved c =
    let lines = c.args.lines.now in
    let n = c.loop-n.n in
    (distinct_more (keys_in lines) n (ap (among (keys_in lines) n) (key_at lines n _ (omega arith)) ∙ sym c.has.ensures ∙ c.if-has.false) c.loop-n.invariant.0, c.add.ensures)
